use Rattle.fetch_replies.specs.Awaited.{step_of, start_of}
use Rattle.fetch_replies.proofs.ReadBack.{told_were}
use Rattle.fetch_wire.proofs.laws.replies_that_are_read_are_lines.Goals as goal

pub returns : goal.returns
returns c = λ bound awaited bytes rest told. told_were step_of bound 0 (start_of awaited) bytes rest told
