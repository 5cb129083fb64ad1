use Rattle.fetch_replies.specs.Awaited.{step_of, start_of}
use Rattle.fetch_replies.specs.StepLaws.{read_by-more}
use Rattle.fetch_wire.proofs.laws.replies_stay.Goals as goal

pub returns : goal.returns
returns c = λ bound awaited bytes more. read_by-more step_of bound 0 (start_of awaited) bytes more
