use Rattle.fetch_replies.specs.Awaited.{step_of, start_of}
use Rattle.fetch_replies.specs.LinesTold.{lines_tell}
use Rattle.fetch_wire.proofs.laws.replies_are_read_in_either_case.Goals as goal

pub returns : goal.returns
returns c = λ bound awaited lines told rest bytes. lines_tell step_of bound 0 (start_of awaited) lines rest bytes told
