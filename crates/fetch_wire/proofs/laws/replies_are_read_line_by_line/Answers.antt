use Rattle.fetch_replies.specs.Awaited.{step_of}
use Rattle.fetch_replies.specs.StepLaws.{read_by-step}
use Rattle.fetch_wire.proofs.laws.replies_are_read_line_by_line.Goals as goal

pub returns : goal.returns
returns c = λ bound reading place bytes. read_by-step step_of bound place reading bytes
