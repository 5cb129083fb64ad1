use Rattle.std.proofs.Common.{[]}
use Rattle.fetch_replies.specs.Awaited.{step_of, start_of, told_at}
use Rattle.fetch_replies.specs.StepLaws.{read_by-more, in_pieces-is}
use Rattle.fetch_wire.proofs.laws.replies_are_read_in_pieces.Goals as goal

pub returns : goal.returns
returns c = λ bound awaited pieces. in_pieces-is (told_at bound awaited) (λ bytes more. read_by-more step_of bound 0 (start_of awaited) bytes more) pieces []
