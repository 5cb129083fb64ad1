use Rattle.fetch_replies.proofs.ReplyLines.{bands_hold}
use Rattle.fetch_wire.proofs.laws.bands_hold_the_pack.Goals as goal

pub returns : goal.returns
returns c = bands_hold
