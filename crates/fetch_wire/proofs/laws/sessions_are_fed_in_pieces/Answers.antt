use Rattle.fetch_wire.proofs.SessionPieces.{pieces}
use Rattle.std.proofs.Common.{refl}
use Rattle.fetch_wire.proofs.laws.sessions_are_fed_in_pieces.Goals as goal

pub returns : goal.returns
returns c = λ s piece others. pieces s piece others s.trouble refl
