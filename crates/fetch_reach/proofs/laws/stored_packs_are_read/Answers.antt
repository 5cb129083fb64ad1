use Rattle.fetch_reach.proofs.Written.{is_pack, is_read}
use Rattle.fetch_reach.proofs.laws.stored_packs_are_read.Goals as goal

pub returns-clause-pack : goal.returns-clause-pack
returns-clause-pack c = λ v hash objects ids of_hash valid own fits. is_pack objects hash of_hash v ids valid own fits

pub returns-clause-read : goal.returns-clause-read
returns-clause-read c = λ v hash objects ids of_hash valid rise own fits. is_read objects hash of_hash v ids valid rise own fits
