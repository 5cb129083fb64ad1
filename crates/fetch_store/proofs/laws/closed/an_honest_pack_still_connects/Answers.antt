use Rattle.fetch_store.proofs.Whole.{connects_none}
use Rattle.fetch_store.proofs.Honesty.{still_whole, wants_stored}
use Rattle.fetch_store.proofs.laws.closed.an_honest_pack_still_connects.Goals as goal

pub returns-clause-connected : goal.returns-clause-connected
returns-clause-connected c hash r now pack of fit closed shut grown none honest =
    connects_none now r.wants pack (wants_stored r now pack grown honest) (still_whole r now pack grown hash of fit closed shut none honest)

pub returns-clause-wants : goal.returns-clause-wants
returns-clause-wants c r now pack grown honest = wants_stored r now pack grown honest
