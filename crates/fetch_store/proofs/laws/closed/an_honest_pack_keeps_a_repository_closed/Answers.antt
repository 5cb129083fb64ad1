use Rattle.fetch_store.proofs.Growth.{grows_self}
use Rattle.fetch_store.proofs.Whole.{whole_closed, connects_none}
use Rattle.fetch_store.proofs.Honesty.{honest_at_once, wants_stored}
use Rattle.fetch_store.proofs.laws.closed.an_honest_pack_keeps_a_repository_closed.Goals as goal

pub returns-clause-closed : goal.returns-clause-closed
returns-clause-closed c r pack closed none honest = whole_closed r.held pack closed (honest_at_once r pack closed none honest)

pub returns-clause-wants : goal.returns-clause-wants
returns-clause-wants c r pack honest = wants_stored r r.held pack (grows_self r.held.objects) honest

pub returns-clause-connected : goal.returns-clause-connected
returns-clause-connected c r pack closed none honest =
    connects_none r.held r.wants pack (wants_stored r r.held pack (grows_self r.held.objects) honest) (honest_at_once r pack closed none honest)
