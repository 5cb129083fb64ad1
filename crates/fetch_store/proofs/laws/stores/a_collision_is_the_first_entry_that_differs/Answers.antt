use Rattle.fetch_store.proofs.Collided.{at_one, none_differs, first_differs, differs_first}
use Rattle.fetch_store.proofs.laws.stores.a_collision_is_the_first_entry_that_differs.Goals as goal

pub returns-clause-none : goal.returns-clause-none
returns-clause-none c m es = (at_one m es, none_differs m es)

pub returns-clause-some : goal.returns-clause-some
returns-clause-some c m es id = (first_differs m es id, differs_first m es id)
