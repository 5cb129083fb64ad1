use Rattle.fetch_store.proofs.Additions.{get-add_all}
use Rattle.fetch_store.proofs.Growth.{added_cases}
use Rattle.fetch_store.proofs.laws.stores.what_stands_comes_from_the_store_or_the_list.Goals as goal

pub returns-clause-stands : goal.returns-clause-stands
returns-clause-stands c m es id = get-add_all m es id

pub returns-clause-comes_from : goal.returns-clause-comes_from
returns-clause-comes_from c m es id o is = added_cases m es id o is
