use Rattle.std.proofs.Common.{◌≡◌, true}
use Rattle.std.specs.Prelude.{is_some}
use Rattle.std.specs.FinMap.{get}
use Rattle.std.proofs.lemmas.List.Elements.{recursion_from_All}
use Rattle.fetch_store.proofs.Pigeons.{no_more, are_distinct}
use Rattle.fetch_store.proofs.laws.counts.distinct_stored_ids_are_no_more_than_objects.Goals as goal

pub returns-clause-store : goal.returns-clause-store
returns-clause-store c objects ids apart stored =
    no_more ids objects (are_distinct ids apart) (recursion_from_All (λ id. is_some (get objects id) ≡ true) ids stored)

pub returns-clause-graph : goal.returns-clause-graph
returns-clause-graph c graph ids apart stored =
    no_more ids graph (are_distinct ids apart) (recursion_from_All (λ id. is_some (get graph id) ≡ true) ids stored)
