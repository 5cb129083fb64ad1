use Rattle.std.proofs.Common.{◌≡◌, ℕ, List, length}
use Rattle.std.specs.Str.{bytes_eq}
use Rattle.fetch_refs.specs.Leading.{Leads, next_name}
use Rattle.fetch_refs.proofs.Walks.{IsRest}
use Rattle.fetch_refs.proofs.peel.leads_to.Given as goal

abbrev pub invariant-names : goal.invariant-names
invariant-names l =
    let next = next_name l.refs.names in
    (way : List (List ℕ)) (end : List ℕ) → Leads next l.first way end → length way ≡ l.count → IsRest bytes_eq next way end l.at l.left l.name

abbrev pub decreases-names : goal.decreases-names
decreases-names l = l.left
