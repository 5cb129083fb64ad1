use Rattle.std.proofs.Common.{◌≡◌, ◌+◌, ◌≤◌, ℕ, List, [], ◌∷◌, length}
use Rattle.fetch_refs.specs.Leading.{Leads, next_name}
use Rattle.fetch_refs.specs.Peeled.{follow}
use Rattle.fetch_refs.proofs.peel.end_of_names.Given as goal

abbrev pub invariant-names : goal.invariant-names
invariant-names l =
    (way : List (List ℕ)) × Leads (next_name l.refs.names) l.next way l.name × (length way + l.left ≡ 4) × (follow l.refs.names l.left (l.first ∷ way) l.name ≡ follow l.refs.names 4 (l.first ∷ []) l.next) × (l.left ≤ 4)

abbrev pub decreases-names : goal.decreases-names
decreases-names l = l.left
