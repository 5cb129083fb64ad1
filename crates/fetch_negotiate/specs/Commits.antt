-- Stored commits, and what was read of them.
use Rattle.std.specs.Prelude.{◌≡◌, ℕ, Bool, true, List, [], Option, Some, None, is_some, unwrap_or, if◌then◌else◌, refl}
use Rattle.std.specs.Coded.{Coded, code_by, coded_ℕ, coded_list, coded_option, coded×}
use Rattle.std.specs.FinMap as map
use Rattle.std.specs.List.{list_any}
use Rattle.std.specs.Option.{option_and_then, option_map_or}
use Rattle.std.specs.Ordering.{eq_by_cmp}
use Rattle.fetch_base.specs.declared.id.ObjectId.{ObjectId}
use Rattle.fetch_base.specs.declared.object_kind.ObjectKind.TheVariants as objects
use Rattle.fetch_objects.specs.Codes.{coded_id}
use Rattle.fetch_store.specs.Graph.{Graph, Node}
use Rattle.fetch_base.specs.Kinds.{is_kind}
use Rattle.fetch_base.specs.Id.{id_cmp}
use Rattle.fetch_negotiate.specs.declared.commits.Commit.{Commit}

-- a commit, coded
abbrev pub coded_commit : Coded Commit
coded_commit = code_by (ℕ × List ObjectId) (coded× coded_ℕ (coded_list coded_id)) (λ c. (c.seconds, c.parents))
    (λ p. record { seconds = p.0; parents = p.1 }) (λ _. refl)

-- whether the list has the id
abbrev pub has : List ObjectId → ObjectId → Bool
has ids id = list_any (eq_by_cmp id_cmp id) ids

-- the commit that a node is, if it is one
abbrev pub commit_in : Node → Option Commit
commit_in n = if is_kind n.kind objects.Commit then Some (record { seconds = unwrap_or n.seconds 0; parents = n.parents }) else None

-- the stored commit of an id, if there is one
unfoldable pub commit_of : Graph → ObjectId → Option Commit
commit_of g id = option_and_then commit_in (map.get g id)

-- a stored commit
abbrev pub IsStoredCommit : Graph → ObjectId → Type 0
IsStoredCommit g id = is_some (commit_of g id) ≡ true

-- the ids that were read, each with the commit that was found
abbrev pub Known : Type 0
Known = map.FinMap id_cmp (Option Commit)

-- what is known of objects, coded
abbrev pub coded_known : Coded Known
coded_known = map.code {R = id_cmp} coded_id (coded_option coded_commit)

-- the parents of an id's node
abbrev pub parents_in : Graph → ObjectId → List ObjectId
parents_in g id = option_map_or (λ (n : Node). n.parents) (map.get g id) []
