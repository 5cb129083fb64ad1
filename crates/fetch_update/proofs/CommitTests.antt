-- Whether a commit stands at an id.
use Rattle.std.proofs.Common.{◌≡◌, Bool, true, false, Option, Some, None, refl}
use Rattle.std.specs.Prelude.{is_some, if◌then◌else◌}
use Rattle.std.specs.FinMap.{get}
use Rattle.std.specs.Option.{option_and_then, option_map_or}
use Rattle.fetch_base.specs.declared.id.ObjectId.{ObjectId}
use Rattle.fetch_base.specs.declared.object_kind.ObjectKind.TheVariants.{Commit}
use Rattle.fetch_store.specs.Graph.{Graph, Node, is_commit_at}
use Rattle.fetch_base.specs.Kinds.{is_kind}
use Rattle.fetch_update.specs.Policy.{is_commit}

by_node : (o : Option Node) → option_map_or (λ (n : Node). is_kind n.kind Commit) o false ≡ is_some (option_and_then (λ (n : Node). if is_kind n.kind Commit then Some n else None) o)
by_node None = refl
by_node (Some n) = chosen (is_kind n.kind Commit)
  where
    chosen : (b : Bool) → b ≡ is_some (if b then Some n else None)
    chosen true = refl
    chosen false = refl

pub commit_test : (g : Graph) (id : ObjectId) → is_commit_at g id ≡ is_commit g id
commit_test g id = by_node (get g id)
