-- A way of tags, step by step.
use Rattle.std.proofs.Common.{◌≡◌, Bool, true, false, List, [], Option, Some, None, Ok, Err, refl, ap, ◌∙◌}
use Rattle.std.specs.Prelude.{is_some}
use Rattle.std.specs.FinMap as finmap
use Rattle.std.specs.Option.{option_map, option_and_then}
use Rattle.fetch_store.specs.Graph.{Graph, Node}
use Rattle.fetch_base.specs.declared.id.ObjectId.{ObjectId}
use Rattle.fetch_refs.specs.declared.error.RefError.TheVariants as errors
use Rattle.fetch_refs.specs.Leading.{Leads, next_tag}
use Rattle.fetch_refs.specs.Peeled.{stopped, through}
use Rattle.fetch_refs.proofs.TagWays.{eq, self, exact, ended_at}

-- what the calls of `Objects` say of an id, by cases
pub not_stored : {K : Type 0} (id : ObjectId) (kind : Node → K) (o : Option Node) → is_some (option_map kind o) ≡ false → stopped id o ≡ Err (errors.MissingObject id)
not_stored id kind None is = refl
not_stored id kind (Some n) is = absurd cc

pub is_stored : {K : Type 0} (id : ObjectId) (kind : Node → K) (o : Option Node) → is_some (option_map kind o) ≡ true → stopped id o ≡ Ok id
is_stored id kind None is = absurd cc
is_stored id kind (Some n) is = refl

no_target : {K : Type 0} (kind : Node → K) (o : Option Node) → is_some (option_map kind o) ≡ false → option_and_then (λ (n : Node). n.target) o ≡ None
no_target kind None is = refl
no_target kind (Some n) is = absurd cc

-- a way that comes to what isn't stored
pub ends_missing : {K : Type 0} (graph : Graph) (first : ObjectId) (way : List ObjectId) (id : ObjectId) (kind : Node → K) → Leads (next_tag graph) first way id → is_some (option_map kind (finmap.get graph id)) ≡ false
    → through graph (finmap.len graph) [] first ≡ Err (errors.MissingObject id)
ends_missing graph first way id kind leads is =
    ended_at graph first way id leads (no_target kind (finmap.get graph id) is) ∙ not_stored id kind (finmap.get graph id) is

-- ids that differ don't tie
pub differs : (a b : ObjectId) → (a ≡ b → ⊥) → eq a b ≡ false
differs a b other = by_test (eq a b) refl
  where
    by_test : (t : Bool) → eq a b ≡ t → eq a b ≡ false
    by_test true is = absurd (other (exact a b is))
    by_test false is = is

pub ties : (a b : ObjectId) → a ≡ b → eq a b ≡ true
ties a b is = ap (λ (x : ObjectId). eq x b) is ∙ self b
