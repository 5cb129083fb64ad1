-- What one reading tells.
use Rattle.std.proofs.Common.{◌≡◌, ℕ, Bool, true, false, cond, List, [], Option, Some, None, refl, sym, ap, subst, ◌∙◌}
use Rattle.std.specs.Prelude.{is_some, option_map, unwrap_or}
use Rattle.std.specs.BTreeMap as tree
use Rattle.std.specs.FinMap as map
use Rattle.std.specs.Option.{option_and_then, option_map_or}
use Rattle.std.specs.Ordering.{eq_by_cmp}
use Rattle.std.specs.Cmp.{Equal-is}
use Rattle.fetch_base.specs.declared.id.ObjectId.{ObjectId}
use Rattle.fetch_base.specs.declared.object_kind.ObjectKind.{ObjectKind}
use Rattle.fetch_base.specs.declared.object_kind.ObjectKind.TheVariants as objects
use Rattle.fetch_store.specs.Graph.{Graph, Node, is_commit_at}
use Rattle.fetch_base.specs.Kinds.{is_kind}
use Rattle.fetch_base.specs.Id.{id_cmp}
use Rattle.std.specs.declared.cmp.Ordering.{Ordering}
use Rattle.fetch_base.specs.contracts.id.ObjectIdOrd.TheImpl as order
use Rattle.fetch_base.proofs.Ids.{id_cmp_exact}
use Rattle.fetch_base.proofs.Orders.{cmp_is}
use Rattle.fetch_negotiate.specs.declared.commits.Commit.{Commit}
use Rattle.fetch_negotiate.specs.Commits.{commit_of, commit_in, parents_in}
use Rattle.fetch_negotiate.specs.Reading.{Table, IsTold, Grows, read_in}

by_node : (o : Option Node) → option_map_or (λ (n : Node). is_kind n.kind objects.Commit) o false ≡ is_some (option_and_then commit_in o)
by_node None = refl
by_node (Some n) = chosen (is_kind n.kind objects.Commit) _
  where
    chosen : (b : Bool) (c : Commit) → b ≡ is_some (cond b (Some c) None)
    chosen true c = refl
    chosen false c = refl

-- whether a commit stands at an id
pub commit_test : (g : Graph) (id : ObjectId) → is_commit_at g id ≡ is_some (commit_of g id)
unfolding commit_of
commit_test g id = by_node (map.get g id)

no_commit : (o : Option Commit) → is_some o ≡ false → None ≡ o
no_commit None e = refl
no_commit (Some c) e = absurd cc

pub none_stored : (g : Graph) (id : ObjectId) → is_some (commit_of g id) ≡ false → None ≡ commit_of g id
none_stored g id absent = no_commit (commit_of g id) absent

made : (o : Option Node) → is_some (option_and_then commit_in o) ≡ true → (seconds : ℕ) (parents : List ObjectId) → parents ≡ option_map_or (λ (n : Node). n.parents) o [] → seconds ≡ unwrap_or (option_and_then (λ (n : Node). n.seconds) o) 0
    → let c : Commit = record { seconds = seconds; parents = parents } in Some c ≡ option_and_then commit_in o
made None stored seconds parents ps s = absurd cc
made (Some n) stored seconds parents ps s = chosen (is_kind n.kind objects.Commit) stored
  where
    chosen : (b : Bool) → is_some (cond b (Some (let c : Commit = record { seconds = unwrap_or n.seconds 0; parents = n.parents } in c)) None) ≡ true
        → let c : Commit = record { seconds = seconds; parents = parents } in Some c ≡ cond b (Some (let d : Commit = record { seconds = unwrap_or n.seconds 0; parents = n.parents } in d)) None
    chosen true h = λ i. Some (let c : Commit = record { seconds = s i; parents = ps i } in c)
    chosen false h = absurd cc

-- the commit that a reading makes
pub read_commit : (g : Graph) (id : ObjectId) → is_some (commit_of g id) ≡ true → (seconds : ℕ) (parents : List ObjectId) → parents ≡ parents_in g id → seconds ≡ unwrap_or (option_and_then (λ (n : Node). n.seconds) (map.get g id)) 0
    → let c : Commit = record { seconds = seconds; parents = parents } in Some c ≡ commit_of g id
unfolding commit_of
read_commit g id stored seconds parents ps s = made (map.get g id) stored seconds parents ps s

-- ---- a table that gains an id
pub record Gains (t u : Table) (id : ObjectId) (found : Option Commit) : Type 0 where
  pub at : read_in u id ≡ Some found
  pub elsewhere : (q : ObjectId) → read_in u q ≡ cond (eq_by_cmp id_cmp id q) (Some found) (read_in t q)

abbrev GainsBy : (ObjectId → ObjectId → Ordering) → Table → Table → ObjectId → Option Commit → Type 0
GainsBy cmp t u id found = ((q : ObjectId) → tree.get cmp u q ≡ cond (eq_by_cmp cmp id q) (Some found) (tree.get cmp t q)) × (tree.get cmp u id ≡ Some found)

-- an insertion, which speaks of the order that Rust derives
pub gains : (t u : Table) (id : ObjectId) (found : Option Commit) → tree.Updates (order.ghosts).cmp t u id (Some found) → Gains t u id found
gains t u id found updates =
    let by : GainsBy id_cmp t u id found = subst (λ cmp. GainsBy cmp t u id found) cmp_is (updates.0, updates.1) in record { at = by.1; elsewhere = by.0 }

stay : (t u : Table) (id : ObjectId) (found : Option Commit) → Gains t u id found → read_in t id ≡ None → (q : ObjectId) (other : Option Commit) → read_in t q ≡ Some other → (b : Bool) → eq_by_cmp id_cmp id q ≡ b → read_in u q ≡ Some other
stay t u id found gains absent q other was false apart = gains.elsewhere q ∙ ap (λ b. cond b (Some found) (read_in t q)) apart ∙ was
stay t u id found gains absent q other was true same =
    let e : q ≡ id = sym (id_cmp_exact id q ((Equal-is (id_cmp id q)).0 same)) in
    let none : read_in t q ≡ None = ap (read_in t) e ∙ absent in absurd (cc)

pub gains_grows : (t u : Table) (id : ObjectId) (found : Option Commit) → Gains t u id found → read_in t id ≡ None → Grows (read_in t) (read_in u)
gains_grows t u id found gains absent = record { stays = λ q other was. stay t u id found gains absent q other was (eq_by_cmp id_cmp id q) refl }

told_at : (t u : Table) (id : ObjectId) (found : Option Commit) (g : Graph) → Gains t u id found → found ≡ commit_of g id → IsTold (read_in t) g → (q : ObjectId) (other : Option Commit) → read_in u q ≡ Some other → (b : Bool) → eq_by_cmp id_cmp id q ≡ b → commit_of g q ≡ other
told_at t u id found g gains is told q other now false apart =
    told.told q other (sym (gains.elsewhere q ∙ ap (λ b. cond b (Some found) (read_in t q)) apart) ∙ now)
told_at t u id found g gains is told q other now true same =
    let e : q ≡ id = sym (id_cmp_exact id q ((Equal-is (id_cmp id q)).0 same)) in
    let here : Some found ≡ Some other = sym (gains.elsewhere q ∙ ap (λ b. cond b (Some found) (read_in t q)) same) ∙ now in
    let f : found ≡ other = cc in
    ap (commit_of g) e ∙ sym is ∙ f

pub gains_told : (t u : Table) (id : ObjectId) (found : Option Commit) (g : Graph) → Gains t u id found → found ≡ commit_of g id → IsTold (read_in t) g → IsTold (read_in u) g
gains_told t u id found g gains is told = record { told = λ q other now. told_at t u id found g gains is told q other now (eq_by_cmp id_cmp id q) refl }

pub Grows-none : (t : Table) → Grows (read_in t) (read_in t)
Grows-none t = record { stays = λ id found is. is }

pub not_read : (o : Option (Option Commit)) → option_map is_some o ≡ None → o ≡ None
not_read None e = refl
not_read (Some c) e = absurd cc
