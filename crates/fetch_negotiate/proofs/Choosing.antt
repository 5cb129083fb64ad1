-- What is common and what comes next, as the definitions say.
use Rattle.std.proofs.Common.{◌≡◌, Bool, true, false, cond, List, [], ◌∷◌, Option, Some, None, true≢false, refl, sym, ap, subst, ◌∙◌}
use Rattle.std.specs.Prelude.{is_some, ◌||◌, ◌&&◌}
use Rattle.std.specs.FinMap as finmap
use Rattle.std.specs.FinSet as set
use Rattle.std.specs.List.{list_any}
use Rattle.std.specs.Option.{option_and_then, option_map_or}
use Rattle.std.specs.Ordering.{eq_by_cmp}
use Rattle.fetch_base.specs.declared.id.ObjectId.{ObjectId}
use Rattle.fetch_store.specs.Graph.{Graph, Node}
use Rattle.fetch_base.specs.Id.{id_cmp}
use Rattle.fetch_store.proofs.Borders.{any-filter}
use Rattle.fetch_store.proofs.Finds.{ties}
use Rattle.fetch_base.proofs.Ids.{id_cmp_exact}
use Rattle.std.specs.Cmp.{Equal-is}
use Rattle.fetch_negotiate.specs.declared.commits.Commit.{Commit}
use Rattle.fetch_negotiate.specs.Ancestors.{links_of, parents_of, leads, is_ancestor}
use Rattle.fetch_negotiate.specs.Commits.{has, commit_of, commit_in}
use Rattle.fetch_negotiate.specs.Haves.{is_common}
use Rattle.fetch_negotiate.specs.Reading.{Read, IsTold, commit_at, links_at}
use Rattle.fetch_negotiate.specs.Sharing.{IsFinished, IsDone}
use Rattle.fetch_negotiate.specs.Exact.{IsExact}
use Rattle.fetch_negotiate.proofs.Commons.{found_at}
use Rattle.fetch_negotiate.proofs.Growing.{read_of, commit_from_link}

some_of : {A : Type 0} (o : Option A) → is_some o ≡ true → (v : A) × (o ≡ Some v)
some_of None h = absurd (true≢false (sym h))
some_of (Some v) h = (v, refl)

-- what was read is what the graph tells
pub told_at : (k : Read) (g : Graph) → IsTold k g → (q : ObjectId) → is_some (k q) ≡ true → commit_of g q ≡ commit_at k q
told_at k g told q h =
    let found = some_of (k q) h in
    told.told q found.0 found.1 ∙ sym (found_at (k q) found.0 found.1)

pub links_told : (k : Read) (g : Graph) → IsTold k g → (border : set.FinSet id_cmp) (q : ObjectId) → is_some (k q) ≡ true → links_of g border q ≡ links_at k border q
unfolding links_of
links_told k g told border q h = ap (λ (c : Option Commit). cond (set.contains border q) [] (option_map_or (λ (c : Commit). c.parents) c [])) (told_at k g told q h)

both : (a b : Bool) → (a && b) ≡ true → (a ≡ true) × (b ≡ true)
both true b h = (refl, h)
both false b h = absurd (true≢false (sym h))

of_either : (P : Type 0) (a b : Bool) → (a ≡ true → P) → (b ≡ true → P) → (a || b) ≡ true → P
of_either P true b f g h = f refl
of_either P false b f g h = g h

front : (a b : Bool) → a ≡ true → (a || b) ≡ true
front true b h = refl
front false b h = absurd (true≢false (sym h))

behind : (a b : Bool) → b ≡ true → (a || b) ≡ true
behind true b h = refl
behind false b h = h

and_of : (a b : Bool) → a ≡ true → b ≡ true → (a && b) ≡ true
and_of true b p q = q
and_of false b p q = absurd (true≢false (sym p))

-- ---- whatever has the stored parents of what it has, has the ancestors of what it has
module _ (g : Graph) (border : set.FinSet id_cmp) (C : ObjectId → Type 0) (step : (x y : ObjectId) → C x → has (parents_of g border x) y ≡ true → C y) where
  pub leads_within : (vs : List ObjectId) (x y : ObjectId) → C x → leads g border vs x y ≡ true → C y
  leads_within [] x y c h = step x y c h
  leads_within (v ∷ vs) x y c h =
      of_either (C y) (leads g border vs x y) (leads g border vs x v && leads g border vs v y) (leads_within vs x y c)
      (λ e. let p = both (leads g border vs x v) (leads g border vs v y) e in leads_within vs v y (leads_within vs x v c p.0) p.1) h

  pub ancestors_within : (x y : ObjectId) → C x → is_ancestor g border x y ≡ true → C y
  unfolding is_ancestor
  ancestors_within x y c h = leads_within (finmap.keys g) x y c h

linked : (b : Bool) (c : Option Commit) (y : ObjectId) → has (cond b [] (option_map_or (λ (c : Commit). c.parents) c [])) y ≡ true → is_some c ≡ true
linked true c y h = absurd (true≢false (sym h))
linked false None y h = absurd (true≢false (sym h))
linked false (Some c) y h = refl

-- only a stored commit has parents
pub stored_from_link : (g : Graph) (border : set.FinSet id_cmp) (x y : ObjectId) → has (links_of g border x) y ≡ true → is_some (commit_of g x) ≡ true
unfolding links_of
stored_from_link g border x y h = linked (set.contains border x) (commit_of g x) y h

parts_of : (g : Graph) (border : set.FinSet id_cmp) (x y : ObjectId) → has (parents_of g border x) y ≡ true → (has (links_of g border x) y ≡ true) × (is_some (commit_of g y) ≡ true)
parts_of g border x y h = both (has (links_of g border x) y) (is_some (commit_of g y)) (sym (any-filter y (λ p. is_some (commit_of g p)) (links_of g border x)) ∙ h)

-- marked, so far as it is a stored commit
abbrev IsMarkedIn : Graph → List ObjectId → ObjectId → Type 0
IsMarkedIn g commits x = is_some (commit_of g x) ≡ true → has commits x ≡ true

done_told : (k : Read) (g : Graph) (commits : List ObjectId) (y : ObjectId) → IsTold k g → IsDone k commits y → IsMarkedIn g commits y
done_told k g commits y told done stored = done.marked (ap (λ (c : Option Commit). is_some c) (sym (told_at k g told y done.read)) ∙ stored)

marks_step : (k : Read) (g : Graph) (border : set.FinSet id_cmp) (acknowledged commits : List ObjectId) → IsTold k g → IsFinished k border acknowledged commits
    → (x y : ObjectId) → IsMarkedIn g commits x → has (parents_of g border x) y ≡ true → IsMarkedIn g commits y
marks_step k g border acknowledged commits told finished x y marked link =
    let parts = parts_of g border x y link in
    let h : has commits x ≡ true = marked (stored_from_link g border x y parts.0) in
    let at = ap (λ (l : List ObjectId). has l y) (links_told k g told border x (read_of k x (finished.stored x h))) in
    done_told k g commits y told (finished.parents x h y (sym at ∙ parts.0))

common_each : (k : Read) (g : Graph) (border : set.FinSet id_cmp) (acknowledged : List ObjectId) (commits rest : List ObjectId) → IsTold k g → IsFinished k border acknowledged commits → (id : ObjectId)
    → ((q : ObjectId) → has rest q ≡ true → has acknowledged q ≡ true) → list_any (λ known. eq_by_cmp id_cmp id known || is_ancestor g border known id) rest ≡ true → IsMarkedIn g commits id
common_each k g border acknowledged commits [] told finished id inside h = absurd (true≢false (sym h))
common_each k g border acknowledged commits (a ∷ rest) told finished id inside h =
    let start : IsMarkedIn g commits a = done_told k g commits a told (finished.told a (inside a (ap (λ b. b || has rest a) (ties a a refl)))) in
    of_either (IsMarkedIn g commits id) (eq_by_cmp id_cmp id a || is_ancestor g border a id) (list_any (λ known. eq_by_cmp id_cmp id known || is_ancestor g border known id) rest)
    (of_either (IsMarkedIn g commits id) (eq_by_cmp id_cmp id a) (is_ancestor g border a id)
    (λ e. subst (IsMarkedIn g commits) (sym (id_cmp_exact id a ((Equal-is (id_cmp id a)).0 e))) start)
    (λ e. ancestors_within g border (IsMarkedIn g commits) (marks_step k g border acknowledged commits told finished) a id start e))
    (common_each k g border acknowledged commits rest told finished id (λ q e. inside q (behind (eq_by_cmp id_cmp q a) (has rest q) e))) h

-- an acknowledged commit, or an ancestor of one, is marked
pub common_is_marked : (k : Read) (g : Graph) (border : set.FinSet id_cmp) (acknowledged : List ObjectId) (commits : List ObjectId) → IsTold k g → IsFinished k border acknowledged commits → (id : ObjectId) → is_some (commit_of g id) ≡ true → is_common g border acknowledged id ≡ true → has commits id ≡ true
common_is_marked k g border acknowledged commits told finished id stored h = common_each k g border acknowledged commits acknowledged told finished id (λ q e. e) h stored

-- ---- steps put together
module _ (g : Graph) (border : set.FinSet id_cmp) where
  leads_step : (vs : List ObjectId) (x y : ObjectId) → has (parents_of g border x) y ≡ true → leads g border vs x y ≡ true
  leads_step [] x y h = h
  leads_step (v ∷ vs) x y h = front (leads g border vs x y) (leads g border vs x v && leads g border vs v y) (leads_step vs x y h)

  leads_through : (vs : List ObjectId) (x v y : ObjectId) → has vs v ≡ true → leads g border vs x v ≡ true → leads g border vs v y ≡ true → leads g border vs x y ≡ true
  leads_through [] x v y h a b = absurd (true≢false (sym h))
  leads_through (w ∷ vs) x v y h a b =
      of_either (leads g border (w ∷ vs) x y ≡ true) (eq_by_cmp id_cmp v w) (has vs v)
      (λ e. let same : v ≡ w = id_cmp_exact v w ((Equal-is (id_cmp v w)).0 e) in at_w (subst (λ q. leads g border (w ∷ vs) x q ≡ true) same a) (subst (λ q. leads g border (w ∷ vs) q y ≡ true) same b))
      (λ e. within (leads_through vs) e a b) h
    where
      R : ObjectId → ObjectId → Bool
      R p q = leads g border vs p q

      joined : R x w ≡ true → R w y ≡ true → (R x y || (R x w && R w y)) ≡ true
      joined p q = behind (R x y) (R x w && R w y) (and_of (R x w) (R w y) p q)

      at_w : (R x w || (R x w && R w w)) ≡ true → (R w y || (R w w && R w y)) ≡ true → (R x y || (R x w && R w y)) ≡ true
      at_w p q = joined (of_either (R x w ≡ true) (R x w) (R x w && R w w) (λ e. e) (λ e. (both (R x w) (R w w) e).0) p) (of_either (R w y ≡ true) (R w y) (R w w && R w y) (λ e. e) (λ e. (both (R w w) (R w y) e).1) q)

      within : ((p q r : ObjectId) → has vs q ≡ true → R p q ≡ true → R q r ≡ true → R p r ≡ true) → has vs v ≡ true
          → (R x v || (R x w && R w v)) ≡ true → (R v y || (R v w && R w y)) ≡ true → (R x y || (R x w && R w y)) ≡ true
      within through e p q =
          of_either _ (R x v) (R x w && R w v)
          (λ xv. of_either _ (R v y) (R v w && R w y)
          (λ vy. front (R x y) (R x w && R w y) (through x v y e xv vy))
          (λ vwy. let s = both (R v w) (R w y) vwy in joined (through x v w e xv s.0) s.1) q)
          (λ xwv. let s = both (R x w) (R w v) xwv in of_either _ (R v y) (R v w && R w y)
          (λ vy. joined s.0 (through w v y e s.1 vy))
          (λ vwy. joined s.0 (both (R v w) (R w y) vwy).1) q) p

  pub stored_is_key : (x : ObjectId) → is_some (commit_of g x) ≡ true → has (finmap.keys g) x ≡ true
  unfolding commit_of
  stored_is_key x h = sym (finmap.contains_key-keys g x) ∙ node (finmap.get g x) h
    where
      node : (o : Option Node) → is_some (option_and_then commit_in o) ≡ true → is_some o ≡ true
      node None h = h
      node (Some n) h = refl

  pub ancestor_step : (a x y : ObjectId) → (eq_by_cmp id_cmp x a || is_ancestor g border a x) ≡ true → has (parents_of g border x) y ≡ true → is_ancestor g border a y ≡ true
  unfolding is_ancestor
  ancestor_step a x y h link =
      of_either _ (eq_by_cmp id_cmp x a) (leads g border (finmap.keys g) a x)
      (λ e. leads_step (finmap.keys g) a y (subst (λ q. has (parents_of g border q) y ≡ true) (id_cmp_exact x a ((Equal-is (id_cmp x a)).0 e)) link))
      (λ e. leads_through (finmap.keys g) a x y (stored_is_key x (stored_from_link g border x y (parts_of g border x y link).0)) e (leads_step (finmap.keys g) x y link)) h

any_mono : (p q : ObjectId → Bool) → ((a : ObjectId) → p a ≡ true → q a ≡ true) → (xs : List ObjectId) → list_any p xs ≡ true → list_any q xs ≡ true
any_mono p q f [] h = h
any_mono p q f (x ∷ xs) h = of_either _ (p x) (list_any p xs) (λ e. front (q x) (list_any q xs) (f x e)) (λ e. behind (q x) (list_any q xs) (any_mono p q f xs e)) h

-- what is marked is an acknowledged commit, or an ancestor of one
pub marked_is_common : (k : Read) (g : Graph) (border : set.FinSet id_cmp) (acknowledged : List ObjectId) (commits : List ObjectId) → IsTold k g → IsFinished k border acknowledged commits → (id : ObjectId) → has commits id ≡ true → is_common g border acknowledged id ≡ true
marked_is_common k g border acknowledged commits told finished id h = (finished.reached id h).holds (is_common g border acknowledged) start step
  where
    start : (a : ObjectId) → has acknowledged a ≡ true → is_common g border acknowledged a ≡ true
    start a e = any_mono (eq_by_cmp id_cmp a) (λ known. eq_by_cmp id_cmp a known || is_ancestor g border known a) (λ b t. front (eq_by_cmp id_cmp a b) (is_ancestor g border b a) t) acknowledged e

    step : (x y : ObjectId) → is_common g border acknowledged x ≡ true → has (links_at k border x) y ≡ true → is_some (commit_at k y) ≡ true → is_common g border acknowledged y ≡ true
    step x y common link stored =
        let found = commit_from_link k border x y link in
        let in_links = ap (λ (l : List ObjectId). has l y) (links_told k g told border x (read_of k x found)) ∙ link in
        let is_stored = ap (λ (c : Option Commit). is_some c) (told_at k g told y (read_of k y stored)) ∙ stored in
        let parent = any-filter y (λ p. is_some (commit_of g p)) (links_of g border x) ∙ and_of (has (links_of g border x) y) (is_some (commit_of g y)) in_links is_stored in
        any_mono (λ known. eq_by_cmp id_cmp x known || is_ancestor g border known x) (λ known. eq_by_cmp id_cmp y known || is_ancestor g border known y)
        (λ a t. behind (eq_by_cmp id_cmp y a) (is_ancestor g border a y) (ancestor_step g border a x y t parent)) acknowledged common

equal : (a b : Bool) → (a ≡ true → b ≡ true) → (b ≡ true → a ≡ true) → a ≡ b
equal true b f g = sym (f refl)
equal false true f g = g refl
equal false false f g = refl

-- The marks are the common commits.
pub marks_exact : (k : Read) (g : Graph) (border : set.FinSet id_cmp) (acknowledged commits : List ObjectId) → IsTold k g → IsFinished k border acknowledged commits → IsExact g border acknowledged commits
marks_exact k g border acknowledged commits told finished =
    record {
      each = λ id stored. equal (has commits id) (is_common g border acknowledged id) (marked_is_common k g border acknowledged commits told finished id) (common_is_marked k g border acknowledged commits told finished id stored);
    }
