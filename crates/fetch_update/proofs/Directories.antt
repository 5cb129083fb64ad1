-- The directories of branches, one worktree after another.
use Rattle.std.proofs.Common.{◌≡◌, ℕ, Bool, true, false, cond, List, [], ◌∷◌, ◌++◌, map, Option, Some, None, refl, sym, ap, ◌∙◌, subst}
use Rattle.std.specs.Prelude.{◌||◌, if◌then◌else◌, is_some, filter}
use Rattle.std.specs.BTreeMap.{BTreeMap, get, is_at}
use Rattle.std.specs.BTreeSet.{BTreeSet, contains}
use Rattle.std.specs.Cmp.{Equal-is}
use Rattle.std.specs.Cmp.Lexicographic.{texts_ties}
use Rattle.std.specs.FinMap as finmap
use Rattle.std.specs.List.{list_any}
use Rattle.std.specs.List.Sorted.{IsStrictlySortedBy}
use Rattle.std.specs.Map.{keys_of}
use Rattle.std.specs.Option.{option_map_or}
use Rattle.std.specs.Ordering.{eq_by_cmp, is_eq}
use Rattle.std.specs.Str.{bytes_eq}
use Rattle.std.proofs.lemmas.List.Folds.{list_any-append}
use Rattle.fetch_refs.specs.Names.{name_cmp}
use Rattle.fetch_refs.proofs.Maps.{entries-sorted, same_tie}
use Rattle.fetch_refs.proofs.Names.{name_cmp_total, name_cmp_exact}
use Rattle.fetch_update.specs.declared.worktrees.Worktree.{Worktree}
use Rattle.fetch_update.specs.Trees.{is_checked_out, directories_in, bare, directories_of, has, IsIndex}

-- ---- sorted keys as a set

same_keys : (keys : List (List ℕ)) → keys_of (bare keys) ≡ keys
same_keys [] = refl
same_keys (k ∷ keys) = ap (λ (ks : List (List ℕ)). k ∷ ks) (same_keys keys)

found_in : (q : List ℕ) (ks : List (List ℕ)) → finmap.find name_cmp q (bare ks) ≡ cond (list_any (eq_by_cmp name_cmp q) ks) (Some tt) None
found_in q [] = refl
found_in q (k ∷ ks) = one (is_eq (name_cmp q k)) (found_in q ks)
  where
    one : (t : Bool) → finmap.find name_cmp q (bare ks) ≡ cond (list_any (eq_by_cmp name_cmp q) ks) (Some tt) None
        → cond t (Some tt) (finmap.find name_cmp q (bare ks)) ≡ cond (t || list_any (eq_by_cmp name_cmp q) ks) (Some tt) None
    one true so_far = refl
    one false so_far = so_far

abbrev set_of : List (List ℕ) → finmap.FinMap name_cmp (Unit {0})
set_of ks = finmap.from_entries {R = name_cmp} (bare ks)

got : (ks : List (List ℕ)) (q : List ℕ) → finmap.get (set_of ks) q ≡ cond (list_any (eq_by_cmp name_cmp q) ks) (Some tt) None
got ks q = finmap.get-from_entries name_cmp_total (bare ks) q ∙ found_in q ks

pub as_set : (keys xs : List (List ℕ)) → IsStrictlySortedBy name_cmp keys → ((q : List ℕ) → list_any (eq_by_cmp name_cmp q) keys ≡ list_any (eq_by_cmp name_cmp q) xs) → keys ≡ finmap.keys (set_of xs)
as_set keys xs ordered same =
    let sorted : IsStrictlySortedBy name_cmp (keys_of (bare keys)) = subst (IsStrictlySortedBy name_cmp) (sym (same_keys keys)) ordered in
    let items : finmap.keys (set_of keys) ≡ keys = ap (λ (es : List (List ℕ × Unit {0})). keys_of es) (entries-sorted name_cmp_total name_cmp_exact (bare keys) sorted) ∙ same_keys keys in
    let one : set_of keys ≡ set_of xs =
    finmap.same_map name_cmp_total name_cmp_exact (set_of keys) (set_of xs)
    (λ q. got keys q ∙ ap (λ (b : Bool). cond b (Some tt) None) (same q) ∙ sym (got xs q)) in
    sym items ∙ ap finmap.keys one

-- ---- one worktree more

or_true : (b : Bool) → (b || true) ≡ true
or_true true = refl
or_true false = refl

or_false : (b : Bool) → (b || false) ≡ b
or_false true = refl
or_false false = refl

abbrev passed : Bool → Worktree → List (List ℕ)
passed t w = if t then w.directory ∷ [] else []

more_directories : (done : List Worktree) (w : Worktree) (q : List ℕ) → directories_in (done ++ w ∷ []) q ≡ directories_in done q ++ passed (bytes_eq w.branch q) w
more_directories [] w q = one (bytes_eq w.branch q)
  where
    one : (t : Bool) → map (λ x. x.directory) (if t then w ∷ [] else []) ≡ passed t w
    one true = refl
    one false = refl
more_directories (d ∷ done) w q = next (bytes_eq d.branch q) (more_directories done w q)
  where
    next : (t : Bool) → directories_in (done ++ w ∷ []) q ≡ directories_in done q ++ passed (bytes_eq w.branch q) w
        → map (λ x. x.directory) (if t then d ∷ filter (λ x. bytes_eq x.branch q) (done ++ w ∷ []) else filter (λ x. bytes_eq x.branch q) (done ++ w ∷ []))
        ≡ map (λ x. x.directory) (if t then d ∷ filter (λ x. bytes_eq x.branch q) done else filter (λ x. bytes_eq x.branch q) done) ++ passed (bytes_eq w.branch q) w
    next true so_far = ap (λ (ds : List (List ℕ)). d.directory ∷ ds) so_far
    next false so_far = so_far

abbrev Index : Type 0
Index = BTreeMap (List ℕ) (BTreeSet (List ℕ))

abbrev has_in : Option (BTreeSet (List ℕ)) → List ℕ → Bool
has_in o q = option_map_or (λ set. contains name_cmp set q) o false

exact : (a b : List ℕ) → is_eq (name_cmp a b) ≡ true → a ≡ b
exact a b e = name_cmp_exact a b ((Equal-is (name_cmp a b)).0 e)

pub added : (done : List Worktree) (w : Worktree) (old new : Index) (set : BTreeSet (List ℕ))
    → ((q : List ℕ) → get name_cmp new q ≡ cond (is_at (name_cmp w.branch) q) (Some set) (get name_cmp old q))
    → ((d : List ℕ) → contains name_cmp set d ≡ cond (is_at (name_cmp w.directory) d) true (has old w.branch d))
    → IsIndex done old → IsIndex (done ++ w ∷ []) new
added done w old new set puts holds ok q = by (is_eq (name_cmp w.branch q)) refl
  where
    tie : bytes_eq w.branch q ≡ is_eq (name_cmp w.branch q)
    tie = texts_ties w.branch q

    out : is_checked_out (done ++ w ∷ []) q ≡ (is_checked_out done q || (bytes_eq w.branch q || false))
    out = list_any-append (λ (x : Worktree). bytes_eq x.branch q) done (w ∷ [])

    more : (d : List ℕ) → list_any (eq_by_cmp name_cmp d) (directories_in (done ++ w ∷ []) q) ≡ (list_any (eq_by_cmp name_cmp d) (directories_in done q) || list_any (eq_by_cmp name_cmp d) (passed (bytes_eq w.branch q) w))
    more d = ap (list_any (eq_by_cmp name_cmp d)) (more_directories done w q) ∙ list_any-append (eq_by_cmp name_cmp d) (directories_in done q) (passed (bytes_eq w.branch q) w)

    either : (t b : Bool) → cond t true b ≡ (b || (t || false))
    either true true = refl
    either true false = refl
    either false true = refl
    either false false = refl

    by : (t : Bool) → is_eq (name_cmp w.branch q) ≡ t
        → (is_some (get name_cmp new q) ≡ is_checked_out (done ++ w ∷ []) q) × ((d : List ℕ) → has new q d ≡ list_any (eq_by_cmp name_cmp d) (directories_in (done ++ w ∷ []) q))
    by true e =
        let at : get name_cmp new q ≡ Some set = puts q ∙ ap (λ (b : Bool). cond b (Some set) (get name_cmp old q)) e in
        let one : w.branch ≡ q = exact w.branch q e in (
          ap is_some at ∙ sym (out ∙ ap (λ (b : Bool). is_checked_out done q || (b || false)) (tie ∙ e) ∙ or_true (is_checked_out done q)),
          λ d.
              ap (λ (o : Option (BTreeSet (List ℕ))). has_in o d) at ∙ holds d
              ∙ ap (λ (b : Bool). cond b true (has old w.branch d)) (same_tie name_cmp_total w.directory d)
              ∙ ap (cond (eq_by_cmp name_cmp d w.directory) true) (ap (λ (n : List ℕ). has old n d) one ∙ (ok q).1 d)
              ∙ either (eq_by_cmp name_cmp d w.directory) (list_any (eq_by_cmp name_cmp d) (directories_in done q))
              ∙ sym (more d ∙ ap (λ (b : Bool). list_any (eq_by_cmp name_cmp d) (directories_in done q) || list_any (eq_by_cmp name_cmp d) (passed b w)) (tie ∙ e)),
        )
    by false e =
        let at : get name_cmp new q ≡ get name_cmp old q = puts q ∙ ap (λ (b : Bool). cond b (Some set) (get name_cmp old q)) e in (
          ap is_some at ∙ (ok q).0 ∙ sym (out ∙ ap (λ (b : Bool). is_checked_out done q || (b || false)) (tie ∙ e) ∙ or_false (is_checked_out done q)),
          λ d.
              ap (λ (o : Option (BTreeSet (List ℕ))). has_in o d) at ∙ (ok q).1 d
              ∙ sym (more d ∙ ap (λ (b : Bool). list_any (eq_by_cmp name_cmp d) (directories_in done q) || list_any (eq_by_cmp name_cmp d) (passed b w)) (tie ∙ e) ∙ or_false (list_any (eq_by_cmp name_cmp d) (directories_in done q))),
        )

-- a key that is taken out and put is put
pub removed_put : (branch key : List ℕ) (old mid new : Index) (set : BTreeSet (List ℕ)) → ((q : List ℕ) → get name_cmp mid q ≡ cond (is_at (name_cmp branch) q) None (get name_cmp old q))
    → ((q : List ℕ) → get name_cmp new q ≡ cond (is_at (name_cmp key) q) (Some set) (get name_cmp mid q)) → key ≡ branch → (q : List ℕ) → get name_cmp new q ≡ cond (is_at (name_cmp branch) q) (Some set) (get name_cmp old q)
removed_put branch key old mid new set out in_it one q =
    in_it q ∙ ap (λ (k : List ℕ). cond (is_at (name_cmp k) q) (Some set) (get name_cmp mid q)) one ∙ ap (cond (is_at (name_cmp branch) q) (Some set)) (out q)
    ∙ twice (is_at (name_cmp branch) q)
  where
    twice : (t : Bool) → cond t (Some set) (cond t None (get name_cmp old q)) ≡ cond t (Some set) (get name_cmp old q)
    twice true = refl
    twice false = refl

-- a directory that is put is put
pub directory_put : (key directory : List ℕ) (others found : Option (BTreeSet (List ℕ))) (set : BTreeSet (List ℕ)) → ((q : List ℕ) → contains name_cmp set q ≡ cond (is_at (name_cmp key) q) true (has_in others q)) → key ≡ directory → others ≡ found
    → (q : List ℕ) → contains name_cmp set q ≡ cond (is_at (name_cmp directory) q) true (has_in found q)
directory_put key directory others found set puts one is q =
    puts q ∙ ap (λ (k : List ℕ). cond (is_at (name_cmp k) q) true (has_in others q)) one ∙ ap (λ (o : Option (BTreeSet (List ℕ))). cond (is_at (name_cmp directory) q) true (has_in o q)) is

-- ---- what is found

pub found_some : (worktrees : List Worktree) (index : Index) (name : List ℕ) (set : BTreeSet (List ℕ)) (keys : List (List ℕ)) → IsIndex worktrees index → get name_cmp index name ≡ Some set → keys ≡ set.keys → IsStrictlySortedBy name_cmp keys
    → (is_checked_out worktrees name ≡ true) × (keys ≡ directories_of worktrees name)
found_some worktrees index name set keys ok at same ordered = (
  sym (ok name).0 ∙ ap is_some at,
  as_set keys (directories_in worktrees name) ordered
      (λ q. ap (list_any (eq_by_cmp name_cmp q)) same ∙ sym (ap (λ (o : Option (BTreeSet (List ℕ))). has_in o q) at) ∙ (ok name).1 q),
)
