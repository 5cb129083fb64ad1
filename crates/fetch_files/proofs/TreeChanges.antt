-- What changes of the map of nodes do to the tree.
use Rattle.std.proofs.Common.{◌≡◌, ℕ, Bool, true, false, cond, not, List, [], ◌∷◌, ◌++◌, Option, Some, None, refl, sym, ap, ◌∙◌, map}
use Rattle.std.specs.Prelude.{filter, is_none, is_some}
use Rattle.std.specs.List.{filter_map}
use Rattle.std.specs.List.Sorted.{IsStrictlySortedBy}
use Rattle.std.specs.Cmp.{IsTotalOrder, eq_by_cmp_equiv, tied_itself, Equal-is}
use Rattle.std.specs.Cmp.Lexicographic.{lists_total, nat_list_cmp_total}
use Rattle.std.specs.FinMap as finmap
use Rattle.std.specs.FinMap.{find, get-from_entries, get-insert, get-remove, get-retain_keys, same_map, IsAntisymmetric, slice_cmp-IsAntisymmetric, nat_cmp-IsAntisymmetric}
use Rattle.std.specs.FinMap.Entries.{find-where_key}
use Rattle.std.specs.Map.{keys_of}
use Rattle.std.specs.Ordering.{eq_by_cmp, is_eq}
use Rattle.std.specs.declared.cmp.Ordering.TheVariants.{Equal}
use Rattle.fetch_files.specs.Paths.{Path, path_cmp, is_root, is_same_path, after_path}
use Rattle.fetch_files.specs.Trees.{Tree, node_at, with_directory, name_behind, names_behind, if_name}
use Rattle.fetch_files.specs.declared.node.TreeNode.{TreeNode}
use Rattle.fetch_files.specs.declared.node.TreeNode.TheVariants.{Directory}
use Rattle.fetch_files.proofs.FiniteMaps.{entries-sorted, insert-remove}

pub path_cmp_total : IsTotalOrder path_cmp
path_cmp_total = lists_total nat_list_cmp_total

pub path_cmp_exact : IsAntisymmetric path_cmp
path_cmp_exact = slice_cmp-IsAntisymmetric (slice_cmp-IsAntisymmetric nat_cmp-IsAntisymmetric)

abbrev Entries : Type 0
Entries = List (Path × TreeNode)

-- paths that tie pass the same tests
alike : (p : Path → Bool) (q x : Path) → path_cmp q x ≡ Equal → p x ≡ p q
alike p q x e = ap p (sym (path_cmp_exact q x e))

-- the entries whose keys pass a test
pub from_filter : (p : Path → Bool) (es kept : Entries) → kept ≡ filter (λ e. p e.0) es
    → finmap.from_entries {R = path_cmp} kept ≡ finmap.retain_keys (finmap.from_entries es) p
from_filter p es kept is =
    same_map path_cmp_total path_cmp_exact _ _ (λ q.
    get-from_entries path_cmp_total kept q ∙ ap (find path_cmp q) is ∙ find-where_key path_cmp p q (alike p q) es
    ∙ ap (λ (o : Option TreeNode). cond (p q) o None) (sym (get-from_entries path_cmp_total es q)) ∙ sym (get-retain_keys (finmap.from_entries {R = path_cmp} es) p q (alike p q)))

turned : (b : Bool) (o : Option TreeNode) → cond (not b) o None ≡ cond b None o
turned true o = refl
turned false o = refl

-- all but one
pub from_other : (at : Path) (es kept : Entries) → kept ≡ filter (λ e. not (is_same_path at e.0)) es
    → finmap.from_entries {R = path_cmp} kept ≡ finmap.remove (finmap.from_entries es) at
from_other at es kept is =
    same_map path_cmp_total path_cmp_exact _ _ (λ q.
    get-from_entries path_cmp_total kept q ∙ ap (find path_cmp q) is ∙ find-where_key path_cmp (λ k. not (is_same_path at k)) q (alike (λ k. not (is_same_path at k)) q) es
    ∙ turned (is_same_path at q) (find path_cmp q es)
    ∙ ap (λ (b : Bool). cond b None (find path_cmp q es)) ((eq_by_cmp_equiv path_cmp_total).symm at q)
    ∙ ap (cond (eq_by_cmp path_cmp q at) None) (sym (get-from_entries path_cmp_total es q)) ∙ sym (get-remove path_cmp_total (finmap.from_entries {R = path_cmp} es) at q))

-- a search that stops at the key
pub told_here : (at k : Path) (v : TreeNode) (s rest es : Entries) → s ≡ (k, v) ∷ rest → find path_cmp at s ≡ find path_cmp at es → true ≡ is_same_path at k
    → Some v ≡ finmap.get (finmap.from_entries {R = path_cmp} es) at
told_here at k v s rest es next is told =
    ap (λ (b : Bool). cond b (Some v) (find path_cmp at rest)) told ∙ ap (find path_cmp at) (sym next) ∙ is ∙ sym (get-from_entries path_cmp_total es at)

-- and one that goes on
pub told_later : (at k : Path) (v : TreeNode) (s rest es : Entries) → s ≡ (k, v) ∷ rest → find path_cmp at s ≡ find path_cmp at es → false ≡ is_same_path at k
    → find path_cmp at rest ≡ find path_cmp at es
told_later at k v s rest es next is told = ap (λ (b : Bool). cond b (Some v) (find path_cmp at rest)) told ∙ ap (find path_cmp at) (sym next) ∙ is

pub told_nowhere : (at : Path) (s es : Entries) → s ≡ [] → find path_cmp at s ≡ find path_cmp at es → None ≡ finmap.get (finmap.from_entries {R = path_cmp} es) at
told_nowhere at s es end is = ap (find path_cmp at) (sym end) ∙ is ∙ sym (get-from_entries path_cmp_total es at)

-- one name more
names-next : (o : Option (List ℕ)) (f : Path → Option (List ℕ)) (k : Path) (rest : List Path) → f k ≡ o → filter_map f (k ∷ rest) ≡ if_name o ++ filter_map f rest
names-next None f k rest is = rw is refl
names-next (Some name) f k rest is = rw is refl

pub names-step : (at k : Path) (s rest : List Path) → s ≡ k ∷ rest → names_behind at s ≡ if_name (name_behind (after_path at k)) ++ names_behind at rest
names-step at k s rest next = ap (names_behind at) next ∙ names-next (name_behind (after_path at k)) (λ key. name_behind (after_path at key)) k rest refl

keys-map : (es : Entries) → map (λ e. e.0) es ≡ keys_of es
keys-map [] = refl
keys-map (e ∷ es) = ap (λ (ks : List Path). e.0 ∷ ks) (keys-map es)

pub keys-from : (es : Entries) → IsStrictlySortedBy path_cmp (keys_of es) → keys_of es ≡ finmap.keys (finmap.from_entries {R = path_cmp} es)
keys-from es s = sym (ap (map (λ e. e.0)) (entries-sorted path_cmp_total path_cmp_exact es s) ∙ keys-map es)

-- what is put and taken again
undone_by : (b : Bool) (q p : Path) (o : Option TreeNode) (v : TreeNode) → eq_by_cmp path_cmp q p ≡ b → (b ≡ true → o ≡ None) → cond b None (cond b (Some v) o) ≡ o
undone_by true q p o v is none = sym (none refl)
undone_by false q p o v is none = refl

tied : (q p : Path) → eq_by_cmp path_cmp q p ≡ true → q ≡ p
tied q p e = path_cmp_exact q p ((Equal-is (path_cmp q p)).0 e)

pub undone : (t : Tree) (p : Path) (v : TreeNode) → finmap.get t p ≡ None → finmap.remove (finmap.insert t p v) p ≡ t
undone t p v none =
    same_map path_cmp_total path_cmp_exact _ _ (λ q.
    get-remove path_cmp_total (finmap.insert t p v) p q ∙ ap (cond (eq_by_cmp path_cmp q p) None) (get-insert path_cmp_total t p v q)
    ∙ undone_by (eq_by_cmp path_cmp q p) q p (finmap.get t q) v refl (λ e. ap (finmap.get t) (tied q p e) ∙ none))

root_by : (b : Bool) (o : Option TreeNode) → cond b (Some Directory) o ≡ None → o ≡ None
root_by true o e = absurd cc
root_by false o e = e

made_by : (o : Option TreeNode) (t : Tree) (p : Path) (is_new : Bool) → node_at t p ≡ o → is_new ≡ is_none o
    → cond is_new (finmap.remove (cond (is_some o) t (finmap.insert t p Directory)) p) (cond (is_some o) t (finmap.insert t p Directory)) ≡ t
made_by None t p is_new is new =
    ap (λ (b : Bool). cond b (finmap.remove (finmap.insert t p Directory) p) (finmap.insert t p Directory)) new ∙ undone t p Directory (root_by (is_root p) (finmap.get t p) is)
made_by (Some n) t p is_new is new = ap (λ (b : Bool). cond b (finmap.remove t p) t) new

-- a directory that was made is taken again
pub unmade : (t made left now : Tree) (p : Path) (is_new : Bool) → is_new ≡ is_none (node_at t p) → made ≡ with_directory t p → left ≡ made → now ≡ cond is_new (finmap.remove left p) left → now ≡ t
unmade t made left now p is_new new is same after =
    after ∙ ap (λ (m : Tree). cond is_new (finmap.remove m p) m) (same ∙ is) ∙ made_by (node_at t p) t p is_new refl new

-- a move, where it is to another path or to the same
moved_by : (b : Bool) (t : Tree) (from to : Path) (v : TreeNode) → is_same_path from to ≡ b
    → cond (not b) (finmap.remove (finmap.insert t to v) from) (finmap.insert t to v) ≡ finmap.insert (finmap.remove t from) to v
moved_by true t from to v same =
    ap (λ (m : Tree). m) (sym (insert-remove path_cmp_total path_cmp_exact t to v)) ∙ ap (λ (p : Path). finmap.insert (finmap.remove t p) to v) (sym (tied from to same))
moved_by false t from to v other =
    same_map path_cmp_total path_cmp_exact _ _ (λ q.
    get-remove path_cmp_total (finmap.insert t to v) from q ∙ ap (cond (eq_by_cmp path_cmp q from) None) (get-insert path_cmp_total t to v q)
    ∙ swapped (eq_by_cmp path_cmp q from) (eq_by_cmp path_cmp q to) q refl refl
    ∙ sym (get-insert path_cmp_total (finmap.remove t from) to v q ∙ ap (cond (eq_by_cmp path_cmp q to) (Some v)) (get-remove path_cmp_total t from q)))
  where
    both_at : (q : Path) → eq_by_cmp path_cmp q from ≡ true → eq_by_cmp path_cmp q to ≡ true → ⊥
    both_at q is_from is_to =
        let one : from ≡ to = sym (tied q from is_from) ∙ tied q to is_to in
        let yes : is_same_path from to ≡ true = ap (is_same_path from) (sym one) ∙ ap is_eq (tied_itself path_cmp_total from) in
        absurd cc

    swapped : (a b : Bool) (q : Path) → eq_by_cmp path_cmp q from ≡ a → eq_by_cmp path_cmp q to ≡ b
        → cond a None (cond b (Some v) (finmap.get t q)) ≡ cond b (Some v) (cond a None (finmap.get t q))
    swapped true true q is_from is_to = absurd (both_at q is_from is_to)
    swapped true false q is_from is_to = refl
    swapped false b q is_from is_to = refl

pub moved : (t put now : Tree) (from to : Path) (v : TreeNode) (stays : Bool) → stays ≡ is_same_path from to → put ≡ finmap.insert t to v → now ≡ cond (not stays) (finmap.remove put from) put
    → now ≡ finmap.insert (finmap.remove t from) to v
moved t put now from to v stays same is after =
    after ∙ ap (λ (m : Tree). cond (not stays) (finmap.remove m from) m) is
    ∙ ap (λ (b : Bool). cond (not b) (finmap.remove (finmap.insert t to v) from) (finmap.insert t to v)) same ∙ moved_by (is_same_path from to) t from to v refl

root-same : (path : Path) → is_same_path path [] ≡ is_root path
root-same [] = refl
root-same (part ∷ path) = refl

pub root_told : (path : Path) (b : Bool) → b ≡ is_same_path path [] → b ≡ is_root path
root_told path b is = is ∙ root-same path

no-more : (xs : List (List ℕ)) → xs ≡ xs ++ []
no-more [] = refl
no-more (x ∷ xs) = ap (λ (ys : List (List ℕ)). x ∷ ys) (no-more xs)

-- the names are all there where no key is left
pub names_all : (at : Path) (names : List (List ℕ)) (rest : List Path) (es : Entries) → rest ≡ [] → names ++ names_behind at rest ≡ names_behind at (keys_of es)
    → IsStrictlySortedBy path_cmp (keys_of es) → names ≡ names_behind at (finmap.keys (finmap.from_entries {R = path_cmp} es))
names_all at names rest es end is sorted = no-more names ∙ ap (λ (r : List Path). names ++ names_behind at r) (sym end) ∙ is ∙ ap (names_behind at) (keys-from es sorted)
