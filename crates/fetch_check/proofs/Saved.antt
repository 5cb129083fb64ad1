-- What is saved at a path is read there, and a call that is refused in the middle leaves what was there.
use Rattle.std.proofs.Common.{◌≡◌, ℕ, ◌<◌, Bool, true, false, List, [], ◌∷◌, ◌++◌, length, Some, length-append, refl, ap, ◌∙◌, arith}
use Rattle.std.specs.List.{list_any}
use Rattle.std.proofs.lemmas.List.{append_cancel_left}
use Rattle.std.specs.Ordering.{eq_by_cmp}
use Rattle.std.specs.Cmp.{Equal-is}
use Rattle.fetch_files.specs.Paths.{Path, path_cmp, is_root, parts_of}
use Rattle.fetch_files.specs.Trees.{Tree, is_file, node_at, is_directory, is_blocked, read_in, renamed, written}
use Rattle.fetch_files.proofs.TreeChanges.{path_cmp_exact}
use Rattle.fetch_check.specs.Keeping.{lock_of, saved}
use Rattle.fetch_check.proofs.Locks.{AreBeside, of_root, of_part, beside, same_parents}
use Rattle.fetch_check.proofs.Replaced.{both, done, read_beside, read_replaced}

no_root : (above : Path) (x : List ℕ) → is_root (above ++ x ∷ []) ≡ false
no_root [] x = refl
no_root (part ∷ above) x = refl

same_head : (x y : List ℕ) → x ∷ [] ≡ y ∷ [] → x ≡ y
same_head x y e = cc

unlike : (above : Path) (x y : List ℕ) → length x < length y → (b : Bool) → eq_by_cmp path_cmp (above ++ x ∷ []) (above ++ y ∷ []) ≡ b → b ≡ false
unlike above x y lt false is = refl
unlike above x y lt true is =
    let same : above ++ x ∷ [] ≡ above ++ y ∷ [] = path_cmp_exact (above ++ x ∷ []) (above ++ y ∷ []) ((Equal-is (path_cmp (above ++ x ∷ []) (above ++ y ∷ []))).0 is) in
    let one = ap length (same_head x y (append_cancel_left above (x ∷ []) (y ∷ []) same)) in absurd (omega (arith, one))

as_long : (above : Path) (x y : List ℕ) → length (above ++ y ∷ []) ≡ length (above ++ x ∷ [])
as_long above x y = let a = length-append above (y ∷ []) in let b = length-append above (x ∷ []) in omega arith

left_by : (t u : Tree) (to from : Path) (text : List ℕ) → AreBeside to from → written t from text ≡ Some u → read_in u to ≡ read_in t to
left_by t u _ _ text (of_root x) e = refl
left_by t u _ _ text (of_part above x y lt) e =
    read_beside t u (above ++ y ∷ []) (above ++ x ∷ []) text (same_parents above y x) (no_root above x) (unlike above x y lt (eq_by_cmp path_cmp (above ++ x ∷ []) (above ++ y ∷ [])) refl) (as_long above x y) e

-- what is written beside a path leaves what is read there
pub left : (t u : Tree) (path text : List ℕ) → written t (parts_of (lock_of path)) text ≡ Some u → read_in u (parts_of path) ≡ read_in t (parts_of path)
left t u path text e = left_by t u (parts_of path) (parts_of (lock_of path)) text (beside path) e

-- nothing is above the root
free_by : (t u : Tree) (to from : Path) (text : List ℕ) → AreBeside to from → written t from text ≡ Some u → is_blocked t to ≡ false
free_by t u _ _ text (of_root x) e = refl
free_by t u _ _ text (of_part above x y lt) e =
    let one = done (is_blocked t (above ++ y ∷ [])) (is_directory (node_at t (above ++ y ∷ []))) _ u e in
    ap (λ (ps : List Path). list_any (λ (q : Path). is_file (node_at t q)) ps) (same_parents above x y) ∙ one.first

-- what is saved is read
pub read_saved : (t u : Tree) (path text : List ℕ) → saved t path text ≡ Some u → read_in u (parts_of path) ≡ Some (Some text)
read_saved t u path text e =
    let two = both (written t (parts_of (lock_of path)) text) (λ w. renamed w (parts_of (lock_of path)) (parts_of path)) u e in
    read_replaced t u (parts_of (lock_of path)) (parts_of path) text (free_by t two.mid (parts_of path) (parts_of (lock_of path)) text (beside path) two.first) e
