-- A file that was written beside another, and put in its place, is read there.
use Rattle.std.proofs.Common.{◌≡◌, ℕ, suc, ◌<◌, Bool, true, false, cond, not, ◌||◌, List, [], ◌∷◌, length, map, Option, Some, None, refl, sym, ap, ◌∙◌, arith}
use Rattle.std.specs.Prelude.{is_some, if◌then◌else◌}
use Rattle.std.specs.List.{AllByRecursion, list_any}
use Rattle.std.specs.Option.{option_and_then}
use Rattle.std.specs.FinMap as finmap
use Rattle.std.specs.FinMap.{get, get-insert, get-remove}
use Rattle.std.specs.Ordering.{eq_by_cmp, is_eq}
use Rattle.std.specs.Cmp.{Equal-is, tied_itself}
use Rattle.fetch_files.specs.Paths.{Path, path_cmp, is_root, parents_of, parent_of}
use Rattle.fetch_files.specs.Trees.{Tree, node_at, is_file, is_directory, is_blocked, file_in, bytes_in, read_in, with_directory, with_each, written, moved, renamed}
use Rattle.fetch_files.specs.declared.node.TreeNode.{TreeNode}
use Rattle.fetch_files.specs.declared.node.TreeNode.TheVariants.{File, Directory}
use Rattle.fetch_files.proofs.TreeChanges.{path_cmp_total, path_cmp_exact}

-- ---- what is done and isn't refused

pub record Done (a b : Bool) (v w : Tree) : Type 0 where
  pub first : a ≡ false
  pub second : b ≡ false
  pub is : v ≡ w

done : (a b : Bool) (v w : Tree) → (if a || b then None else Some v) ≡ Some w → Done a b v w
done true b v w e = absurd cc
done false true v w e = absurd cc
done false false v w e = record { first = refl; second = refl; is = cc }

pub record Both (o : Option Tree) (f : Tree → Option Tree) (u : Tree) : Type 0 where
  pub mid : Tree
  pub first : o ≡ Some mid
  pub second : f mid ≡ Some u

both : (o : Option Tree) (f : Tree → Option Tree) (u : Tree) → option_and_then f o ≡ Some u → Both o f u
both None f u e = absurd cc
both (Some w) f u e = record { mid = w; first = refl; second = e }

-- ---- nodes

no_root : (t : Tree) (p : Path) → is_directory (node_at t p) ≡ false → is_root p ≡ false
no_root t [] e = absurd cc
no_root t (part ∷ p) e = refl

node_here : (t : Tree) (p : Path) (v : TreeNode) → is_root p ≡ false → node_at (finmap.insert t p v) p ≡ Some v
node_here t p v plain =
    ap (λ (b : Bool). cond b (Some Directory) (get (finmap.insert t p v) p)) plain ∙ get-insert path_cmp_total t p v p ∙ ap (λ (b : Bool). cond b (Some v) (get t p)) (ap is_eq (tied_itself path_cmp_total p))

-- no new file
file_by : (r e : Bool) (o : Option TreeNode) → is_file (cond r (Some Directory) o) ≡ false → is_file (cond r (Some Directory) (cond e (Some Directory) o)) ≡ false
file_by true e o h = refl
file_by false true o h = refl
file_by false false o h = h

one_directory : (b : Bool) (t : Tree) (p q : Path) → is_file (node_at t q) ≡ false → is_file (node_at (cond b t (finmap.insert t p Directory)) q) ≡ false
one_directory true t p q h = h
one_directory false t p q h =
    ap (λ (o : Option TreeNode). is_file (cond (is_root q) (Some Directory) o)) (get-insert path_cmp_total t p Directory q) ∙ file_by (is_root q) (eq_by_cmp path_cmp q p) (get t q) h

each_directory : (t : Tree) (ps : List Path) (q : Path) → is_file (node_at t q) ≡ false → is_file (node_at (with_each t ps) q) ≡ false
each_directory t [] q h = h
each_directory t (p ∷ ps) q h = each_directory (with_directory t p) ps q (one_directory (is_some (node_at t p)) t p q h)

-- a file that is written and taken again
taken_by : (e : Bool) (v : TreeNode) (o : Option TreeNode) → is_file o ≡ false → is_file (cond e None (cond e (Some v) o)) ≡ false
taken_by true v o h = refl
taken_by false v o h = h

other_by : (e : Bool) (v : TreeNode) (o : Option TreeNode) → e ≡ false → is_file o ≡ false → is_file (cond e (Some v) o) ≡ false
other_by e v o is h = rw is h

apart : (q p : Path) → length q < length p → (b : Bool) → eq_by_cmp path_cmp q p ≡ b → b ≡ false
apart q p lt true is = let one = ap length (path_cmp_exact q p ((Equal-is (path_cmp q p)).0 is)) in absurd (omega (arith, one))
apart q p lt false is = refl

-- where no file stood above, none stands now
no_file : (m : Tree) (from to : Path) (v w : TreeNode) (q : Path) → length q < length to → is_file (node_at m q) ≡ false → is_file (node_at (finmap.insert (finmap.remove (finmap.insert m from v) from) to w) q) ≡ false
no_file m from to v w [] lt h = refl
no_file m from to v w (part ∷ path) lt h =
    let q : Path = part ∷ path in
    let e : get (finmap.insert (finmap.remove (finmap.insert m from v) from) to w) q ≡ cond (eq_by_cmp path_cmp q to) (Some w) (cond (eq_by_cmp path_cmp q from) None (cond (eq_by_cmp path_cmp q from) (Some v) (get m q))) =
    get-insert path_cmp_total (finmap.remove (finmap.insert m from v) from) to w q
    ∙ ap (cond (eq_by_cmp path_cmp q to) (Some w)) (get-remove path_cmp_total (finmap.insert m from v) from q ∙ ap (cond (eq_by_cmp path_cmp q from) None) (get-insert path_cmp_total m from v q)) in
    ap is_file e
    ∙ other_by (eq_by_cmp path_cmp q to) w (cond (eq_by_cmp path_cmp q from) None (cond (eq_by_cmp path_cmp q from) (Some v) (get m q))) (apart q to lt (eq_by_cmp path_cmp q to) refl) (taken_by (eq_by_cmp path_cmp q from) v (get m q) h)

-- ---- paths above

longer : (part : List ℕ) (ps : List Path) (n : ℕ) → AllByRecursion (λ (q : Path). length q < n) ps → AllByRecursion (λ (q : Path). length q < suc n) (map (λ (q : Path). part ∷ q) ps)
longer part [] n all = tt
longer part (q ∷ ps) n all = let h = all.0 in (omega (arith, h), longer part ps n all.1)

shorter : (p : Path) → AllByRecursion (λ (q : Path). length q < length p) (parents_of p)
shorter [] = tt
shorter (part ∷ p) = (omega arith, longer part (parents_of p) (length p) (shorter p))

or_none : (a b : Bool) → (a || b) ≡ false → (a ≡ false) × (b ≡ false)
or_none true b h = absurd cc
or_none false b h = (refl, h)

or_false : (a b : Bool) → a ≡ false → b ≡ false → (a || b) ≡ false
or_false a b x y = rw (x, y) refl

unblocked : (t u : Tree) (to : Path) → ((q : Path) → length q < length to → is_file (node_at t q) ≡ false → is_file (node_at u q) ≡ false) → (ps : List Path) → AllByRecursion (λ (q : Path). length q < length to) ps
    → list_any (λ (q : Path). is_file (node_at t q)) ps ≡ false → list_any (λ (q : Path). is_file (node_at u q)) ps ≡ false
unblocked t u to keeps [] short none = refl
unblocked t u to keeps (p ∷ ps) short none =
    let two = or_none (is_file (node_at t p)) (list_any (λ (q : Path). is_file (node_at t q)) ps) none in
    or_false (is_file (node_at u p)) (list_any (λ (q : Path). is_file (node_at u q)) ps) (keeps p short.0 two.0) (unblocked t u to keeps ps short.1 two.1)

-- ---- the whole

unrefused : (b : Bool) (o : Option (Option (List ℕ))) (found : Option (List ℕ)) → (if b then None else o) ≡ Some found → b ≡ false
unrefused true o found e = absurd cc
unrefused false o found e = refl

read_by : (u : Tree) (p : Path) (bytes : List ℕ) → is_blocked u p ≡ false → node_at u p ≡ Some (File bytes) → read_in u p ≡ Some (Some bytes)
read_by u p bytes free is = ap (λ (b : Bool). if b then None else bytes_in (node_at u p)) free ∙ ap bytes_in is

moved_on : (m w u : Tree) (from to : Path) (bytes : List ℕ) → is_root from ≡ false → finmap.insert m from (File bytes) ≡ w → renamed w from to ≡ Some u
    → Done (is_directory (node_at w to)) (not (is_directory (node_at w (parent_of to)))) (finmap.insert (finmap.remove w from) to (File bytes)) u
moved_on m w u from to bytes plain is e =
    let here : file_in (node_at w from) ≡ Some bytes = ap (λ (x : Tree). file_in (node_at x from)) (sym is) ∙ ap file_in (node_here m from (File bytes) plain) in
    done (is_directory (node_at w to)) (not (is_directory (node_at w (parent_of to)))) (finmap.insert (finmap.remove w from) to (File bytes)) u
    (sym (ap (λ (o : Option (List ℕ)). moved w o from to) here) ∙ e)

pub read_replaced : (t u : Tree) (from to : Path) (bytes : List ℕ) (old : Option (List ℕ)) → read_in t to ≡ Some old → option_and_then (λ w. renamed w from to) (written t from bytes) ≡ Some u → read_in u to ≡ Some (Some bytes)
read_replaced t u from to bytes old read e =
    let two = both (written t from bytes) (λ w. renamed w from to) u e in
    let one = done (is_blocked t from) (is_directory (node_at t from)) (finmap.insert (with_each t (parents_of from)) from (File bytes)) two.mid two.first in
    let m : Tree = with_each t (parents_of from) in
    let next = moved_on m two.mid u from to bytes (no_root t from one.second) one.is two.second in
    let all : finmap.insert (finmap.remove (finmap.insert m from (File bytes)) from) to (File bytes) ≡ u = ap (λ (x : Tree). finmap.insert (finmap.remove x from) to (File bytes)) one.is ∙ next.is in
    let free : is_blocked t to ≡ false = unrefused (is_blocked t to) (bytes_in (node_at t to)) old read in
    let keeps : (q : Path) → length q < length to → is_file (node_at t q) ≡ false → is_file (node_at u q) ≡ false = λ q lt h. sym (ap (λ (x : Tree). is_file (node_at x q)) all) ∙ no_file m from to (File bytes) (File bytes) q lt (each_directory t (parents_of from) q h) in
    read_by u to bytes (unblocked t u to keeps (parents_of to) (shorter to) free)
    (sym (ap (λ (x : Tree). node_at x to) all) ∙ node_here (finmap.remove (finmap.insert m from (File bytes)) from) to (File bytes) (no_root two.mid to next.first))
