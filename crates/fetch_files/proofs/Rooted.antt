-- Nothing stands below a file.
use Rattle.std.proofs.Common.{◌≡◌, ℕ, zero, suc, ◌+◌, ◌-◌, ◌<◌, ◌≤◌, Bool, true, false, cond, not, ◌||◌, List, [], ◌∷◌, ◌++◌, length, take, map, Option, Some, None, refl, sym, ap, ap₂, subst, ◌∙◌, inl, inr, arith, length-append}
use Rattle.std.specs.Prelude.{◌⊎◌, IsSome, is_some, is_none}
use Rattle.std.specs.List.{list_any}
use Rattle.std.specs.FinMap as finmap
use Rattle.std.specs.FinMap.{get, get-insert, get-remove, get-retain_keys, get-empty}
use Rattle.std.specs.Ordering.{eq_by_cmp, is_eq}
use Rattle.std.specs.Cmp.{Equal-is, tied_itself}
use Rattle.std.specs.Str.{bytes_eq}
use Rattle.std.proofs.lemmas.List.Folds.{list_any-append}
use Rattle.std.proofs.Math.Seq.{take-append_seam}
use Rattle.fetch_files.specs.Paths.{Path, path_cmp, is_root, parents_of, parent_of, after_path}
use Rattle.fetch_files.specs.Trees.{Tree, IsRooted, node_at, is_file, is_directory, is_blocked, file_in, with_directory, with_each, with_directories, written, moved, renamed, without_file, without_all}
use Rattle.fetch_files.specs.declared.node.TreeNode.{TreeNode}
use Rattle.fetch_files.specs.declared.node.TreeNode.TheVariants.{File, Directory}
use Rattle.fetch_files.proofs.TreeChanges.{path_cmp_total, path_cmp_exact}

tied : (q p : Path) → eq_by_cmp path_cmp q p ≡ true → q ≡ p
tied q p e = path_cmp_exact q p ((Equal-is (path_cmp q p)).0 e)

abbrev IsDir : Tree → Path → Type 0
IsDir t p = is_directory (node_at t p) ≡ true

abbrev IsFile : Tree → Path → Type 0
IsFile t p = is_file (node_at t p) ≡ true

-- directories stay, and what is new stands in one
rooted_on : (t now : Tree) → IsRooted t → ((q : Path) → IsDir t q → IsDir now q) → ((q : Path) → IsSome (get now q) → IsSome (get t q) ⊎ IsDir now (parent_of q)) → IsRooted now
rooted_on t now r kept new = record { each = λ q there. by_case q (new q there) }
  where
    by_case : (q : Path) → IsSome (get t q) ⊎ IsDir now (parent_of q) → IsDir now (parent_of q)
    by_case q (inl old) = kept (parent_of q) (r.each q old)
    by_case q (inr d) = d

-- ---- one node more
node-insert : (t : Tree) (p : Path) (v : TreeNode) (q : Path) → node_at (finmap.insert t p v) q ≡ cond (is_root q) (Some Directory) (cond (eq_by_cmp path_cmp q p) (Some v) (get t q))
node-insert t p v q = ap (cond (is_root q) (Some Directory)) (get-insert path_cmp_total t p v q)

kept_insert : (t : Tree) (p : Path) (v : TreeNode) → (IsDir t p → is_directory (Some v) ≡ true) → (q : Path) → IsDir t q → IsDir (finmap.insert t p v) q
kept_insert t p v h q d = ap is_directory (node-insert t p v q) ∙ at (is_root q) (eq_by_cmp path_cmp q p) refl d
  where
    at : (r e : Bool) → eq_by_cmp path_cmp q p ≡ e → is_directory (cond r (Some Directory) (get t q)) ≡ true → is_directory (cond r (Some Directory) (cond e (Some v) (get t q))) ≡ true
    at true e is k = refl
    at false true is k = h (subst (λ (x : Path). IsDir t x) (tied q p is) d)
    at false false is k = k

insert_rooted : (t : Tree) (p : Path) (v : TreeNode) → IsRooted t → IsDir t (parent_of p) → (IsDir t p → is_directory (Some v) ≡ true) → IsRooted (finmap.insert t p v)
insert_rooted t p v r d h =
    rooted_on t (finmap.insert t p v) r (kept_insert t p v h) (λ q there. at q (eq_by_cmp path_cmp q p) refl (ap is_some (sym (get-insert path_cmp_total t p v q)) ∙ there))
  where
    at : (q : Path) (e : Bool) → eq_by_cmp path_cmp q p ≡ e → IsSome (cond e (Some v) (get t q)) → IsSome (get t q) ⊎ IsDir (finmap.insert t p v) (parent_of q)
    at q true is there = inr (subst (λ (x : Path). IsDir (finmap.insert t p v) (parent_of x)) (sym (tied q p is)) (kept_insert t p v h (parent_of p) d))
    at q false is there = inl there

-- ---- a directory more
pub record Step (t now : Tree) (p : Path) : Type 0 where
  pub rooted : IsRooted now
  pub here : IsDir now p
  pub kept : (q : Path) → IsDir t q → IsDir now q
  pub files : (q : Path) → IsFile now q → IsFile t q
  pub apart : (q : Path) → length p < length q → get now q ≡ get t q

same_step : (t : Tree) (p : Path) → IsRooted t → IsDir t p → Step t t p
same_step t p r d = record { rooted = r; here = d; kept = λ q h. h; files = λ q h. h; apart = λ q lt. refl }

no_root : (r : Bool) (o : Option TreeNode) → cond r (Some Directory) o ≡ None → r ≡ false
no_root true o e = absurd cc
no_root false o e = refl

new_step : (t : Tree) (p : Path) → IsRooted t → IsDir t (parent_of p) → node_at t p ≡ None → Step t (finmap.insert t p Directory) p
new_step t p r d none = record {
  rooted = insert_rooted t p Directory r d (λ k. refl);
  here =
      ap is_directory (node-insert t p Directory p)
      ∙ ap₂ (λ (a b : Bool). is_directory (cond a (Some Directory) (cond b (Some Directory) (get t p)))) (no_root (is_root p) (get t p) none) (ap is_eq (tied_itself path_cmp_total p));
  kept = kept_insert t p Directory (λ k. refl);
  files = λ q h. file_at q (is_root q) (eq_by_cmp path_cmp q p) (ap is_file (sym (node-insert t p Directory q)) ∙ h);
  apart = λ q lt. get-insert path_cmp_total t p Directory q ∙ other q (eq_by_cmp path_cmp q p) refl lt;
}
  where
    file_at : (q : Path) (a e : Bool) → is_file (cond a (Some Directory) (cond e (Some Directory) (get t q))) ≡ true → is_file (cond a (Some Directory) (get t q)) ≡ true
    file_at q true e h = h
    file_at q false true h = absurd cc
    file_at q false false h = h

    other : (q : Path) (e : Bool) → eq_by_cmp path_cmp q p ≡ e → length p < length q → cond e (Some Directory) (get t q) ≡ get t q
    other q true is lt = let one = ap length (tied q p is) in absurd (omega arith)
    other q false is lt = refl

one_step : (t : Tree) (p : Path) → IsRooted t → IsDir t (parent_of p) → is_file (node_at t p) ≡ false → Step t (with_directory t p) p
one_step t p r d plain = by_node (node_at t p) refl plain
  where
    by_node : (o : Option TreeNode) → node_at t p ≡ o → is_file o ≡ false → Step t (cond (is_some o) t (finmap.insert t p Directory)) p
    by_node None is none = new_step t p r d is
    by_node (Some (File bytes)) is none = absurd cc
    by_node (Some Directory) is none = same_step t p r (ap is_directory is)

-- ---- directories at a path and above it
each-append : (t : Tree) (ps : List Path) (p : Path) → with_each t (ps ++ p ∷ []) ≡ with_directory (with_each t ps) p
each-append t [] p = refl
each-append t (q ∷ ps) p = each-append (with_directory t q) ps p

map-append : (part : List ℕ) (ps : List Path) (p : Path) → map (λ (q : Path). part ∷ q) (ps ++ p ∷ []) ≡ map (λ (q : Path). part ∷ q) ps ++ (part ∷ p) ∷ []
map-append part [] p = refl
map-append part (q ∷ ps) p = ap (λ (qs : List Path). (part ∷ q) ∷ qs) (map-append part ps p)

parents-snoc : (front : Path) (x : List ℕ) → parents_of (front ++ x ∷ []) ≡ parents_of front ++ front ∷ []
parents-snoc [] x = refl
parents-snoc (part ∷ front) x = ap (λ (qs : List Path). [] ∷ map (λ (q : Path). part ∷ q) qs) (parents-snoc front x) ∙ ap (λ (qs : List Path). [] ∷ qs) (map-append part (parents_of front) front)

parent-snoc : (front : Path) (x : List ℕ) → parent_of (front ++ x ∷ []) ≡ front
parent-snoc front x =
    let shorter : length (front ++ x ∷ []) - 1 ≡ length front = omega (arith, length-append front (x ∷ [])) in
    ap (λ n. take n (front ++ x ∷ [])) shorter ∙ take-append_seam front (x ∷ [])

pub record Last (p : Path) : Type 0 where
  pub front : Path
  pub name : List ℕ
  pub is : p ≡ front ++ name ∷ []

last_of : (part : List ℕ) (p : Path) → Last (part ∷ p)
last_of part [] = record { front = []; name = part; is = refl }
last_of part (next ∷ p) = let l = last_of next p in record { front = part ∷ l.front; name = l.name; is = ap (λ (q : Path). part ∷ q) l.is }

or_none : (a b : Bool) → (a || b) ≡ false → (a ≡ false) × (b ≡ false)
or_none true b h = absurd cc
or_none false b h = (refl, h)

abbrev any_file : Tree → List Path → Bool
any_file t ps = list_any (λ q. is_file (node_at t q)) ps

no_new_file : (t now : Tree) (q : Path) → (IsFile now q → IsFile t q) → is_file (node_at t q) ≡ false → (b : Bool) → is_file (node_at now q) ≡ b → b ≡ false
no_new_file t now q back none true is = let no : true ≡ false = sym (back is) ∙ none in absurd cc
no_new_file t now q back none false is = refl

snoc_step : (t : Tree) (front : Path) (x : List ℕ) → Step t (with_each t (parents_of front ++ front ∷ [])) front → is_file (node_at t (front ++ x ∷ [])) ≡ false
    → Step t (with_each t (parents_of (front ++ x ∷ []) ++ (front ++ x ∷ []) ∷ [])) (front ++ x ∷ [])
snoc_step t front x s plain =
    let p = front ++ x ∷ [] in
    let made = with_each t (parents_of front ++ front ∷ []) in
    let longer : length p ≡ length front + 1 = length-append front (x ∷ []) in
    let next : Step made (with_directory made p) p =
    one_step made p s.rooted (subst (λ (q : Path). IsDir made q) (sym (parent-snoc front x)) s.here) (no_new_file t made p (s.files p) plain (is_file (node_at made p)) refl) in
    let whole : with_each t (parents_of p ++ p ∷ []) ≡ with_directory made p =
    each-append t (parents_of p) p ∙ ap (λ (ps : List Path). with_directory (with_each t ps) p) (parents-snoc front x) in
    subst (λ (now : Tree). Step t now p) (sym whole) (record {
      rooted = next.rooted;
      here = next.here;
      kept = λ q d. next.kept q (s.kept q d);
      files = λ q f. s.files q (next.files q f);
      apart = λ q lt. next.apart q lt ∙ s.apart q (omega arith);
    })

pub made : (n : ℕ) (t : Tree) (p : Path) → length p ≤ n → IsRooted t → any_file t (parents_of p ++ p ∷ []) ≡ false → Step t (with_each t (parents_of p ++ p ∷ [])) p
made n t [] short r none = same_step t [] r refl
made zero t (part ∷ p) short r none = absurd (omega arith)
made (suc n) t (part ∷ p) short r none =
    let l = last_of part p in
    let shorter = ap length l.is ∙ length-append l.front (l.name ∷ []) in
    let both = or_none (any_file t (parents_of (part ∷ p))) (any_file t ((part ∷ p) ∷ [])) (sym (list_any-append (λ q. is_file (node_at t q)) (parents_of (part ∷ p)) ((part ∷ p) ∷ [])) ∙ none) in
    let above : any_file t (parents_of l.front ++ l.front ∷ []) ≡ false = ap (any_file t) (sym (ap parents_of l.is ∙ parents-snoc l.front l.name)) ∙ both.0 in
    let plain : is_file (node_at t (l.front ++ l.name ∷ [])) ≡ false = ap (λ (q : Path). is_file (node_at t q)) (sym l.is) ∙ (or_none (is_file (node_at t (part ∷ p))) false both.1).0 in
    subst (λ (q : Path). Step t (with_each t (parents_of q ++ q ∷ [])) q) (sym l.is) (snoc_step t l.front l.name (made n t l.front (omega arith) r above) plain)

-- ---- the calls
pub directories_rooted : (t after : Tree) (path : Path) → IsRooted t → with_directories t path ≡ Some after → IsRooted after
directories_rooted t after path r is = by_test (is_blocked t path || is_file (node_at t path)) refl is
  where
    by_test : (b : Bool) → (is_blocked t path || is_file (node_at t path)) ≡ b → cond b None (Some (with_each t (parents_of path ++ path ∷ []))) ≡ Some after → IsRooted after
    by_test true test e = absurd cc
    by_test false test e =
        let both = or_none (is_blocked t path) (is_file (node_at t path)) test in
        let none : any_file t (parents_of path ++ path ∷ []) ≡ false =
        list_any-append (λ q. is_file (node_at t q)) (parents_of path) (path ∷ []) ∙ ap₂ (λ a b. a || (b || false)) both.0 both.1 in
        let same : with_each t (parents_of path ++ path ∷ []) ≡ after = cc in
        subst IsRooted same (made (length path) t path (omega arith) r none).rooted

no_dir : (t now : Tree) (q : Path) → get now q ≡ get t q → IsDir now q → IsDir t q
no_dir t now q is d = ap (λ (o : Option TreeNode). is_directory (cond (is_root q) (Some Directory) o)) (sym is) ∙ d

write_at : (t : Tree) (front : Path) (x bytes : List ℕ) → IsRooted t → is_blocked t (front ++ x ∷ []) ≡ false → is_directory (node_at t (front ++ x ∷ [])) ≡ false
    → IsRooted (finmap.insert (with_each t (parents_of (front ++ x ∷ []))) (front ++ x ∷ []) (File bytes))
write_at t front x bytes r open_to plain =
    let p = front ++ x ∷ [] in
    let none : any_file t (parents_of front ++ front ∷ []) ≡ false = ap (any_file t) (sym (parents-snoc front x)) ∙ open_to in
    let s = made (length front) t front (omega arith) r none in
    let longer : length p ≡ length front + 1 = length-append front (x ∷ []) in
    let now = with_each t (parents_of front ++ front ∷ []) in
    let fresh : IsRooted (finmap.insert now p (File bytes)) =
    insert_rooted now p (File bytes) s.rooted (subst (λ (q : Path). IsDir now q) (sym (parent-snoc front x)) s.here) (λ d. let no : true ≡ false = sym (no_dir t now p (s.apart p (omega arith)) d) ∙ plain in absurd cc) in
    subst (λ (ps : List Path). IsRooted (finmap.insert (with_each t ps) p (File bytes))) (sym (parents-snoc front x)) fresh

pub written_rooted : (t after : Tree) (path : Path) (bytes : List ℕ) → IsRooted t → written t path bytes ≡ Some after → IsRooted after
written_rooted t after [] bytes r is = absurd cc
written_rooted t after (part ∷ path) bytes r is = by_test (is_blocked t (part ∷ path) || is_directory (node_at t (part ∷ path))) refl is
  where
    by_test : (b : Bool) → (is_blocked t (part ∷ path) || is_directory (node_at t (part ∷ path))) ≡ b
        → cond b None (Some (finmap.insert (with_each t (parents_of (part ∷ path))) (part ∷ path) (File bytes))) ≡ Some after → IsRooted after
    by_test true test e = absurd cc
    by_test false test e =
        let both = or_none (is_blocked t (part ∷ path)) (is_directory (node_at t (part ∷ path))) test in
        let l = last_of part path in
        let same : finmap.insert (with_each t (parents_of (part ∷ path))) (part ∷ path) (File bytes) ≡ after = cc in
        let there : IsRooted (finmap.insert (with_each t (parents_of (l.front ++ l.name ∷ []))) (l.front ++ l.name ∷ []) (File bytes)) =
        write_at t l.front l.name bytes r (ap (is_blocked t) (sym l.is) ∙ both.0) (ap (λ (q : Path). is_directory (node_at t q)) (sym l.is) ∙ both.1) in
        subst IsRooted same (subst (λ (q : Path). IsRooted (finmap.insert (with_each t (parents_of q)) q (File bytes))) (sym l.is) there)

node-remove : (t : Tree) (p q : Path) → node_at (finmap.remove t p) q ≡ cond (is_root q) (Some Directory) (cond (eq_by_cmp path_cmp q p) None (get t q))
node-remove t p q = ap (cond (is_root q) (Some Directory)) (get-remove path_cmp_total t p q)

both_kinds : (o : Option TreeNode) → is_file o ≡ true → is_directory o ≡ true → ⊥
both_kinds None f d = absurd cc
both_kinds (Some (File bytes)) f d = absurd cc
both_kinds (Some Directory) f d = absurd cc

kept_remove : (t : Tree) (p : Path) → IsFile t p → (q : Path) → IsDir t q → IsDir (finmap.remove t p) q
kept_remove t p f q d = ap is_directory (node-remove t p q) ∙ at (is_root q) (eq_by_cmp path_cmp q p) refl d
  where
    at : (r e : Bool) → eq_by_cmp path_cmp q p ≡ e → is_directory (cond r (Some Directory) (get t q)) ≡ true → is_directory (cond r (Some Directory) (cond e None (get t q))) ≡ true
    at true e is k = refl
    at false true is k = absurd (both_kinds (node_at t p) f (subst (λ (x : Path). IsDir t x) (tied q p is) d))
    at false false is k = k

left_over : (e : Bool) (o : Option TreeNode) → IsSome (cond e None o) → IsSome o
left_over true o h = absurd cc
left_over false o h = h

remove_rooted : (t : Tree) (p : Path) → IsRooted t → IsFile t p → IsRooted (finmap.remove t p)
remove_rooted t p r f =
    rooted_on t (finmap.remove t p) r (kept_remove t p f) (λ q there. inl (left_over (eq_by_cmp path_cmp q p) (get t q) (ap is_some (sym (get-remove path_cmp_total t p q)) ∙ there)))

pub file_removed_rooted : (t after : Tree) (path : Path) → IsRooted t → without_file t path ≡ Some after → IsRooted after
file_removed_rooted t after path r is = by_test (is_file (node_at t path)) refl is
  where
    by_test : (b : Bool) → is_file (node_at t path) ≡ b → cond b (Some (finmap.remove t path)) None ≡ Some after → IsRooted after
    by_test true test e = let same : finmap.remove t path ≡ after = cc in subst IsRooted same (remove_rooted t path r test)
    by_test false test e = absurd cc

dir_back : (t : Tree) (p q : Path) → IsDir (finmap.remove t p) q → IsDir t q
dir_back t p q d = at (is_root q) (eq_by_cmp path_cmp q p) (ap is_directory (sym (node-remove t p q)) ∙ d)
  where
    at : (r e : Bool) → is_directory (cond r (Some Directory) (cond e None (get t q))) ≡ true → is_directory (cond r (Some Directory) (get t q)) ≡ true
    at true e h = refl
    at false true h = absurd cc
    at false false h = h

is_file_in : (o : Option TreeNode) (bytes : List ℕ) → file_in o ≡ Some bytes → is_file o ≡ true
is_file_in None bytes e = absurd cc
is_file_in (Some (File b)) bytes e = refl
is_file_in (Some Directory) bytes e = absurd cc

not_not : (b : Bool) → not b ≡ false → b ≡ true
not_not true h = refl
not_not false h = absurd cc

pub renamed_rooted : (t after : Tree) (from to : Path) → IsRooted t → renamed t from to ≡ Some after → IsRooted after
renamed_rooted t after from to r is = by_file (file_in (node_at t from)) refl is
  where
    by_test : (bytes : List ℕ) (b : Bool) → IsFile t from → (is_directory (node_at t to) || not (is_directory (node_at t (parent_of to)))) ≡ b
        → cond b None (Some (finmap.insert (finmap.remove t from) to (File bytes))) ≡ Some after → IsRooted after
    by_test bytes true f test e = absurd cc
    by_test bytes false f test e =
        let both = or_none (is_directory (node_at t to)) (not (is_directory (node_at t (parent_of to)))) test in
        let same : finmap.insert (finmap.remove t from) to (File bytes) ≡ after = cc in
        subst IsRooted same (insert_rooted (finmap.remove t from) to (File bytes) (remove_rooted t from r f) (kept_remove t from f (parent_of to) (not_not (is_directory (node_at t (parent_of to))) both.1))
        (λ d. let no : true ≡ false = sym (dir_back t from to d) ∙ both.0 in absurd cc))

    by_file : (o : Option (List ℕ)) → file_in (node_at t from) ≡ o → moved t o from to ≡ Some after → IsRooted after
    by_file None at e = absurd cc
    by_file (Some bytes) at e = by_test bytes (is_directory (node_at t to) || not (is_directory (node_at t (parent_of to)))) (is_file_in (node_at t from) bytes at) refl e

-- ---- what is below a path goes
after_up : (a q : Path) (n : ℕ) → is_none (after_path a q) ≡ true → is_none (after_path a (take n q)) ≡ true
after_up [] q n h = absurd cc
after_up (part ∷ a) [] zero h = refl
after_up (part ∷ a) [] (suc n) h = refl
after_up (part ∷ a) (first ∷ q) zero h = refl
after_up (part ∷ a) (first ∷ q) (suc n) h = by_test (bytes_eq part first) (after_up a q n) h
  where
    by_test : (b : Bool) → (is_none (after_path a q) ≡ true → is_none (after_path a (take n q)) ≡ true) → is_none (cond b (after_path a q) None) ≡ true → is_none (cond b (after_path a (take n q)) None) ≡ true
    by_test true on k = on k
    by_test false on k = refl

retained : (t : Tree) (path : Path) → IsRooted t → IsRooted (finmap.retain_keys t (λ key. is_none (after_path path key)))
retained t path r = record { each = λ q there. at q (is_none (after_path path q)) refl (ap is_some (sym (get-kept q)) ∙ there) }
  where
    get-kept : (q : Path) → get (finmap.retain_keys t (λ key. is_none (after_path path key))) q ≡ cond (is_none (after_path path q)) (get t q) None
    get-kept q = get-retain_keys t (λ key. is_none (after_path path key)) q (λ x e. ap (λ (k : Path). is_none (after_path path k)) (sym (path_cmp_exact q x e)))

    at : (q : Path) (b : Bool) → is_none (after_path path q) ≡ b → IsSome (cond b (get t q) None) → IsDir (finmap.retain_keys t (λ key. is_none (after_path path key))) (parent_of q)
    at q false is there = absurd cc
    at q true is there =
        let up : is_none (after_path path (parent_of q)) ≡ true = after_up path q (length q - 1) is in
        ap (λ (o : Option TreeNode). is_directory (cond (is_root (parent_of q)) (Some Directory) o)) (get-kept (parent_of q) ∙ ap (λ (b : Bool). cond b (get t (parent_of q)) None) up) ∙ r.each q there

pub all_removed_rooted : (t after : Tree) (path : Path) → IsRooted t → without_all t path ≡ Some after → IsRooted after
all_removed_rooted t after path r is = by_test (is_directory (node_at t path)) is
  where
    by_test : (b : Bool) → cond b (Some (finmap.retain_keys t (λ key. is_none (after_path path key)))) None ≡ Some after → IsRooted after
    by_test false e = absurd cc
    by_test true e = let same : finmap.retain_keys t (λ key. is_none (after_path path key)) ≡ after = cc in subst IsRooted same (retained t path r)

pub none_rooted : IsRooted finmap.empty
none_rooted = record { each = λ q there. let no : false ≡ true = ap is_some (sym (get-empty path_cmp q)) ∙ there in absurd cc }
