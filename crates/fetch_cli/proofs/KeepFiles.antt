-- The keep file in a tree with no other file.
use Rattle.std.proofs.Common.{◌≡◌, ◌⊎◌, inl, inr, subst, take, length-append, ℕ, zero, suc, ◌+◌, ◌-◌, ◌/◌, ◌%◌, Bool, true, false, cond, not, ◌&&◌, ◌||◌, List, [], ◌∷◌, ◌++◌, length, map, Option, Some, None, Result, Ok, Err, refl, sym, ap, ◌∙◌, append_assoc, codes, arith}
use Rattle.std.specs.Prelude.{◌==◌, filter, is_some, slice_index, if◌then◌else◌}
use Rattle.std.specs.List.{list_all, list_any, filter_map, slice_split, slice_get, onto_first, count_by}
use Rattle.std.specs.Option.{option_map, option_and_then}
use Rattle.std.specs.FinMap as finmap
use Rattle.std.specs.FinMap.{get-insert, get-empty, contains_key-keys}
use Rattle.std.specs.Ordering.{nat_cmp, eq_by_cmp, is_eq, ordering_then}
use Rattle.std.specs.Cmp.Lexicographic.{slice_cmp, nat_list_cmp_total}
use Rattle.std.proofs.lemmas.Map.Text.{is_eq-slice_cmp}
use Rattle.std.proofs.Math.Seq.{take-append_seam}
use Rattle.std.specs.Cmp.{Equal-is, tied_itself}
use Rattle.std.specs.Str.{bytes_eq}
use Rattle.std.specs.declared.cmp.Ordering.{Ordering}
use Rattle.std.specs.declared.cmp.Ordering.TheVariants.{Less, Equal, Greater}
use Rattle.std.proofs.lemmas.Bool.{and_parts}
use Rattle.std.proofs.lemmas.List.Elements.{filter-append}
use Rattle.std.proofs.lemmas.List.Folds.{list_all-append}
use Rattle.std.proofs.lemmas.List.Splits.{length-slice_split}
use Rattle.hex.specs.Hex.{lower_digits, encode_with, encode_lower}
use Rattle.fetch_base.specs.Lines.{IsWithout}
use Rattle.fetch_files.specs.Paths.{Path, path_cmp, is_root, is_part, parts_of, parents_of, parent_of, after_path}
use Rattle.fetch_files.specs.Trees.{Tree, node_at, is_file, is_directory, is_blocked, with_directory, with_each, written, name_behind, names_in}
use Rattle.fetch_files.specs.declared.node.TreeNode.TheVariants.{File, Directory}
use Rattle.fetch_base.specs.Id.{bytes_of}
use Rattle.fetch_base.specs.declared.id.ObjectId.{ObjectId}
use Rattle.fetch_conversation.specs.Conversation.{answer_in}
use Rattle.fetch_conversation.specs.declared.fetch.Error.{Error as ReceiveError}
use Rattle.fetch_remote.specs.Fetching.{keep_made, keep_left_by, keep_left_in, taken_in}
use Rattle.fetch_remote.specs.Form.{Given}
use Rattle.fetch_remote.specs.Keeping.{made, with_keep}
use Rattle.fetch_remote.specs.Paths.{in_directory, keep_path}
use Rattle.fetch_remote.specs.Repositories.{State}
use Rattle.fetch_remote.specs.Applying.{pack_read, standing}
use Rattle.fetch_remote.specs.Stages.{Told, bound_of, conversation}
use Rattle.fetch_remote.specs.declared.fetching.fetch_error.FetchError.{FetchError}
use Rattle.fetch_cli.specs.KeepFiles.{packs_of, first_kept}
use Rattle.fetch_files.proofs.Rooted.{written_rooted, none_rooted}
use Rattle.fetch_files.proofs.TreeChanges.{path_cmp_total, path_cmp_exact}

-- ---- parts of paths

abbrev pieces : List ℕ → List (List ℕ)
pieces = slice_split (λ c. c == 47)

some_piece : (text : List ℕ) → pieces text ≡ [] → ⊥
some_piece text is = let n : length (pieces text) ≡ count_by (λ c. c == 47) text + 1 = length-slice_split (λ c. c == 47) text in let z : length (pieces text) ≡ 0 = ap length is in absurd (omega (arith, n, z))

onto_both : (x : ℕ) (ps qs : List (List ℕ)) → (ps ≡ [] → ⊥) → onto_first x (ps ++ qs) ≡ onto_first x ps ++ qs
onto_both x [] qs some = absurd (some refl)
onto_both x (p ∷ ps) qs some = refl

pieces_by : (b : Bool) (x : ℕ) (text more : List ℕ) → pieces (text ++ 47 ∷ more) ≡ pieces text ++ pieces more
    → cond b ([] ∷ pieces (text ++ 47 ∷ more)) (onto_first x (pieces (text ++ 47 ∷ more))) ≡ cond b ([] ∷ pieces text) (onto_first x (pieces text)) ++ pieces more
pieces_by true x text more again = ap (λ (ps : List (List ℕ)). [] ∷ ps) again
pieces_by false x text more again = ap (onto_first x) again ∙ onto_both x (pieces text) (pieces more) (some_piece text)

pieces-slash : (text more : List ℕ) → pieces (text ++ 47 ∷ more) ≡ pieces text ++ pieces more
pieces-slash [] more = refl
pieces-slash (x ∷ text) more = pieces_by (x == 47) x text more (pieces-slash text more)

parts-slash : (text more : List ℕ) → parts_of (text ++ 47 ∷ more) ≡ parts_of text ++ parts_of more
parts-slash text more = ap (filter is_part) (pieces-slash text more) ∙ filter-append is_part (pieces text) (pieces more)

one_by : (b : Bool) (x : ℕ) (text : List ℕ) → (x == 47) ≡ b → IsWithout 47 (x ∷ text) → pieces text ≡ text ∷ [] → cond b ([] ∷ pieces text) (onto_first x (pieces text)) ≡ (x ∷ text) ∷ []
one_by true x text is none again = let k = (and_parts (not (x == 47)) (list_all (λ c. not (c == 47)) text) none).0 in let h : not true ≡ true = rw is at k in absurd (cc)
one_by false x text is none again = ap (onto_first x) again

one_piece : (text : List ℕ) → IsWithout 47 text → pieces text ≡ text ∷ []
one_piece [] none = refl
one_piece (x ∷ text) none = one_by (x == 47) x text refl none (one_piece text (and_parts (not (x == 47)) (list_all (λ c. not (c == 47)) text) none).1)

one_part : (x : ℕ) (text : List ℕ) → IsWithout 47 (x ∷ text) → parts_of (x ∷ text) ≡ (x ∷ text) ∷ []
one_part x text none = ap (filter is_part) (one_piece (x ∷ text) none)

-- ---- hex digits

digit_at : (p : ℕ → Bool) (t : List ℕ) (k : ℕ) → list_all p t ≡ true → p 0 ≡ true → p (slice_index t k) ≡ true
digit_at p [] k all none = none
digit_at p (x ∷ t) zero all none = (and_parts (p x) (list_all p t) all).0
digit_at p (x ∷ t) (suc k) all none = digit_at p t k (and_parts (p x) (list_all p t) all).1 none

digits_all : (p : ℕ → Bool) (bytes : List ℕ) → list_all p lower_digits ≡ true → p 0 ≡ true → list_all p (encode_lower bytes) ≡ true
unfolding encode_with
digits_all p [] all none = refl
digits_all p (b ∷ bytes) all none =
    ap (λ (t : Bool). t && (p (slice_index lower_digits (b % 16)) && list_all p (encode_lower bytes))) (digit_at p lower_digits (b / 16) all none)
    ∙ ap (λ (t : Bool). t && list_all p (encode_lower bytes)) (digit_at p lower_digits (b % 16) all none) ∙ digits_all p bytes all none

pub no_slash : (bytes : List ℕ) → IsWithout 47 (encode_lower bytes)
no_slash bytes = digits_all (λ b. not (b == 47)) bytes refl refl

-- ---- the first of what is found

abbrev is_among : Path → List Path → Bool
is_among q paths = list_any (eq_by_cmp path_cmp q) paths

tied : (q p : Path) → eq_by_cmp path_cmp q p ≡ true → q ≡ p
tied q p e = path_cmp_exact q p ((Equal-is (path_cmp q p)).0 e)

among_later : (q k : Path) (ks : List Path) → is_among q ks ≡ true → is_among q (k ∷ ks) ≡ true
among_later q k ks h = ap (λ (b : Bool). eq_by_cmp path_cmp q k || b) h ∙ or_yes (eq_by_cmp path_cmp q k)
  where
    or_yes : (b : Bool) → (b || true) ≡ true
    or_yes true = refl
    or_yes false = refl

among_first : (k : Path) (ks : List Path) → is_among k (k ∷ ks) ≡ true
among_first k ks = ap (λ (b : Bool). b || is_among k ks) (ap is_eq (tied_itself path_cmp_total k))

module _ (f : Path → Option (List ℕ)) (p : Path) (name : List ℕ) (found : f p ≡ Some name) where
  apart : (k : Path) (b : Bool) → eq_by_cmp path_cmp p k ≡ b → f k ≡ None → b ≡ false
  apart k true is none = let h : Some name ≡ None = sym found ∙ ap f (tied p k is) ∙ none in absurd (cc)
  apart k false is none = refl

  first_by : (k : Path) (ks : List Path) (o : Option (List ℕ)) → f k ≡ o → (o ≡ None) ⊎ (o ≡ Some name) → (is_among p ks ≡ true → slice_get (filter_map f ks) 0 ≡ Some name) → is_among p (k ∷ ks) ≡ true → slice_get (filter_map f (k ∷ ks)) 0 ≡ Some name
  first_by k ks (Some other) is (inl none) again there = absurd (cc)
  first_by k ks (Some other) is (inr same) again there = rw is same
  first_by k ks None is which again there =
      let no = apart k (eq_by_cmp path_cmp p k) refl is in
      let later : is_among p ks ≡ true = ap (λ (b : Bool). b || is_among p ks) (sym no) ∙ there in
      rw is (again later)

  first_is : (ks : List Path) → ((q : Path) → is_among q ks ≡ true → (f q ≡ None) ⊎ (f q ≡ Some name)) → is_among p ks ≡ true → slice_get (filter_map f ks) 0 ≡ Some name
  first_is [] each there = absurd (cc)
  first_is (k ∷ ks) each there = first_by k ks (f k) refl (each k (among_first k ks)) (λ later. first_is ks (λ q h. each q (among_later q k ks h)) later) there

-- ---- what stands in a tree with one file

either_true : (a b : Bool) → (a || b) ≡ true → (a ≡ true) ⊎ (b ≡ true)
either_true true b h = inl refl
either_true false b h = inr h

placed_by : (b e : Bool) (m : Tree) (x q : Path) → is_some (node_at m x) ≡ b → eq_by_cmp path_cmp q x ≡ e → is_some (finmap.get (with_directory m x) q) ≡ true → (is_some (finmap.get m q) ≡ true) ⊎ (e ≡ true)
placed_by b true m x q is at there = inr refl
placed_by true false m x q is at there = inl (rw is at there)
placed_by false false m x q is at there = inl (rw (is, get-insert path_cmp_total m x Directory q, at) at there)

placed : (m : Tree) (paths : List Path) (q : Path) → is_some (finmap.get (with_each m paths) q) ≡ true → (is_some (finmap.get m q) ≡ true) ⊎ (is_among q paths ≡ true)
placed m [] q there = inl there
placed m (x ∷ paths) q there = by (placed (with_directory m x) paths q there)
  where
    head : (is_some (finmap.get m q) ≡ true) ⊎ (eq_by_cmp path_cmp q x ≡ true) → (is_some (finmap.get m q) ≡ true) ⊎ (is_among q (x ∷ paths) ≡ true)
    head (inl h) = inl h
    head (inr h) = inr (ap (λ (b : Bool). b || is_among q paths) h)

    by : (is_some (finmap.get (with_directory m x) q) ≡ true) ⊎ (is_among q paths ≡ true) → (is_some (finmap.get m q) ≡ true) ⊎ (is_among q (x ∷ paths) ≡ true)
    by (inl h) = head (placed_by (is_some (node_at m x)) (eq_by_cmp path_cmp q x) m x q refl refl h)
    by (inr h) = inr (among_later q x paths h)

-- ---- a path and those above it

then_both : (r s : Ordering) → is_eq (ordering_then r s) ≡ true → is_eq s ≡ true
then_both Less s h = absurd (cc)
then_both Equal s h = h
then_both Greater s h = absurd (cc)

behind_each : (part x : List ℕ) (q : Path) (ps : List Path) → is_among (x ∷ q) (map (λ k. part ∷ k) ps) ≡ true → is_among q ps ≡ true
behind_each part x q [] h = absurd (cc)
behind_each part x q (k ∷ ps) h = by (λ later. behind_each part x q ps later) (either_true (eq_by_cmp path_cmp (x ∷ q) (part ∷ k)) _ h)
  where
    by : (is_among (x ∷ q) (map (λ k. part ∷ k) ps) ≡ true → is_among q ps ≡ true) → (eq_by_cmp path_cmp (x ∷ q) (part ∷ k) ≡ true) ⊎ (is_among (x ∷ q) (map (λ k. part ∷ k) ps) ≡ true) → is_among q (k ∷ ps) ≡ true
    by again (inl at) = ap (λ (b : Bool). b || is_among q ps) (then_both (slice_cmp nat_cmp x part) (path_cmp q k) at)
    by again (inr later) = among_later q k ps (again later)

-- nothing is a name after a path, of those above one that is a name longer
none_above : (d : Path) (name : List ℕ) (q : Path) → is_among q (parents_of (d ++ name ∷ [])) ≡ true → name_behind (after_path d q) ≡ None
none_above [] name [] h = refl
none_above [] name (x ∷ q) h = absurd (cc)
none_above (part ∷ d) name [] h = refl
none_above (part ∷ d) name (x ∷ q) h = by (none_above d name q (behind_each part x q (parents_of (d ++ name ∷ [])) h)) (bytes_eq part x)
  where
    by : name_behind (after_path d q) ≡ None → (b : Bool) → name_behind (if b then after_path d q else None) ≡ None
    by again true = again
    by again false = refl

same_bytes : (part : List ℕ) → bytes_eq part part ≡ true
same_bytes part = sym (is_eq-slice_cmp part part) ∙ ap is_eq (tied_itself nat_list_cmp_total part)

name_after : (d : Path) (name : List ℕ) → after_path d (d ++ name ∷ []) ≡ Some (name ∷ [])
name_after [] name = refl
name_after (part ∷ d) name = ap (λ (b : Bool). if b then after_path d (d ++ name ∷ []) else None) (same_bytes part) ∙ name_after d name

parent_is : (d : Path) (name : List ℕ) → parent_of (d ++ name ∷ []) ≡ d
parent_is d name =
    let n : length (d ++ name ∷ []) - 1 ≡ length d = let k : length (d ++ name ∷ []) ≡ length d + 1 = length-append d (name ∷ []) in omega (arith, k) in
    ap (λ (i : ℕ). take i (d ++ name ∷ [])) n ∙ take-append_seam d (name ∷ [])

not_none : (d : Path) (name : List ℕ) → is_root (d ++ name ∷ []) ≡ false
not_none [] name = refl
not_none (part ∷ d) name = refl

-- ---- a file written into nothing

record IsAlone (d : Path) (name : List ℕ) (t : Tree) : Type 0 where
  is : t ≡ finmap.insert (with_each finmap.empty (parents_of (d ++ name ∷ []))) (d ++ name ∷ []) (File [])

alone_by : (b : Bool) (d : Path) (name : List ℕ) (t : Tree) → (if b then None else Some (finmap.insert (with_each finmap.empty (parents_of (d ++ name ∷ []))) (d ++ name ∷ []) (File []))) ≡ Some t → IsAlone d name t
alone_by true d name t is = absurd (cc)
alone_by false d name t is = record { is = cc }

alone : (d : Path) (name : List ℕ) (t : Tree) → written finmap.empty (d ++ name ∷ []) [] ≡ Some t → IsAlone d name t
alone d name t is = alone_by (is_blocked finmap.empty (d ++ name ∷ []) || is_directory (node_at finmap.empty (d ++ name ∷ []))) d name t is

there_is : (d : Path) (name : List ℕ) (t : Tree) → IsAlone d name t → finmap.get t (d ++ name ∷ []) ≡ Some (File [])
there_is d name t a =
    let p = d ++ name ∷ [] in
    ap (λ (m : Tree). finmap.get m p) a.is ∙ get-insert path_cmp_total (with_each finmap.empty (parents_of p)) p (File []) p
    ∙ ap (λ (b : Bool). cond b (Some (File [])) (finmap.get (with_each finmap.empty (parents_of p)) p)) (ap is_eq (tied_itself path_cmp_total p))

each_is : (d : Path) (name : List ℕ) (t : Tree) → IsAlone d name t → (q : Path) → is_some (finmap.get t q) ≡ true → (name_behind (after_path d q) ≡ None) ⊎ (name_behind (after_path d q) ≡ Some name)
each_is d name t a q there = by (eq_by_cmp path_cmp q p) refl (ap is_some (sym (ap (λ (m : Tree). finmap.get m q) a.is ∙ get-insert path_cmp_total above p (File []) q)) ∙ there)
  where
    p : Path
    p = d ++ name ∷ []

    above : Tree
    above = with_each finmap.empty (parents_of p)

    nothing : Tree
    nothing = finmap.empty

    of_above : (is_some (finmap.get nothing q) ≡ true) ⊎ (is_among q (parents_of p) ≡ true) → name_behind (after_path d q) ≡ None
    of_above (inl h) = let none : finmap.get nothing q ≡ None = get-empty path_cmp q in let k : false ≡ true = sym (ap is_some none) ∙ h in absurd (cc)
    of_above (inr h) = none_above d name q h

    by : (b : Bool) → eq_by_cmp path_cmp q p ≡ b → is_some (cond b (Some (File [])) (finmap.get above q)) ≡ true → (name_behind (after_path d q) ≡ None) ⊎ (name_behind (after_path d q) ≡ Some name)
    by true is h = inr (ap (λ (x : Path). name_behind (after_path d x)) (tied q p is) ∙ ap name_behind (name_after d name))
    by false is h = inl (of_above (placed finmap.empty (parents_of p) q h))

-- It is the first name in its directory.
pub first_name : (d : Path) (name : List ℕ) (t : Tree) → written finmap.empty (d ++ name ∷ []) [] ≡ Some t → option_and_then (λ names. slice_get names 0) (names_in t d) ≡ Some name
first_name d name t is =
    let p = d ++ name ∷ [] in
    let a = alone d name t is in
    let rooted = written_rooted finmap.empty t p [] none_rooted is in
    let stands : is_some (finmap.get t p) ≡ true = ap is_some (there_is d name t a) in
    let dir : is_directory (node_at t d) ≡ true = subst (λ (x : Path). is_directory (node_at t x) ≡ true) (parent_is d name) (rooted.each p stands) in
    let first = first_is (λ q. name_behind (after_path d q)) p name (ap name_behind (name_after d name)) (finmap.keys t) (λ q h. each_is d name t a q (contains_key-keys t q ∙ h)) (sym (contains_key-keys t p) ∙ stands) in
    rw dir first

-- There is none where nothing stands.
pub no_name : (d : Path) (name : List ℕ) (t : Tree) → t ≡ finmap.empty → option_and_then (λ names. slice_get names 0) (names_in t (d ++ name ∷ [])) ≡ None
no_name d name t is =
    let p = d ++ name ∷ [] in
    let nothing : finmap.get t p ≡ None = ap (λ (m : Tree). finmap.get m p) is ∙ get-empty path_cmp p in
    let none : node_at t p ≡ None = ap (λ (b : Bool). if b then Some Directory else finmap.get t p) (not_none d name) ∙ nothing in
    rw none refl

-- ---- the paths of the keep file

-- the directory of the packs
packs_parts : (dir : List ℕ) → parts_of (dir ++ codes "/" ++ codes "objects/pack") ≡ (parts_of dir ++ codes "objects" ∷ []) ++ codes "pack" ∷ []
packs_parts dir = ap parts_of (append_assoc dir (codes "/") (codes "objects/pack")) ∙ parts-slash dir (codes "objects/pack") ∙ sym (append_assoc (parts_of dir) (codes "objects" ∷ []) (codes "pack" ∷ []))

pub file_parts : (dir name : List ℕ) (c : ℕ) → IsWithout 47 (c ∷ name) → parts_of (dir ++ codes "/" ++ c ∷ name) ≡ parts_of dir ++ (c ∷ name) ∷ []
file_parts dir name c none = ap parts_of (append_assoc dir (codes "/") (c ∷ name)) ∙ parts-slash dir (c ∷ name) ∙ ap (λ (ps : Path). parts_of dir ++ ps) (one_part c name none)

-- ---- nothing is in the way

module _ where
  abbrev nothing : Tree
  nothing = finmap.empty

  plain_by : (b : Bool) (q : Path) → is_file (if b then Some Directory else finmap.get nothing q) ≡ false
  plain_by true q = refl
  plain_by false q = ap is_file (get-empty path_cmp q)

  none_blocked : (ps : List Path) → list_any (λ above. is_file (node_at nothing above)) ps ≡ false
  none_blocked [] = refl
  none_blocked (q ∷ ps) = ap (λ (b : Bool). b || list_any (λ above. is_file (node_at nothing above)) ps) (plain_by (is_root q) q) ∙ none_blocked ps

  written_once : (d : Path) (name : List ℕ) → written nothing (d ++ name ∷ []) [] ≡ None → ⊥
  written_once d name is =
      let p = d ++ name ∷ [] in
      let none : node_at nothing p ≡ None = ap (λ (b : Bool). if b then Some Directory else finmap.get nothing p) (not_none d name) ∙ get-empty path_cmp p in
      let free : (is_blocked nothing p || is_directory (node_at nothing p)) ≡ false = ap (λ (b : Bool). b || is_directory (node_at nothing p)) (none_blocked (parents_of p)) ∙ ap is_directory none in
      let k : Some (finmap.insert (with_each nothing (parents_of p)) p (File [])) ≡ None = sym (ap (λ (b : Bool). if b then None else Some (finmap.insert (with_each nothing (parents_of p)) p (File []))) free) ∙ is in
      absurd (cc)

-- ---- the keep file of a digest

-- its name, after the first byte
name_of : ObjectId → List ℕ
name_of digest = codes "ack-" ++ encode_lower (bytes_of digest) ++ codes ".keep"

named : (digest : ObjectId) → IsWithout 47 (112 ∷ name_of digest)
unfolding name_of
named digest =
    list_all-append (λ b. not (b == 47)) (codes "pack-" ++ encode_lower (bytes_of digest)) (codes ".keep")
    ∙ ap (λ (t : Bool). t && list_all (λ b. not (b == 47)) (codes ".keep"))
    (list_all-append (λ b. not (b == 47)) (codes "pack-") (encode_lower (bytes_of digest)) ∙ no_slash (bytes_of digest))

keep_is : (dir : List ℕ) (digest : ObjectId) → keep_path dir digest ≡ in_directory (packs_of dir) (112 ∷ name_of digest)
unfolding keep_path name_of
keep_is dir digest =
    sym (append_assoc (dir ++ codes "/" ++ codes "objects/pack") (codes "/") (112 ∷ name_of digest) ∙ append_assoc (dir ++ codes "/") (codes "objects/pack") (codes "/" ++ 112 ∷ name_of digest))

keep_parts : (dir : List ℕ) (digest : ObjectId) → parts_of (keep_path dir digest) ≡ parts_of (packs_of dir) ++ (112 ∷ name_of digest) ∷ []
keep_parts dir digest = ap parts_of (keep_is dir digest) ∙ file_parts (packs_of dir) (name_of digest) 112 (named digest)

kept_stands : (dir : List ℕ) (digest : ObjectId) (t : Tree) → written finmap.empty (parts_of (keep_path dir digest)) [] ≡ Some t → first_kept dir t ≡ Some (keep_path dir digest)
unfolding first_kept
kept_stands dir digest t is =
    let there = rw (keep_parts dir digest) at is in
    ap (option_map (in_directory (packs_of dir))) (first_name (parts_of (packs_of dir)) (112 ∷ name_of digest) t there) ∙ ap (λ (path : List ℕ). Some path) (sym (keep_is dir digest))

none_stands : (dir : List ℕ) (t : Tree) → t ≡ finmap.empty → first_kept dir t ≡ None
unfolding first_kept
none_stands dir t is =
    ap (λ (d : Path). option_map (in_directory (packs_of dir)) (option_and_then (λ names. slice_get names 0) (names_in t d))) (packs_parts dir)
    ∙ ap (option_map (in_directory (packs_of dir))) (no_name (parts_of dir ++ codes "objects" ∷ []) (codes "pack") t is)

-- ---- the keep file of a fetch

-- it is one of a digest
abbrev IsKeep : List ℕ → List ℕ → Type 0
IsKeep dir path = (digest : ObjectId) × (keep_path dir digest ≡ path)

made_is_keep : (dir path : List ℕ) (pack : Option (ℕ × ObjectId)) → made dir pack ≡ Some path → IsKeep dir path
made_is_keep dir path None is = absurd (cc)
made_is_keep dir path (Some pack) is = (pack.1, cc)

-- files that begin with nothing have nothing in the way of it
pub never_unmade : (g : Given) (t : Told) (path : List ℕ) → keep_made g t ≡ Some path → written finmap.empty (parts_of path) [] ≡ None → ⊥
never_unmade g t path is none =
    let dir = g.setup.settings.git_dir in
    let k = made_is_keep dir path (pack_read g.options.dry_run t.received) is in
    let there = rw (← k.1, keep_parts dir k.0) at none in
    written_once (parts_of (packs_of dir)) (112 ∷ name_of k.0) there

left_is_keep : (g : Given) (s : State) (stream path : List ℕ) → keep_left_in g s stream ≡ Some path → IsKeep g.setup.settings.git_dir path
unfolding keep_left_in
left_is_keep g s stream path = by (answer_in (bound_of g) (conversation g s) stream)
  where
    standing_by : (took : Result State ReceiveError) (t : Told) → standing took (keep_made g t) ≡ Some path → IsKeep g.setup.settings.git_dir path
    standing_by (Ok now) t is = made_is_keep g.setup.settings.git_dir path (pack_read g.options.dry_run t.received) is
    standing_by (Err e) t is = absurd (cc)

    by : (answer : Result (Told × List ℕ) FetchError) → keep_left_by g s answer ≡ Some path → IsKeep g.setup.settings.git_dir path
    by (Err e) is = absurd (cc)
    by (Ok x) is = standing_by (taken_in g s x.0) x.0 is

-- what stands is what the refusal left
pub kept_is : (g : Given) (s : State) (stream : List ℕ) (t : Tree) → with_keep (keep_left_in g s stream) finmap.empty ≡ Some t → first_kept g.setup.settings.git_dir t ≡ keep_left_in g s stream
kept_is g s stream t = by (keep_left_in g s stream) refl
  where
    dir : List ℕ
    dir = g.setup.settings.git_dir

    by : (keep : Option (List ℕ)) → keep_left_in g s stream ≡ keep → with_keep keep finmap.empty ≡ Some t → first_kept dir t ≡ keep
    by None same is = none_stands dir t (cc)
    by (Some path) same is =
        let k = left_is_keep g s stream path same in
        let there : written finmap.empty (parts_of (keep_path dir k.0)) [] ≡ Some t = rw k.1 is in
        kept_stands dir k.0 t there ∙ ap (λ (x : List ℕ). Some x) k.1
