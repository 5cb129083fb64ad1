-- A keep file is in nothing's way in a tree with nothing in it.
use Rattle.std.proofs.Common.{◌≡◌, ℕ, Bool, true, false, cond, ◌||◌, codes, List, [], ◌∷◌, ◌++◌, Option, Some, None, refl, sym, ap, ◌∙◌}
use Rattle.std.specs.Prelude.{◌==◌, filter, if◌then◌else◌}
use Rattle.std.specs.FinMap as finmap
use Rattle.std.specs.FinMap.{get-empty}
use Rattle.std.specs.List.{list_any, slice_split, onto_first}
use Rattle.hex.specs.Hex.{encode_lower}
use Rattle.fetch_base.specs.Id.{bytes_of}
use Rattle.fetch_files.specs.Paths.{Path, path_cmp, is_root, is_part, parts_of, parents_of}
use Rattle.fetch_files.specs.Trees.{Tree, node_at, is_file, is_directory, is_blocked, with_each, written}
use Rattle.fetch_base.specs.declared.id.ObjectId.{ObjectId}
use Rattle.fetch_files.specs.declared.node.TreeNode.TheVariants.{File, Directory}
use Rattle.fetch_remote.specs.Keeping.{made}
use Rattle.fetch_remote.specs.Paths.{keep_path}

-- ---- a path with something between slashes isn't the root's

part_first : (x : ℕ) (ps : List (List ℕ)) → is_root (filter is_part (onto_first x ps)) ≡ false
part_first x [] = refl
part_first x (p ∷ ps) = refl

part_by : (b : Bool) (x : ℕ) (ps : List (List ℕ)) → is_root (filter is_part ps) ≡ false → is_root (filter is_part (cond b ([] ∷ ps) (onto_first x ps))) ≡ false
part_by true x ps h = h
part_by false x ps h = part_first x ps

some_part : (text more : List ℕ) → is_root (parts_of (text ++ 111 ∷ more)) ≡ false
some_part [] more = part_first 111 (slice_split (λ c. c == 47) more)
some_part (x ∷ text) more = part_by (x == 47) x (slice_split (λ c. c == 47) (text ++ 111 ∷ more)) (some_part text more)

keep_part : (dir : List ℕ) (digest : ObjectId) → is_root (parts_of (keep_path dir digest)) ≡ false
unfolding keep_path
keep_part dir digest =
    let rest = codes "bjects/pack/pack-" ++ encode_lower (bytes_of digest) ++ codes ".keep" in
    some_part (dir ++ codes "/") rest

-- ---- nothing is in the way

abbrev nothing : Tree
nothing = finmap.empty

plain_by : (b : Bool) (q : Path) → is_file (if b then Some Directory else finmap.get nothing q) ≡ false
plain_by true q = refl
plain_by false q = ap is_file (get-empty path_cmp q)

none_blocked : (ps : List Path) → list_any (λ above. is_file (node_at nothing above)) ps ≡ false
none_blocked [] = refl
none_blocked (q ∷ ps) = ap (λ (b : Bool). b || list_any (λ above. is_file (node_at nothing above)) ps) (plain_by (is_root q) q) ∙ none_blocked ps

written_once : (p : Path) → is_root p ≡ false → written nothing p [] ≡ None → ⊥
written_once p low is =
    let none : node_at nothing p ≡ None = ap (λ (b : Bool). if b then Some Directory else finmap.get nothing p) low ∙ get-empty path_cmp p in
    let free : (is_blocked nothing p || is_directory (node_at nothing p)) ≡ false = ap (λ (b : Bool). b || is_directory (node_at nothing p)) (none_blocked (parents_of p)) ∙ ap is_directory none in
    let k : Some (finmap.insert (with_each nothing (parents_of p)) p (File [])) ≡ None = sym (ap (λ (b : Bool). if b then None else Some (finmap.insert (with_each nothing (parents_of p)) p (File []))) free) ∙ is in
    absurd (cc)

-- the keep file of a pack can be made there
pub never_unmade : (dir path : List ℕ) (pack : Option (ℕ × ObjectId)) → made dir pack ≡ Some path → written nothing (parts_of path) [] ≡ None → ⊥
never_unmade dir path None is none = absurd (cc)
never_unmade dir path (Some pack) is none =
    let e : keep_path dir pack.1 ≡ path = cc in
    written_once (parts_of (keep_path dir pack.1)) (keep_part dir pack.1) (ap (λ (t : List ℕ). written nothing (parts_of t) []) e ∙ none)
