-- The two halves of a line, and how long its texts are.
use Rattle.std.proofs.Common.{◌≡◌, ℕ, zero, suc, ◌+◌, ◌*◌, ◌-◌, ◌/◌, ◌<◌, ◌≤◌, ◌^◌, List, [], ◌∷◌, ◌++◌, length, map, codes, decimal, Option, Some, None, Result, Ok, Err, refl, ap, sym, ◌∙◌, length-append, arith}
use Rattle.std.specs.Prelude.{IfOk, IfSome}
use Rattle.std.specs.List.{AllByRecursion, range_with_len}
use Rattle.std.proofs.lemmas.Fmt.{length-decimal-le_succ}
use Rattle.std.proofs.lemmas.List.{map-append, length-map}
use Rattle.std.proofs.lemmas.List.FromFn.{length-map-range_with_len}
use Rattle.hex.specs.Hex.{lower_digits}
use Rattle.hex.proofs.HexLemmas.{length-encode_with}
use Rattle.fetch_base.specs.Hashing.{header}
use Rattle.fetch_base.specs.Digits.{hex_of}
use Rattle.fetch_base.specs.Id.{bytes_of}
use Rattle.fetch_objects.specs.Objects.{Stored}
use Rattle.fetch_store.specs.Stores.{AreOf, Entries}
use Rattle.fetch_base.specs.declared.id.Kind.TheVariants.{Sha1}
use Rattle.fetch_base.specs.declared.id.ObjectId.{ObjectId}
use Rattle.fetch_base.specs.declared.object_kind.ObjectKind.TheVariants.{Commit, Tree}
use Rattle.fetch_base.proofs.Digests.{length-digest}
use Rattle.fetch_pack.specs.Records.{Fits, pack_text, payloads_of, payload_of}
use Rattle.fetch_pack.specs.declared.version.PackVersion.TheVariants.{V1}
use Rattle.fetch_bench.specs.Commits.{under_its_id, signature, text_of, commit_after, commits_after, line_of, tip, tree_id}
use Rattle.fetch_bench.specs.Served.{branches, stream_of}
use Rattle.fetch_bench.specs.Generated.{second_half, server_stream}
use Rattle.fetch_bench.proofs.Texts.{parent_lines, text_is}
use Rattle.fetch_objects.specs.Texts.{line}

range_joined : (a m k : ℕ) → range_with_len a (m + k) ≡ range_with_len a m ++ range_with_len (a + m) k
range_joined a zero k = let none : zero + k ≡ k = omega arith in let same : a + zero ≡ a = omega arith in rw (none, same) refl
range_joined a (suc m) k =
    let more : suc m + k ≡ suc (m + k) = omega arith in
    let on : (a + 1) + m ≡ a + suc m = omega arith in
    ap (range_with_len a) more ∙ ap (λ (l : List ℕ). a ∷ l) (range_joined (a + 1) m k ∙ ap (λ (b : ℕ). range_with_len (a + 1) m ++ range_with_len b k) on)

-- some commits, and those after them
pub commits_joined : (a m k : ℕ) → commits_after a (m + k) ≡ commits_after a m ++ commits_after (a + m) k
commits_joined a m k = ap (map commit_after) (range_joined a m k) ∙ map-append commit_after (range_with_len a m) (range_with_len (a + m) k)

pub without_ids : (os : List Stored) → map (λ (e : ObjectId × Stored). e.1) (map under_its_id os) ≡ os
without_ids [] = refl
without_ids (o ∷ os) = ap (λ (l : List Stored). o ∷ l) (without_ids os)

-- ---- lengths

length-digits : (message : ObjectId) → length (hex_of message) ≡ 2 * length (bytes_of message)
length-digits id = length-encode_with lower_digits (bytes_of id)

length-line : (text : List ℕ) → length (line text) ≡ length text + 1
length-line text = length-append text (10 ∷ [])

length-signature : (n : ℕ) → n < 2 ^ 64 → length (signature n) ≤ n + 15
unfolding signature
length-signature n small =
    let all : length (codes "A <a@x> " ++ decimal n ++ codes " +0000") ≡ 8 + length (decimal n) + 6 =
    length-append (codes "A <a@x> " ++ decimal n) (codes " +0000") ∙ ap (λ (k : ℕ). k + 6) (length-append (codes "A <a@x> ") (decimal n)) in
    omega (arith, all, length-decimal-le_succ n small)

length-parents : (parent : Option ObjectId) → IfSome parent (λ id. length (bytes_of id) ≡ 20) → length (parent_lines parent) ≤ 48
length-parents None whole = omega arith
length-parents (Some id) whole =
    let text = codes "parent " ++ hex_of id in
    let all : length (line text ++ []) ≡ length (line text) + 0 = length-append (line text) [] in
    let parts : length text ≡ 7 + length (hex_of id) = length-append (codes "parent ") (hex_of id) in
    let len : length (parent_lines (Some id)) ≤ 48 = omega (arith, all, parts, length-line text, length-digits id, whole) in
    len

-- the parts of a text are no longer than these
length-parts : (a b c d e : List ℕ) → length (a ++ (b ++ (c ++ (d ++ e)))) ≡ length a + (length b + (length c + (length d + length e)))
length-parts a b c d e = omega (arith, length-append a (b ++ (c ++ (d ++ e))), length-append b (c ++ (d ++ e)), length-append c (d ++ e), length-append d e)

-- a commit is short
short_text : (parent : Option ObjectId) (n : ℕ) → IfSome parent (λ id. length (bytes_of id) ≡ 20) → n ≤ 100000 → length (text_of parent n) < 2 ^ 32
short_text parent n whole small =
    let tree = codes "tree " ++ hex_of tree_id in
    let author = codes "author " ++ signature n in
    let committer = codes "committer " ++ signature n in
    let message = codes "\n" ++ decimal n in
    let all : length (text_of parent n) ≡ length (line tree) + (length (parent_lines parent) + (length (line author) + (length (line committer) + length (line message)))) =
    ap length (text_is parent n) ∙ length-parts (line tree) (parent_lines parent) (line author) (line committer) (line message) in
    let t : length tree ≡ 5 + length (hex_of tree_id) = length-append (codes "tree ") (hex_of tree_id) in
    let w : length (bytes_of tree_id) ≡ 20 = length-digest Sha1 (header Tree 0 ++ []) in
    let a : length author ≡ 7 + length (signature n) = length-append (codes "author ") (signature n) in
    let c : length committer ≡ 10 + length (signature n) = length-append (codes "committer ") (signature n) in
    let m : length message ≡ 1 + length (decimal n) = length-append (codes "\n") (decimal n) in
    let fits : n < 2 ^ 64 = omega arith in
    omega (arith, all, t, w, a, c, m, length-line tree, length-line author, length-line committer, length-line message, length-digits tree_id, length-parents parent whole, length-signature n fits, length-decimal-le_succ n fits)

whole_tip : (n : ℕ) → IfSome (tip n) (λ id. length (bytes_of id) ≡ 20)
whole_tip zero = tt
whole_tip (suc n) = length-digest Sha1 (header Commit (length (text_of (tip n) (n + 1))) ++ text_of (tip n) (n + 1))

each_short : (a count : ℕ) → a + count ≤ 100000 → AllByRecursion (λ p. length p.bytes < 2 ^ 32) (payloads_of (commits_after a count))
each_short a zero few = tt
each_short a (suc count) few = (short_text (tip a) (a + 1) (whole_tip a) (omega arith), each_short (a + 1) count (omega arith))

-- the commits of a line have a pack
pub commits_fit : (a count : ℕ) → a + count ≤ 100000 → Fits V1 (payloads_of (commits_after a count))
commits_fit a count few =
    let many : length (payloads_of (commits_after a count)) ≡ count = length-map (commits_after a count) payload_of ∙ length-map-range_with_len commit_after a count in
    record { count = omega (arith, many); each = each_short a count few }

-- ---- the hash of the ids

commits_of_hash : (a count : ℕ) → AreOf Sha1 (map under_its_id (commits_after a count))
commits_of_hash a zero = tt
commits_of_hash a (suc count) = ((refl, refl), commits_of_hash (a + 1) count)

-- all is of SHA-1
pub line_of_hash : (n : ℕ) → AreOf Sha1 (line_of n)
line_of_hash n = ((refl, refl), commits_of_hash 0 n)

-- ---- what is put together of both parts of a half

-- the commits in two steps are those of one
pub in_two_steps : (before more count : ℕ) (start first rest : Entries) → start ≡ [] → first ≡ start ++ map under_its_id (commits_after before more) → rest ≡ first ++ map under_its_id (commits_after (before + more) count)
    → map (λ (e : ObjectId × Stored). e.1) rest ≡ commits_after before (more + count)
in_two_steps before more count start first rest none is_first is_rest =
    let both : rest ≡ map under_its_id (commits_after before (more + count)) =
    rw (is_rest, is_first, none) (sym (ap (map under_its_id) (commits_joined before more count) ∙ map-append under_its_id (commits_after before more) (commits_after (before + more) count))) in
    ap (map (λ (e : ObjectId × Stored). e.1)) both ∙ without_ids (commits_after before (more + count))

stream_is : (n half more count : ℕ) (main old : Option ObjectId) (given : List Stored) (pack stream : List ℕ) → half ≡ n / 2 → half + more ≡ (n + 1) / 2 → more + count ≡ n - n / 2 → half + more + count ≡ n
    → old ≡ tip (half + more) → main ≡ tip (half + more + count) → given ≡ commits_after half (more + count) → pack ≡ pack_text V1 Sha1 (payloads_of given) → stream ≡ stream_of (branches main old) pack
    → stream ≡ server_stream n
stream_is n half more count main old given pack stream down up both whole is_old is_main is_given is_pack is_stream =
    let main_is : main ≡ tip n = is_main ∙ ap tip whole in
    let old_is : old ≡ tip ((n + 1) / 2) = is_old ∙ ap tip up in
    let given_is : given ≡ commits_after (n / 2) (n - n / 2) = is_given ∙ ap (λ (h : ℕ). commits_after h (more + count)) down ∙ ap (commits_after (n / 2)) both in
    let pack_is : pack ≡ second_half n = is_pack ∙ ap (λ (os : List Stored). pack_text V1 Sha1 (payloads_of os)) given_is in
    is_stream ∙ ap (λ (m : Option ObjectId). stream_of (branches m old) pack) main_is ∙ ap (λ (o : Option ObjectId). stream_of (branches (tip n) o) pack) old_is
    ∙ ap (λ (p : List ℕ). stream_of (branches (tip n) (tip ((n + 1) / 2))) p) pack_is

pub stream_if : {V E : Type 0} (answer : Result V E) (items : V → List ℕ) (n half more count : ℕ) (main old : Option ObjectId) (given : List Stored) (pack : List ℕ) → half ≡ n / 2 → half + more ≡ (n + 1) / 2 → more + count ≡ n - n / 2 → half + more + count ≡ n
    → old ≡ tip (half + more) → main ≡ tip (half + more + count) → given ≡ commits_after half (more + count) → pack ≡ pack_text V1 Sha1 (payloads_of given) → IfOk answer (λ v. items v ≡ stream_of (branches main old) pack)
    → IfOk answer (λ v. items v ≡ server_stream n)
stream_if (Err e) items n half more count main old given pack down up both whole is_old is_main is_given is_pack is_stream = tt
stream_if (Ok v) items n half more count main old given pack down up both whole is_old is_main is_given is_pack is_stream = stream_is n half more count main old given pack (items v) down up both whole is_old is_main is_given is_pack is_stream
