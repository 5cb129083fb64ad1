-- The objects of a bench are objects, and they are read from their pack.
use Rattle.std.proofs.Common.{◌≡◌, ℕ, zero, suc, ◌+◌, ◌*◌, ◌/◌, ◌<◌, ◌≤◌, ◌^◌, true, List, [], ◌∷◌, ◌++◌, length, map, codes, decimal, All, Option, Some, None, Ok, refl, ap, sym, subst, ◌∙◌, arith}
use Rattle.std.specs.Prelude.{IfSome, slice_index, option_to_list}
use Rattle.std.specs.FinMap as finmap
use Rattle.std.specs.Int.{w32, to_be_bytes}
use Rattle.std.specs.List.{AllByRecursion}
use Rattle.std.specs.Option.{option_map}
use Rattle.std.specs.Result.{result_ok, is_ok}
use Rattle.std.specs.Str.{all_ascii_digits}
use Rattle.std.specs.Str.Parse.{digits_value}
use Rattle.std.proofs.lemmas.Fmt.{digits_decimal, digits_value-decimal, decimal_nonempty, length-decimal-le}
use Rattle.std.proofs.lemmas.List.{length-map}
use Rattle.std.proofs.lemmas.List.FromFn.{length-map-range_with_len}
use Rattle.std.proofs.lemmas.List.Elements.{All-nil, All-cons}
use Rattle.std.proofs.lemmas.Str.Parse.{IsNumeralModel, numerals_by_value, tells_all_ascii_digits}
use Rattle.hex.specs.Hex.{IsBytes, lower_digits}
use Rattle.hex.proofs.HexLemmas.{length-encode_with, decode_sized-encode_lower, IsOk-decode_sized}
use Rattle.sha1.specs.Sha1.{sha1, digest_bytes}
use Rattle.fetch_store.specs.Collisions.{HasDistinctIds}
use Rattle.fetch_objects.specs.CommitTexts.{IsCommit}
use Rattle.fetch_base.specs.Digits.{hex_of}
use Rattle.fetch_base.specs.Hashing.{id_of}
use Rattle.fetch_base.specs.Id.{bytes_of, id_in_hex}
use Rattle.fetch_base.specs.Lines.{IsWithout}
use Rattle.fetch_objects.specs.Objects.{Stored, IsObject, reading}
use Rattle.fetch_base.specs.Scan.{is_decimal}
use Rattle.fetch_store.specs.Stores.{Entries, collision}
use Rattle.fetch_objects.specs.Texts.{IsHexId}
use Rattle.fetch_base.specs.declared.id.Kind.TheVariants.{Sha1}
use Rattle.fetch_base.specs.declared.id.ObjectId.{ObjectId}
use Rattle.fetch_base.specs.declared.object_kind.ObjectKind.{ObjectKind}
use Rattle.fetch_base.specs.declared.object_kind.ObjectKind.TheVariants.{Commit, Tree}
use Rattle.fetch_objects.proofs.CommitTexts.{decimal_without, commits_are_texts}
use Rattle.fetch_base.proofs.Words.{both_without}
use Rattle.fetch_base.proofs.Digests.{length-digest}
use Rattle.fetch_pack.specs.Packs.{entries, IsPack}
use Rattle.fetch_pack.specs.Reading.{read, once_from, unless}
use Rattle.fetch_pack.specs.Records.{Fits, pack_text, payload_of, payloads_of}
use Rattle.fetch_pack.specs.declared.version.PackVersion.TheVariants.{V1}
use Rattle.fetch_pack.proofs.Keeping.{all_new}
use Rattle.fetch_pack.proofs.Laws.{read_again}
use Rattle.fetch_bench.specs.Generated.{generated}
use Rattle.fetch_bench.proofs.Halves.{commits_fit, without_ids}
use Rattle.fetch_bench.specs.Commits.{under_its_id, empty_tree, signature, parts, text_of, commit_after, commits_after, line_of, tip, tree_id}

-- ---- ids are whole

word_bytes : (n : ℕ) → IsBytes (to_be_bytes w32 n)
word_bytes n zero = omega arith
word_bytes n (suc zero) = omega arith
word_bytes n (suc (suc zero)) = omega arith
word_bytes n (suc (suc (suc zero))) = omega arith
word_bytes n (suc (suc (suc (suc i)))) = omega arith

bytes_both : (xs ys : List ℕ) → IsBytes xs → IsBytes ys → IsBytes (xs ++ ys)
bytes_both [] ys f g i = g i
bytes_both (x ∷ xs) ys f g zero = f zero
bytes_both (x ∷ xs) ys f g (suc i) = bytes_both xs ys (λ j. f (suc j)) g i

words_are : (h : List ℕ) (n : ℕ) → IsBytes (digest_bytes h n)
unfolding digest_bytes
words_are h zero = λ i. omega arith
words_are h (suc n) = bytes_both (digest_bytes h n) (to_be_bytes w32 (slice_index h n)) (words_are h n) (word_bytes (slice_index h n))

digest_are : (m : List ℕ) → IsBytes (sha1 m)
unfolding sha1
digest_are m = words_are _ 5

-- Its digits spell it.
pub record IsSpelt (id : ObjectId) : Type 0 where
  pub len : length (bytes_of id) ≡ 20
  pub bytes : IsBytes (bytes_of id)
  pub read : id_in_hex Sha1 (hex_of id) ≡ Some id

pub id_spelt : (kind : ObjectKind) (bytes : List ℕ) → IsSpelt (id_of Sha1 kind bytes)
id_spelt kind bytes =
    let id = id_of Sha1 kind bytes in
    let len : length (bytes_of id) ≡ 20 = length-digest Sha1 _ in
    record { len = len; bytes = digest_are _; read = rw (decode_sized-encode_lower (bytes_of id) 20 len (digest_are _)) refl }

pub tip_spelt : (n : ℕ) → IfSome (tip n) IsSpelt
tip_spelt zero = tt
tip_spelt (suc n) = id_spelt Commit (text_of (tip n) (n + 1))

pub hex_id : (id : ObjectId) → IsSpelt id → IsHexId Sha1 (hex_of id)
hex_id id is = (IsOk-decode_sized (hex_of id) 20).0 (ap is_ok (decode_sized-encode_lower (bytes_of id) 20 is.len is.bytes))

pub hex_length : (id : ObjectId) → IsSpelt id → length (hex_of id) ≡ 40
hex_length id is = length-encode_with lower_digits (bytes_of id) ∙ ap (λ (n : ℕ). 2 * n) is.len

-- ---- commits are objects

own : IsNumeralModel (λ ds. all_ascii_digits ds ≡ true) (digits_value 10)
own = numerals_by_value _ tells_all_ascii_digits

some_digits : (ds : List ℕ) → 0 < length ds → all_ascii_digits ds ≡ true → is_decimal ds ≡ true
some_digits [] some all = absurd (omega arith)
some_digits (c ∷ cs) some all = all

parents_are : (parent : Option ObjectId) → IfSome parent IsSpelt → All (IsHexId Sha1) (option_to_list (option_map hex_of parent))
parents_are None is = All-nil (IsHexId Sha1)
parents_are (Some id) is = All-cons (IsHexId Sha1) (hex_of id) [] (hex_id id is) (All-nil (IsHexId Sha1))

signed : (n : ℕ) → is_decimal (decimal n) ≡ true → IsWithout 10 (signature n)
unfolding signature
signed n digits =
    both_without 10 (codes "A <a@x> ") (decimal n ++ codes " +0000") refl (both_without 10 (decimal n) (codes " +0000") (decimal_without 10 refl (decimal n) digits) refl)

commit_is : (parent : Option ObjectId) (n : ℕ) → IfSome parent IsSpelt → n ≤ 100000 → IsCommit Sha1 (parts parent n)
commit_is parent n is few =
    let fits : n < 2 ^ 64 = omega arith in
    let digits = some_digits (decimal n) (decimal_nonempty n fits) (digits_decimal own n fits) in
    record {
      tree = hex_id tree_id (id_spelt Tree []);
      parents = parents_are parent is;
      author = signed n digits;
      committer = refl;
      decimal = digits;
      few = length-decimal-le 19 n (omega arith) (omega arith) fits;
      fits = omega (arith, digits_value-decimal own n fits);
      offset = refl;
    }

tree_object : IsObject Sha1 Tree []
unfolding reading
tree_object = refl

commit_object : (n : ℕ) → n < 100000 → IsObject Sha1 Commit (text_of (tip n) (n + 1))
unfolding text_of
commit_object n few = (commits_are_texts Sha1 (text_of (tip n) (n + 1))).commit (parts (tip n) (n + 1)) (commit_is (tip n) (n + 1) (tip_spelt n) (omega arith)) refl

each_object : (a count : ℕ) → a + count ≤ 100000 → AllByRecursion (λ p. IsObject Sha1 p.kind p.bytes) (payloads_of (commits_after a count))
each_object a zero few = tt
each_object a (suc count) few = (commit_object a (omega arith), each_object (a + 1) count (omega arith))

-- ---- their pack

-- the empty tree and the first n commits
abbrev pub objects_of : ℕ → List Stored
objects_of n = empty_tree ∷ commits_after 0 n

named : (a count : ℕ) → entries Sha1 (payloads_of (commits_after a count)) ≡ map under_its_id (commits_after a count)
named a zero = refl
named a (suc count) = ap (λ (es : Entries). under_its_id (commit_after a) ∷ es) (named (a + 1) count)

line_is : (n : ℕ) → entries Sha1 (payloads_of (objects_of n)) ≡ line_of n
line_is n = ap (λ (es : Entries). under_its_id empty_tree ∷ es) (named 0 n)

kept_all : (kept : Entries) (o : Option ObjectId) (c : Entries) → unless kept o ≡ Ok c → (o ≡ None) × (kept ≡ c)
kept_all kept (Some id) c e = absurd cc
kept_all kept None c e = (refl, cc)

line_fits : (n : ℕ) → n ≤ 100000 → Fits V1 (payloads_of (objects_of n))
line_fits n few =
    let rest = commits_fit 0 n (omega (arith, few)) in
    let many : length (payloads_of (commits_after 0 n)) ≡ n = length-map (commits_after 0 n) payload_of ∙ length-map-range_with_len commit_after 0 n in
    record { count = omega (arith, many); each = (omega arith, rest.each) }

line_pack : (n : ℕ) → n ≤ 100000 → HasDistinctIds (line_of n)
    → IsPack V1 Sha1 (pack_text V1 Sha1 (payloads_of (objects_of n))) (payloads_of (objects_of n))
line_pack n few apart =
    let kept = kept_all (once_from [] (line_of n)) (collision finmap.empty (line_of n)) (line_of n) (all_new [] (line_of n) apart) in
    record {
      text = refl;
      fits = line_fits n few;
      objects = (tree_object, each_object 0 n (omega (arith, few)));
      distinct = ap (collision finmap.empty) (line_is n) ∙ kept.0;
    }

-- the objects of a line are read from their pack
pub pack_read : (n : ℕ) → n ≤ 100000 → HasDistinctIds (line_of n)
    → option_map (λ pack. pack.objects) (result_ok (read Sha1 (pack_text V1 Sha1 (payloads_of (map (λ e. e.1) (line_of n)))))) ≡ Some (line_of n)
pack_read n few apart =
    let kept = kept_all (once_from [] (line_of n)) (collision finmap.empty (line_of n)) (line_of n) (all_new [] (line_of n) apart) in
    ap (λ (os : List Stored). option_map (λ pack. pack.objects) (result_ok (read Sha1 (pack_text V1 Sha1 (payloads_of os))))) (without_ids (objects_of n))
    ∙ ap (λ r. option_map (λ pack. pack.objects) (result_ok r)) (read_again V1 Sha1 _ (payloads_of (objects_of n)) (line_pack n few apart))
    ∙ ap (λ (es : Entries). Some (once_from [] es)) (line_is n) ∙ ap Some kept.1

pub generated_fits : (n : ℕ) → n ≤ 100000 → Fits V1 (payloads_of (map (λ e. e.1) (generated n).objects))
unfolding generated
generated_fits n few =
    subst (λ (os : List Stored). Fits V1 (payloads_of os)) (sym (without_ids (objects_of (n / 2)))) (line_fits (n / 2) (omega (arith, few)))
