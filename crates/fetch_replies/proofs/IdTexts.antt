-- Ids as they are written.
use Rattle.std.proofs.Common.{◌≡◌, ◌≢◌, ℕ, zero, suc, ◌<◌, ◌/◌, ◌%◌, Bool, true, false, not, ◌&&◌, List, [], ◌∷◌, length, slice_index, Some, None, refl, sym, ap, ◌∙◌, arith, ◌==◌}
use Rattle.std.specs.Prelude.{nat_eq}
use Rattle.std.specs.List.{list_all, starts_with}
use Rattle.std.specs.Option.{option_map}
use Rattle.std.specs.Result.{result_ok}
use Rattle.std.specs.Str.{bytes_eq}
use Rattle.hex.specs.Hex.{IsBytes, encode_lower, encode_with, lower_digits}
use Rattle.hex.proofs.HexLemmas.{decode_sized-encode_lower}
use Rattle.fetch_base.specs.Id.{byte_len, bytes_of, kind_of, id_of_bytes, id_in_hex}
use Rattle.fetch_base.specs.Scan.{after}
use Rattle.fetch_base.specs.declared.id.Kind.{Kind}
use Rattle.fetch_base.specs.declared.id.Kind.TheVariants as kinds
use Rattle.fetch_base.specs.declared.id.ObjectId.{ObjectId}
use Rattle.fetch_base.specs.declared.id.ObjectId.TheVariants as ids
use Rattle.fetch_lines.specs.ServerLines.{IsIdOf}

-- ---- an id is read as it is written

same_id : (id : ObjectId) → id_of_bytes (kind_of id) (bytes_of id) ≡ id
same_id (ids.Sha1 bytes) = refl
same_id (ids.Sha256 bytes) = refl

pub id_read : (kind : Kind) (id : ObjectId) → IsIdOf kind id → id_in_hex kind (encode_lower (bytes_of id)) ≡ Some id
id_read kind id is =
    ap (λ r. option_map (id_of_bytes kind) (result_ok r)) (decode_sized-encode_lower (bytes_of id) (byte_len kind) is.len is.bytes)
    ∙ ap Some (ap (λ k. id_of_bytes k (bytes_of id)) (sym is.same) ∙ same_id id)

-- ---- its digits

both_hold : (a b : Bool) → (a && b) ≡ true → (a ≡ true) × (b ≡ true)
both_hold true b e = (refl, e)
both_hold false b e = absurd cc

digit_in : (p : ℕ → Bool) (digits : List ℕ) (k : ℕ) → list_all p digits ≡ true → k < length digits → p (slice_index digits k) ≡ true
digit_in p [] k all lt = absurd (omega arith)
digit_in p (d ∷ digits) zero all lt = (both_hold (p d) (list_all p digits) all).0
digit_in p (d ∷ digits) (suc k) all lt = digit_in p digits k (both_hold (p d) (list_all p digits) all).1 (omega arith)

-- a test that all digits pass
pub hex_all : (p : ℕ → Bool) (bytes : List ℕ) → list_all p lower_digits ≡ true → IsBytes bytes → list_all p (encode_lower bytes) ≡ true
unfolding encode_with
hex_all p [] all are = refl
hex_all p (b ∷ bytes) all are =
    let high = digit_in p lower_digits (b / 16) all (let lt : b < 256 = are 0 in omega arith) in
    let low = digit_in p lower_digits (b % 16) all (omega arith) in
    rw (high, low) (hex_all p bytes all (λ i. are (suc i)))

-- what digits begin with
pub record Begins (p : ℕ → Bool) (text : List ℕ) : Type 0 where
  pub first : ℕ
  pub others : List ℕ
  pub is : text ≡ first ∷ others
  pub passes : p first ≡ true

begins : (p : ℕ → Bool) (text : List ℕ) → list_all p text ≡ true → length text ≢ 0 → Begins p text
begins p [] all some = absurd (some refl)
begins p (c ∷ text) all some = record { first = c; others = text; is = refl; passes = (both_hold (p c) (list_all p text) all).0 }

full : (kind : Kind) (n : ℕ) → n ≡ byte_len kind → n ≢ 0
full kinds.Sha1 n is none = absurd (omega arith)
full kinds.Sha256 n is none = absurd (omega arith)

hex_some : (bytes : List ℕ) → length bytes ≢ 0 → length (encode_lower bytes) ≢ 0
unfolding encode_with
hex_some [] some = absurd (some refl)
hex_some (b ∷ bytes) some = λ e. absurd (omega arith)

pub hex_begins : (p : ℕ → Bool) (kind : Kind) (id : ObjectId) → IsIdOf kind id → list_all p lower_digits ≡ true → Begins p (encode_lower (bytes_of id))
hex_begins p kind id is all = begins p (encode_lower (bytes_of id)) (hex_all p (bytes_of id) all is.bytes) (hex_some (bytes_of id) (full kind (length (bytes_of id)) is.len))

-- ---- words that begin otherwise

not_so : (b : Bool) → not b ≡ true → b ≡ false
not_so true e = absurd cc
not_so false e = refl

pub other_start : (w c : ℕ) (word rest : List ℕ) → not (w == c) ≡ true → starts_with nat_eq (c ∷ rest) (w ∷ word) ≡ false
other_start w c word rest differs = rw (not_so (w == c) differs) refl

pub none_after : (w c : ℕ) (word rest : List ℕ) → not (w == c) ≡ true → after (w ∷ word) (c ∷ rest) ≡ None
none_after w c word rest differs = rw (other_start w c word rest differs) refl

pub other_text : (w c : ℕ) (word rest : List ℕ) → not (c == w) ≡ true → bytes_eq (c ∷ rest) (w ∷ word) ≡ false
other_text w c word rest differs = rw (not_so (c == w) differs) refl
