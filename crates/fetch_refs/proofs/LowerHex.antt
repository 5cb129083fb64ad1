-- Hex digits of lower case: each text of them spells one list of bytes, and is what those are written as.
use Rattle.std.proofs.Common.{◌≡◌, ℕ, zero, suc, ◌+◌, ◌*◌, ◌/◌, ◌%◌, ◌<◌, Bool, true, false, not, ◌&&◌, ◌||◌, eqb, List, [], ◌∷◌, length, Option, Some, None, Result, Ok, Err, inl, inr, refl, sym, ap, ◌∙◌, arith}
use Rattle.std.specs.Prelude.{slice_index}
use Rattle.std.specs.Char.{is_ascii_uppercase}
use Rattle.std.specs.List.{list_all, list_any}
use Rattle.std.specs.Option.{option_map}
use Rattle.std.specs.Result.{result_ok}
use Rattle.std.proofs.lemmas.Bool.{and_parts, cases_eq, eqb-true}
use Rattle.hex.specs.Hex.{lower_digits, encode_with, encode_lower, hex_digit_value, digit_or_error, value_at, pair_value, decode_pairs, decode_sized, ◌>>=◌}
use Rattle.hex.specs.declared.error.FromHexError.{FromHexError}
use Rattle.hex.proofs.HexLemmas.{decode_of-even, decode_sized-ok, decode_sized-twice}
use Rattle.fetch_base.specs.Id.{byte_len, bytes_of, id_of_bytes, id_in_hex}
use Rattle.fetch_base.specs.Lines.{IsWithout}
use Rattle.fetch_base.specs.declared.id.Kind.{Kind}
use Rattle.fetch_base.specs.declared.id.Kind.TheVariants as kinds
use Rattle.fetch_base.specs.declared.id.ObjectId.{ObjectId}

-- what passes for each digit, and for 0, passes wherever the digits are asked
at : (p : ℕ → Bool) (t : List ℕ) (k : ℕ) → list_all p t ≡ true → p 0 ≡ true → p (slice_index t k) ≡ true
at p [] k all none = none
at p (x ∷ t) zero all none = (and_parts (p x) (list_all p t) all).0
at p (x ∷ t) (suc k) all none = at p t k (and_parts (p x) (list_all p t) all).1 none

digits : (p : ℕ → Bool) (bytes : List ℕ) → list_all p lower_digits ≡ true → p 0 ≡ true → list_all p (encode_lower bytes) ≡ true
unfolding encode_with
digits p [] all none = refl
digits p (b ∷ bytes) all none =
    ap (λ (t : Bool). t && (p (slice_index lower_digits (b % 16)) && list_all p (encode_lower bytes))) (at p lower_digits (b / 16) all none)
    ∙ ap (λ (t : Bool). t && list_all p (encode_lower bytes)) (at p lower_digits (b % 16) all none) ∙ digits p bytes all none

pub spaceless : (bytes : List ℕ) → IsWithout 32 (encode_lower bytes)
spaceless bytes = digits (λ b. not (eqb b 32)) bytes refl refl

none_passes : (p : ℕ → Bool) (xs : List ℕ) → list_all (λ x. not (p x)) xs ≡ true → list_any p xs ≡ false
none_passes p [] all = refl
none_passes p (x ∷ xs) all = step (p x) refl all (none_passes p xs)
  where
    step : (t : Bool) → p x ≡ t → (not t && list_all (λ x. not (p x)) xs) ≡ true → (list_all (λ x. not (p x)) xs ≡ true → list_any p xs ≡ false) → (p x || list_any p xs) ≡ false
    step true is h rest = absurd cc
    step false is h rest = ap (λ (t : Bool). t || list_any p xs) is ∙ rest h

pub no_capital : (bytes : List ℕ) → list_any is_ascii_uppercase (encode_lower bytes) ≡ false
no_capital bytes = none_passes is_ascii_uppercase (encode_lower bytes) (digits (λ b. not (is_ascii_uppercase b)) bytes refl refl)

-- whether a digit's value is written as this digit
writes : ℕ → Option ℕ → Bool
writes c None = true
writes c (Some v) = eqb (slice_index lower_digits v) c

abbrev same_unless_capital : ℕ → Bool
same_unless_capital c = is_ascii_uppercase c || writes c (hex_digit_value c)

up_to : ℕ → Bool
up_to zero = true
up_to (suc n) = same_unless_capital n && up_to n

each : (n c : ℕ) → up_to n ≡ true → c < n → same_unless_capital c ≡ true
unfolding up_to
each zero c all less = absurd (omega arith)
each (suc n) c all less =
    elim (cases_eq c n) [
      | inl same ↦ ap same_unless_capital same ∙ (and_parts (same_unless_capital n) (up_to n) all).0
      | inr other ↦ each n c (and_parts (same_unless_capital n) (up_to n) all).1 (omega arith)
    ]

small : (c v : ℕ) → hex_digit_value c ≡ Some v → (c < 103) × (v < 16)
small c v is = (grind (arith), grind (arith))

one_digit : (c v : ℕ) → hex_digit_value c ≡ Some v → is_ascii_uppercase c ≡ false → slice_index lower_digits v ≡ c
unfolding up_to writes
one_digit c v is low =
    eqb-true (slice_index lower_digits v) c
    (sym (ap (writes c) is) ∙ sym (ap (λ (t : Bool). t || writes c (hex_digit_value c)) low) ∙ each 103 c refl (small c v is).0)

bind_ok : {A B : Type 0} (r : Result A FromHexError) (f : A → Result B FromHexError) (y : B) → (r >>= f) ≡ Ok y → (x : A) × (r ≡ Ok x) × (f x ≡ Ok y)
bind_ok (Ok x) f y h = (x, refl, h)
bind_ok (Err e) f y h = absurd cc

value_is : (c i : ℕ) (o : Option ℕ) (v : ℕ) → digit_or_error c i o ≡ Ok v → o ≡ Some v
value_is c i (Some w) v h = let e : w ≡ v = cc in ap (λ (x : ℕ). Some x) e
value_is c i None v h = absurd cc

abbrev same_result : {X : Type 0} → Result X FromHexError → Result X FromHexError → Type 0
same_result a b = a ≡ b

ok_is : {X : Type 0} (x y : X) → same_result (Ok x) (Ok y) → x ≡ y
ok_is x y h = cc

low_parts : (a : ℕ) (s : List ℕ) → list_any is_ascii_uppercase (a ∷ s) ≡ false → (is_ascii_uppercase a ≡ false) × (list_any is_ascii_uppercase s ≡ false)
low_parts a s low = parts (is_ascii_uppercase a) (list_any is_ascii_uppercase s) low
  where
    parts : (t u : Bool) → (t || u) ≡ false → (t ≡ false) × (u ≡ false)
    parts true u h = absurd cc
    parts false u h = (refl, h)

-- digits without a capital are what the bytes that they spell are written as
pub written_again : (i : ℕ) (s bytes : List ℕ) → decode_pairs i s ≡ Ok bytes → list_any is_ascii_uppercase s ≡ false → s ≡ encode_lower bytes
unfolding decode_pairs encode_with
written_again i [] bytes h low = ap encode_lower (ok_is [] bytes h)
written_again i (a ∷ []) bytes h low = absurd cc
written_again i (a ∷ b ∷ s) bytes h low =
    let p0 = bind_ok (pair_value a b i) _ bytes h in
    let p1 = bind_ok (value_at a i) _ p0.0 p0.1 in
    let p2 = bind_ok (value_at b (i + 1)) _ p0.0 p1.2 in
    let p3 = bind_ok (decode_pairs (i + 2) s) _ bytes p0.2 in
    let va = value_is a i (hex_digit_value a) p1.0 p1.1 in
    let vb = value_is b (i + 1) (hex_digit_value b) p2.0 p2.1 in
    let la = low_parts a (b ∷ s) low in
    let lb = low_parts b s la.1 in
    let fa = (small a p1.0 va).1 in
    let fb = (small b p2.0 vb).1 in
    let byte : p1.0 * 16 + p2.0 ≡ p0.0 = ok_is (p1.0 * 16 + p2.0) p0.0 p2.2 in
    let high : p0.0 / 16 ≡ p1.0 = omega arith in
    let rest : p0.0 % 16 ≡ p2.0 = omega arith in
    let ih : s ≡ encode_lower p3.0 = written_again (i + 2) s p3.0 p3.1 lb.1 in
    ap (λ (x : ℕ). x ∷ b ∷ s) (sym (one_digit a p1.0 va la.0) ∙ ap (slice_index lower_digits) (sym high))
    ∙ ap (λ (x : ℕ). slice_index lower_digits (p0.0 / 16) ∷ x ∷ s) (sym (one_digit b p2.0 vb lb.0) ∙ ap (slice_index lower_digits) (sym rest))
    ∙ ap (λ (xs : List ℕ). slice_index lower_digits (p0.0 / 16) ∷ slice_index lower_digits (p0.0 % 16) ∷ xs) ih
    ∙ ap encode_lower (ok_is (p0.0 ∷ p3.0) bytes p3.2)

-- the same of an id
id_by : (kind : Kind) (s : List ℕ) (r : Result (List ℕ) FromHexError) (id : ObjectId) → decode_sized s (byte_len kind) ≡ r → option_map (id_of_bytes kind) (result_ok r) ≡ Some id → list_any is_ascii_uppercase s ≡ false → s ≡ encode_lower (bytes_of id)
id_by kind s (Err e) id is h low = absurd cc
id_by kind s (Ok bytes) id is h low =
    let len = decode_sized-ok s (byte_len kind) bytes is in
    let even : length s % 2 ≡ 0 = omega (arith, len) in
    let same : decode_pairs 0 s ≡ Ok bytes = sym (decode_of-even s even) ∙ sym (decode_sized-twice s (byte_len kind) len) ∙ is in
    let spelled : id_of_bytes kind bytes ≡ id = cc in
    written_again 0 s bytes same low ∙ ap encode_lower (sym (bytes-id kind bytes) ∙ ap bytes_of spelled)
  where
    bytes-id : (kind : Kind) (bytes : List ℕ) → bytes_of (id_of_bytes kind bytes) ≡ bytes
    bytes-id kinds.Sha1 bytes = refl
    bytes-id kinds.Sha256 bytes = refl

pub id_written : (kind : Kind) (s : List ℕ) (id : ObjectId) → id_in_hex kind s ≡ Some id → list_any is_ascii_uppercase s ≡ false → s ≡ encode_lower (bytes_of id)
id_written kind s id h low = id_by kind s (decode_sized s (byte_len kind)) id refl h low
