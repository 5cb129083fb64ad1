-- What is printed, part by part.
use Rattle.std.proofs.Common.{◌≡◌, ℕ, zero, suc, ◌/◌, ◌%◌, ◌<◌, ◌^◌, ◌-◌, Bool, true, false, List, [], ◌∷◌, ◌++◌, refl, sym, ap, ◌∙◌, append_assoc, arith}
use Rattle.std.specs.Prelude.{if◌then◌else◌, filter, slice_index}
use Rattle.std.specs.Fmt.{comma_space, digit_glyph, digits, padded_integral, format_spec}
use Rattle.std.specs.List.{flat_map, join_by}
use Rattle.std.specs.Str.{is_utf8}
use Rattle.std.proofs.lemmas.Fmt.{hex_byte}
use Rattle.std.proofs.lemmas.List.{append-nil}
use Rattle.hex.specs.Hex.{encode_with, encode_lower, lower_digits}
use Rattle.fetch_update.specs.Modes.{directories_text}

-- ---- hex

glyph : (n : ℕ) → n < 16 → digit_glyph false n ≡ slice_index lower_digits n
glyph zero small = refl
glyph (suc zero) small = refl
glyph (suc (suc zero)) small = refl
glyph (suc (suc (suc zero))) small = refl
glyph (suc (suc (suc (suc zero)))) small = refl
glyph (suc (suc (suc (suc (suc zero))))) small = refl
glyph (suc (suc (suc (suc (suc (suc zero)))))) small = refl
glyph (suc (suc (suc (suc (suc (suc (suc zero))))))) small = refl
glyph (suc (suc (suc (suc (suc (suc (suc (suc zero)))))))) small = refl
glyph (suc (suc (suc (suc (suc (suc (suc (suc (suc zero))))))))) small = refl
glyph (suc (suc (suc (suc (suc (suc (suc (suc (suc (suc zero)))))))))) small = refl
glyph (suc (suc (suc (suc (suc (suc (suc (suc (suc (suc (suc zero))))))))))) small = refl
glyph (suc (suc (suc (suc (suc (suc (suc (suc (suc (suc (suc (suc zero)))))))))))) small = refl
glyph (suc (suc (suc (suc (suc (suc (suc (suc (suc (suc (suc (suc (suc zero))))))))))))) small = refl
glyph (suc (suc (suc (suc (suc (suc (suc (suc (suc (suc (suc (suc (suc (suc zero)))))))))))))) small = refl
glyph (suc (suc (suc (suc (suc (suc (suc (suc (suc (suc (suc (suc (suc (suc (suc zero))))))))))))))) small = refl
glyph (suc (suc (suc (suc (suc (suc (suc (suc (suc (suc (suc (suc (suc (suc (suc (suc n)))))))))))))))) small = absurd (omega arith)

hex_more : (t bytes : List ℕ) (byte : ℕ) → encode_with t (bytes ++ byte ∷ []) ≡ encode_with t bytes ++ slice_index t (byte / 16) ∷ slice_index t (byte % 16) ∷ []
unfolding encode_with
hex_more t [] byte = refl
hex_more t (b ∷ bytes) byte = ap (λ (rest : List ℕ). slice_index t (b / 16) ∷ slice_index t (b % 16) ∷ rest) (hex_more t bytes byte)

pub hex_none : [] ≡ encode_lower []
unfolding encode_with
hex_none = refl

pub hex_next : (bytes : List ℕ) (byte : ℕ) → byte < 256
    → encode_lower bytes ++ padded_integral (format_spec 32 0 4 2 (2 ^ 64 - 1)) false [] (digits 16 false byte) ≡ encode_lower (bytes ++ byte ∷ [])
hex_next bytes byte small =
    ap (λ (text : List ℕ). encode_lower bytes ++ text) (hex_byte false byte small ∙ ap (λ (c : ℕ). c ∷ digit_glyph false (byte % 16) ∷ []) (glyph (byte / 16) (omega arith)) ∙ ap (λ (c : ℕ). slice_index lower_digits (byte / 16) ∷ c ∷ []) (glyph (byte % 16) (omega arith)))
    ∙ sym (hex_more lower_digits bytes byte)

-- ---- directories

-- what stands before the next one
abbrev pub is_none : List (List ℕ) → Bool
is_none [] = true
is_none (dir ∷ dirs) = false

abbrev pub separator : Bool → List ℕ
separator is_first = if is_first then [] else comma_space

abbrev pub shown : List (List ℕ) → List (List ℕ)
shown dirs = filter is_utf8 dirs

abbrev pub joined : List (List ℕ) → List ℕ
joined dirs = join_by (λ dir. dir) comma_space dirs

flat_more : (f : List ℕ → List ℕ) (xs : List (List ℕ)) (x : List ℕ) → flat_map f (xs ++ x ∷ []) ≡ flat_map f xs ++ f x
flat_more f [] x = append-nil (f x)
flat_more f (y ∷ ys) x = ap (λ (rest : List ℕ). f y ++ rest) (flat_more f ys x) ∙ sym (append_assoc (f y) (flat_map f ys) (f x))

joined_more : (dirs : List (List ℕ)) (dir : List ℕ) → joined (dirs ++ dir ∷ []) ≡ joined dirs ++ (separator (is_none dirs) ++ dir)
joined_more [] dir = append-nil dir
joined_more (d ∷ dirs) dir = ap (λ (rest : List ℕ). d ++ rest) (flat_more (λ y. comma_space ++ y) dirs dir) ∙ sym (append_assoc d (flat_map (λ y. comma_space ++ y) dirs) (comma_space ++ dir))

passed : (b : Bool) (d dir : List ℕ) (all before : List (List ℕ)) → all ≡ before ++ dir ∷ [] → (if b then d ∷ all else all) ≡ (if b then d ∷ before else before) ++ dir ∷ []
passed true d dir all before is = ap (λ (rest : List (List ℕ)). d ∷ rest) is
passed false d dir all before is = is

shown_more : (dirs : List (List ℕ)) (dir : List ℕ) → is_utf8 dir ≡ true → shown (dirs ++ dir ∷ []) ≡ shown dirs ++ dir ∷ []
shown_more [] dir is = ap (λ (b : Bool). if b then dir ∷ [] else []) is
shown_more (d ∷ dirs) dir is = passed (is_utf8 d) d dir (shown (dirs ++ dir ∷ [])) (shown dirs) (shown_more dirs dir is)

shown_none : (dirs : List (List ℕ)) (dir : List ℕ) → is_utf8 dir ≡ false → shown (dirs ++ dir ∷ []) ≡ shown dirs
shown_none [] dir is = ap (λ (b : Bool). if b then dir ∷ [] else []) is
shown_none (d ∷ dirs) dir is = ap (λ (rest : List (List ℕ)). if is_utf8 d then d ∷ rest else rest) (shown_none dirs dir is)

after_one : (dirs : List (List ℕ)) (dir : List ℕ) → is_none (dirs ++ dir ∷ []) ≡ false
after_one [] dir = refl
after_one (d ∷ dirs) dir = refl

pub directory_next : (dirs : List (List ℕ)) (dir : List ℕ) → is_utf8 dir ≡ true → directories_text dirs ++ (separator (is_none (shown dirs)) ++ dir) ≡ directories_text (dirs ++ dir ∷ [])
unfolding directories_text
directory_next dirs dir is = sym (ap joined (shown_more dirs dir is) ∙ joined_more (shown dirs) dir)

pub directory_none : (dirs : List (List ℕ)) (dir : List ℕ) → is_utf8 dir ≡ false → directories_text dirs ≡ directories_text (dirs ++ dir ∷ [])
unfolding directories_text
directory_none dirs dir is = sym (ap joined (shown_none dirs dir is))

pub first_next : (dirs : List (List ℕ)) (dir : List ℕ) → is_utf8 dir ≡ true → false ≡ is_none (shown (dirs ++ dir ∷ []))
first_next dirs dir is = sym (ap is_none (shown_more dirs dir is) ∙ after_one (shown dirs) dir)

pub first_none : (dirs : List (List ℕ)) (dir : List ℕ) → is_utf8 dir ≡ false → is_none (shown dirs) ≡ is_none (shown (dirs ++ dir ∷ []))
first_none dirs dir is = sym (ap is_none (shown_none dirs dir is))

pub directories_none : [] ≡ directories_text []
unfolding directories_text
directories_none = refl
