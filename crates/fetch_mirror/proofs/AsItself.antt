-- A full name is read as itself.
use Rattle.std.proofs.Common.{◌≡◌, ℕ, suc, ◌+◌, ◌<◌, Bool, true, false, cond, not, ◌||◌, eqb, ltb, List, [], ◌∷◌, ◌++◌, length, take, drop, Option, Some, None, Ok, Err, refl, ap, ◌∙◌, arith}
use Rattle.std.specs.Prelude.{position, is_some, IsTrue}
use Rattle.std.specs.List.{list_any, position_or_len}
use Rattle.std.specs.Str.{bytes_eq}
use Rattle.std.proofs.lemmas.Bool.{lt-ltb}
use Rattle.std.proofs.lemmas.List.{length-append}
use Rattle.fetch_specs.specs.declared.operation.Operation.TheVariants.{Fetch}
use Rattle.fetch_specs.specs.declared.operation.Mode.TheVariants.{Force}
use Rattle.fetch_specs.specs.declared.error.SpecError.TheVariants as errors
use Rattle.fetch_specs.specs.Categories.{refs}
use Rattle.fetch_specs.specs.Names.{lock, is_name, is_full_name, name_place, name_trouble}
use Rattle.fetch_specs.specs.Parses.{id_named, head, source_of, source_trouble, destination_trouble, admitted, judged, sides, cut, divided, parsed}
use Rattle.fetch_mirror.specs.Shares.{as_itself, itself_text}
use Rattle.fetch_mirror.proofs.PlainNames.{IsPlainName, full_is_plain}

-- the first colon of a text that has none before it
first_colon : (s d : List ℕ) → list_any (λ b. eqb b 58) s ≡ false → position_or_len (λ b. eqb b 58) (s ++ 58 ∷ d) ≡ length s
first_colon [] d plain = refl
first_colon (b ∷ s) d plain = step (eqb b 58) plain (first_colon s d)
  where
    step : (t : Bool) → (t || list_any (λ b. eqb b 58) s) ≡ false → (list_any (λ b. eqb b 58) s ≡ false → position_or_len (λ b. eqb b 58) (s ++ 58 ∷ d) ≡ length s)
        → cond (not t) (1 + position_or_len (λ b. eqb b 58) (s ++ 58 ∷ d)) 0 ≡ suc (length s)
    step true plain on = absurd cc
    step false plain on = omega (arith, on plain)

found_colon : (text : List ℕ) (n : ℕ) → position_or_len (λ b. eqb b 58) text ≡ n → n < length text → position (λ b. eqb b 58) text ≡ Some n
found_colon text n is less = ap (λ (k : ℕ). cond (ltb k (length text)) (Some k) None) is ∙ ap (λ (t : Bool). cond t (Some n) None) (lt-ltb n (length text) less)

front : (s d : List ℕ) → take (length s) (s ++ 58 ∷ d) ≡ s
front [] d = refl
front (b ∷ s) d = ap (λ (t : List ℕ). b ∷ t) (front s d)

back : (s d : List ℕ) → drop (length s + 1) (s ++ 58 ∷ d) ≡ d
back [] d = refl
back (b ∷ s) d = let n : suc (length s) + 1 ≡ suc (length s + 1) = omega arith in ap (λ (n : ℕ). drop n (b ∷ s ++ 58 ∷ d)) n ∙ back s d

at_colon : (s d : List ℕ) → list_any (λ b. eqb b 58) s ≡ false → divided Fetch Force 1 (s ++ 58 ∷ d) ≡ sides Fetch Force 1 s (1 + length s + 1) d
at_colon s d plain =
    ap (cut Fetch Force 1 (s ++ 58 ∷ d)) (found_colon (s ++ 58 ∷ d) (length s) (first_colon s d plain) (omega (arith, length-append s (58 ∷ d))))
    ∙ ap (λ (t : List ℕ). sides Fetch Force 1 t (1 + length s + 1) (drop (length s + 1) (s ++ 58 ∷ d))) (front s d)
    ∙ ap (sides Fetch Force 1 s (1 + length s + 1)) (back s d)

neither : (t : Bool) (o : Option ℕ) → o ≡ None → cond t None o ≡ None
neither true o is = refl
neither false o is = is

no_trouble : (name : List ℕ) → IsPlainName name → (source_trouble (Some name) ≡ None) × (destination_trouble (Some name) ≡ None)
no_trouble name plain =
    let named : name_trouble true name ≡ None = ap (λ (t : Bool). cond t None (Some (name_place true name))) plain.starred in
    (neither (is_some (id_named name)) (name_trouble true name) named, named)

judged_itself : (name : List ℕ) → IsPlainName name → (mark at : ℕ) → judged (as_itself name) mark at ≡ Ok (as_itself name)
judged_itself name plain mark at =
    let none = no_trouble name plain in
    ap (λ (n : ℕ). cond (ltb 1 n || ltb 1 n) (Err errors.PatternUnsupported) (cond (not (eqb n n)) (Err errors.PatternUnbalanced) (admitted (as_itself name) mark at (source_trouble (Some name)) (destination_trouble (Some name))))) plain.stars
    ∙ ap (λ (o : Option ℕ). admitted (as_itself name) mark at o (destination_trouble (Some name))) none.0
    ∙ ap (admitted (as_itself name) mark at None) none.1

source_itself : (b : ℕ) (bs : List ℕ) → bytes_eq (b ∷ bs) (64 ∷ []) ≡ false → source_of Fetch (b ∷ bs) ≡ Some (b ∷ bs)
source_itself b bs other = ap (λ (t : Bool). cond t (Some head) (Some (b ∷ bs))) other

pub itself_is_read : (name : List ℕ) → IsTrue (is_full_name name) → parsed Fetch (itself_text name) ≡ Ok (as_itself name)
unfolding parsed is_full_name is_name lock refs
itself_is_read [] full = absurd cc
itself_is_read (b ∷ bs) full =
    let plain = full_is_plain (b ∷ bs) full in
    at_colon (b ∷ bs) (b ∷ bs) plain.no_colon
    ∙ ap (λ (o : Option (List ℕ)). judged (record { operation = Fetch; mode = Force; source = o; destination = Some (b ∷ bs) }) 1 (1 + length (b ∷ bs) + 1)) (source_itself b bs plain.other)
    ∙ judged_itself (b ∷ bs) plain 1 (1 + length (b ∷ bs) + 1)
