-- A name that begins with a prefix.
use Rattle.std.proofs.Common.{◌≡◌, ℕ, Bool, true, false, ◌&&◌, eqb, List, [], ◌∷◌, ◌++◌, ◌-◌, length, take, drop, length-drop, refl, sym, ap, ◌∙◌, arith}
use Rattle.std.specs.Prelude.{nat_eq}
use Rattle.std.specs.List.{starts_with}
use Rattle.std.specs.Str.{bytes_eq}
use Rattle.std.proofs.lemmas.List.{take_all}

and_assoc : (a b c : Bool) → (a && (b && c)) ≡ ((a && b) && c)
and_assoc true b c = refl
and_assoc false b c = refl

pub joined : (front text name : List ℕ) → bytes_eq (front ++ text) name ≡ (starts_with nat_eq name front && bytes_eq text (drop (length front) name))
joined [] text name = refl
joined (f ∷ front) text [] = refl
joined (f ∷ front) text (n ∷ name) =
    ap (λ (t : Bool). eqb f n && t) (joined front text name)
    ∙ and_assoc (eqb f n) (starts_with nat_eq name front) (bytes_eq text (drop (length front) name))

pub not_joined : (front text name : List ℕ) (t : Bool) → t ≡ starts_with nat_eq name front → t ≡ false → false ≡ bytes_eq (front ++ text) name
not_joined front text name t is off = sym (joined front text name ∙ ap (λ (t : Bool). t && bytes_eq text (drop (length front) name)) (sym is ∙ off))

pub is_joined : (front text name : List ℕ) (t r : Bool) → t ≡ starts_with nat_eq name front → t ≡ true → r ≡ bytes_eq text (drop (length front) name) → r ≡ bytes_eq (front ++ text) name
is_joined front text name t r is on same = same ∙ sym (joined front text name ∙ ap (λ (t : Bool). t && bytes_eq text (drop (length front) name)) (sym is ∙ on))

pub tail : (n : ℕ) (s : List ℕ) → take (length s - n) (drop n s) ≡ drop n s
tail n s = take_all (length s - n) (drop n s) (omega (arith, length-drop n s))
