-- What follows a word at the front of a text, and bytes that stand nowhere in it.
use Rattle.std.proofs.Common.{◌≡◌, ℕ, Bool, true, false, cond, not, eqb, List, ◌++◌, length, take, drop, None, Some, refl, sym, ap, ap₂, ◌∙◌}
use Rattle.std.specs.Prelude.{nat_eq}
use Rattle.std.specs.List.{starts_with}
use Rattle.std.proofs.lemmas.Bool.{and_parts, and_from}
use Rattle.std.proofs.lemmas.List.{take-append-drop, take_at, drop_at}
use Rattle.std.proofs.lemmas.List.Folds.{list_all-append}
use Rattle.std.proofs.lemmas.Slice.Eq.{bytes_eq-Decides}
use Rattle.fetch_base.specs.Scan.{after}
use Rattle.fetch_base.specs.Lines.{IsWithout}

pub after_is : (word line x : List ℕ) → after word line ≡ Some x → line ≡ word ++ x
after_is word line x is = by_test (starts_with nat_eq line word) refl is
  where
    by_test : (b : Bool) → starts_with nat_eq line word ≡ b → cond b (Some (drop (length word) line)) None ≡ Some x → line ≡ word ++ x
    by_test true e h =
        let front : word ≡ take (length word) line = (bytes_eq-Decides word (take (length word) line)).0 e in
        let back : drop (length word) line ≡ x = cc in
        sym (take-append-drop (length word) line) ∙ ap₂ (λ a b. a ++ b) (sym front) back
    by_test false e h = absurd cc

pub after_of : (word x : List ℕ) → after word (word ++ x) ≡ Some x
after_of word x =
    ap (λ b. cond b (Some (drop (length word) (word ++ x))) None) ((bytes_eq-Decides word (take (length word) (word ++ x))).1 (sym (take_at word x (length word) refl)))
    ∙ ap Some (drop_at word x (length word) refl)

pub both_without : (x : ℕ) (a b : List ℕ) → IsWithout x a → IsWithout x b → IsWithout x (a ++ b)
both_without x a b p q = list_all-append (λ c. not (eqb c x)) a b ∙ and_from _ _ p q

pub parts_without : (x : ℕ) (a b : List ℕ) → IsWithout x (a ++ b) → IsWithout x a × IsWithout x b
parts_without x a b p = and_parts _ _ (sym (list_all-append (λ c. not (eqb c x)) a b) ∙ p)
