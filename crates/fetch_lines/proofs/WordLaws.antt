-- The words of a text, found one after another.
use Rattle.std.proofs.Common.{◌≡◌, ℕ, Bool, true, false, not, ◌&&◌, List, [], ◌∷◌, ◌++◌, Some, None, refl, ap, ◌∙◌, ◌⊎◌, inl, inr}
use Rattle.std.specs.Prelude.{◌==◌}
use Rattle.std.specs.List.{list_all}
use Rattle.std.proofs.lemmas.Bool.{eqb-true}
use Rattle.fetch_base.specs.Scan.{split_first}
use Rattle.fetch_base.specs.Lines.{IsWithout}
use Rattle.fetch_base.proofs.LineLaws.{splits}
use Rattle.fetch_lines.specs.Words.{words}

both : (a b : Bool) → (a && b) ≡ true → (a ≡ true) × (b ≡ true)
both true b e = (refl, e)
both false b e = absurd cc

not_space : (t : Bool) → not t ≡ true → t ≡ false
not_space true e = cc
not_space false e = refl

words-step : (b : ℕ) (bytes : List ℕ) (word : List ℕ) (others : List (List ℕ)) (t : Bool) → (b == 32) ≡ t → t ≡ false → words bytes ≡ word ∷ others → words (b ∷ bytes) ≡ (b ∷ word) ∷ others
words-step b bytes word others true is other h = cc
words-step b bytes word others false is other h = rw (is, h) refl

pub words-front : (word rest : List ℕ) → IsWithout 32 word → words (word ++ 32 ∷ rest) ≡ word ∷ words rest
words-front [] rest none = refl
words-front (b ∷ word) rest none =
    let t = both (not (b == 32)) (list_all (λ c. not (c == 32)) word) none in
    words-step b (word ++ 32 ∷ rest) word (words rest) (b == 32) refl (not_space (b == 32) t.0) (words-front word rest t.1)

pub words-one : (text : List ℕ) → IsWithout 32 text → words text ≡ text ∷ []
words-one [] none = refl
words-one (b ∷ text) none =
    let t = both (not (b == 32)) (list_all (λ c. not (c == 32)) text) none in
    words-step b text text [] (b == 32) refl (not_space (b == 32) t.0) (words-one text t.1)

abbrev HasSpace : List ℕ → Type 0
HasSpace text = (before : List ℕ) × (behind : List ℕ) × (text ≡ before ++ 32 ∷ behind) × IsWithout 32 before

more_by : (b : ℕ) (text : List ℕ) (t : Bool) → (b == 32) ≡ t → IsWithout 32 text ⊎ HasSpace text → IsWithout 32 (b ∷ text) ⊎ HasSpace (b ∷ text)
more_by b text true is other = inr ([], text, ap (λ (c : ℕ). c ∷ text) (eqb-true _ _ is), refl)
more_by b text false is (inl none) = inl (rw is none)
more_by b text false is (inr (before, behind, whole, none)) = inr (b ∷ before, behind, ap (λ (l : List ℕ). b ∷ l) whole, rw is none)

without_or_space : (text : List ℕ) → IsWithout 32 text ⊎ HasSpace text
without_or_space [] = inl refl
without_or_space (b ∷ text) = more_by b text (b == 32) refl (without_or_space text)

pub words-some : (text word rest : List ℕ) → split_first 32 text ≡ Some (word, rest) → words text ≡ word ∷ words rest
words-some text word rest e = let s = (splits 32 text).found word rest e in ap words s.0 ∙ words-front word rest s.1

none_by : (text : List ℕ) → split_first 32 text ≡ None → IsWithout 32 text ⊎ HasSpace text → words text ≡ text ∷ []
none_by text e (inl none) = words-one text none
none_by text e (inr (before, behind, whole, none)) = let s = (splits 32 text).only before behind whole none in absurd cc

pub words-none : (text : List ℕ) → split_first 32 text ≡ None → words text ≡ text ∷ []
words-none text e = none_by text e (without_or_space text)
