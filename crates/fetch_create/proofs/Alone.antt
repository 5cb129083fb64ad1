-- A section that takes the place of others stands alone.
use Rattle.std.proofs.Common.{◌≡◌, ℕ, Bool, true, false, not, ◌&&◌, ◌||◌, List, [], ◌∷◌, ◌++◌, map, Option, Some, None, refl, ap, ◌∙◌}
use Rattle.std.specs.Prelude.{filter}
use Rattle.std.specs.Char.{to_ascii_lowercase}
use Rattle.std.proofs.lemmas.List.Elements.{filter-append}
use Rattle.std.proofs.lemmas.Slice.Eq.{bytes_eq-Decides}
use Rattle.fetch_config.specs.Contents.{Contents}
use Rattle.fetch_config.specs.Lookups.{is_same_sub}
use Rattle.fetch_config.specs.Pieces.{is_same_name}
use Rattle.fetch_config.specs.declared.section.Section.{Section}
use Rattle.fetch_create.specs.Replacing.{is_like, is_replaced, replaced}

same-name : (name : List ℕ) → is_same_name name name ≡ true
same-name name = (bytes_eq-Decides (map to_ascii_lowercase name) (map to_ascii_lowercase name)).1 refl

same-sub : (sub : Option (List ℕ)) → is_same_sub sub sub ≡ true
same-sub None = refl
same-sub (Some text) = (bytes_eq-Decides text text).1 refl

like-itself : (s : Section) → is_like s s ≡ true
like-itself s = ap (λ (b : Bool). b && is_same_sub s.sub s.sub) (same-name s.name) ∙ same-sub s.sub

or-false : (b : Bool) → (b || false) ≡ b
or-false true = refl
or-false false = refl

-- of what doesn't pass a test none passes it
none-by : {A : Type 0} (p q : A → Bool) (x : A) (xs : List A) (b : Bool) → p x ≡ b → q x ≡ not b → filter p (filter q xs) ≡ [] → filter p (filter q (x ∷ xs)) ≡ []
none-by p q x xs true e f rest = rw f rest
none-by p q x xs false e f rest = rw f (rw e rest)

none-left : {A : Type 0} (p q : A → Bool) → ((x : A) → q x ≡ not (p x)) → (xs : List A) → filter p (filter q xs) ≡ []
none-left p q other [] = refl
none-left p q other (x ∷ xs) = none-by p q x xs (p x) refl (other x) (none-left p q other xs)

itself-left : {A : Type 0} (p : A → Bool) (x : A) → p x ≡ true → filter p (x ∷ []) ≡ x ∷ []
itself-left p x e = rw e refl

pub stands-alone : (s : Section) (file : Contents) → filter (λ t. is_like t s) (replaced (s ∷ []) file).sections ≡ s ∷ []
unfolding replaced
stands-alone s file =
    let p : Section → Bool = λ t. is_like t s in
    let q : Section → Bool = λ t. not (is_replaced (s ∷ []) t) in
    filter-append p (filter q file.sections) (s ∷ [])
    ∙ ap (λ ts. ts ++ filter p (s ∷ [])) (none-left p q (λ t. ap not (or-false (is_like t s))) file.sections)
    ∙ itself-left p s (like-itself s)
