-- What reading a scene answers: a value, or the place where the text is no scene.
use Rattle.std.specs.Prelude.{◌≡◌, ℕ, Result, Ok, Err, ⊤}
use Rattle.fetch_scene.specs.declared.fault.SceneFault.{SceneFault}
use Rattle.fetch_scene.specs.declared.fault.SceneFault.TheVariants.{Malformed, NoMemory}

infixl 10 ◌>>=◌
-- one reading after the other, unless the first breaks
abbrev pub ◌>>=◌ : {A B : Type 0} → Result A ℕ → (A → Result B ℕ) → Result B ℕ
(Ok x) >>= f = f x
(Err place) >>= f = Err place

-- The fault is the one that is found, or memory ran out.
abbrev pub FailsAs : {A : Type 0} → SceneFault → Result A ℕ → Type 0
FailsAs (Malformed place) found = found ≡ Err place
FailsAs NoMemory found = ⊤

-- A call, seen by view, answers what is found, unless memory ran out.
abbrev pub GivesBy : {X A : Type 0} → (X → A) → Result X SceneFault → Result A ℕ → Type 0
GivesBy view (Ok x) found = found ≡ Ok (view x)
GivesBy view (Err e) found = FailsAs e found

-- What is read is what the definition finds.
abbrev pub Gives : {A : Type 0} → Result A SceneFault → Result A ℕ → Type 0
Gives result found = GivesBy (λ x. x) result found
