-- What of a first line can't be sent.
use Rattle.std.specs.Prelude.{◌≡◌, ℕ, Bool, ◌||◌, ◌==◌, List, [], ◌∷◌, ◌++◌, map, position, Option, Some, None, ⊤}
use Rattle.std.specs.Option.{option_map, option_or}
use Rattle.fetch_lines.specs.declared.error.WireError.{WireError}
use Rattle.fetch_lines.specs.declared.error.WireError.TheVariants as errors
use Rattle.fetch_lines.specs.Requests.{agent_text}

-- NUL and LF divide what is sent
abbrev pub divides : ℕ → Bool
divides b = b == 0 || b == 10

-- a text that can't be sent, and the place of the first byte that divides it
abbrev pub bad_in : List ℕ → Option (List ℕ × ℕ)
bad_in text = option_map (λ place. (text, place)) (position divides text)

-- the first text that can't be sent
abbrev pub first_bad : List (List ℕ) → Option (List ℕ × ℕ)
first_bad [] = None
first_bad (text ∷ others) = option_or (bad_in text) (first_bad others)

-- `name` or `name=value`
abbrev pub told_parameter : List ℕ × Option (List ℕ) → List ℕ
told_parameter (name, None) = name
told_parameter (name, Some value) = name ++ 61 ∷ value

-- what a session is told to send: the address, then each parameter, then the agent with `git/` before it
abbrev pub texts_told : List ℕ → List (List ℕ × Option (List ℕ)) → List ℕ → List (List ℕ)
texts_told address parameters agent = address ∷ map told_parameter parameters ++ agent_text agent ∷ []

-- what can't be sent: a text with a byte that divides first, and then a line that is too long
abbrev pub TellsUnsent : Option (List ℕ × ℕ) → Option ℕ → WireError → Type 0
TellsUnsent bad long errors.NoMemory = ⊤
TellsUnsent bad long (errors.BadParameter text place) = bad ≡ Some (text, place)
TellsUnsent bad long (errors.LineTooLong n) = (bad ≡ None) × (long ≡ Some n)
TellsUnsent bad long (errors.Malformed place) = ⊥
TellsUnsent bad long (errors.ServerError text) = ⊥
TellsUnsent bad long (errors.ReplyTooLong bound) = ⊥
TellsUnsent bad long (errors.MissingFeature name) = ⊥
