-- The lines that a peer heard.
use Rattle.std.specs.Prelude.{◌≡◌, ℕ, zero, suc, Bool, true, false, List, [], ◌∷◌, length, Option, Some, None}
use Rattle.std.specs.List.{list_all}
use Rattle.fetch_lines.specs.Written.{first_too_long}
use Rattle.fetch_lines.specs.declared.lines.line.Line.{Line}
use Rattle.fetch_lines.specs.declared.lines.line.Line.TheVariants.{Payload, Flush, Delim, End}
use Rattle.fetch_scene.specs.SceneLines.{line_found}

-- a line before those after it; where no line is, the lines end
abbrev pub heard_then : (List ℕ → List Line) → Option (Line × List ℕ) → List Line
heard_then others None = []
heard_then others (Some x) = x.0 ∷ others x.1

-- the lines of the bytes, of at most that many
unfoldable pub heard_within : ℕ → List ℕ → List Line
heard_within zero bytes = []
heard_within (suc n) bytes = heard_then (heard_within n) (line_found 0 bytes)

-- The lines of the bytes, up to where they have no more. A line has a byte at least.
abbrev pub lines_heard : List ℕ → List Line
lines_heard bytes = heard_within (length bytes) bytes

-- no line of a request ends a response
abbrev pub is_sent : Line → Bool
is_sent (Payload payload) = true
is_sent Flush = true
is_sent Delim = true
is_sent End = false

-- lines of a request, none of them too long
pub record AreSent (lines : List Line) : Type 0 where
  pub sent : list_all is_sent lines ≡ true
  pub fit : first_too_long lines ≡ None
