-- The configuration of a scene: its `config` lines are one text, each with a line feed after.
use Rattle.std.specs.Prelude.{◌≡◌, ℕ, ◌≤◌, ◌-◌, ◌==◌, Bool, true, false, List, [], ◌∷◌, ◌++◌, length, drop, codes, Option, Some, None}
use Rattle.std.specs.Prelude.{Result, Ok, Err, option_and_then, if◌then◌else◌}
use Rattle.std.specs.List.{flat_map, list_any}
use Rattle.fetch_config.specs.declared.meta.Meta.{Meta}
use Rattle.fetch_config.specs.declared.meta.Origin.TheVariants.{Local}
use Rattle.fetch_config.specs.Contents.{Contents}
use Rattle.fetch_config.specs.Lines.{broken_line, sections_of}
use Rattle.fetch_lines.specs.declared.lines.line.Line.{Line}
use Rattle.fetch_scene.specs.Gives.{◌>>=◌}
use Rattle.fetch_scene.specs.SceneLines.{Lines, value_of, each_of, group_of, behind_group, first_place}

-- whether a text has a line feed
abbrev pub has_feed : List ℕ → Bool
has_feed text = list_any (λ c. c == 10) text

-- a text with no line feed inside
abbrev pub one_line : List ℕ → Option (List ℕ)
one_line text = if has_feed text then None else Some text

-- A line with a line feed inside is none of the configuration, and nothing else.
unfoldable pub config_line : Line → Option (List ℕ)
config_line line = option_and_then one_line (value_of (codes "config ") line)

-- a text with its line feed
abbrev pub with_feed : List ℕ → List ℕ
with_feed text = text ++ 10 ∷ []

-- texts, each with its line feed
abbrev pub text_of : List (List ℕ) → List ℕ
text_of texts = flat_map with_feed texts

-- It is the repository's own, and trusted.
abbrev pub own : Meta
own = record { source = Local; level = 0; path = None; trusted = true }

-- the file of a text, or the number of the line that breaks it
abbrev pub file_unless : Option ℕ → List ℕ → Result Contents ℕ
file_unless None text = Ok (record { meta = own; sections = sections_of own text })
file_unless (Some number) text = Err number

-- the configuration that a text is, or the number of its first broken line, from 1 on
unfoldable pub file_in : List ℕ → Result Contents ℕ
file_in text = file_unless (broken_line text) text

-- A configuration whose line of this number is broken is malformed at that line of the scene.
abbrev pub file_at : Lines → Result Contents ℕ → Result Contents ℕ
file_at ls (Ok file) = Ok file
file_at ls (Err number) = Err (first_place (drop (number - 1) ls.lines) ls.last)

-- the configuration, and the lines after it
unfoldable pub config_of : Lines → Result (Contents × Lines) ℕ
config_of ls = do
  texts ← each_of config_line (group_of config_line ls)
  file ← file_at ls (file_in (text_of texts))
  Ok (file, behind_group config_line ls)

-- No text has a line feed inside.
abbrev pub AreLines : List (List ℕ) → Type 0
AreLines texts = list_any has_feed texts ≡ false

-- a number of one of the lines, counted from 1
abbrev pub IsOneOf : List (List ℕ) → ℕ → Type 0
IsOneOf texts number = (1 ≤ number) × (number ≤ length texts)
