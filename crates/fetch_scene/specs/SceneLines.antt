-- A scene is a list of lines, each with its place in the text.
use Rattle.std.specs.Prelude.{ℕ, zero, suc, ◌+◌, ◌^◌, ◌-◌, List, [], ◌∷◌, length, take, drop, Option, Some, None}
use Rattle.std.specs.Prelude.{Result, Ok, Err, option_and_then, if◌then◌else◌}
use Rattle.std.specs.List.{prefix_len}
use Rattle.std.specs.Option.{option_map, ok_or, is_some}
use Rattle.std.specs.Str.{bytes_eq}
use Rattle.std.specs.Result.{result_ok}
use Rattle.fetch_base.specs.Scan.{after}
use Rattle.fetch_lines.specs.Lines.{line_at, line_len}
use Rattle.fetch_lines.specs.Texts.{without_lf}
use Rattle.fetch_lines.specs.declared.lines.line.Line.{Line}
use Rattle.fetch_lines.specs.declared.lines.line.Line.TheVariants.{Payload, Flush, Delim, End}
use Rattle.fetch_scene.specs.Gives.{◌>>=◌}

-- a line and the place where it begins
pub record Placed : Type 0 where
  pub place : ℕ
  pub line : Line

-- lines that follow each other, and the place after the last of them
pub record Lines : Type 0 where
  pub lines : List Placed
  pub last : ℕ

-- the text of a text line, which is its payload without a last line feed
unfoldable pub text_of : Line → Option (List ℕ)
text_of (Payload payload) = Some (without_lf payload)
text_of Flush = None
text_of Delim = None
text_of End = None

-- the payload of a line
unfoldable pub payload_of : Line → Option (List ℕ)
payload_of (Payload payload) = Some payload
payload_of Flush = None
payload_of Delim = None
payload_of End = None

-- what follows the word at the front of a text line
unfoldable pub value_of : List ℕ → Line → Option (List ℕ)
value_of word line = option_and_then (after word) (text_of line)

-- a text line that says the word and no more
unfoldable pub says : List ℕ → Line → Option (Unit {0})
says word line = option_and_then (λ text. if bytes_eq text word then Some tt else None) (text_of line)

-- a line that is a delimiter
unfoldable pub delimits : Line → Option (Unit {0})
delimits (Payload payload) = None
delimits Flush = None
delimits Delim = Some tt
delimits End = None

-- a line that is a flush
unfoldable pub flushes : Line → Option (Unit {0})
flushes (Payload payload) = None
flushes Flush = Some tt
flushes Delim = None
flushes End = None

-- the first line and the others; where there is none, the text breaks at the place after
abbrev pub first_in : List Placed → ℕ → Result (Placed × Lines) ℕ
first_in [] last = Err last
first_in (p ∷ ps) last = Ok (p, record { lines = ps; last = last })

-- the first line and the others
abbrev pub first_of : Lines → Result (Placed × Lines) ℕ
first_of ls = first_in ls.lines ls.last

-- What a line gives, before the lines after it. A line that gives nothing is malformed at its place.
abbrev pub read_at : {A : Type 0} → (Line → Option A) → Placed × Lines → Result (A × Lines) ℕ
read_at f x = ok_or (option_map (λ y. (y, x.1)) (f x.0.line)) x.0.place

-- what the next line gives
abbrev pub next : {A : Type 0} → (Line → Option A) → Lines → Result (A × Lines) ℕ
next f ls = first_of ls >>= read_at f

-- what the next line gives, or nothing, and then the line is left
abbrev pub taken_or_left : {A : Type 0} → Lines → Result (A × Lines) ℕ → Option A × Lines
taken_or_left ls (Ok x) = (Some x.0, x.1)
taken_or_left ls (Err place) = (None, ls)

-- what the first line gives, if it gives something, and the lines that are left
abbrev pub next_if : {A : Type 0} → (Line → Option A) → Lines → Option A × Lines
next_if f ls = taken_or_left ls (next f ls)

-- how many lines from the front on give something
abbrev pub group_len : {A : Type 0} → (Line → Option A) → List Placed → ℕ
group_len f lines = prefix_len (λ p. is_some (f p.line)) lines

-- the lines at the front that give something, and those after them
abbrev pub group_of : {A : Type 0} → (Line → Option A) → Lines → List Placed
group_of f ls = take (group_len f ls.lines) ls.lines

-- the lines after those that give something
abbrev pub behind_group : {A : Type 0} → (Line → Option A) → Lines → Lines
behind_group f ls = record { lines = drop (group_len f ls.lines) ls.lines; last = ls.last }

-- what each line gives; one that gives nothing is malformed at its place
unfoldable pub each_of : {A : Type 0} → (Line → Option A) → List Placed → Result (List A) ℕ
each_of f [] = Ok []
each_of f (p ∷ ps) = do
  x ← ok_or (f p.line) p.place
  xs ← each_of f ps
  Ok (x ∷ xs)

-- what each line at the front gives that begins with the word, before the lines after these
abbrev pub each_with : {A : Type 0} → List ℕ → (Line → Option A) → Lines → Result (List A × Lines) ℕ
each_with word f ls = do
  xs ← each_of f (group_of (value_of word) ls)
  Ok (xs, behind_group (value_of word) ls)

-- A scene has no bound on its lines but its own length.
abbrev pub unbounded : ℕ
unbounded = 2 ^ 64 - 1

-- the line at a place, and what follows it
unfoldable pub line_found : ℕ → List ℕ → Option (Line × List ℕ)
line_found place bytes = result_ok (line_at unbounded place bytes)

-- a line before others
abbrev pub onto : Placed → Lines → Lines
onto p ls = record { lines = p ∷ ls.lines; last = ls.last }

-- the line before the lines after it; where no line is, the lines end
abbrev pub line_then : ℕ → (ℕ → List ℕ → Lines) → Option (Line × List ℕ) → Lines
line_then place others None = record { lines = []; last = place }
line_then place others (Some x) = onto (record { place = place; line = x.0 }) (others (place + line_len x.0) x.1)

-- the lines of the bytes at a place, of at most that many
unfoldable pub lines_within : ℕ → ℕ → List ℕ → Lines
lines_within zero place bytes = record { lines = []; last = place }
lines_within (suc n) place bytes = line_then place (lines_within n) (line_found place bytes)

-- The lines of a text, up to where it has no more. A line has a byte at least.
abbrev pub lines_of : List ℕ → Lines
lines_of bytes = lines_within (length bytes) 0 bytes

-- where the first line stands, or where it is missing
abbrev pub first_place : List Placed → ℕ → ℕ
first_place [] last = last
first_place (p ∷ ps) last = p.place

-- the place of the first line
abbrev pub place_of : Lines → ℕ
place_of ls = first_place ls.lines ls.last
