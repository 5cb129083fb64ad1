-- Lines of a reply, while its bytes come in pieces.
use Rattle.std.specs.Prelude.{ℕ, ◌+◌, ◌-◌, List, ◌++◌, length, Option, Some, None, Result, Ok, Err}
use Rattle.fetch_lines.specs.declared.error.WireError.{WireError}
use Rattle.fetch_lines.specs.declared.error.WireError.TheVariants as errors
use Rattle.fetch_lines.specs.declared.lines.line.Line.{Line}
use Rattle.fetch_lines.specs.declared.lines.reader.Need.{Need}
use Rattle.fetch_lines.specs.declared.lines.reader.Need.TheVariants as needs
use Rattle.fetch_lines.specs.declared.lines.section.LineError.{LineError}
use Rattle.fetch_lines.specs.declared.lines.section.LineError.TheVariants.{Short, Broken, TooLong}
use Rattle.fetch_lines.specs.LineViews.{line_of}
use Rattle.fetch_lines.specs.Lines.{line_at, line_len}

-- How many bytes a reply may have, how many its lines that were read have, and what was fed and not yet read.
pub record Feeding : Type 0 where
  pub bound : ℕ
  pub place : ℕ
  pub pending : List ℕ

-- How many bytes may still come of a reply that isn't whole, and one more: its lines end within the bound, and fewer than
-- four bytes may begin another.
abbrev pub room_at : ℕ → ℕ → List ℕ → ℕ
room_at bound place pending = ((bound - place) + 4) - length pending

-- the same, with more bytes after
abbrev pub fed : Feeding → List ℕ → Feeding
fed feeding more = record feeding { pending = feeding.pending ++ more }

-- what is found in what was fed: a line, or nothing yet, or a line that is refused
abbrev pub need_in : Result (Line × List ℕ) LineError → Result (Option Line) LineError
need_in (Ok x) = Ok (Some x.0)
need_in (Err (Short place)) = Ok None
need_in (Err (Broken place)) = Err (Broken place)
need_in (Err TooLong) = Err TooLong

-- what is left: the line is read, and what is refused stays
abbrev pub left_by : Feeding → Result (Line × List ℕ) LineError → Feeding
left_by feeding (Ok x) = record feeding { place = feeding.place + line_len x.0; pending = x.1 }
left_by feeding (Err trouble) = feeding

-- the line that comes next, or why there is none
abbrev pub found_in : Feeding → Result (Line × List ℕ) LineError
found_in feeding = line_at feeding.bound feeding.place feeding.pending

-- the next line, or None where more bytes are needed, or why it is refused
abbrev pub next_in : Feeding → Result (Option Line) LineError
next_in feeding = need_in (found_in feeding)

-- the reader after its next line
abbrev pub behind_next : Feeding → Feeding
behind_next feeding = left_by feeding (found_in feeding)

-- what a reader gives, its line seen as one that owns its payload
abbrev pub seen : {E : Type 0} → Result Need E → Result (Option Line) E
seen (Ok (needs.Line line)) = Ok (Some (line_of line))
seen (Ok needs.More) = Ok None
seen (Err trouble) = Err trouble

-- what a refused line is to a caller, in a reply of bounded length
abbrev pub error_of : ℕ → LineError → WireError
error_of bound (Short place) = errors.Malformed place
error_of bound (Broken place) = errors.Malformed place
error_of bound TooLong = errors.ReplyTooLong bound

-- what is found, a refusal as it is to a caller
abbrev pub told_to_caller : {A : Type 0} → ℕ → Result A LineError → Result A WireError
told_to_caller bound (Ok found) = Ok found
told_to_caller bound (Err trouble) = Err (error_of bound trouble)

-- the next line, or None where more bytes are needed, or why it is refused, as a caller is told
abbrev pub next_told : Feeding → Result (Option Line) WireError
next_told feeding = told_to_caller feeding.bound (next_in feeding)
