-- A text is read line by line: each line is a step from what was told before it.
use Rattle.std.specs.Prelude.{ℕ, zero, suc, ◌+◌, List, length, Option, Some, None, Result, Ok, Err}
use Rattle.fetch_lines.specs.declared.lines.section.LineError.{LineError}
use Rattle.fetch_lines.specs.declared.lines.section.LineError.TheVariants as lines
use Rattle.fetch_replies.specs.declared.replies.reply.ReplyError.{ReplyError}
use Rattle.fetch_replies.specs.declared.replies.reply.ReplyError.TheVariants.{Short, Broken, TooLong, Said}
use Rattle.fetch_lines.specs.declared.lines.line.Line.{Line}
use Rattle.fetch_lines.specs.Lines.{line_at, line_len}

-- What a line does to a reading in state S: it goes on, it ends with a T that was told, the line breaks the grammar,
-- or the server says there that it fails.
pub data Step (S T : Type 0) : Type 0 where
  goes : S → Step S T
  ends : T → Step S T
  breaks : Step S T
  says : List ℕ → Step S T

-- a step by what is there, and a line that breaks the grammar where nothing is
abbrev pub or_breaks : {A S T : Type 0} → Option A → (A → Step S T) → Step S T
or_breaks None f = breaks
or_breaks (Some x) f = f x

-- why a line can't be read is why the text can't
abbrev pub fault_of : LineError → ReplyError
fault_of (lines.Short place) = Short place
fault_of (lines.Broken place) = Broken place
fault_of lines.TooLong = TooLong

-- what a line at this place does, before this rest and the reading of it
abbrev pub after_step : {S T : Type 0} → ℕ → List ℕ → (S → Result (T × List ℕ) ReplyError) → Step S T → Result (T × List ℕ) ReplyError
after_step place rest others (goes s) = others s
after_step place rest others (ends t) = Ok (t, rest)
after_step place rest others breaks = Err (Broken place)
after_step place rest others (says text) = Err (Said text)

-- a line that was found, and what follows it
abbrev pub after_line : {A : Type 0} → Result (Line × List ℕ) LineError → (Line → List ℕ → Result A ReplyError) → Result A ReplyError
after_line (Err trouble) f = Err (fault_of trouble)
after_line (Ok x) f = f x.0 x.1

-- at most that many lines
unfoldable pub read_within : {S T : Type 0} → ℕ → (S → Line → Step S T) → ℕ → S → ℕ → List ℕ → Result (T × List ℕ) ReplyError
read_within zero step bound s place bytes = Err (Short place)
read_within (suc n) step bound s place bytes =
    after_line (line_at bound place bytes) (λ line rest.
    after_step place rest (λ t. read_within n step bound t (place + line_len line) rest) (step s line))

-- What bytes at this place of a reply of bounded length tell, read line by line from this state, and what follows.
-- At each line come its digits, then the bound, then the grammar, and the first line in order decides. Each line has a
-- byte, so there are no more lines than bytes.
abbrev pub read_by : {S T : Type 0} → (S → Line → Step S T) → ℕ → S → ℕ → List ℕ → Result (T × List ℕ) ReplyError
read_by step bound s place bytes = read_within (suc (length bytes)) step bound s place bytes
