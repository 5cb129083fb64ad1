-- What one line of a reply does.
use Rattle.std.specs.Prelude.{ℕ, List, drop, if◌then◌else◌}
use Rattle.fetch_lines.specs.declared.lines.line.Line.{Line}
use Rattle.fetch_lines.specs.declared.lines.line.Line.TheVariants.{Payload, Flush, Delim, End}
use Rattle.fetch_replies.specs.Stepping.{Step, breaks, says}
use Rattle.fetch_lines.specs.Texts.{without_lf, is_error}

-- what the server says after `ERR `
abbrev pub error_text : List ℕ → List ℕ
error_text payload = drop 4 (without_lf payload)

-- a text line, where the server may say that it fails
abbrev pub by_payload : {S T : Type 0} → (List ℕ → Step S T) → List ℕ → Step S T
by_payload text payload = if is_error payload then says (error_text payload) else text (without_lf payload)

-- by what a line is: a flush, a delimiter, or a text
abbrev pub by_line : {S T : Type 0} → Step S T → Step S T → (List ℕ → Step S T) → Line → Step S T
by_line flush delim text (Payload payload) = by_payload text payload
by_line flush delim text Flush = flush
by_line flush delim text Delim = delim
by_line flush delim text End = breaks

-- a text line alone
abbrev pub by_text : {S T : Type 0} → (List ℕ → Step S T) → Line → Step S T
by_text text line = by_line breaks breaks text line
