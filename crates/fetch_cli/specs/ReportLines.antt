-- The lines of a report.
use Rattle.std.specs.Prelude.{ℕ, ◌+◌, ◌/◌, ◌%◌, ◌==◌, nat_lt, List, [], ◌∷◌, ◌++◌, codes, decimal, if◌then◌else◌}
use Rattle.std.specs.List.{flat_map}
use Rattle.fetch_base.specs.declared.id.ObjectId.{ObjectId}
use Rattle.fetch_base.specs.Digits.{hex_of}
use Rattle.fetch_lines.specs.declared.lines.line.Line.{Line}
use Rattle.fetch_lines.specs.declared.lines.line.Line.TheVariants.{Payload, Flush, Delim, End}
use Rattle.fetch_refs.specs.declared.log.LogLine.{LogLine}
use Rattle.fetch_refs.specs.declared.target.Target.{Target}
use Rattle.fetch_refs.specs.declared.target.Target.TheVariants as targets

-- the lower-case digit of a number below 16
abbrev pub hex_digit : ℕ → ℕ
hex_digit n = if nat_lt n 10 then 48 + n else 87 + n

-- Printable ASCII stands as it is; `"` and `\` have a `\` before them.
unfoldable pub escaped : ℕ → List ℕ
escaped b =
    if b == 10 then codes "\\n"
    else if b == 34 then codes "\\\""
    else if b == 92 then codes "\\\\"
    else if nat_lt b 32 then codes "\\x" ++ hex_digit (b / 16) ∷ hex_digit (b % 16) ∷ []
    else if nat_lt b 127 then b ∷ []
    else codes "\\x" ++ hex_digit (b / 16) ∷ hex_digit (b % 16) ∷ []

-- a line that was sent
unfoldable pub sent_line : Line → List ℕ
sent_line (Payload payload) = codes "> \"" ++ flat_map escaped payload ++ codes "\"\n"
sent_line Flush = codes "> 0000\n"
sent_line Delim = codes "> 0001\n"
sent_line End = codes "> 0002\n"

-- an id, or a name after a `@`
unfoldable pub target_text : Target → List ℕ
target_text (targets.Object id) = hex_of id
target_text (targets.Symbolic name) = codes "@" ++ name

-- the line of a reference
unfoldable pub ref_line : List ℕ → Target → List ℕ
ref_line name target = codes "ref " ++ target_text target ++ codes " " ++ name ++ codes "\n"

-- `<old> <new>`
unfoldable pub change_text : ObjectId → ObjectId → List ℕ
change_text old new = hex_of old ++ codes " " ++ hex_of new

-- The committer isn't told.
unfoldable pub log_line : List ℕ → LogLine → List ℕ
log_line name line = codes "log " ++ name ++ codes " " ++ change_text line.old line.new ++ codes " " ++ line.message ++ codes "\n"

-- the line of a border commit
unfoldable pub border_line : ObjectId → List ℕ
border_line id = codes "border " ++ hex_of id ++ codes "\n"

-- the line of a stored id
unfoldable pub id_line : ObjectId → List ℕ
id_line id = codes "id " ++ hex_of id ++ codes "\n"

-- the line of a keep file
unfoldable pub keep_line : List ℕ → List ℕ
keep_line path = codes "keep " ++ path ++ codes "\n"

-- the line of a refusal
unfoldable pub refused_line : List ℕ → List ℕ
refused_line token = codes "refused " ++ token ++ codes "\n"

-- a word and a number
unfoldable pub counted_line : List ℕ → ℕ → List ℕ
counted_line word n = word ++ decimal n ++ codes "\n"

-- what is told of input that is no scene
unfoldable pub malformed_line : ℕ → List ℕ
malformed_line place = counted_line (codes "malformed ") place

-- and of words that are none
unfoldable pub malformed_word_line : ℕ → List ℕ
malformed_word_line number = counted_line (codes "malformed word ") number
