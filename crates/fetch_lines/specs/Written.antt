-- Lines as they are written.
use Rattle.std.specs.Prelude.{◌≡◌, ℕ, ◌+◌, ◌/◌, ◌%◌, List, [], ◌∷◌, ◌++◌, length, Option, Some, None, nat_lt, if◌then◌else◌, ⊤}
use Rattle.std.specs.List.{flat_map}
use Rattle.std.specs.Option.{option_or}
use Rattle.hex.specs.Hex.{encode_lower}
use Rattle.fetch_lines.specs.declared.error.WireError.{WireError}
use Rattle.fetch_lines.specs.declared.error.WireError.TheVariants as errors
use Rattle.fetch_lines.specs.declared.lines.line.Line.{Line}
use Rattle.fetch_lines.specs.declared.lines.line.Line.TheVariants.{Payload, Flush, Delim, End}

-- a number below 65,536 as four hex digits of lower case
unfoldable pub four_digits : ℕ → List ℕ
four_digits n = encode_lower (n / 256 ∷ n % 256 ∷ [])

-- the number that a line's digits write: they count themselves and the payload
abbrev pub count_of : Line → ℕ
count_of (Payload payload) = length payload + 4
count_of Flush = 0
count_of Delim = 1
count_of End = 2

-- what follows a line's digits
abbrev pub payload_of : Line → List ℕ
payload_of (Payload payload) = payload
payload_of Flush = []
payload_of Delim = []
payload_of End = []

-- a line as it is written
unfoldable pub line_text : Line → List ℕ
line_text line = four_digits (count_of line) ++ payload_of line

-- lines one after another
abbrev pub lines_text : List Line → List ℕ
lines_text lines = flat_map line_text lines

-- the length of a payload that fits no line: more than 65,516 bytes
abbrev pub too_long_in : Line → Option ℕ
too_long_in line = if nat_lt 65516 (length (payload_of line)) then Some (length (payload_of line)) else None

-- the length of the first payload that fits no line
abbrev pub first_too_long : List Line → Option ℕ
first_too_long [] = None
first_too_long (line ∷ lines) = option_or (too_long_in line) (first_too_long lines)

-- a refusal tells this length, or out of memory
abbrev pub TellsTooLong : Option ℕ → WireError → Type 0
TellsTooLong found errors.NoMemory = ⊤
TellsTooLong found (errors.LineTooLong n) = found ≡ Some n
TellsTooLong found (errors.Malformed place) = ⊥
TellsTooLong found (errors.ServerError text) = ⊥
TellsTooLong found (errors.ReplyTooLong bound) = ⊥
TellsTooLong found (errors.MissingFeature name) = ⊥
TellsTooLong found (errors.BadParameter text place) = ⊥
