-- Lines are read from the front of a byte text, whose first byte stands at a place of a reply of bounded length.
use Rattle.std.specs.Prelude.{ℕ, zero, suc, ◌+◌, ◌*◌, max, Bool, ◌||◌, ◌==◌, List, [], ◌∷◌, length, take, drop, slice_index, Option, Some}
use Rattle.std.specs.Prelude.{None, Result, Ok, Err, nat_lt, if◌then◌else◌}
use Rattle.std.specs.List.{list_all}
use Rattle.std.specs.Option.{option_map}
use Rattle.std.specs.Result.{result_ok}
use Rattle.hex.specs.Hex.{decode_sized, is_hex_digit}
use Rattle.fetch_lines.specs.declared.lines.section.LineError.{LineError}
use Rattle.fetch_lines.specs.declared.lines.section.LineError.TheVariants.{Short, Broken, TooLong}
use Rattle.fetch_lines.specs.declared.lines.line.Line.{Line}
use Rattle.fetch_lines.specs.declared.lines.line.Line.TheVariants.{Payload, Flush, Delim, End}

infixl 10 ◌>>=◌
-- one reading after the other, unless the first is refused
abbrev pub ◌>>=◌ : {A B E : Type 0} → Result A E → (A → Result B E) → Result B E
(Ok x) >>= f = f x
(Err e) >>= f = Err e

-- what was found, as a view shows it
abbrev pub ok_as : {A B E : Type 0} → (A → B) → Result A E → Result B E
ok_as view (Ok x) = Ok (view x)
ok_as view (Err e) = Err e

-- the number that four hex digits of either case write
unfoldable pub number_in : List ℕ → Option ℕ
number_in digits = option_map (λ bytes. slice_index bytes 0 * 256 + slice_index bytes 1) (result_ok (decode_sized digits 2))

-- no line has these digits: 3, and more than a payload of 65,516 bytes
abbrev pub is_no_line : ℕ → Bool
is_no_line count = count == 3 || nat_lt 65520 count

-- the line that a number announces which counts the digits and the payload, and what follows the line
abbrev pub line_counted : ℕ → ℕ → List ℕ → Result (Line × List ℕ) LineError
line_counted zero place rest = Ok (Flush, rest)
line_counted (suc zero) place rest = Ok (Delim, rest)
line_counted (suc (suc zero)) place rest = Err (Broken place)
line_counted (suc (suc (suc zero))) place rest = Err (Broken place)
line_counted (suc (suc (suc (suc n)))) place rest =
    if nat_lt (length rest) n then Err (Short place) else Ok (Payload (take n rest), drop n rest)

-- The line that digits at this place announce. First come digits that no line has, then the bound, then the line.
unfoldable pub announced : ℕ → ℕ → Option ℕ → List ℕ → Result (Line × List ℕ) LineError
announced bound place None rest = Err (Broken place)
announced bound place (Some count) rest =
    if is_no_line count then Err (Broken place) else (
    if nat_lt bound (place + max count 4) then Err TooLong else line_counted count place rest)

-- The line that the bytes begin with, and what follows it. Fewer than four bytes may yet become digits.
unfoldable pub line_at : ℕ → ℕ → List ℕ → Result (Line × List ℕ) LineError
line_at bound place (a ∷ b ∷ c ∷ d ∷ rest) = announced bound place (number_in (a ∷ b ∷ c ∷ d ∷ [])) rest
line_at bound place bytes = if list_all is_hex_digit bytes then Err (Short place) else Err (Broken place)

-- how many bytes a line has
abbrev pub line_len : Line → ℕ
line_len (Payload payload) = length payload + 4
line_len Flush = 4
line_len Delim = 4
line_len End = 4
