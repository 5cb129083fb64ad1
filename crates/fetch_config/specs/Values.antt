-- What the text of a value or a subsection says, character by character.
use Rattle.std.specs.Prelude.{ℕ, Bool, true, false, not, ◌&&◌, ◌||◌, ◌==◌, if◌then◌else◌, List, [], ◌∷◌, Option, Some, None}
use Rattle.std.specs.Option.{option_map}
use Rattle.fetch_base.specs.Scan.{◌>>=◌}
use Rattle.fetch_config.specs.Pieces.{is_comment_sign, skip_blanks, trim_end}

-- the byte that `\` and this character stand for
abbrev pub escape_of : ℕ → Option ℕ
escape_of c =
    if c == 34 then Some 34
    else if c == 92 then Some 92
    else if c == 110 then Some 10
    else if c == 116 then Some 9
    else if c == 98 then Some 8
    else None

-- one more byte in front of what is read after it
abbrev pub with_byte : ℕ → Option (List ℕ) → Option (List ℕ)
with_byte c rest = option_map (λ text. c ∷ text) rest

-- The text of a value without its quotes, and with its escapes read. `quoted`: an odd number of quotes stands
-- before it; `escaped`: a `\` stands before it. None: an open quote, an unknown escape, or a `\` at the end.
unfoldable pub unquoted : Bool → Bool → List ℕ → Option (List ℕ)
unquoted quoted escaped [] = if quoted || escaped then None else Some []
unquoted quoted true (c ∷ cs) = escape_of c >>= λ b. with_byte b (unquoted quoted false cs)
unquoted quoted false (c ∷ cs) =
    if c == 34 then unquoted (not quoted) false cs
    else if c == 92 then unquoted quoted true cs
    else with_byte c (unquoted quoted false cs)

-- The text up to the first `#` or `;` that stands outside quotes.
unfoldable pub before_comment : Bool → Bool → List ℕ → List ℕ
before_comment quoted escaped [] = []
before_comment quoted true (c ∷ cs) = c ∷ before_comment quoted false cs
before_comment quoted false (c ∷ cs) =
    if c == 34 then c ∷ before_comment (not quoted) false cs
    else if c == 92 then c ∷ before_comment quoted true cs
    else if is_comment_sign c && not quoted then []
    else c ∷ before_comment quoted false cs

-- A value is what stands before a comment, without outer blanks.
unfoldable pub value_of : List ℕ → Option (List ℕ)
value_of text = unquoted false false (trim_end (skip_blanks (before_comment false false text)))

-- with a byte in front of what was read
abbrev pub with_front : ℕ → Option (List ℕ × List ℕ) → Option (List ℕ × List ℕ)
with_front c found = option_map (λ p. (c ∷ p.0, p.1)) found

-- A subsection's text up to its closing quote, and what stands after that. `\` takes the next byte as it is.
unfoldable pub subsection_of : Bool → List ℕ → Option (List ℕ × List ℕ)
subsection_of escaped [] = None
subsection_of true (c ∷ cs) = with_front c (subsection_of false cs)
subsection_of false (c ∷ cs) =
    if c == 34 then Some ([], cs)
    else if c == 92 then subsection_of true cs
    else with_front c (subsection_of false cs)
