-- What a line says, and what the lines of a text say together.
use Rattle.std.specs.Prelude.{ℕ, ◌+◌, Bool, true, false, ◌||◌, ◌==◌, if◌then◌else◌, List, [], ◌∷◌, drop, Option, Some, None}
use Rattle.std.specs.List.{prefix_len, take_while, list_any, filter_map}
use Rattle.std.specs.Option.{option_map}
use Rattle.std.specs.Str.Lines.{lines}
use Rattle.fetch_base.specs.Scan.{◌>>=◌}
use Rattle.fetch_config.specs.declared.line.Line.{Line}
use Rattle.fetch_config.specs.declared.line.Line.TheVariants.{Nothing, Header, Entry}
use Rattle.fetch_config.specs.declared.meta.Meta.{Meta}
use Rattle.fetch_config.specs.declared.section.Section.{Section}
use Rattle.fetch_config.specs.Pieces.{is_blank, is_comment_sign, is_name_byte, skip_blanks, is_nothing, is_name, is_key, behind}
use Rattle.fetch_config.specs.Values.{value_of, subsection_of}

-- After a header only blanks or a comment may stand.
abbrev pub header_before : List ℕ → Option (List ℕ) → List ℕ → Option Line
header_before name sub tail = if is_nothing tail then Some (Header name sub) else None

-- ` "<subsection>"]`, from after the first blank on
abbrev pub header_with_sub : List ℕ → List ℕ → Option Line
header_with_sub name text = do
  quoted ← behind 34 (skip_blanks text)
  sub ← subsection_of false quoted
  tail ← behind 93 sub.1
  header_before name (Some sub.0) tail

-- what stands after the name of a header
abbrev pub header_behind : List ℕ → List ℕ → Option Line
header_behind name [] = None
header_behind name (c ∷ cs) =
    if c == 93 then header_before name None cs
    else if is_blank c then header_with_sub name cs
    else None

-- `[name]` or `[name "subsection"]`, from after the bracket on
abbrev pub header_of : List ℕ → Option Line
header_of text = let name = take_while is_name_byte text in if is_name name
    then header_behind name (drop (prefix_len is_name_byte text) text) else None

-- what stands after a key and its blanks
abbrev pub entry_behind : List ℕ → List ℕ → Option Line
entry_behind key [] = Some (Entry key None)
entry_behind key (c ∷ cs) = if c == 61 then option_map (λ value. Entry key (Some value)) (value_of cs) else None

-- `key = value`, or `key` alone
abbrev pub entry_of : List ℕ → Option Line
entry_of text = let key = take_while is_name_byte text in if is_key key
    then entry_behind key (skip_blanks (drop (prefix_len is_name_byte text) text)) else None

-- a line from its first byte on that is no blank
abbrev pub line_at : List ℕ → Option Line
line_at [] = Some Nothing
line_at (c ∷ cs) =
    if is_comment_sign c then Some Nothing
    else if c == 91 then header_of cs
    else entry_of (c ∷ cs)

-- whether a line has a NUL
abbrev pub has_nul : List ℕ → Bool
has_nul text = list_any (λ c. c == 0) text

-- What a line says. None: it breaks the grammar.
unfoldable pub line_of : List ℕ → Option Line
line_of text = if has_nul text then None else line_at (skip_blanks text)

-- entries: keys, with values where they have one
abbrev pub EntryList : Type 0
EntryList = List (List ℕ × Option (List ℕ))

-- the entries before the first header, and the sections after
abbrev pub gather : Meta → List Line → EntryList × List Section
gather meta [] = ([], [])
gather meta (Nothing ∷ ls) = gather meta ls
gather meta (Entry key value ∷ ls) = let more = gather meta ls in ((key, value) ∷ more.0, more.1)
gather meta (Header name sub ∷ ls) = let more =
    gather meta ls in ([], record { name = name; sub = sub; meta = meta; entries = more.0 } ∷ more.1)

-- Each section of a text has the entries that stand between its header and the next one.
unfoldable pub sections_of : Meta → List ℕ → List Section
sections_of meta text = (gather meta (filter_map line_of (lines text))).1

-- whether a line breaks the grammar where it stands: `opened` says that a header stands before it
abbrev pub fits_behind : Bool → Option Line → Bool
fits_behind opened None = false
fits_behind opened (Some (Entry key value)) = opened
fits_behind opened (Some _) = true

-- whether a line opens a section
abbrev pub opens : Option Line → Bool
opens (Some (Header name sub)) = true
opens _ = false

-- the number, from 1, of the first line that breaks the grammar
abbrev pub first_broken : Bool → List (Option Line) → Option ℕ
first_broken opened [] = None
first_broken opened (l ∷ ls) = if fits_behind opened l then option_map (λ n. n + 1) (first_broken (opened || opens l) ls) else Some 1

-- what each line says
abbrev pub each_line : List (List ℕ) → List (Option Line)
each_line [] = []
each_line (l ∷ ls) = line_of l ∷ each_line ls

-- the number of the first line that breaks the grammar, from 1
unfoldable pub broken_line : List ℕ → Option ℕ
broken_line text = first_broken false (each_line (lines text))
