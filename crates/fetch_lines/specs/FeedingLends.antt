-- What a reader of lines is once the line that it gave is gone.
use Rattle.std.specs.Prelude.{◌≡◌, ⊤}
use Rattle.std.specs.Borrow.{MutBor, Fml, follows_so}
use mathlib.Core.Option.{none}
use Rattle.fetch_lines.specs.Feeding.{behind_next}
use Rattle.fetch_lines.specs.declared.lines.reader.LineReader.{LineReader}
use Rattle.fetch_lines.specs.contracts.lines.reader.LineReader.{the_row}

-- the line was read, and what was refused stays
abbrev pub RestsBehind : MutBor LineReader → Fml
RestsBehind reader = follows_so the_row the_row reader.ghost_name none (λ _ _. ⊤) (λ last. last ≡ behind_next reader.now)
