-- Reflogs that are kept in places, of which some hold no lines.
use Rattle.std.specs.Prelude.{ℕ, List, [], ◌∷◌, Option, Some, None}
use Rattle.std.specs.FinMap as finmap
use Rattle.fetch_refs.specs.declared.log.LogLine.{LogLine}
use Rattle.fetch_refs.specs.Names.{Logs}
use Rattle.fetch_refs.specs.Slots.{with_slot, over, each}

-- A reflog without lines is none.
abbrev pub shown_lines : List LogLine → Option (List LogLine)
shown_lines [] = None
shown_lines (l ∷ ls) = Some (l ∷ ls)

-- the reflogs that have lines
abbrev pub logs_of : List (List ℕ × List LogLine) → Logs
logs_of es = over finmap.empty (each shown_lines es)

-- the reflogs with these lines at a name
abbrev pub with_lines : Logs → List ℕ → List LogLine → Logs
with_lines logs name ls = with_slot logs name (shown_lines ls)
