-- Findings as a text.
use Rattle.std.specs.Prelude.{ℕ, ◌+◌, ◌==◌, List, [], ◌∷◌, ◌++◌, length, codes, decimal, if◌then◌else◌}
use Rattle.std.specs.List.{flat_map}
use Rattle.fetch_base.specs.declared.id.ObjectId.{ObjectId}
use Rattle.fetch_store.specs.declared.missing.Missing.{Missing}
use Rattle.fetch_base.specs.Digits.{hex_of}
use Rattle.fetch_check.specs.declared.findings.Broken.{Broken}
use Rattle.fetch_check.specs.declared.findings.BrokenCause.{BrokenCause}
use Rattle.fetch_check.specs.declared.findings.BrokenCause.TheVariants.{Cycle, Depth, MissingObject, TagCycle}
use Rattle.fetch_check.specs.declared.findings.Findings.{Findings}

-- `missing <from> <to>`
abbrev pub missing_line : Missing → List ℕ
missing_line link = codes "missing " ++ hex_of link.from ++ 32 ∷ hex_of link.to ++ 10 ∷ []

-- a space and the cause, with its id if it has one
abbrev pub cause_text : BrokenCause → List ℕ
cause_text Cycle = codes " Cycle"
cause_text Depth = codes " Depth"
cause_text (MissingObject id) = codes " MissingObject " ++ hex_of id
cause_text (TagCycle id) = codes " TagCycle " ++ hex_of id

-- `broken <name> <cause>`
abbrev pub broken_line : Broken → List ℕ
broken_line reference = codes "broken " ++ reference.name ++ cause_text reference.cause ++ 10 ∷ []

-- `unreached <id>`
abbrev pub unreached_line : ObjectId → List ℕ
unreached_line id = codes "unreached " ++ hex_of id ++ 10 ∷ []

-- how many findings there are
abbrev pub count_of : Findings → ℕ
count_of f = length f.missing + length f.broken + length f.unreached

-- `ok`, or how many there are
abbrev pub end_line : ℕ → List ℕ
end_line count = if count == 0 then codes "ok\n" else codes "found " ++ decimal count ++ 10 ∷ []

-- a line for each finding, and the last line
abbrev pub findings_text : Findings → List ℕ
findings_text f = flat_map missing_line f.missing ++ flat_map broken_line f.broken ++ flat_map unreached_line f.unreached
    ++ end_line (count_of f)

-- 0 where there are none
abbrev pub status_of : ℕ → ℕ
status_of count = if count == 0 then 0 else 1

-- the status of findings
abbrev pub findings_status : Findings → ℕ
findings_status f = status_of (count_of f)
