use Rattle.std.proofs.Common.{◌≡◌, ℕ, List, take}
use Rattle.std.specs.BTreeSet.{contains}
use Rattle.std.specs.List.{list_any}
use Rattle.std.specs.Str.{bytes_eq}
use Rattle.fetch_refs.specs.Names.{name_cmp}
use Rattle.fetch_update.specs.Outcomes.{edits_of}
use Rattle.fetch_update.proofs.adjusting.names_of.Given as goal

abbrev pub invariant-verdicts : goal.invariant-verdicts
invariant-verdicts l = (name : List ℕ) → contains name_cmp l.names name ≡ list_any (λ e. bytes_eq e.name name) (edits_of (take l.verdict-index l.verdicts))
