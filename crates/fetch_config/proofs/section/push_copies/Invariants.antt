use Rattle.std.proofs.Common.{◌≡◌, ◌++◌, take}
use Rattle.fetch_config.proofs.section.push_copies.Given as goal

abbrev pub invariant-loop-section : goal.invariant-loop-section
invariant-loop-section l = l.sections.items ≡ l.initial.sections.items ++ take l.section-index l.others
