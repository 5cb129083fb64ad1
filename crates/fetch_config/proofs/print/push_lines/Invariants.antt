use Rattle.std.proofs.Common.{◌≡◌, ◌++◌, drop}
use Rattle.std.specs.List.{flat_map}
use Rattle.fetch_config.specs.Print.{entry_text}
use Rattle.fetch_config.proofs.print.push_lines.Given as goal

abbrev pub invariant-loop-entry : goal.invariant-loop-entry
invariant-loop-entry l = l.out.items ++ flat_map entry_text (drop l.entry-index l.entries) ≡ l.initial.out.items ++ flat_map entry_text l.entries
