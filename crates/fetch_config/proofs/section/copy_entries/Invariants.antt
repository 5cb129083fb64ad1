use Rattle.std.proofs.Common.{◌≡◌, take}
use Rattle.fetch_config.proofs.section.copy_entries.Given as goal

abbrev pub invariant-loop-key : goal.invariant-loop-key
invariant-loop-key l = l.copy.items ≡ take l.key-index l.entries
