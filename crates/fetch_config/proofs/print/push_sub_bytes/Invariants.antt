use Rattle.std.proofs.Common.{◌≡◌, ◌++◌, drop}
use Rattle.std.specs.List.{flat_map}
use Rattle.fetch_config.specs.Print.{sub_byte}
use Rattle.fetch_config.proofs.print.push_sub_bytes.Given as goal

abbrev pub invariant-loop-c : goal.invariant-loop-c
invariant-loop-c l = l.out.items ++ flat_map sub_byte (drop l.c-index l.text) ≡ l.initial.out.items ++ flat_map sub_byte l.text
