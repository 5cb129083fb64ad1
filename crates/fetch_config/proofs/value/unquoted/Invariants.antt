use Rattle.std.proofs.Common.{◌≡◌, drop, false}
use Rattle.fetch_config.specs.Values.{unquoted}
use Rattle.fetch_config.proofs.Decoding.{onto}
use Rattle.fetch_config.proofs.value.unquoted.Given as goal

abbrev pub invariant-loop-c : goal.invariant-loop-c
invariant-loop-c l = onto l.value.items (unquoted l.quoted l.escaped (drop l.c-index l.text)) ≡ unquoted false false l.text
