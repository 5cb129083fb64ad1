use Rattle.std.proofs.Common.{◌≡◌, take}
use Rattle.std.specs.Prelude.{reverse}
use Rattle.std.specs.FinMap as map
use Rattle.std.specs.Option.{option_copied}
use Rattle.fetch_disk.specs.History.{packs_of}
use Rattle.fetch_disk.proofs.memory_packs.find_pack.Given as goal

abbrev pub invariant-loop-call : goal.invariant-loop-call
invariant-loop-call l = option_copied l.found ≡ map.get (packs_of (reverse (take l.call-index l.calls))) l.name
