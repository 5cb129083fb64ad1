use Rattle.std.proofs.Common.{◌≡◌, take}
use Rattle.fetch_disk.specs.Records.{opened}
use Rattle.fetch_disk.proofs.spelling.spell_all.Given as goal

abbrev pub invariant-loop-record : goal.invariant-loop-record
invariant-loop-record l = l.out.items ≡ opened l.hash (take l.record-index l.records)
