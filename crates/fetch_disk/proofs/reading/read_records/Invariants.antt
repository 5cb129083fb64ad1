use Rattle.std.proofs.Common.{◌≡◌, ◌++◌, length}
use Rattle.fetch_disk.specs.Records.{opened}
use Rattle.fetch_disk.proofs.reading.read_records.Given as goal

abbrev pub invariant-loop-kind : goal.invariant-loop-kind
invariant-loop-kind l = l.bytes ≡ opened l.hash l.records ++ l.rest

abbrev pub decreases-loop-kind : goal.decreases-loop-kind
decreases-loop-kind l = length l.rest
