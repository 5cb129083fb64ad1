use Rattle.std.proofs.Common.{◌≡◌, take}
use Rattle.fetch_store.specs.Stores.{payload_len}
use Rattle.fetch_store.proofs.buffer.payload_len.Given as goal

abbrev pub invariant-loop-object : goal.invariant-loop-object
invariant-loop-object l = l.total ≡ payload_len (take l.object-index l.objects)
