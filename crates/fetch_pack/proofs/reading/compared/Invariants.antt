use Rattle.std.proofs.Common.{◌≡◌, ◌-◌, drop, length}
use Rattle.fetch_pack.specs.declared.version.PackVersion.TheVariants.{V2}
use Rattle.fetch_pack.specs.Records.{records}
use Rattle.fetch_pack.specs.Reading.{compared}
use Rattle.fetch_pack.proofs.reading.compared.Given as goal

abbrev pub invariant-loop-id : goal.invariant-loop-id
invariant-loop-id l =
    compared l.hash (records V2 l.hash (length l.ids - l.id-index) l.rest).written (drop l.id-index l.ids) ≡ compared l.hash (records V2 l.hash (length l.ids) l.bytes).written l.ids
