use Rattle.std.proofs.Common.{length}
use Rattle.fetch_store.specs.Iter.{left}
use Rattle.fetch_check.proofs.writing.room_of.Given as goal

abbrev pub decreases-objects : goal.decreases-objects
decreases-objects l = length (left l.objects)
