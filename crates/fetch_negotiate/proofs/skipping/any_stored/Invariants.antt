use Rattle.std.proofs.Common.{take}
use Rattle.fetch_negotiate.specs.Reading.{Grows, IsTold, links_at, read_in}
use Rattle.fetch_negotiate.proofs.Handing.{NoneStored}
use Rattle.fetch_negotiate.proofs.skipping.any_stored.Given as goal

abbrev pub invariant-loop-index : goal.invariant-loop-index
invariant-loop-index g l =
    record {
      told : IsTold (read_in l.table) (g.O.Objects.graph l.objects);
      grows : Grows (read_in l.fn.table) (read_in l.table);
      none : NoneStored (read_in l.table) (take l.index (links_at (read_in l.fn.table) l.border l.id));
    }
