use Rattle.std.proofs.Common.{◌≡◌, ◌<◌, ◌-◌, length}
use Rattle.fetch_base.specs.Faults.{Counts}
use Rattle.fetch_disk.specs.Disk.{IsFront, NoOther, LeavesOnly}
use Rattle.fetch_disk.proofs.whole_file.read_all.Given as goal

abbrev pub invariant-loop-piece : goal.invariant-loop-piece
invariant-loop-piece g l =
    let v = g.D.Volume in
    record {
      front : IsFront l.bytes.items (v.seen l.fn.disk).journal;
      room : 0 < length l.piece.items;
      seen : v.seen l.disk ≡ v.seen l.fn.disk;
      crash : NoOther (v.may_leave l.fn.disk) (v.may_leave l.disk);
      span : LeavesOnly v.moment v.left_since l.fn.disk l.disk (v.may_leave l.fn.disk);
      counts : Counts (v.faults l.fn.disk) (v.faults l.disk);
    }

abbrev pub decreases-loop-piece : goal.decreases-loop-piece
decreases-loop-piece g l = length (g.D.Volume.seen l.disk).journal - length l.bytes.items
