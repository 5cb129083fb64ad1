use Rattle.std.proofs.Common.{◌≡◌, ◌+◌, ◌-◌, ◌^◌, length}
use Rattle.std.specs.Io.KnownBytes.{Consumes}
use Rattle.fetch_base.specs.Faults.{Counts}
use Rattle.fetch_cli.proofs.program.input.read_all.Given as goal

abbrev pub invariant-loop-piece : goal.invariant-loop-piece
invariant-loop-piece g l = Consumes (g.S.Source.left l.fn.source) (g.S.Source.left l.source) l.bytes.items × Counts (g.S.Source.faults l.fn.source) (g.S.Source.faults l.source) × ((g.S.Source.faults l.source).count ≡ (g.S.Source.faults l.fn.source).count)

abbrev pub decreases-loop-piece : goal.decreases-loop-piece
decreases-loop-piece g l = 2 ^ 30 + 1 - length l.bytes.items
