use Rattle.std.proofs.Common.{length}
use Rattle.fetch_cli.proofs.HeardLines.{IsLeft}
use Rattle.fetch_cli.proofs.reporting.heard.append_heard.Given as goal

abbrev pub invariant-lines : goal.invariant-lines
invariant-lines l = IsLeft l.fn.out.items l.out.items l.rest l.bytes

abbrev pub decreases-lines : goal.decreases-lines
decreases-lines l = length l.rest
