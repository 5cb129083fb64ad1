use Rattle.std.proofs.Common.{sym}
use Rattle.fetch_cli.proofs.HeardLines.{goes, ends, from_place}
use Rattle.fetch_cli.proofs.reporting.heard.append_heard.Goals as goal

pub lines-preserved : goal.lines-preserved
lines-preserved c =
    goes c.in-Some.count _ c.lines.out.items _ c.lines.rest.now _ c.args.bytes.now _ c.in-Some.ensures.within.0 c.in-Some.ensures.within.1 (sym c.in-Some.ensures.line) c.in_ok-append_sent-in-Some.ensures
    (from_place c.in-Some.count c.lines.rest.now) c.lines.invariant

pub returns-in-None : goal.returns-in-None
returns-in-None c = ends _ _ c.lines.rest.now c.args.bytes.now (sym c.in-None.ensures.line) c.lines.invariant
