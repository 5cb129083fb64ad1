use Rattle.std.proofs.Common.{List, ap, sym}
use Rattle.std.specs.Prelude.{is_some}
use Rattle.fetch_refs.specs.declared.log.LogLine.{LogLine}
use Rattle.fetch_refs.proofs.Undoing.{put_same, on_err}
use Rattle.fetch_refs.proofs.contents.push_line.Goals as goal

pub returns-in-Some-clause-err : goal.returns-in-Some-clause-err
returns-in-Some-clause-err c = λ q. on_err c.push.result (λ (ls : List LogLine). put_same c.args.logs.now.entries (c.get_mut.follows.lender ls).entries c.args.name.now ls) c.in-Some.lines.now c.push.new.self c.push.ensures.err c.in-Some.ensures.value ((c.get_mut.follows.holds c.push.new.self).3 (ap is_some (sym c.in-Some.ensures.value))).0 q
