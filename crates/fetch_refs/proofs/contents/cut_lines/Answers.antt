use Rattle.std.proofs.Common.{ap, sym}
use Rattle.std.specs.Prelude.{is_some}
use Rattle.fetch_refs.proofs.Undoing.{lines_cut, no_lines_cut}
use Rattle.fetch_refs.proofs.contents.cut_lines.Goals as goal

pub returns-in-Some-clause-shown : goal.returns-in-Some-clause-shown
returns-in-Some-clause-shown c =
    lines_cut c.args.logs.now.entries (c.get_mut.follows.lender c.cut.new.lines).entries c.args.name.now c.args.left c.in-Some.lines.now c.cut.new.lines
    c.in-Some.ensures.value c.cut.ensures ((c.get_mut.follows.holds c.cut.new.lines).3 (ap is_some (sym c.in-Some.ensures.value))).0

pub returns-in-None-clause-shown : goal.returns-in-None-clause-shown
returns-in-None-clause-shown c =
    no_lines_cut c.args.logs.now.entries c.get_mut.follows.lender-at-none.entries c.args.name.now c.args.left c.in-None.ensures.value (ap (λ m. m.entries) c.get_mut.follows.holds-at-none)
