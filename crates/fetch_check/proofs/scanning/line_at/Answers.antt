use Rattle.std.proofs.lemmas.List.{take_rest}
use Rattle.fetch_lines.specs.LineViews.{line_of}
use Rattle.fetch_check.proofs.Found.{begins_stand}
use Rattle.fetch_check.proofs.scanning.line_at.Goals as goal

pub returns-in-Some-clause-line : goal.returns-in-Some-clause-line
returns-in-Some-clause-line c =
    begins_stand c.args.bytes.now _ c.args.place c.in-Some.count (line_of c.in-Some.line) (take_rest c.args.bytes.now c.args.place) c.requires c.in-Some.ensures.within c.in-Some.ensures.line
