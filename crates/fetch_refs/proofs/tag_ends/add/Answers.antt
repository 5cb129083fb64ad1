use Rattle.std.proofs.Common.{sym, subst}
use Rattle.fetch_refs.specs.TagEnds.{AreEnds}
use Rattle.fetch_refs.proofs.Ends.{one_more}
use Rattle.fetch_refs.proofs.tag_ends.add.Goals as goal

pub returns-in-Ok : goal.returns-in-Ok
returns-in-Ok c = λ graph all ends. one_more graph c.args.ends.now c.insert.new.self c.args.id c.args.end c.in-Ok.ensures.updates all ends

pub returns-in-Err : goal.returns-in-Err
returns-in-Err c = λ graph all ends. subst (AreEnds graph) (sym c.in-Err.ensures.err) all
