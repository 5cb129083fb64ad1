use Rattle.fetch_serve.specs.Parts.{held_by}
use Rattle.fetch_serve.proofs.Appending.{change_is, change_none, on_ok}
use Rattle.fetch_serve.proofs.fetching.append_change.Goals as goal

pub returns-in-None : goal.returns-in-None
returns-in-None c = change_none (held_by c.args.parts) c.args.asked.now c.args.out.now.items c.in-None.is

pub returns-in-Some : goal.returns-in-Some
returns-in-Some c =
    on_ok c.append_moves.result _ _ (change_is (held_by c.args.parts) c.args.asked.now c.args.depth.now c.in-Some.field-0 c.args.out.now.items c.append_moves.new.out.items c.in-Some.is c.requires) c.append_moves.ensures
