use Rattle.std.proofs.Common.{sym, ◌∙◌}
use Rattle.fetch_serve.specs.Parts.{held_by}
use Rattle.fetch_serve.proofs.Accepted.{is_servable, troubled}
use Rattle.fetch_serve.proofs.servable.check.Goals as goal

pub returns-in-Err-clause-refused : goal.returns-in-Err-clause-refused
returns-in-Err-clause-refused c = troubled (held_by c.args.parts) c.args.border.now c.in-Err.e c.in-Err.ensures.refused

pub returns-in-None-clause-servable : goal.returns-in-None-clause-servable
returns-in-None-clause-servable c =
    is_servable (held_by c.args.parts) c.args.border.now c.kind-hash.ensures.objects c.stored_objects_are_objects.ensures c.in-Ok.ensures.own c.in-Ok.ensures.empty c.in-Ok.ensures.closed
    (sym c.in_ok-name.ensures ∙ c.in-None.is)
