use Rattle.std.proofs.Common.{length, sym, ◌∙◌}
use Rattle.fetch_reach.specs.Stored.{objects_at}
use Rattle.fetch_reach.proofs.Written.{as_many}
use Rattle.fetch_serve.proofs.Appending.{many_false, many_true}
use Rattle.fetch_serve.proofs.limits.is_too_large.Goals as goal

pub returns-then-are_many : goal.returns-then-are_many
returns-then-are_many c =
    let objects = c.args.store.now.objects in
    many_true c.args.version (objects_at objects c.args.ids.now) (length c.args.ids.now) (as_many objects c.args.ids.now c.requires) (sym c.are_many.ensures ∙ c.if-are_many.true)

pub returns : goal.returns
returns c =
    let objects = c.args.store.now.objects in
    many_false c.args.version (objects_at objects c.args.ids.now) (length c.args.ids.now) c.has_too_long.result (as_many objects c.args.ids.now c.requires) (sym c.are_many.ensures ∙ c.if-are_many.false) c.has_too_long.ensures
