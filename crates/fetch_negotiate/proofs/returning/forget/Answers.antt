use Rattle.std.proofs.Common.{sym, ◌∙◌}
use Rattle.fetch_negotiate.proofs.GivingBack.{kept_among, lost}
use Rattle.fetch_negotiate.proofs.returning.forget.Goals as goal

pub returns-then-is_among : goal.returns-then-is_among
returns-then-is_among c = kept_among c.args.told.now c.args.others.now c.args.id.now c.requires (sym c.is_among.ensures ∙ c.if-is_among.true)

pub returns : goal.returns
returns c = lost c.args.told.now c.remove.new.self c.args.others.now c.args.id.now c.requires (sym c.is_among.ensures ∙ c.if-is_among.false) c.remove.ensures.updates
