use Rattle.std.proofs.Common.{◌∙◌}
use Rattle.fetch_check.proofs.Edited.{made}
use Rattle.fetch_check.proofs.making.unlogged_refs.Goals as goal

pub returns : goal.returns
returns c = (rw (c.new-refs.ensures, c.as_slice.ensures.value, c.in_ok-edits.ensures) at c.in_ok-make_unlogged.ensures.ok) ∙ made _ c.args.hash c.args.references.items c.requires
