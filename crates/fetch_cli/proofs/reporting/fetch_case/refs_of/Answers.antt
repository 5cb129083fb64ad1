use Rattle.std.proofs.Common.{◌∙◌}
use Rattle.fetch_cli.proofs.Opening.{opened}
use Rattle.fetch_cli.proofs.reporting.fetch_case.refs_of.Goals as goal

pub returns : goal.returns
returns c = (rw (c.new-refs.ensures, c.deref.ensures.value, c.in_ok-edits.ensures) at c.in_ok-make_unlogged.ensures.ok) ∙ opened c.args.committer.now c.args.hash c.args.references.now
