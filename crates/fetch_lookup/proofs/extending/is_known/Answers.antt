use Rattle.std.proofs.Common.{◌∙◌}
use Rattle.fetch_lookup.proofs.AddedSpecs.{known-by}
use Rattle.fetch_lookup.proofs.extending.is_known.Goals as goal

pub returns : goal.returns
returns c = c.contains.ensures ∙ known-by c.args.known.now.keys c.args.spec.now
