use Rattle.std.proofs.Common.{◌||◌, ◌∙◌}
use Rattle.fetch_lookup.specs.Saved as spec
use Rattle.fetch_lookup.proofs.SavedParts.{any-explicit}
use Rattle.fetch_lookup.proofs.cleaning.has_cleared.Goals as goal

pub returns : goal.returns
unfolding spec.has_cleared
returns c = c.any_cleared.ensures ∙ any-explicit c.args.key.now (λ address. c.args.any || spec.is_empty address) c.args.entries.now
