use Rattle.fetch_shared.proofs.Sources.{source_found}
use Rattle.fetch_shared.proofs.laws.every_source_is_found_there.Goals as goal

pub returns : goal.returns
returns c line call receipt outcome h u id among is = source_found call.given h.applied.by.trees h.applied.by.taken.seen.repository.state _ outcome h.tells.verdicts h.tells.held u id among is
