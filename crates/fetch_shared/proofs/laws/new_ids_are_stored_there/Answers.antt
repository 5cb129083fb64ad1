use Rattle.fetch_shared.proofs.Sources.{new_id_stored}
use Rattle.fetch_shared.proofs.laws.new_ids_are_stored_there.Goals as goal

pub returns : goal.returns
returns c line call receipt outcome h wet e id among gives_id other = new_id_stored call.given h.applied.by.trees h.applied.by.taken.seen.repository.state _ outcome h.tells.verdicts wet e id among gives_id other
