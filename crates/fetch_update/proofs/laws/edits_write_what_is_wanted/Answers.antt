use Rattle.fetch_update.proofs.Written.{verdict_writes}
use Rattle.fetch_update.proofs.laws.edits_write_what_is_wanted.Goals as goal

pub returns : goal.returns
returns c = verdict_writes
