use Rattle.fetch_remote.proofs.Lasting.{all_sources_found}
use Rattle.fetch_remote.proofs.laws.every_source_is_found.Goals as goal

pub returns : goal.returns
returns c = all_sources_found
