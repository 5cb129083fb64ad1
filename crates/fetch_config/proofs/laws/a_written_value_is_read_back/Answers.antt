use Rattle.fetch_config.proofs.WrittenValues.{value_back}
use Rattle.fetch_config.proofs.laws.a_written_value_is_read_back.Goals as goal

pub returns : goal.returns
returns c = value_back
