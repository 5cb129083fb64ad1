use Rattle.fetch_config.proofs.Headers.{entry_line_is}
use Rattle.fetch_config.proofs.laws.an_entry_is_a_key_and_maybe_a_value.Goals as goal

pub returns : goal.returns
returns c = λ text name sub. entry_line_is text name sub
