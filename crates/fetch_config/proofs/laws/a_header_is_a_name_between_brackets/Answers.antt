use Rattle.fetch_config.proofs.Headers.{header_line_is}
use Rattle.fetch_config.proofs.laws.a_header_is_a_name_between_brackets.Goals as goal

pub returns : goal.returns
returns c = λ text name sub. header_line_is text name sub
