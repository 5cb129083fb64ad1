use Rattle.fetch_config.proofs.Edges.{value_between}
use Rattle.fetch_config.proofs.laws.a_value_stands_between_blanks_before_a_comment.Goals as goal

pub returns : goal.returns
returns c = value_between
