use Rattle.fetch_mirror.proofs.AsItself.{itself_is_read}
use Rattle.fetch_mirror.proofs.laws.names_are_read_as_themselves.Goals as goal

pub returns : goal.returns
returns c = itself_is_read
