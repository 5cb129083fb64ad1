use Rattle.fetch_shared.proofs.Disconnected.{not_honest}
use Rattle.fetch_shared.proofs.laws.a_disconnected_pack_is_not_honest.Goals as goal

pub returns : goal.returns
returns c line call receipt link haves h alike honest = not_honest line call receipt link h haves alike honest
