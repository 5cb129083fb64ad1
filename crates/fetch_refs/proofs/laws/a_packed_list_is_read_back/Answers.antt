use Rattle.fetch_refs.proofs.PackedReads.{read_back}
use Rattle.fetch_refs.proofs.laws.a_packed_list_is_read_back.Goals as goal

pub returns : goal.returns
returns c = read_back
