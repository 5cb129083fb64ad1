use Rattle.fetch_store.proofs.Growth.{grows-add_all}
use Rattle.fetch_store.proofs.laws.closed.adding_keeps_what_is_stored.Goals as goal

pub returns : goal.returns
returns c h pack = grows-add_all h.objects pack.objects
