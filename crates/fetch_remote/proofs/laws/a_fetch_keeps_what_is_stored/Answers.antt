use Rattle.fetch_remote.specs.Applying.{to_take}
use Rattle.fetch_remote.proofs.Kept.{grows_with}
use Rattle.fetch_remote.proofs.laws.a_fetch_keeps_what_is_stored.Goals as goal

pub returns-clause-grows : goal.returns-clause-grows
returns-clause-grows c answers old new known files files_left g before after outcome h = rw h.carried.left.objects (grows_with before.objects (to_take g.options.dry_run h.read.received))

pub returns-clause-dry : goal.returns-clause-dry
returns-clause-dry c answers old new known files files_left g before after outcome h dry = h.carried.left.dry dry
