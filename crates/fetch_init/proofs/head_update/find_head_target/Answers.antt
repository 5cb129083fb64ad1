use Rattle.std.specs.Option.{option_copied}
use Rattle.fetch_remote.specs.Repositories.{state_of}
use Rattle.fetch_init.proofs.Headed.{no-head_target}
use Rattle.fetch_init.proofs.head_update.find_head_target.Goals as goal

pub returns-in-Ok-clause-ok : goal.returns-in-Ok-clause-ok
returns-in-Ok-clause-ok c = rw c.store.ensures.objects at c.in-Ok.ensures

pub returns-in-Err-clause-refused : goal.returns-in-Err-clause-refused
returns-in-Err-clause-refused c =
    no-head_target (state_of c.args.repo.now) c.args.map.now (option_copied c.args.ref_name) (option_copied c.args.revision) c.in-Err.e c.refusal_of.result (rw c.store.ensures.objects at c.in-Err.ensures) c.refusal_of.ensures
