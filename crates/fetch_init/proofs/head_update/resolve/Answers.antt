use Rattle.fetch_init.proofs.head_update.resolve.Goals as goal

pub returns-in-Ok-clause-config : goal.returns-in-Ok-clause-config
returns-in-Ok-clause-config c = rw c.in-Ok.ensures.file c.in-Ok.ensures.config
