use Rattle.fetch_shared.proofs.PackTaken.{looked_so}
use Rattle.fetch_shared.proofs.pack_taken.take_pack.Goals as goal

pub returns-in_default-clause-pack_taken : goal.returns-in_default-clause-pack_taken
returns-in_default-clause-pack_taken g c = rw c.in_default.is (looked_so c.args.pass c.args.dry_run c.args.wants.now c.look.result c.look.ensures.looked)
