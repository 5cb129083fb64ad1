use Rattle.std.proofs.Common.{refl}
use Rattle.fetch_remote.proofs.Deletions.{text_kept}
use Rattle.fetch_init.proofs.head_update.whole_text.Goals as goal

pub returns-in-Ok : goal.returns-in-Ok
returns-in-Ok c = text_kept c.args.file.now c.args.file.now c.in-Ok.text refl c.in-Ok.ensures.ok
