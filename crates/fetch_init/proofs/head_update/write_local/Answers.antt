use Rattle.std.proofs.Common.{refl, ◌∙◌}
use Rattle.fetch_remote.proofs.Deletions.{text_kept}
use Rattle.fetch_init.proofs.Headed.{written-anew}
use Rattle.fetch_init.proofs.head_update.write_local.Goals as goal

pub returns-in-Ok-write-clause-written : goal.returns-in-Ok-write-clause-written
returns-in-Ok-write-clause-written g c =
    written-anew (g.F.Files.told c.args.files.now) (g.F.Files.told c.write-2.new.self) c.as_bytes.result.now c.as_bytes-2.result.now c.args.git_dir.now c.args.local.now
    (c.as_bytes.ensures ∙ c.in_ok-path.ensures) (c.as_bytes-2.ensures ∙ text_kept c.args.local.now c.args.local.now c.in-Ok.text refl c.in-Ok.ensures.ok) c.in-Ok-write.ensures.tree
