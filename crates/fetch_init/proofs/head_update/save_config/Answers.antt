use Rattle.std.proofs.Common.{Some, sym, ap, ◌∙◌}
use Rattle.fetch_remote.specs.RepositoryValues.{Setup}
use Rattle.fetch_remote.specs.Repositories.{setup_of}
use Rattle.fetch_init.proofs.Headed.{written-anew}
use Rattle.fetch_init.proofs.head_update.save_config.Goals as goal

pub put_local-requires : goal.put_local-requires
put_local-requires g c = c.requires.2

pub returns-in-Ok-clause-ok : goal.returns-in-Ok-clause-ok
returns-in-Ok-clause-ok g c =
    let new = c.args.new in (
      rw c.requires.2 (ap (λ (s : Setup). Some s) (sym c.put_local.ensures.setup)),
      written-anew (g.F.Files.told c.args.files.now) (g.F.Files.told c.write.new.self) c.as_bytes.result.now c.as_bytes-2.result.now (setup_of c.args.repo.now).settings.git_dir new.resolved.file
          (c.as_bytes.ensures ∙ c.requires.0) (c.as_bytes-2.ensures ∙ c.requires.1) c.in-Ok.ensures.tree,
    )
