use Rattle.fetch_remote.specs.Repositories.{state_of}
use Rattle.mirror_cli.proofs.Mirrors.{copied_so, mirrored_so, served_so, uncopied_so}
use Rattle.mirror_cli.proofs.mirroring.copied.Goals as goal

pub returns-clause-mirrored : goal.returns-clause-mirrored
returns-clause-mirrored g c =
    let options = c.args.options in
    let served = served_so (state_of c.args.repo.now) c.store.result.now c.refs.result.now c.store.ensures.hash c.store.ensures.objects c.refs.ensures in
    mirrored_so _ _ options.committer options.workers c.run_mirror.result served c.run_mirror.ensures.mirrored

pub returns-clause-copied : goal.returns-clause-copied
returns-clause-copied g c =
    let options = c.args.options in
    let served = served_so (state_of c.args.repo.now) c.store.result.now c.refs.result.now c.store.ensures.hash c.store.ensures.objects c.refs.ensures in
    copied_so _ _ options.committer options.workers options.max_reply_bytes c.run_mirror.result served c.run_mirror.ensures.copied

pub returns-clause-refused : goal.returns-clause-refused
returns-clause-refused g c =
    let options = c.args.options in
    let served = served_so (state_of c.args.repo.now) c.store.result.now c.refs.result.now c.store.ensures.hash c.store.ensures.objects c.refs.ensures in
    uncopied_so _ _ c.border.result.now (state_of c.args.repo.now).border options.committer options.workers options.max_reply_bytes c.run_mirror.result served c.border.ensures c.run_mirror.ensures.refused
