use Rattle.std.proofs.lemmas.Result.{IfOk-weaker}
use Rattle.mirror_cli.specs.MirrorRun.{IsMirrorOf, IsTold}
use Rattle.mirror_cli.proofs.Mirrors.{mirror_told}
use Rattle.mirror_cli.proofs.mirroring.mirrored.Goals as goal

pub returns : goal.returns
returns g c =
    let scene = c.args.scene in
    let workers = c.args.workers in
    IfOk-weaker c.told.result (λ x. IsTold c.copied-mirror.result x.0 x.1.items) (λ x. IsMirrorOf workers scene x.0 x.1.items)
    (λ x told. mirror_told workers scene c.in_ok-repo.repo c.in_ok-options.options c.copied-mirror.result
    c.in_ok-repo.ensures.state c.in_ok-repo.ensures.setup c.in_ok-options.ensures
    c.copied-mirror.ensures.mirrored c.copied-mirror.ensures.copied c.copied-mirror.ensures.refused x.0 x.1.items told)
    c.told.ensures
