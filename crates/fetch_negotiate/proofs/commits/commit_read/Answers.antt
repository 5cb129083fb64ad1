use Rattle.std.proofs.Common.{sym, ap, ◌∙◌}
use Rattle.std.specs.Prelude.{unwrap_or}
use Rattle.fetch_negotiate.proofs.Finding.{read_commit, commit_test}
use Rattle.fetch_negotiate.proofs.commits.commit_read.Goals as goal

pub returns : goal.returns
returns g c =
    read_commit (g.O.Objects.graph c.args.objects.now) c.args.id.now (sym (commit_test (g.O.Objects.graph c.args.objects.now) c.args.id.now) ∙ sym c.is_commit.ensures ∙ c.if-not-is_commit.false) c.unwrap_or-seconds.result c.from.result
    (c.from.ensures ∙ c.in_ok-parents.ensures) (c.unwrap_or-seconds.ensures ∙ ap (λ o. unwrap_or o 0) c.seconds.ensures)
