use Rattle.std.proofs.Common.{◌≡◌, List, None, sym, ap, subst, ◌∙◌}
use Rattle.fetch_refs.specs.declared.edit.RefEdit.{RefEdit}
use Rattle.fetch_remote.specs.RepositoryValues.{RepositoryValue}
use Rattle.fetch_journal.specs.declared.entry.Entry.TheVariants as entries
use Rattle.fetch_journal.specs.Machine.{commit_refusal, edited, with_refs}
use Rattle.fetch_journal.specs.Machine.Event.{Commit}
use Rattle.fetch_journal.specs.Shared.{SharedValue, IsGraphOf}
use Rattle.fetch_journal.proofs.Effects.{kept_now, value_by, pushed}
use Rattle.fetch_journal.proofs.state.SharedState.commit.Goals as goal

pub invariant_of-self-2 : goal.invariant_of-self-2
invariant_of-self-2 c =
    let v : SharedValue = record { opening = c.self.inside.opening.value; repository = c.self.inside.repo; journal = c.self.inside.entries.items } in
    let allowed : commit_refusal c.self.inside.repo.state.refs.names c.args.edits.items ≡ None =
    subst (λ (es : List RefEdit). commit_refusal c.self.inside.repo.state.refs.names es ≡ None) c.as_slice.ensures.value c.in_ok-edit.ensures.refusal in (
      kept_now v _ (Commit c.args.pass c.args.edits.items c.args.committer) c.self.invariant.0 tt tt allowed
          (value_by c.self.inside.opening.value _ _ _ _
          (c.in_ok-edit.ensures.ok ∙ ap (λ (es : List RefEdit). with_refs c.self.inside.repo (edited c.self.inside.repo.setup.logging c.self.inside.repo.state.refs es c.args.committer)) c.as_slice.ensures.value)
          (pushed c.self.inside.entries.items _ _ _ _ c.push_reserved.ensures.items c.in_ok-reserve.ensures.items (ap (λ (es : List RefEdit). entries.Commit c.args.pass es c.args.committer) c.from.ensures))),
      subst (λ (r : RepositoryValue). IsGraphOf r.state.objects c.self.inside.graph) (sym c.in_ok-edit.ensures.ok) c.self.invariant.1,
    )
