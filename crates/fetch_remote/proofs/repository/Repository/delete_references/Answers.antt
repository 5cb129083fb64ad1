use Rattle.std.proofs.Common.{◌≡◌, List, ap, subst, ◌∙◌}
use Rattle.std.specs.Prelude.{OnOk}
use Rattle.fetch_refs.specs.Expectations.{refusal_of}
use Rattle.fetch_refs.specs.Logs.{after}
use Rattle.fetch_refs.specs.declared.edit.PackedRefs.TheVariants.{Never}
use Rattle.fetch_refs.specs.declared.edit.RefEdit.{RefEdit}
use Rattle.fetch_remote.specs.Repositories.{State, state_of, setup_of, with_refs}
use Rattle.fetch_remote.proofs.Deletions.{all_gone, never_refused}
use Rattle.fetch_remote.proofs.repository.Repository.delete_references.Goals as goal

pub move_refs-requires : goal.move_refs-requires
move_refs-requires c =
    record { found = ap (refusal_of (state_of c.args.self.now).refs.names) (c.as_slice.ensures.value ∙ c.in_ok-edits.ensures) ∙ never_refused (state_of c.args.self.now).refs.names c.args.names.now }

pub returns-clause-ok : goal.returns-clause-ok
returns-clause-ok c =
    let s : State = state_of c.args.self.now in
    let setup = setup_of c.args.self.now in
    subst (λ (x : State). OnOk c.move_refs.result (state_of c.move_refs.new.self ≡ x))
    (ap (λ (edits : List RefEdit). with_refs s (after setup.settings.committer setup.logging Never s.refs edits)) (c.as_slice.ensures.value ∙ c.in_ok-edits.ensures)
    ∙ ap (with_refs s) (all_gone setup.settings.committer setup.logging s.refs c.args.names.now)) c.move_refs.ensures.ok
