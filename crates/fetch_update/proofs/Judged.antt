-- How a reference that stands for an id is judged, where a row holds.
use Rattle.std.proofs.Common.{◌≡◌, true, false, Ok, sym, ap, ◌∙◌}
use Rattle.std.specs.Prelude.{◌&&◌}
use Rattle.std.specs.Ordering.{eq_by_cmp}
use Rattle.fetch_base.specs.declared.id.ObjectId.{ObjectId}
use Rattle.fetch_base.specs.Id.{id_cmp}
use Rattle.fetch_refs.specs.declared.target.Target.{Target}
use Rattle.fetch_refs.specs.declared.target.Target.TheVariants.{Object}
use Rattle.fetch_update.specs.declared.mode.Mode.TheVariants as modes
use Rattle.fetch_update.specs.declared.verdict.Verdict.{Verdict}
use Rattle.fetch_update.specs.Ahead.{is_ahead}
use Rattle.fetch_update.specs.Policy.{Policy, Place, is_commit, is_stored, is_tag, written, if_valid, at_id, at_stored, no_update, guessed, fast_forward}
use Rattle.fetch_update.proofs.Rows.{yes_branch, no_branch}

module _ (p : Policy) (place : Place) (local remote : ObjectId) (value : Target) (is : value ≡ Object remote) where
  valid_at : (v : Verdict) → if_valid value v ≡ Ok v
  valid_at v = ap (λ (t : Target). if_valid t v) is

  pub same_at : eq_by_cmp id_cmp local remote ≡ true → at_id p place local value ≡ if_valid value (written p.message place modes.NoChangeNeeded no_update)
  unfolding at_id
  same_at one = ap (at_id p place local) is ∙ yes_branch (eq_by_cmp id_cmp local remote) _ _ one ∙ sym (valid_at _)

  pub guessed_at : eq_by_cmp id_cmp local remote ≡ false → is_tag place.name ≡ false → p.dry_run ≡ true → at_id p place local value ≡ if_valid value (written p.message place modes.FastForward guessed)
  unfolding at_id
  guessed_at two no_tag dry =
      ap (at_id p place local) is ∙ no_branch (eq_by_cmp id_cmp local remote) _ _ two ∙ no_branch (is_tag place.name) _ _ no_tag ∙ yes_branch p.dry_run _ _ dry ∙ sym (valid_at _)

  pub ahead_at : eq_by_cmp id_cmp local remote ≡ false → is_tag place.name ≡ false → p.dry_run ≡ false → is_stored p.graph local ≡ true → (is_commit p.graph local && is_commit p.graph remote) ≡ true → is_ahead p.graph remote local ≡ true
      → at_id p place local value ≡ if_valid value (written p.message place modes.FastForward fast_forward)
  unfolding at_id at_stored
  ahead_at two no_tag wet stored commits ahead =
      ap (at_id p place local) is ∙ no_branch (eq_by_cmp id_cmp local remote) _ _ two ∙ no_branch (is_tag place.name) _ _ no_tag ∙ no_branch p.dry_run _ _ wet ∙ yes_branch (is_stored p.graph local) _ _ stored
      ∙ ap (λ (v : Verdict). Ok v) (yes_branch (is_commit p.graph local && is_commit p.graph remote) _ _ commits ∙ yes_branch (is_ahead p.graph remote local) _ _ ahead) ∙ sym (valid_at _)
