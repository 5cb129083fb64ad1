use Rattle.std.proofs.Common.{sym, ap, ◌∙◌}
use Rattle.std.specs.Prelude.{slice_get}
use Rattle.std.specs.List.{filter_map}
use Rattle.fetch_lookup.specs.Saved as spec
use Rattle.fetch_lookup.proofs.SavedLoops.{saved-by, same-place}
use Rattle.fetch_lookup.proofs.SavedParts.{nul-in-lines}
use Rattle.fetch_lookup.proofs.saving.saved.Goals as goal

pub returns-clause-saved : goal.returns-clause-saved
returns-clause-saved c =
    saved-by c.args.config.now c.args.name.now c.args.remote.now _ _ _ _ _ _ c.clears-clears_urls.ensures c.clears-clears_push_urls.ensures c.either-is_new.ensures c.in_ok-file.ensures (c.as_slice.ensures.value ∙ c.in_ok-lines.ensures) c.with_lines.ensures.placed

pub returns-clause-answer : goal.returns-clause-answer
returns-clause-answer c =
    same-place (λ x. tt) _ (spec.nul_in (spec.values_of_parts c.args.remote.now)) _
    (sym (ap (λ ls. slice_get (filter_map spec.nul_at ls) 0) (c.as_slice.ensures.value ∙ c.in_ok-lines.ensures) ∙ nul-in-lines _ _ c.args.remote.now)) c.with_lines.ensures.answer
