-- A pack that is refused as disconnected isn't honest for its plan.
use Rattle.std.proofs.Common.{◌≡◌, List, [], None, Some, refl, sym, ap, ◌∙◌, subst}
use Rattle.std.specs.Prelude.{slice_get}
use Rattle.fetch_base.specs.declared.id.Kind.{Kind}
use Rattle.fetch_base.specs.declared.id.ObjectId.{ObjectId}
use Rattle.fetch_store.specs.declared.missing.Missing.{Missing}
use Rattle.fetch_store.specs.Closed.{Grows}
use Rattle.fetch_store.specs.Honest.{IsHonest}
use Rattle.fetch_store.specs.Missing.{missing}
use Rattle.fetch_store.specs.Stores.{AreOf}
use Rattle.fetch_remote.specs.RepositoryValues.{RepositoryValue}
use Rattle.fetch_journal.specs.declared.entry.Entry.{Entry}
use Rattle.fetch_journal.specs.declared.error.SharedError.TheVariants as errors
use Rattle.fetch_shared.specs.declared.receipt.Receipt.{Receipt}
use Rattle.fetch_shared.specs.Disconnected.{planned_in, found_in, refused_pack, request_in}
use Rattle.fetch_shared.specs.Fetching.{Call, IsStopped}
use Rattle.fetch_journal.specs.Fronts.{IsAlike, IsStateOf}
use Rattle.fetch_journal.specs.Journals.{Begins}
use Rattle.fetch_journal.specs.Machine.{held}
use Rattle.fetch_journal.specs.Replays.{Outline, outline}
use Rattle.fetch_shared.specs.Conversed.{Line}
use Rattle.fetch_journal.proofs.Connecting.{connects_later}
use Rattle.fetch_journal.proofs.Fronts.{fronts_grow}
use Rattle.fetch_journal.proofs.Refusals.{disconnected}
use Rattle.fetch_journal.proofs.Replays.{replay_hash}

module _ (line : Line) (c : Call) (receipt : Receipt) (link : Missing) (h : IsStopped line c receipt (errors.Disconnected link)) where
  abbrev opening : RepositoryValue
  opening = c.before.shared.opening

  abbrev planned : List Entry
  planned = h.conversed.seen.journal

  at_plan : IsStateOf opening planned (planned_in h)
  at_plan = subst (λ (r : RepositoryValue). IsStateOf r planned (planned_in h)) h.conversed.at.opened h.conversed.at.kept.state

  same_hash : (planned_in h).state.hash ≡ opening.state.hash
  same_hash = ap (λ (o : Outline). o.hash) at_plan.told ∙ replay_hash (outline opening) planned

  goes_on : Begins planned c.after.front
  goes_on = h.conversed.at.begins

  at_front : IsStateOf opening c.after.front (found_in h)
  at_front = subst (λ (x : RepositoryValue × List Entry). IsStateOf x.0 x.1 (found_in h)) (λ i. (h.unapplied.refused.opened i, h.unapplied.refused.journal i)) h.unapplied.refused.kept.state

  grown : IsAlike (planned_in h).state.objects (found_in h).state.objects → Grows (planned_in h).state.objects (found_in h).state.objects
  grown alike = fronts_grow opening planned goes_on.rest (planned_in h) (found_in h) at_plan (subst (λ (es : List Entry). IsStateOf opening es (found_in h)) (sym goes_on.is) at_front) alike

  pub not_honest : (haves : List ObjectId) → IsAlike (planned_in h).state.objects (found_in h).state.objects → IsHonest (request_in haves h) (refused_pack h) → ⊥
  not_honest haves alike honest =
      let gap = disconnected (held (found_in h)) (request_in haves h).wants (refused_pack h) link h.unapplied.refused.cause in
      let fit : AreOf (planned_in h).state.hash (refused_pack h).objects = subst (λ (k : Kind). AreOf k (refused_pack h).objects) (sym same_hash) h.unapplied.came.of_kind in
      let whole : missing (held (found_in h)) (request_in haves h).wants (refused_pack h) ≡ [] =
      connects_later (planned_in h).state.hash (request_in haves h) (found_in h) (refused_pack h) h.conversed.at.kept.sound.of_hash h.conversed.at.kept.sound.closed h.unapplied.refused.kept.sound.closed (grown alike) fit gap.0 honest in
      let no : None ≡ Some link = sym (subst (λ (l : List Missing). slice_get l 0 ≡ None) (sym whole) refl) ∙ gap.1 in
      absurd cc
