-- An honest pack leaves nothing missing, whatever events came since it was asked for.
use Rattle.std.proofs.Common.{◌≡◌, ℕ, List, [], ◌∷◌, ◌++◌, None, Some, All, refl, sym, subst, ◌∙◌}
use Rattle.std.specs.Prelude.{slice_get}
use Rattle.std.specs.List.{AllByRecursion}
use Rattle.std.proofs.lemmas.List.Elements.{All-weaker}
use Rattle.fetch_base.specs.declared.id.ObjectId.{ObjectId}
use Rattle.fetch_base.specs.declared.id.Kind.{Kind}
use Rattle.fetch_store.specs.declared.missing.Missing.{Missing}
use Rattle.fetch_store.specs.Closed.{IsClosed, IsStored, AreAllOf, Grows}
use Rattle.fetch_store.specs.Honest.{Pack, IsHonest, Request}
use Rattle.fetch_store.specs.Missing.{missing}
use Rattle.fetch_store.specs.Stores.{AreOf, collision}
use Rattle.fetch_store.proofs.Growth.{stored_grows}
use Rattle.fetch_store.proofs.Honesty.{still_whole, wants_stored}
use Rattle.fetch_store.proofs.Whole.{connects_none, none_held}
use Rattle.fetch_remote.specs.RepositoryValues.{RepositoryValue}
use Rattle.fetch_journal.specs.declared.error.SharedError.TheVariants.{Disconnected}
use Rattle.fetch_journal.specs.Machine.{State, Event, held, request, refusal, effect, after, run, take_refusal}
use Rattle.fetch_journal.specs.Machine.Event.{Plan, Take}
use Rattle.fetch_journal.specs.Fronts.{IsSound, IsEventOf}
use Rattle.fetch_journal.proofs.Refusals.{allowed_take, take_allowed, disconnected}
use Rattle.fetch_journal.proofs.Runs.{after_allowed, run_closed, run_grows, run_of, run-append, split}

-- what is held now has all that was held at the request
pub connects_later : (hash : Kind) (r : Request) (now : RepositoryValue) (pack : Pack) → AreAllOf hash r.held.objects → IsClosed r.held → IsClosed (held now) → Grows r.held.objects now.state.objects → AreOf hash pack.objects
    → collision now.state.objects pack.objects ≡ None → IsHonest r pack → missing (held now) r.wants pack ≡ []
connects_later hash r now pack of closed shut grown fit none honest =
    connects_none (held now) r.wants pack (wants_stored r (held now) pack grown honest) (still_whole r (held now) pack grown hash of fit closed shut none honest)

module _ (s : State) (before between : List Event) (wants haves : List ObjectId) (pack : Pack) (sound : IsSound s.repository) (fits : AllByRecursion (IsEventOf s.repository.state.hash) (before ++ Plan ∷ between)) (fit : AreOf s.repository.state.hash pack.objects) (honest : IsHonest (request (run s before) wants haves) pack) where
  -- the state at the plan, and the one now
  at_plan : State
  at_plan = run s before

  pub connected : collision (run s (before ++ Plan ∷ between)).repository.state.objects pack.objects ≡ None → missing (held (run s (before ++ Plan ∷ between)).repository) wants pack ≡ []
  connected =
      let parts = split (IsEventOf s.repository.state.hash) before (Plan ∷ between) fits in
      subst (λ (t : State). collision t.repository.state.objects pack.objects ≡ None → missing (held t.repository) wants pack ≡ []) (sym (run-append s before (Plan ∷ between)))
      (λ none. connects_later s.repository.state.hash (request (run s before) wants haves) (run (run s before) between).repository pack
      (run_of s.repository.state.hash s before parts.0 sound.of_hash) (run_closed s before sound.closed) (run_closed (run s before) between (run_closed s before sound.closed)) (run_grows (run s before) between) fit none honest)

  pub connected_allowed : collision (run s (before ++ Plan ∷ between)).repository.state.objects pack.objects ≡ None → take_refusal (held (run s (before ++ Plan ∷ between)).repository) wants pack ≡ None
  connected_allowed none = take_allowed (held (run s (before ++ Plan ∷ between)).repository) wants pack none (connected none)

  pub never_disconnected : (link : Missing) → take_refusal (held (run s (before ++ Plan ∷ between)).repository) wants pack ≡ Some (Disconnected link) → ⊥
  never_disconnected link is =
      let both = disconnected (held (run s (before ++ Plan ∷ between)).repository) wants pack link is in
      let no : None ≡ Some link = sym (subst (λ (l : List Missing). slice_get l 0 ≡ None) (sym (connected both.0)) refl) ∙ both.1 in
      absurd cc

-- what an allowed take was for is stored then
pub wants_left : (s : State) (pass : ℕ) (wants : List ObjectId) (pack : Pack) → refusal s (Take pass wants pack) ≡ None → All (IsStored (effect s (Take pass wants pack)).repository.state.objects) wants
wants_left s pass wants pack ok = none_held (held s.repository) wants pack (allowed_take (held s.repository) wants pack ok).1

-- and from then on
pub wants_then : (s : State) (pass : ℕ) (wants : List ObjectId) (pack : Pack) (later : List Event) → refusal s (Take pass wants pack) ≡ None
    → All (IsStored (run s (Take pass wants pack ∷ later)).repository.state.objects) wants
wants_then s pass wants pack later ok =
    let then' : State = effect s (Take pass wants pack) in
    let taken_in : after s (Take pass wants pack) ≡ then' = after_allowed s (Take pass wants pack) ok in
    subst (λ (t : State). All (IsStored (run t later).repository.state.objects) wants) (sym taken_in)
    (All-weaker (IsStored then'.repository.state.objects) (IsStored (run then' later).repository.state.objects) (stored_grows then'.repository.state.objects (run then' later).repository.state.objects (run_grows then' later)) wants
    (wants_left s pass wants pack ok))
