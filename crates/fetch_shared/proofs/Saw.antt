-- What turns that a pass took tell of the states that they found and left.
use Rattle.std.proofs.Common.{◌≡◌, ◌⊎◌, ℕ, List, length, Option, None, Some, Ok, Err, refl, sym, ap, subst, inl, inr}
use Rattle.fetch_base.specs.Answers.{RefusesUnless}
use Rattle.fetch_base.specs.declared.id.ObjectId.{ObjectId}
use Rattle.fetch_negotiate.specs.declared.algorithm.Shallow.{Shallow}
use Rattle.fetch_conversation.specs.declared.conversing.Received.{Received}
use Rattle.fetch_specs.specs.declared.tags.Tags.{Tags}
use Rattle.fetch_map.specs.declared.mapping.RefMap.{RefMap}
use Rattle.fetch_remote.specs.RepositoryValues.{RepositoryValue}
use Rattle.fetch_journal.specs.declared.entry.Entry.{Entry}
use Rattle.fetch_journal.specs.declared.error.SharedError.{SharedError}
use Rattle.fetch_journal.specs.declared.error.SharedError.TheVariants as errors
use Rattle.fetch_journal.specs.declared.plan.Plan.{Plan}
use Rattle.fetch_journal.specs.Journals.{Begins}
use Rattle.fetch_journal.specs.Machine.{Event, refusal}
use Rattle.fetch_journal.specs.Machine.Event.{Plan as Planning}
use Rattle.fetch_shared.specs.Passes.{Holder, IsBack, IsTurn}
use Rattle.fetch_shared.specs.Seen.{IsStateAt, IsRefusedAt, AllowsTake}
use Rattle.fetch_journal.specs.Shared.{SharedValue, done, plan_of, state_of, is_memory}
use Rattle.fetch_shared.specs.Conversed.{HasPlanned}
use Rattle.fetch_journal.proofs.Journals.{begins_self, begins_trans}

-- why an event was refused
refused_by : (X : Type 0) (cause : Option SharedError) (e : SharedError) → RefusesUnless {X = X} is_memory cause (Err e) → (e ≡ errors.NoMemory) ⊎ (cause ≡ Some e)
refused_by X cause errors.NoMemory h = inl refl
refused_by X cause (errors.NotClosed link) h = inr h
refused_by X cause (errors.Disconnected link) h = inr h
refused_by X cause (errors.Collision id) h = inr h
refused_by X cause (errors.EditReferences name found) h = inr h
refused_by X cause (errors.Fetch cause') h = inr h
refused_by X cause (errors.Delete cause') h = inr h

module _ {X : Type 0} (before after : Holder) (e : Event) (told : SharedValue → X) where
  -- the state that an event left
  pub saw : (x : X) (count : ℕ) → IsBack before after → (t : IsTurn before after e told (Ok x)) → length (done t.found e).journal ≡ count → IsStateAt before.shared.opening before.front after.front count (done t.found e)
  saw x count back t is = record {
    opened = t.meets.opening;
    kept = t.leaves;
    goes_on = subst (λ (j : List Entry). Begins before.front j) t.entered back.begins;
    begins = subst (λ (j : List Entry). Begins (done t.found e).journal j) (sym t.entered) (begins_self (done t.found e).journal);
    count_is = is;
  }

  -- the state that refused it, or want of memory
  pub refuses : (why : SharedError) → IsBack before after → IsTurn before after e told (Err why) → (why ≡ errors.NoMemory) ⊎ IsRefusedAt before.shared.opening before.front after.front e why
  refuses why back t = by (refused_by X (refusal (state_of t.found) e) why t.answers)
    where
      by : (why ≡ errors.NoMemory) ⊎ (refusal (state_of t.found) e ≡ Some why) → (why ≡ errors.NoMemory) ⊎ IsRefusedAt before.shared.opening before.front after.front e why
      by (inl is) = inl is
      by (inr cause) = inr (record { found = t.found; opened = t.meets.opening; kept = t.meets.kept; goes_on = back.begins; journal = sym t.refused; cause = cause })

-- a plan
pub has_planned : (before after : Holder) (map : RefMap) (tags : Tags) (shallow : Shallow) (plan : Plan) → IsBack before after → IsTurn before after Planning (λ v. plan_of v map tags shallow) (Ok plan) → HasPlanned before after (λ v. plan_of v map tags shallow) plan
has_planned before after map tags shallow plan back t = record {
  seen = done t.found Planning;
  at = saw before after Planning (λ v. plan_of v map tags shallow) plan plan.place back t (sym (ap (λ (p : Plan). p.place) t.tells));
  front = t.entered;
  plan_is = t.tells;
}

-- ---- later fronts

pub state_later : (opening : RepositoryValue) (earlier front later : List Entry) (count : ℕ) (v : SharedValue) → Begins front later → IsStateAt opening earlier front count v → IsStateAt opening earlier later count v
state_later opening earlier front later count v more s = record { opened = s.opened; kept = s.kept; goes_on = s.goes_on; begins = begins_trans v.journal front later s.begins more; count_is = s.count_is }

pub refused_earlier : (opening : RepositoryValue) (earlier front later : List Entry) (e : Event) (why : SharedError) → Begins earlier front → IsRefusedAt opening front later e why → IsRefusedAt opening earlier later e why
refused_earlier opening earlier front later e why more r = record { found = r.found; opened = r.opened; kept = r.kept; goes_on = begins_trans earlier front later more r.goes_on; journal = r.journal; cause = r.cause }

pub allowed_later : (opening : RepositoryValue) (earlier front later : List Entry) (number : ℕ) (wants : List ObjectId) (r : Option Received) (left : SharedValue) → Begins front later
    → AllowsTake opening earlier front number wants r left → AllowsTake opening earlier later number wants r left
allowed_later opening earlier front later number wants None left more h = tt
allowed_later opening earlier front later number wants (Some reply) left more h =
    record { found = h.found; at = state_later opening earlier front later (length h.found.journal) h.found more h.at; allowed = h.allowed; left_is = h.left_is }

-- the same pass
pub back_self : (p : Holder) → IsBack p p
back_self p = record { shared = refl; number = refl; unused = refl; held = refl; begins = begins_self p.front; others = λ n h other. refl }
