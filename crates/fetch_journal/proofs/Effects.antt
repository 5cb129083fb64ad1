-- What is kept where an event has its effect.
use Rattle.std.proofs.Common.{◌≡◌, List, [], ◌∷◌, ◌++◌, None, Some, ⊎_elim, refl, sym, ap, subst, ◌∙◌}
use Rattle.fetch_base.specs.declared.id.ObjectId.{ObjectId}
use Rattle.fetch_store.specs.Borders.{IdSet, merged}
use Rattle.fetch_store.specs.Closed.{IsClosed, AreAllOf, holding}
use Rattle.fetch_store.specs.Honest.{Pack}
use Rattle.fetch_store.specs.Stores.{ObjectMap, Entries}
use Rattle.fetch_store.proofs.Growth.{grows_self, grows_trans}
use Rattle.fetch_remote.specs.RepositoryValues.{RepositoryValue}
use Rattle.fetch_remote.specs.Repositories as repositories
use Rattle.fetch_journal.specs.declared.entry.Entry.{Entry}
use Rattle.fetch_journal.specs.Fronts.{IsPinned, IsEventOf, IsNamedEvent}
use Rattle.fetch_journal.specs.Machine.{State, Event, refusal, effect, held, take_refusal, with_pack}
use Rattle.fetch_journal.specs.Replays.{Outline, Tells, outline}
use Rattle.fetch_journal.specs.Shared.{SharedValue, IsKept, state_of, done, opened}
use Rattle.fetch_journal.proofs.Fronts.{Brought, effect_brought}
use Rattle.fetch_journal.proofs.Replays.{effect_tells, replay_hash}
use Rattle.fetch_journal.proofs.Runs.{effect_closed, effect_grows, effect_hash, effect_of, effect_setup}

pinned_on : (m n p : ObjectMap) → IsPinned m n → IsPinned n p → Brought n p → IsPinned m p
pinned_on m n p a b brought = record {
  kept = grows_trans m n p a.kept b.kept;
  named = λ id o none is. ⊎_elim (λ was. a.named id o none was) (λ own. own) (brought.each id o is);
}

pinned_by : (s : State) (event : Event) → IsNamedEvent event → IsPinned s.repository.state.objects (effect s event).repository.state.objects
pinned_by s event named = record {
  kept = effect_grows s event;
  named = λ id o none is. ⊎_elim (λ was. let no : None ≡ Some o = sym none ∙ was in absurd cc) (λ own. own) ((effect_brought s event named).each id o is);
}

pub kept_done : (v : SharedValue) (event : Event) → IsKept v → IsEventOf v.repository.state.hash event → IsNamedEvent event → refusal (state_of v) event ≡ None → IsKept (done v event)
kept_done v event kept of named ok =
    let tells : Tells (outline v.opening) (effect (state_of v) event) = effect_tells (outline v.opening) (state_of v) event (record { replays = kept.state.told; met = kept.met }) ok in
    record {
      setup = effect_setup (state_of v) event ∙ kept.setup;
      sound = record {
        closed = effect_closed (state_of v) event kept.sound.closed ok;
        of_hash = subst (λ h. AreAllOf h (effect (state_of v) event).repository.state.objects) (sym (effect_hash (state_of v) event)) (effect_of v.repository.state.hash (state_of v) event of kept.sound.of_hash);
      };
      state = record {
        told = tells.replays;
        pinned = pinned_on v.opening.state.objects v.repository.state.objects (effect (state_of v) event).repository.state.objects kept.state.pinned (pinned_by (state_of v) event named) (effect_brought (state_of v) event named);
      };
      met = tells.met;
    }

pub kept_now : (v now : SharedValue) (event : Event) → IsKept v → IsEventOf v.repository.state.hash event → IsNamedEvent event → refusal (state_of v) event ≡ None → now ≡ done v event → IsKept now
kept_now v now event kept of named ok is = subst IsKept (sym is) (kept_done v event kept of named ok)

-- ids and objects are of the hash of what it opened as
pub kept_hash : (v : SharedValue) → IsKept v → v.repository.state.hash ≡ v.opening.state.hash
kept_hash v kept = ap (λ (o : Outline). o.hash) kept.state.told ∙ replay_hash (outline v.opening) v.journal

pub kept_opened : (r : RepositoryValue) → IsClosed (held r) → AreAllOf r.state.hash r.state.objects → IsKept (opened r)
kept_opened r closed of = record {
  setup = refl;
  sound = record { closed = closed; of_hash = of };
  state = record { told = refl; pinned = record { kept = grows_self r.state.objects; named = λ id o none is. let no : None ≡ Some o = sym none ∙ is in absurd cc } };
  met = tt;
}

-- a value by its parts
pub value_by : (opening r q : RepositoryValue) (xs ys : List Entry) → r ≡ q → xs ≡ ys → ◌≡◌ {A = SharedValue} (record { opening = opening; repository = r; journal = xs }) (record { opening = opening; repository = q; journal = ys })
value_by opening r q xs ys a b = λ i. record { opening = opening; repository = a i; journal = b i }

-- an entry at the end of a list that has room for it
pub pushed : (old room new : List Entry) (e d : Entry) → new ≡ room ++ e ∷ [] → room ≡ old → e ≡ d → new ≡ old ++ d ∷ []
pushed old room new e d is same entry = is ∙ ap (λ l. l ++ e ∷ []) same ∙ ap (λ (x : Entry). old ++ x ∷ []) entry

-- what a take is judged by, in its parts
pub allowed_by : (m n : ObjectMap) (a b : IdSet) (es fs : Entries) (wants shallow unshallow : List ObjectId) → m ≡ n → a ≡ b → es ≡ fs → take_refusal (holding m a) wants (record { objects = es; shallow = shallow; unshallow = unshallow }) ≡ None
    → take_refusal (holding n b) wants (record { objects = fs; shallow = shallow; unshallow = unshallow }) ≡ None
allowed_by m n a b es fs wants shallow unshallow p q r is = sym (λ i. take_refusal (holding (p i) (q i)) wants (record { objects = r i; shallow = shallow; unshallow = unshallow })) ∙ is

-- a repository by its parts
pub parts : (q : RepositoryValue) (state : repositories.State) (setup : repositories.Setup) → q.state ≡ state → q.setup ≡ setup → q ≡ record { state = state; setup = setup }
parts q state setup a b = λ i. record { state = a i; setup = b i }

-- what a pack leaves, over the border that was made for it
pub pack_taken : (r q : RepositoryValue) (pack : Pack) (made found : IdSet) → q.state ≡ repositories.with_pack r.state pack.objects made → q.setup ≡ r.setup → made ≡ merged found pack.shallow pack.unshallow → found ≡ r.state.border → q ≡ with_pack r pack
pack_taken r q pack made found is rest border same =
    parts q (repositories.with_pack r.state pack.objects made) r.setup is rest
    ∙ ap (λ (b : IdSet). record r { state = repositories.with_pack r.state pack.objects b }) (border ∙ ap (λ (b : IdSet). merged b pack.shallow pack.unshallow) same)
