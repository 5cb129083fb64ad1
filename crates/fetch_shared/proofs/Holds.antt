-- What a fetch that was done holds: each id that is mapped, implicit tags aside.
use Rattle.std.proofs.Common.{◌≡◌, ◌⊎◌, ℕ, Bool, true, false, List, [], ◌∷◌, Option, None, Some, refl, sym, subst, inl, inr, arith}
use Rattle.std.specs.Prelude.{Contains}
use Rattle.std.proofs.lemmas.List.Elements.{All-contains}
use Rattle.fetch_store.specs.Closed.{IsStored}
use Rattle.fetch_base.specs.declared.id.ObjectId.{ObjectId}
use Rattle.fetch_map.specs.declared.mapping.RefMap.{RefMap}
use Rattle.fetch_conversation.specs.declared.conversing.Received.{Received}
use Rattle.fetch_remote.specs.Fetched.{HoldsMapped}
use Rattle.fetch_remote.specs.Form.{Given}
use Rattle.fetch_remote.specs.RepositoryValues.{RepositoryValue}
use Rattle.fetch_remote.specs.Applying.{to_take, pack_of}
use Rattle.fetch_remote.specs.Stages.{wants_in}
use Rattle.fetch_remote.proofs.Wanted.{stored_or_wanted}
use Rattle.fetch_journal.specs.declared.entry.Entry.{Entry}
use Rattle.fetch_journal.specs.Fronts.{IsStateOf}
use Rattle.fetch_journal.specs.Journals.{Begins}
use Rattle.fetch_journal.specs.Machine.Event.{Take}
use Rattle.fetch_journal.specs.Machine.{effect}
use Rattle.fetch_shared.specs.Seen.{AllowsTake}
use Rattle.fetch_journal.specs.Shared.{SharedValue, IsKept, state_of}
use Rattle.fetch_journal.proofs.Connecting.{wants_left}
use Rattle.fetch_journal.proofs.Fronts.{stored_later}

-- what one state of a journal stores, a later one stores too
pub stored_on : (opening : RepositoryValue) (v w : SharedValue) (id : ObjectId) → v.opening ≡ opening → w.opening ≡ opening → IsKept v → IsKept w → Begins v.journal w.journal
    → IsStored v.repository.state.objects id → IsStored w.repository.state.objects id
stored_on opening v w id same other kept later on is =
    stored_later opening v.journal on.rest v.repository w.repository id (subst (λ (r : RepositoryValue). IsStateOf r v.journal v.repository) same kept.state)
    (subst (λ (x : RepositoryValue × List Entry). IsStateOf x.0 x.1 w.repository) (λ i. (other i, sym on.is i)) later.state) is

-- where nothing is to be taken but in a dry run, nothing was received
pub received_none : (dry_run : Bool) (r : Option Received) → dry_run ≡ false → to_take dry_run r ≡ None → r ≡ None
received_none true r wet is = absurd (cc)
received_none false r wet is = is

no_member : (ids : List ObjectId) → ids ≡ [] → (id : ObjectId) → Contains ids id → ⊥
no_member [] is id h = absurd (omega (arith, h.1))
no_member (a ∷ ids) is id h = absurd (cc)

module _ (opening : RepositoryValue) (earlier front : List Entry) (number : ℕ) (planned seen : SharedValue) (wants : List ObjectId) (stays : (id : ObjectId) → IsStored planned.repository.state.objects id → IsStored seen.repository.state.objects id) where
  holds_each : (r : Option Received) → AllowsTake opening earlier front number wants r seen → (r ≡ None → wants ≡ []) → (id : ObjectId) → IsStored planned.repository.state.objects id ⊎ Contains wants id → IsStored seen.repository.state.objects id
  holds_each r a none id (inl stored) = stays id stored
  holds_each None a none id (inr wanted) = absurd (no_member wants (none refl) id wanted)
  holds_each (Some reply) a none id (inr wanted) =
      let left = (effect (state_of a.found) (Take number wants (pack_of reply))).repository.state.objects in
      subst (λ (v : SharedValue). IsStored v.repository.state.objects id) (sym a.left_is)
      (All-contains (IsStored left) wants id (wants_left (state_of a.found) number wants (pack_of reply) a.allowed) wanted)

-- each id that is mapped was stored as the plan was made, or it was wanted
pub holds_mapped : (opening : RepositoryValue) (earlier front : List Entry) (number : ℕ) (g : Given) (planned seen : SharedValue) (m : RefMap) (r : Option Received) → ((id : ObjectId) → IsStored planned.repository.state.objects id → IsStored seen.repository.state.objects id)
    → AllowsTake opening earlier front number (wants_in g planned.repository.state m) r seen → (r ≡ None → wants_in g planned.repository.state m ≡ []) → HoldsMapped g m seen.repository.state.objects
holds_mapped opening earlier front number g planned seen m r stays allowed none = record {
  each = λ mapping id among aside has.
      holds_each opening earlier front number planned seen (wants_in g planned.repository.state m) stays r allowed none id
      (stored_or_wanted m g.remote.tags g.options.shallow planned.repository.state.objects mapping id among aside has);
}
