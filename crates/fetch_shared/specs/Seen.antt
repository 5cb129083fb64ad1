-- The states that a pass has seen, by how many entries of its front lead to them.
use Rattle.std.specs.Prelude.{◌≡◌, ℕ, List, length, Option, None, Some, ⊤}
use Rattle.fetch_base.specs.declared.id.ObjectId.{ObjectId}
use Rattle.fetch_conversation.specs.declared.conversing.Received.{Received}
use Rattle.fetch_remote.specs.Applying.{pack_of}
use Rattle.fetch_remote.specs.RepositoryValues.{RepositoryValue}
use Rattle.fetch_journal.specs.declared.entry.Entry.{Entry}
use Rattle.fetch_journal.specs.declared.error.SharedError.{SharedError}
use Rattle.fetch_journal.specs.Journals.{Begins}
use Rattle.fetch_journal.specs.Machine.{Event, IsAllowed, refusal}
use Rattle.fetch_journal.specs.Machine.Event.{Take}
use Rattle.fetch_journal.specs.Shared.{SharedValue, IsKept, done, state_of}

-- The state that the first `count` entries of a front leave: it is kept, and these are its journal, which goes on from an
-- earlier one.
pub record IsStateAt (opening : RepositoryValue) (earlier front : List Entry) (count : ℕ) (v : SharedValue) : Type 0 where
  pub opened : v.opening ≡ opening
  pub kept : IsKept v
  pub goes_on : Begins earlier v.journal
  pub begins : Begins v.journal front
  pub count_is : length v.journal ≡ count

-- The state that all entries of a front leave refuses this event, with this answer.
pub record IsRefusedAt (opening : RepositoryValue) (earlier front : List Entry) (event : Event) (e : SharedError) : Type 0 where
  pub found : SharedValue
  pub opened : found.opening ≡ opening
  pub kept : IsKept found
  pub goes_on : Begins earlier front
  pub journal : found.journal ≡ front
  pub cause : refusal (state_of found) event ≡ Some e

-- A state that a beginning of a front leaves allowed this event, which left this.
pub record IsAllowedAt (opening : RepositoryValue) (earlier front : List Entry) (event : Event) (left : SharedValue) : Type 0 where
  pub found : SharedValue
  pub at : IsStateAt opening earlier front (length found.journal) found
  pub allowed : IsAllowed (state_of found) event
  pub left_is : left ≡ done found event

-- Where there is something to take, its take was allowed.
abbrev pub AllowsTake : RepositoryValue → List Entry → List Entry → ℕ → List ObjectId → Option Received → SharedValue → Type 0
AllowsTake opening earlier front number wants None left = ⊤
AllowsTake opening earlier front number wants (Some reply) left = IsAllowedAt opening earlier front (Take number wants (pack_of reply)) left
