-- What a pass is seen as, and what a call with it changes.
use Rattle.std.specs.Prelude.{◌≡◌, ◌≢◌, ℕ, ◌≤◌, List, [], Option, Result, IfOk, IfErr}
use Rattle.atomic_table.specs.Seated.{TableId}
use Rattle.atomic_table.specs.Table.{Me}
use Rattle.fetch_base.specs.Answers.{RefusesUnless}
use Rattle.fetch_journal.specs.declared.entry.Entry.{Entry}
use Rattle.fetch_shared.specs.declared.view.Span.{Span}
use Rattle.fetch_shared.specs.declared.view.View.{View}
use Rattle.fetch_shared.specs.declared.view.Stage.TheVariants.{Resting}
use Rattle.fetch_journal.specs.Journals.{Begins, entries_of}
use Rattle.fetch_shared.specs.Numbers.{Holds}
use Rattle.fetch_shared.specs.LockRule.{own}
use Rattle.fetch_conversation.specs.declared.settings.Settings.{Settings}
use Rattle.fetch_remote.specs.RepositoryValues.{RepositoryValue}
use Rattle.fetch_journal.specs.Shared.{SharedValue, IsKept, done, state_of, is_memory}
use Rattle.fetch_journal.specs.declared.error.SharedError.{SharedError}
use Rattle.fetch_journal.specs.Machine.{Event, refusal}

-- which shared repository it is, and what it opened as
pub record Which : Type 0 where
  pub table : TableId
  pub opening : RepositoryValue

-- the lock's parts: two words and one slot, and what never changes beside them, which is of the repository's hash
pub record IsShared (table : TableId) (opening : RepositoryValue) (settings : Settings) : Type 0 where
  pub words : table.words ≡ 2
  pub slots : table.slots ≡ 1
  pub settings_are : settings ≡ opening.setup.settings
  pub same_hash : settings.kind ≡ opening.state.hash

-- which shared repository it is of, its number, its unused numbers, the ranges of the numbers that it holds, and its front: what it
-- has seen of the journal
pub record Holder : Type 0 where
  pub shared : Which
  pub number : ℕ
  pub unused : Span
  pub held : List Span
  pub front : List Entry

-- what a seat of this view is seen as
abbrev pub holder_of : TableId → View → Holder
holder_of table v = record {
  shared = record { table = table; opening = v.opening };
  number = v.number;
  unused = v.unused;
  held = own v;
  front = v.front;
}

-- the seat has neither the turn nor a slot, and its view has this number and these unused ones
pub record IsAtRest (number : ℕ) (unused : Span) (me : Me (Option SharedValue) View) : Type 0 where
  pub number_is : me.0.number ≡ number
  pub unused_is : me.0.unused ≡ unused
  pub ordered : unused.first ≤ unused.end
  pub stage : me.0.stage ≡ Resting
  pub bare : me.1 ≡ []

-- the same pass, whose front goes on with no entry of another number that it holds
pub record IsBack (before after : Holder) : Type 0 where
  pub shared : after.shared ≡ before.shared
  pub number : after.number ≡ before.number
  pub unused : after.unused ≡ before.unused
  pub held : after.held ≡ before.held
  pub begins : Begins before.front after.front
  pub others : (n : ℕ) → Holds before.held n → n ≢ before.number → entries_of n after.front ≡ entries_of n before.front

-- A turn of this pass finds such a state.
pub record IsFoundBy (pass : Holder) (found : SharedValue) : Type 0 where
  -- It opened as the pass's repository did.
  pub opening : found.opening ≡ pass.shared.opening
  -- It is as its journal leaves it.
  pub kept : IsKept found
  -- Its journal goes on from the pass's front.
  pub begins : Begins pass.front found.journal
  -- It has no entry more of a number that the pass holds.
  pub same : (n : ℕ) → Holds pass.held n → entries_of n found.journal ≡ entries_of n pass.front

-- A turn in which the pass made this event, and what was answered.
pub record IsTurn {X : Type 0} (before after : Holder) (event : Event) (told : SharedValue → X)
    (answer : Result X SharedError) : Type 0 where
  -- what the turn found
  pub found : SharedValue
  -- It goes on from what the pass had seen.
  pub meets : IsFoundBy before found
  -- Ok comes only where the event is allowed there, and a refusal is that of the event there, or out of memory.
  pub answers : RefusesUnless is_memory (refusal (state_of found) event) answer
  -- Ok comes with what is told of the state found.
  pub tells : IfOk answer (λ x. x ≡ told found)
  -- Then the pass has seen the event's entry, at the end.
  pub entered : IfOk answer (λ _. after.front ≡ (done found event).journal)
  -- What the event leaves is kept.
  pub leaves : IfOk answer (λ _. IsKept (done found event))
  -- Where it was refused, the pass has seen what the turn found.
  pub refused : IfErr answer (λ _. after.front ≡ found.journal)
