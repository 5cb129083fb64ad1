-- When a journal is in order, and why its calls fail.
use Rattle.std.specs.Prelude.{◌≡◌, ◌⊎◌, ⊤, ℕ, Bool, true, List}
use Rattle.std.specs.Bool.{OnFalse}
use Rattle.fetch_base.specs.Faults.{Faults, Rose}
use Rattle.fetch_base.specs.declared.id.Kind.{Kind}
use Rattle.fetch_disk.specs.Directory.{Directory}
use Rattle.fetch_disk.specs.Disk.{JournalIs}
use Rattle.fetch_disk.specs.Records.{IsAtRest, IsUnread}
use Rattle.fetch_disk.specs.declared.journal.Journal.{Journal}
use Rattle.fetch_disk.specs.declared.journal_error.JournalError.{JournalError}
use Rattle.fetch_disk.specs.declared.journal_error.JournalError.TheVariants as errors
use Rattle.fetch_disk.specs.declared.record.Record.{Record}

-- the file is these records and a closed gate, and each crash leaves them
pub record IsSettled {D : Type 0} (seen : D → Directory) (may_leave : D → Directory → Type 0) (journal : Journal D) : Type 0 where
  pub records : List Record
  pub at_rest : IsAtRest journal.hash (seen journal.disk).journal records journal.end
  pub durable : JournalIs (seen journal.disk).journal (may_leave journal.disk)

-- it is settled, or a call failed in its midst
abbrev pub IsSound : {D : Type 0} → (D → Directory) → (D → Directory → Type 0) → Journal D → Type 0
IsSound seen may_leave journal = OnFalse journal.failed (IsSettled seen may_leave journal)

-- as before, or a call failed in its midst
abbrev pub IsUnchangedOrFailed : {D : Type 0} → Journal D → Journal D → Type 0
IsUnchangedOrFailed old new = (new ≡ old) ⊎ (new.failed ≡ true)

-- why a journal isn't opened, of these bytes
abbrev pub OpenCause : Kind → List ℕ → Faults → Faults → JournalError → Type 0
OpenCause hash bytes before now errors.NotARepository = IsUnread hash bytes errors.NotARepository
OpenCause hash bytes before now (errors.Version found) = IsUnread hash bytes (errors.Version found)
OpenCause hash bytes before now (errors.Damaged place) = IsUnread hash bytes (errors.Damaged place)
OpenCause hash bytes before now errors.Failed = ⊥
OpenCause hash bytes before now errors.Full = Rose before now
OpenCause hash bytes before now errors.Disk = Rose before now
OpenCause hash bytes before now errors.NoMemory = ⊤

-- why a journal isn't written: it failed before, or it would be too long, or the disk failed
abbrev pub WriteCause : Bool → Type 0 → Faults → Faults → JournalError → Type 0
WriteCause failed TooLong before now errors.NotARepository = ⊥
WriteCause failed TooLong before now (errors.Version found) = ⊥
WriteCause failed TooLong before now (errors.Damaged place) = ⊥
WriteCause failed TooLong before now errors.Failed = failed ≡ true
WriteCause failed TooLong before now errors.Full = TooLong ⊎ Rose before now
WriteCause failed TooLong before now errors.Disk = Rose before now
WriteCause failed TooLong before now errors.NoMemory = ⊤
