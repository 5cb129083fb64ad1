-- The bytes of a journal, and the records that they stand for.
use Rattle.std.specs.Prelude.{◌≡◌, ◌≢◌, ◌⊎◌, ◌<◌, ◌^◌, ⊤, ℕ, Bool, false, not, ◌==◌, List, [], ◌∷◌, ◌++◌, length, codes}
use Rattle.std.specs.Int.{w64, to_be_bytes}
use Rattle.fetch_base.specs.Hashing.{digest}
use Rattle.fetch_base.specs.Id.{bytes_of}
use Rattle.fetch_base.specs.declared.id.Kind.{Kind}
use Rattle.fetch_disk.specs.declared.journal_error.JournalError.{JournalError}
use Rattle.fetch_disk.specs.declared.journal_error.JournalError.TheVariants as errors
use Rattle.fetch_disk.specs.declared.record.Record.{Record}

-- what a journal begins with: its mark, and the version
abbrev pub mark : List ℕ
mark = codes "bagjulen"

-- the mark, and the version that is known
unfoldable pub front : List ℕ
front = mark ++ 1 ∷ []

-- what a record's digest is of: its kind, the length of its body in eight bytes, and the body
unfoldable pub message : Record → List ℕ
message e = e.kind ∷ (to_be_bytes w64 (length e.body) ++ e.body)

-- what stands of a record behind its gate: the message, and its digest
unfoldable pub payload : Kind → Record → List ℕ
payload hash e = message e ++ bytes_of (digest hash (message e))

-- records, each behind an open gate
abbrev pub spelled : Kind → List Record → List ℕ
spelled hash [] = []
spelled hash (e ∷ es) = 1 ∷ (payload hash e ++ spelled hash es)

-- a journal up to its first closed gate
unfoldable pub opened : Kind → List Record → List ℕ
opened hash es = front ++ spelled hash es

-- the journal of these records: behind the last of them a closed gate
abbrev pub journal_of : Kind → List Record → List ℕ
journal_of hash es = opened hash es ++ 0 ∷ []

-- The bytes stand for these records: behind them the gate isn't open, and what follows doesn't count.
pub record Stands (hash : Kind) (bytes : List ℕ) (es : List Record) : Type 0 where
  pub gate : ℕ
  pub behind : List ℕ
  pub shut : gate ≢ 1
  pub whole : bytes ≡ opened hash es ++ gate ∷ behind
  pub small : length (opened hash es) < 2 ^ 64

-- ---- what isn't a journal

-- The bytes begin with the mark and a version.
abbrev pub HasVersion : List ℕ → ℕ → Type 0
HasVersion bytes version = (rest : List ℕ) × (bytes ≡ mark ++ version ∷ rest)

-- Here stands neither a closed gate nor a whole record behind an open one.
pub record BeginsNothing (hash : Kind) (bytes : List ℕ) : Type 0 where
  pub no_gate : (gate : ℕ) (behind : List ℕ) → bytes ≡ gate ∷ behind → gate ≡ 1
  pub no_record : (e : Record) (behind : List ℕ) → length e.body < 2 ^ 64 → bytes ≡ 1 ∷ (payload hash e ++ behind) → ⊥

-- The bytes are damaged at this place: up to there they are whole records, and there nothing begins.
pub record IsDamagedAt (hash : Kind) (bytes : List ℕ) (place : ℕ) : Type 0 where
  pub before : List Record
  pub rest : List ℕ
  pub whole : bytes ≡ opened hash before ++ rest
  pub stands : place ≡ length (opened hash before)
  pub small : length (opened hash before) < 2 ^ 64
  pub nothing : BeginsNothing hash rest

-- ---- what a step makes of the records

-- both stand for the same records
abbrev pub SameRecords : Kind → List ℕ → List ℕ → Type 0
SameRecords hash old new = (es : List Record) × Stands hash old es × Stands hash new es

-- the new bytes stand for the records of the old ones, and for this one behind them
abbrev pub Adds : Kind → Record → List ℕ → List ℕ → Type 0
Adds hash e old new = (es : List Record) × Stands hash old es × Stands hash new (es ++ e ∷ [])

-- The bytes stay, or they stand for the records of the old ones, with this one behind them or without it.
abbrev pub MayAdd : Kind → Record → List ℕ → List ℕ → Type 0
MayAdd hash e old new = (new ≡ old) ⊎ ((es : List Record) × Stands hash old es × (Stands hash new es ⊎ Stands hash new (es ++ e ∷ [])))

-- ---- reading

-- a gate that isn't open
abbrev pub is_shut : List ℕ → Bool
is_shut [] = false
is_shut (gate ∷ behind) = not (gate == 1)

-- the bytes stand for these records, and their closed gate is there
pub record IsRead (hash : Kind) (bytes : List ℕ) (es : List Record) (end : ℕ) : Type 0 where
  pub stands : Stands hash bytes es
  pub gate : end ≡ length (opened hash es)

-- why these bytes aren't those of a journal of this version
abbrev pub IsForeign : List ℕ → JournalError → Type 0
IsForeign bytes errors.NotARepository = (version : ℕ) → HasVersion bytes version → ⊥
IsForeign bytes (errors.Version found) = HasVersion bytes found × (found ≢ 1)
IsForeign bytes (errors.Damaged place) = ⊥
IsForeign bytes errors.Failed = ⊥
IsForeign bytes errors.Full = ⊥
IsForeign bytes errors.Disk = ⊥
IsForeign bytes errors.NoMemory = ⊥

-- why these bytes aren't read
abbrev pub IsUnread : Kind → List ℕ → JournalError → Type 0
IsUnread hash bytes errors.NotARepository = IsForeign bytes errors.NotARepository
IsUnread hash bytes (errors.Version found) = IsForeign bytes (errors.Version found)
IsUnread hash bytes (errors.Damaged place) = IsDamagedAt hash bytes place
IsUnread hash bytes errors.Failed = ⊥
IsUnread hash bytes errors.Full = ⊥
IsUnread hash bytes errors.Disk = ⊥
IsUnread hash bytes errors.NoMemory = ⊤

-- The bytes are these records and a closed gate at this place, and nothing is behind it.
pub record IsAtRest (hash : Kind) (bytes : List ℕ) (es : List Record) (end : ℕ) : Type 0 where
  pub stands : Stands hash bytes es
  pub nothing_behind : stands.behind ≡ []
  pub place : end ≡ length (opened hash es)

-- The bytes stay, or they stand for the records that are read of these.
abbrev pub StaysOrReads : Kind → List ℕ → List ℕ → List ℕ → Type 0
StaysOrReads hash read old new = (new ≡ old) ⊎ SameRecords hash read new
