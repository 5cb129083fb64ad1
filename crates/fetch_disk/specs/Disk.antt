-- What the calls of a disk do to a directory, and what a crash may make of it.
use Rattle.std.specs.Prelude.{◌≡◌, ◌⊎◌, ℕ, ◌+◌, ◌≤◌, min, max, List, ◌++◌, length, take, drop, Some, Result, IsErrOf}
use Rattle.std.specs.FinMap as map
use Rattle.fetch_base.specs.Faults.{Faults, Rose, Counts}
use Rattle.fetch_base.specs.declared.id.ObjectId.{ObjectId}
use Rattle.fetch_disk.specs.Directory.{Packs, Directory}
use Rattle.fetch_disk.specs.declared.disk_error.DiskError.{DiskError}
use Rattle.fetch_disk.specs.declared.disk_error.DiskError.TheVariants as errors

-- ---- what calls do

-- the bytes with these at a place, over what stood there and past the end
abbrev pub overwritten : ℕ → List ℕ → List ℕ → List ℕ
overwritten at bytes old = take at old ++ (bytes ++ drop (at + length bytes) old)

-- What is read of these bytes: so many of the first stand at the front of the buffer.
pub record IsPiece (bytes : List ℕ) (count : ℕ) (buffer : List ℕ) : Type 0 where
  pub fits : count ≤ length buffer
  pub within : count ≤ length bytes
  pub same : take count buffer ≡ take count bytes

-- some bytes at the front of others
abbrev pub IsFront : List ℕ → List ℕ → Type 0
IsFront begin bytes = (rest : List ℕ) × (bytes ≡ begin ++ rest)

-- ---- what a crash makes of a call that isn't on the disk yet

-- A write of n bytes at a place, cut short anywhere: whatever in its range and past the old end, and the old bytes elsewhere.
pub record Torn (at n : ℕ) (old new : List ℕ) : Type 0 where
  pub front : take at new ≡ take at old
  pub back : drop (at + n) new ≡ drop (at + n) old
  pub least : length old ≤ length new
  pub most : length new ≤ max (length old) (at + n)

-- A cut to n bytes, done in part: some front of the old bytes that has at least n, or all of them.
pub record Shortened (n : ℕ) (old new : List ℕ) : Type 0 where
  pub least : min n (length old) ≤ length new
  pub front : take (length new) old ≡ new

-- It is as it was, or it is this.
abbrev pub IsOldOr : {X : Type 0} → (X → X) → X → X → Type 0
IsOldOr change old new = (new ≡ old) ⊎ (new ≡ change old)

-- ---- outcomes: each directory that a crash may leave

-- a directory that the step makes of one of these outcomes
abbrev pub After : (Directory → Directory → Type 0) → (Directory → Type 0) → Directory → Type 0
After Step outcomes l = (d : Directory) × outcomes d × Step d l

-- each new outcome is an old one after the step
abbrev pub Follows : (Directory → Directory → Type 0) → (Directory → Type 0) → (Directory → Type 0) → Type 0
Follows Step old new = (l : Directory) → new l → After Step old l

-- each new outcome was one before
abbrev pub NoOther : (Directory → Type 0) → (Directory → Type 0) → Type 0
NoOther old new = (l : Directory) → new l → old l

-- each crash leaves a journal of these bytes
abbrev pub JournalIs : List ℕ → (Directory → Type 0) → Type 0
JournalIs bytes outcomes = (l : Directory) → outcomes l → l.journal ≡ bytes

-- each crash leaves this pack
abbrev pub IsKept : ObjectId → List ℕ → (Directory → Type 0) → Type 0
IsKept name bytes outcomes = (l : Directory) → outcomes l → map.get l.packs name ≡ Some bytes

-- each crash leaves all these packs
abbrev pub Keeps : Packs → (Directory → Type 0) → Type 0
Keeps packs outcomes = (name : ObjectId) (bytes : List ℕ) → map.get packs name ≡ Some bytes → IsKept name bytes outcomes

-- ---- time

-- The clock goes on by one call: what a crash since t might have left is what it might have left before the call, or what it may leave
-- now.
pub record Elapses (before now : ℕ) (past since : ℕ → Directory → Type 0) (may_leave : Directory → Type 0) : Type 0 where
  pub later : before ≤ now
  pub either : (t : ℕ) (l : Directory) → t ≤ before → since t l → past t l ⊎ may_leave l
  pub keeps : (t : ℕ) (l : Directory) → t ≤ before → past t l → since t l

-- A crash at any moment from old to new leaves a directory with P.
pub record LeavesOnly {D : Type 0} (moment : D → ℕ) (left_since : D → ℕ → Directory → Type 0) (old new : D) (P : Directory → Type 0) : Type 0 where
  pub later : moment old ≤ moment new
  pub each : (l : Directory) → left_since new (moment old) l → P l
  -- and for what began earlier
  pub before : (t : ℕ) (l : Directory) → t ≤ moment old → left_since new t l → left_since old t l ⊎ P l

-- ---- faults

-- The count of faults goes on. It rose where the call failed, or found no room.
pub record HasCause {T : Type 0} (before now : Faults) (result : Result T DiskError) : Type 0 where
  pub counts : Counts before now
  pub failed : IsErrOf result errors.Failed → Rose before now
  pub full : IsErrOf result errors.Full → Rose before now
