-- What the calls of a disk make of its directory, and what a crash may leave of them. Calls stand with the newest first, and a disk begins
-- with nothing.
use Rattle.std.specs.Prelude.{◌≡◌, ◌⊎◌, ◌≤◌, ℕ, List, [], ◌∷◌, length, Option, Some, None, if◌then◌else◌}
use Rattle.std.proofs.Common.{inl, inr, arith}
use Rattle.std.specs.FinMap as map
use Rattle.std.specs.Ordering.{eq_by_cmp}
use Rattle.fetch_base.specs.Id.{id_cmp}
use Rattle.fetch_base.specs.declared.id.ObjectId.{ObjectId}
use Rattle.fetch_disk.specs.Directory.{Packs, Directory, InJournal, InPacks}
use Rattle.fetch_disk.specs.Disk.{Torn, Shortened, IsOldOr, After}
use Rattle.fetch_disk.specs.declared.call.Call.{Call}
use Rattle.fetch_disk.specs.declared.call.Call.TheVariants as calls

-- no journal, and no pack
abbrev pub nothing : Directory
nothing = record { journal = []; packs = map.empty }

-- the packs after a call
abbrev pub packs_after : Call → Packs → Packs
packs_after (calls.Write at bytes) m = m
packs_after (calls.Cut len) m = m
packs_after (calls.Sync bytes) m = m
packs_after (calls.Replace bytes) m = m
packs_after (calls.Put name bytes) m = map.insert m name bytes
packs_after (calls.Remove name) m = map.remove m name

-- the packs after all these calls
abbrev pub packs_of : List Call → Packs
packs_of [] = map.empty
packs_of (call ∷ earlier) = packs_after call (packs_of earlier)

-- what stands under a name after a call, where this stood before
abbrev pub pack_after : Call → ObjectId → Option (List ℕ) → Option (List ℕ)
pack_after (calls.Write at bytes) name before = before
pack_after (calls.Cut len) name before = before
pack_after (calls.Sync bytes) name before = before
pack_after (calls.Replace bytes) name before = before
pack_after (calls.Put put bytes) name before = if eq_by_cmp id_cmp name put then Some bytes else before
pack_after (calls.Remove removed) name before = if eq_by_cmp id_cmp name removed then None else before

-- What a crash right behind a call makes of what it might have left before it. A write and a cut may tear; a sync leaves of all outcomes
-- those that have the file; a replacement and a pack are done whole; a pack that is removed may come back.
abbrev pub Leaves : Call → Directory → Directory → Type 0
Leaves (calls.Write at bytes) = InJournal (Torn at (length bytes))
Leaves (calls.Cut len) = InJournal (Shortened len)
Leaves (calls.Sync bytes) = λ old new. (new ≡ old) × (new.journal ≡ bytes)
Leaves (calls.Replace bytes) = InJournal (λ old new. new ≡ bytes)
Leaves (calls.Put name bytes) = InPacks (λ old new. new ≡ map.insert old name bytes)
Leaves (calls.Remove name) = InPacks (IsOldOr (λ m. map.remove m name))

-- what a crash may leave after these calls
abbrev pub MayLeave : List Call → Directory → Type 0
MayLeave [] l = l ≡ nothing
MayLeave (call ∷ earlier) l = After (Leaves call) (MayLeave earlier) l

-- what a crash might have left after so many of these calls, or after more
abbrev pub LeftSince : List Call → ℕ → Directory → Type 0
LeftSince [] t l = MayLeave [] l
LeftSince (call ∷ earlier) t l = MayLeave (call ∷ earlier) l ⊎ ((t ≤ length earlier) × LeftSince earlier t l)

-- now is one of the times
pub left_now : (h : List Call) (t : ℕ) (l : Directory) → MayLeave h l → LeftSince h t l
left_now [] t l is = is
left_now (call ∷ earlier) t l is = inl is

-- since all calls there is none but now
pub only_left_now : (h : List Call) (l : Directory) → LeftSince h (length h) l → MayLeave h l
only_left_now [] l is = is
only_left_now (call ∷ earlier) l (inl is) = is
only_left_now (call ∷ earlier) l (inr was) = absurd (omega (arith, was.0))
