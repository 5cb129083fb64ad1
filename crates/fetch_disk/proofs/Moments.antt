-- How spans of time are joined, and what one call leaves.
use Rattle.std.proofs.Common.{inl, inr, ⊎_elim, ℕ, List, length, refl, arith}
use Rattle.std.proofs.lemmas.List.{take_all}
use Rattle.std.specs.Prelude.{Result, IsErrOf}
use Rattle.fetch_base.specs.Faults.{Faults, Counts, Counts-then, Rose-earlier}
use Rattle.fetch_disk.specs.declared.disk_error.DiskError.{DiskError}
use Rattle.fetch_disk.specs.Directory.{Directory, InJournal}
use Rattle.fetch_disk.specs.Disk.{Torn, Shortened, After, Follows, NoOther, Elapses, LeavesOnly, HasCause}

module _ {D : Type 0} (moment : D → ℕ) (left_since : D → ℕ → Directory → Type 0) where
  pub weaker : (old new : D) (P Q : Directory → Type 0) → LeavesOnly moment left_since old new P → ((l : Directory) → P l → Q l) → LeavesOnly moment left_since old new Q
  weaker old new P Q span h = record {
    later = span.later;
    each = λ l left. h l (span.each l left);
    before = λ t l le left. ⊎_elim (λ was. inl was) (λ now. inr (h l now)) (span.before t l le left);
  }

  pub joined : (old mid new : D) (P : Directory → Type 0) → LeavesOnly moment left_since old mid P → LeavesOnly moment left_since mid new P → LeavesOnly moment left_since old new P
  joined old mid new P one two = record {
    later = omega (arith, one.later, two.later);
    each = λ l left. ⊎_elim (one.each l) (λ now. now) (two.before (moment old) l one.later left);
    before = λ t l le left. ⊎_elim (one.before t l le) (λ now. inr now) (two.before t l (omega (arith, le, one.later)) left);
  }

  -- one call, where only what may be left at its begin might have been left from there on
  pub called : (old new : D) (before after P : Directory → Type 0) → ((l : Directory) → left_since old (moment old) l → before l) → Elapses (moment old) (moment new) (left_since old) (left_since new) after
      → ((l : Directory) → before l → P l) → ((l : Directory) → after l → P l) → LeavesOnly moment left_since old new P
  called old new before after P only time was now = record {
    later = time.later;
    each = λ l left. ⊎_elim (λ h. was l (only l h)) (now l) (time.either (moment old) l (omega arith) left);
    before = λ t l le left. ⊎_elim (λ h. inl h) (λ h. inr (now l h)) (time.either t l le left);
  }

-- no time passes
pub rests : {D : Type 0} (moment : D → ℕ) (left_since : D → ℕ → Directory → Type 0) (P : Directory → Type 0) (disk : D) → ((l : Directory) → left_since disk (moment disk) l → P l) → LeavesOnly moment left_since disk disk P
rests moment left_since P disk only = record { later = omega arith; each = only; before = λ t l le left. inl left }

-- ---- nothing done is a step of each call

pub torn_same : (at n : ℕ) (bytes : List ℕ) → Torn at n bytes bytes
torn_same at n bytes = record { front = refl; back = refl; least = omega arith; most = omega arith }

pub shortened_same : (n : ℕ) (bytes : List ℕ) → Shortened n bytes bytes
shortened_same n bytes = record { least = omega arith; front = take_all (length bytes) bytes (omega arith) }

-- ---- calls that change the journal's file

module _ {D : Type 0} (moment : D → ℕ) (left_since : D → ℕ → Directory → Type 0) (may_leave : D → Directory → Type 0) (only : (d : D) (l : Directory) → left_since d (moment d) l → may_leave d l) where
  -- one call
  pub changed : (old new : D) (Step : List ℕ → List ℕ → Type 0) → ((bytes : List ℕ) → Step bytes bytes) → Elapses (moment old) (moment new) (left_since old) (left_since new) (may_leave new)
      → Follows (InJournal Step) (may_leave old) (may_leave new) → LeavesOnly moment left_since old new (After (InJournal Step) (may_leave old))
  changed old new Step same time crash = called moment left_since old new (may_leave old) (may_leave new) (After (InJournal Step) (may_leave old)) (only old) time (λ l is. (l, is, (same l.journal, refl))) crash

  -- and a sync
  pub synced : (old mid new : D) (Step : List ℕ → List ℕ → Type 0) → ((bytes : List ℕ) → Step bytes bytes) → Elapses (moment old) (moment mid) (left_since old) (left_since mid) (may_leave mid)
      → Follows (InJournal Step) (may_leave old) (may_leave mid) → Elapses (moment mid) (moment new) (left_since mid) (left_since new) (may_leave new) → NoOther (may_leave mid) (may_leave new)
      → LeavesOnly moment left_since old new (After (InJournal Step) (may_leave old))
  synced old mid new Step same time crash again no_other =
      let P = After (InJournal Step) (may_leave old) in
      joined moment left_since old mid new P (changed old mid Step same time crash)
      (called moment left_since mid new (may_leave mid) (may_leave new) P (only mid) again crash (λ l is. crash l (no_other l is)))

-- ---- faults

-- a call behind others
pub cause_after : {T U : Type 0} (a b d : Faults) (r : Result T DiskError) (s : Result U DiskError) → Counts a b → HasCause b d r → ((e : DiskError) → IsErrOf s e → IsErrOf r e) → HasCause a d s
cause_after a b d r s before now same = record {
  counts = Counts-then a b d before now.counts;
  failed = λ h. Rose-earlier a b d before (now.failed (same _ h));
  full = λ h. Rose-earlier a b d before (now.full (same _ h));
}
