-- What calls of files answer and leave, where the files tell their tree, and which faults they count. `asked` is what a tree answers to the
-- call: None where it refuses it.
use Rattle.std.specs.Prelude.{◌≡◌, ℕ, Bool, true, false, Option, Some, None, is_some, IfSome, Contains}
use Rattle.std.specs.Prelude.{Result, Ok, Err, IsErr, IsErrOf, OnErr, MatchResult}
use Rattle.std.specs.Option.{ok_or}
use Rattle.fetch_base.specs.Answers.{AnswersBy}
use Rattle.fetch_base.specs.Calls.{CallList, one_more, risen_after}
use Rattle.fetch_base.specs.Faults.{Counts, counted}
use Rattle.fetch_files.specs.Trees.{Tree}
use Rattle.fetch_files.specs.declared.file_error.FileError.{FileError}
use Rattle.fetch_files.specs.declared.file_error.FileError.TheVariants as errors

-- A call that asks: the tree stays, and at Ok it answers so.
abbrev pub Asks : {X Y E : Type 0} → (X → Y) → Option Tree → Option Tree → (Tree → Option Y) → Result X E → Type 0
Asks view before now asked (Ok value) = (now ≡ before) × IfSome before (λ t. asked t ≡ Some (view value))
Asks view before now asked (Err e) = now ≡ before

-- A call that changes the tree: at Ok it is the tree that the call makes of it, and after an error it is as before.
abbrev pub Changes : {X E : Type 0} → Option Tree → Option Tree → (Tree → Option Tree) → Result X E → Type 0
Changes before now asked (Ok done) = (is_some now ≡ is_some before) × IfSome before (λ t. asked t ≡ now)
Changes before now asked (Err e) = now ≡ before

-- Where no call may fail by itself, a told tree refuses this one.
abbrev pub IsRefused : {Y : Type 0} → Bool → Option Tree → (Tree → Option Y) → Type 0
IsRefused may_fail before asked = may_fail ≡ false → IfSome before (λ t. asked t ≡ None)

-- ---- faults

-- the count of faults after a call: one more where it failed
abbrev pub failed_after : {X : Type 0} → ℕ → Result X FileError → ℕ
failed_after failed (Ok value) = failed
failed_after failed (Err errors.Failed) = one_more failed
failed_after failed (Err errors.NoMemory) = failed

-- ---- files in memory

-- the tree, the calls that fail, and how many failed
pub record MemoryTree : Type 0 where
  pub tree : Tree
  pub calls : CallList
  pub failed : ℕ

-- one call more
abbrev pub called : CallList → CallList
called calls = record { listed = calls.listed; next = one_more calls.next }

-- the next call is one that fails
abbrev pub IsListed : CallList → Type 0
IsListed calls = Contains calls.listed calls.next

-- out of memory
abbrev pub is_memory : FileError → Bool
is_memory errors.Failed = false
is_memory errors.NoMemory = true

-- A call that asks: it fails where it is listed, and else it answers what the tree does, unless memory runs out.
pub record IsAnswered {X Y : Type 0} (view : X → Y) (before after : MemoryTree)
    (asked : Tree → Option Y) (result : Result X FileError) : Type 0 where
  pub listed : IsListed before.calls → IsErrOf result errors.Failed
  pub answer : ¬ IsListed before.calls → AnswersBy view is_memory (ok_or (asked before.tree) errors.Failed) result
  pub same : after.tree ≡ before.tree
  pub calls : after.calls ≡ called before.calls
  pub failed : after.failed ≡ failed_after before.failed result
  pub counts : Counts (counted before.failed) (counted after.failed)

-- A call that changes the tree: it fails where it is listed, and else it makes of the tree what is asked, unless memory runs out.
pub record IsChanged {X : Type 0} (before after : MemoryTree) (asked : Tree → Option Tree) (result : Result X FileError) : Type 0 where
  pub listed : IsListed before.calls → IsErrOf result errors.Failed
  pub answer : ¬ IsListed before.calls → AnswersBy (λ _. after.tree) is_memory (ok_or (asked before.tree) errors.Failed) result
  pub err : OnErr result (after.tree ≡ before.tree)
  pub calls : after.calls ≡ called before.calls
  pub failed : after.failed ≡ failed_after before.failed result
  pub counts : Counts (counted before.failed) (counted after.failed)

-- The same of a call that takes no memory.
pub record IsRemoved {X E : Type 0} (before after : MemoryTree) (asked : Tree → Option Tree) (result : Result X E) : Type 0 where
  pub listed : IsListed before.calls → IsErr result
  pub answer : ¬ IsListed before.calls → MatchResult result (λ _. asked before.tree ≡ Some after.tree) (λ _. asked before.tree ≡ None)
  pub err : OnErr result (after.tree ≡ before.tree)
  pub calls : after.calls ≡ called before.calls
  pub failed : after.failed ≡ risen_after before.failed result
  pub counts : Counts (counted before.failed) (counted after.failed)
