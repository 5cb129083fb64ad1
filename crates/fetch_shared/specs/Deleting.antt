-- Deletions of branches of a shared repository: what one entered, and why one is refused.
use Rattle.std.specs.Prelude.{◌≡◌, ℕ, Bool, false, List, [], ◌∷◌, ◌++◌, length, Option, Some, Ok, slice_get, ⊤}
use Rattle.fetch_remote.specs.Deleting as remote
use Rattle.fetch_remote.specs.Deleting.{AreFree}
use Rattle.fetch_remote.specs.Undeletable.{IsUndeletable}
use Rattle.fetch_remote.specs.declared.delete.Error.TheVariants as causes
use Rattle.fetch_update.specs.declared.worktrees.Worktree.{Worktree}
use Rattle.fetch_journal.specs.declared.entry.Entry.TheVariants as entries
use Rattle.fetch_journal.specs.declared.error.SharedError.{SharedError}
use Rattle.fetch_journal.specs.declared.error.SharedError.TheVariants as errors
use Rattle.fetch_shared.specs.declared.receipt.Receipt.{Receipt}
use Rattle.fetch_journal.specs.Journals.{entries_of}
use Rattle.fetch_journal.specs.Machine.Event.{Delete}
use Rattle.fetch_shared.specs.Passes.{Holder, IsTurn}
use Rattle.fetch_shared.specs.Receipts.{IsReceipt}

-- One turn deleted these names, at the place of the receipt, where the pass's one new entry stands.
pub record HasEntered (names : List (List ℕ)) (before after : Holder) (receipt : Option Receipt) : Type 0 where
  pub place : ℕ
  pub receipt_is : receipt ≡ Some (record { pass = before.number; planned = Some place; judged = Some place; place = Some place })
  pub in_order : IsReceipt before after (record { pass = before.number; planned = Some place; judged = Some place; place = Some place })
  pub turn : IsTurn before after (Delete before.number names) (λ v. length v.journal) (Ok place)
  pub entry : slice_get after.front place ≡ Some (entries.Delete before.number names)
  pub added : entries_of before.number after.front ≡ entries_of before.number before.front ++ entries.Delete before.number names ∷ []

-- The branches were deleted, once no test stood against it.
pub record HasDeleted (trees : Option (List Worktree)) (names : List (List ℕ)) (before after : Holder)
    (receipt : Option Receipt) : Type 0 where
  pub free : AreFree trees names
  pub entered : HasEntered names before after receipt

-- The first name that is no local branch, a fault of the work trees, or the first name that is checked out; out of memory is
-- free, and nothing else comes.
abbrev pub IsUndeleted : Option (List Worktree) → List (List ℕ) → SharedError → Type 0
IsUndeleted trees names (errors.Delete causes.NoMemory) = ⊥
IsUndeleted trees names (errors.Delete cause) = IsUndeletable trees names cause
IsUndeleted trees names errors.NoMemory = ⊤
IsUndeleted trees names e = ⊥

-- what is told before the work trees are asked
abbrev pub is_unlocal : SharedError → Bool
is_unlocal (errors.Delete cause) = remote.is_unlocal cause
is_unlocal e = false
