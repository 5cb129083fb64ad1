-- What a commit by a pass enters, and what refuses it.
use Rattle.std.proofs.Common.{◌≡◌, ◌⊎◌, ℕ, ◌+◌, Bool, false, List, [], ◌∷◌, ◌++◌, length, Some, Ok, Err, refl, ap, ◌∙◌, inl, inr, arith, length-append}
use Rattle.std.specs.Prelude.{slice_get}
use Rattle.fetch_refs.specs.declared.edit.RefEdit.{RefEdit}
use Rattle.fetch_refs.specs.declared.log.Signature.{Signature}
use Rattle.fetch_journal.specs.declared.entry.Entry.{Entry}
use Rattle.fetch_journal.specs.declared.entry.Entry.TheVariants as entries
use Rattle.fetch_journal.specs.declared.error.SharedError.{SharedError}
use Rattle.fetch_journal.specs.declared.error.SharedError.TheVariants as errors
use Rattle.fetch_journal.specs.Journals.{entries_of}
use Rattle.fetch_journal.specs.Machine.Event.{Commit}
use Rattle.fetch_shared.specs.Passes.{Holder, IsBack, IsTurn}
use Rattle.fetch_shared.specs.Seen.{IsRefusedAt}
use Rattle.fetch_shared.specs.Applying.{Moves, IsUnmoved}
use Rattle.fetch_journal.proofs.Journals.{begins_length}
use Rattle.fetch_shared.proofs.Saw.{refuses}

module _ (before after : Holder) (edits : List RefEdit) (committer : Signature) where
  abbrev entry : Entry
  entry = entries.Commit before.number edits committer

  pub committed : (place : ℕ) → IsTurn before after (Commit before.number edits committer) (λ v. length v.journal) (Ok place) → slice_get after.front place ≡ Some entry
      → entries_of before.number after.front ≡ entries_of before.number before.front ++ entry ∷ [] → Moves false before after edits committer (Some place)
  committed place t at added =
      let low = begins_length before.front t.found.journal t.meets.begins in
      let is : place ≡ length t.found.journal = t.tells in
      let grown : length after.front ≡ length t.found.journal + 1 = ap length t.entered ∙ length-append t.found.journal (entry ∷ []) in
      record { at = place; place_is = refl; behind = omega arith; within = omega arith; entry_is = at; added = added }

  pub uncommitted : (dry_run : Bool) (e : SharedError) → dry_run ≡ false → IsBack before after → IsTurn before after (Commit before.number edits committer) (λ v. length v.journal) (Err e)
      → entries_of before.number after.front ≡ entries_of before.number before.front → IsUnmoved dry_run before after edits committer e
  uncommitted dry_run e wet back t none = record { none = none; why = by (refuses before after (Commit before.number edits committer) (λ v. length v.journal) e back t) }
    where
      by : (e ≡ errors.NoMemory) ⊎ IsRefusedAt before.shared.opening before.front after.front (Commit before.number edits committer) e
          → (e ≡ errors.NoMemory) ⊎ ((dry_run ≡ false) × IsRefusedAt before.shared.opening before.front after.front (Commit before.number edits committer) e)
      by (inl is) = inl is
      by (inr refused) = inr (wet, refused)
