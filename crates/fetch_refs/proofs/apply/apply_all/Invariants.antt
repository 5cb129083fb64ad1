use Rattle.std.proofs.Common.{◌≡◌, drop}
use Rattle.fetch_refs.specs.Journals.{before, now_in, HasRoom}
use Rattle.fetch_refs.specs.Logs.{after}
use Rattle.fetch_refs.proofs.apply.apply_all.Given as goal

abbrev pub invariant-edits : goal.invariant-edits
invariant-edits l =
    HasRoom l.journal × (before l.journal ≡ before l.initial.journal)
    × (after l.committer l.logging l.packed (now_in l.journal) (drop l.edit-index l.edits) ≡ after l.committer l.logging l.packed (now_in l.initial.journal) l.edits)
