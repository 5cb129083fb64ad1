-- Journals: the entries of one number, and how a journal goes on.
use Rattle.std.specs.Prelude.{◌≡◌, ℕ, ◌==◌, List, ◌++◌, filter}
use Rattle.fetch_journal.specs.declared.entry.Entry.{Entry}
use Rattle.fetch_journal.specs.declared.entry.Entry.TheVariants.{Take, Commit, Delete}

-- the number of the pass that an entry is of
abbrev pub pass_of : Entry → ℕ
pass_of (Take pass ids shallow unshallow) = pass
pass_of (Commit pass edits committer) = pass
pass_of (Delete pass names) = pass

-- the entries of one number, in order
abbrev pub entries_of : ℕ → List Entry → List Entry
entries_of number journal = filter (λ e. pass_of e == number) journal

-- the journal begins with the front
pub record Begins (front journal : List Entry) : Type 0 where
  pub rest : List Entry
  pub is : front ++ rest ≡ journal
