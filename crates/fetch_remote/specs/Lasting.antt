-- What a fetch leaves, in words of references and ids.
use Rattle.std.specs.Prelude.{◌≡◌, ◌≢◌, ℕ, Bool, List, Some, IsTrue, Contains}
use Rattle.fetch_refs.specs.Laws.{IsAlike}
use Rattle.fetch_refs.specs.declared.edit.RefEdit.{RefEdit}
use Rattle.fetch_update.specs.Accepted.{edit_for}
use Rattle.fetch_update.specs.Accepting.{is_accepting}
use Rattle.fetch_update.specs.declared.update.Outcome.{Outcome as Updates}
use Rattle.fetch_update.specs.declared.update.Update.{Update}
use Rattle.fetch_remote.specs.Form.{Given}
use Rattle.fetch_remote.specs.Repositories.{State}
use Rattle.fetch_remote.specs.declared.fetching.outcome.Status.{Status}
use Rattle.fetch_remote.specs.declared.fetching.outcome.Status.TheVariants as statuses

-- what became of the mappings
abbrev pub updates_in : Status → Updates
updates_in (statuses.NoPackReceived dry_run negotiate updates) = updates
updates_in (statuses.Change negotiate pack updates) = updates

-- No accepted update has an edit of this name.
abbrev pub AcceptsNone : Updates → List ℕ → Type 0
AcceptsNone o name = (u : Update) (e : RefEdit) → Contains o.updates u → IsTrue (is_accepting u.mode) → edit_for o.edits u ≡ Some e
    → e.name ≢ name

-- the same fetch, with references written packed or loose
abbrev pub with_packed : Bool → Given → Given
with_packed only g = record g { options = record g.options { write_packed_refs_only = only } }

-- the same, whatever the packed lists are
pub record AreAlike (a b : State) : Type 0 where
  pub hash : a.hash ≡ b.hash
  pub objects : a.objects ≡ b.objects
  pub border : a.border ≡ b.border
  pub refs : IsAlike a.refs b.refs
