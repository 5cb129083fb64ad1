-- Refusals of a clone that come only where a count rose.
use Rattle.std.specs.Prelude.{◌≡◌, ◌≤◌, false, ⊤, Result, Ok, Err}
use Rattle.fetch_base.specs.Faults.{Faults, Counts, Rose}
use Rattle.fetch_update.specs.declared.update.Error.TheVariants as update
use Rattle.fetch_conversation.specs.declared.fetch.Error.TheVariants as fetch
use Rattle.fetch_conversation.specs.declared.prepare.Error.TheVariants as prepare
use Rattle.fetch_conversation.specs.declared.ref_map.Error.TheVariants as ref_map
use Rattle.fetch_remote.specs.declared.connect.Error.TheVariants as connect
use Rattle.fetch_remote.specs.declared.repository.open_error.OpenError.TheVariants as opening
use Rattle.fetch_init.specs.declared.clone.fetch.Error.{Error}
use Rattle.fetch_init.specs.declared.clone.fetch.Error.TheVariants as errors

-- how often the work trees failed: to be listed, to have a repository opened, to have a head followed
pub record TreeMeters : Type 0 where
  pub listing : Faults
  pub open_repo : Faults
  pub follow_symref : Faults

-- these counts
abbrev pub tree_meters : Faults → Faults → Faults → TreeMeters
tree_meters listing open_repo follow_symref = record { listing = listing; open_repo = open_repo; follow_symref = follow_symref }

-- how often the maker failed, how many peers were lost, how often the interrupt said yes, and how often files and work trees failed
pub record Meters : Type 0 where
  pub made : Faults
  pub lost : Faults
  pub yes : Faults
  pub files : Faults
  pub trees : TreeMeters

-- the counts at one moment
abbrev pub meters : Faults → Faults → Faults → Faults → TreeMeters → Meters
meters made lost said files trees = record { made = made; lost = lost; yes = said; files = files; trees = trees }

-- the counts where a peer is lent and no maker, which then can't fail: those of the peer stand for the peers that were lost
abbrev pub peer_meters : Faults → Faults → Faults → TreeMeters → Meters
peer_meters peer said files trees = meters (record { count = 0; possible = false }) peer said files trees

-- the counts of all that is lent to a clone: the maker, the interrupt, the files and the work trees, which are seen so
abbrev pub counts_by : {C I F W : Type 0} → (C → Faults) → (C → Faults) → (I → Faults) → (F → Faults) → (W → Faults) → (W → Faults)
    → (W → Faults) → C × I × F × W → Meters
counts_by made lost said files listing open_repo follow_symref lent =
    meters (made lent.0) (lost lent.0) (said lent.1) (files lent.2) (tree_meters (listing lent.3) (open_repo lent.3) (follow_symref lent.3))

-- A refusal that has a count comes only where that count rose.
abbrev pub IsCounted : Meters → Meters → Error → Type 0
IsCounted was is (errors.Connect connect.Connect) = Rose was.made is.made
IsCounted was is (errors.RefMap ref_map.Transport) = Rose was.lost is.lost
IsCounted was is (errors.RefMap ref_map.Interrupted) = Rose was.yes is.yes
IsCounted was is (errors.PrepareFetch (prepare.RefMap ref_map.Transport)) = Rose was.lost is.lost
IsCounted was is (errors.PrepareFetch (prepare.RefMap ref_map.Interrupted)) = Rose was.yes is.yes
IsCounted was is (errors.LoadConfig opening.Io) = Rose was.files is.files
IsCounted was is errors.SaveConfigIo = Rose was.files is.files
IsCounted was is (errors.ReopenWithObjectHash opening.Io) = Rose was.files is.files
IsCounted was is (errors.Fetch fetch.Client) = Rose was.lost is.lost
IsCounted was is (errors.Fetch fetch.Interrupted) = Rose was.yes is.yes
IsCounted was is (errors.Fetch (fetch.KeepFile path)) = Rose was.files is.files
IsCounted was is (errors.Fetch (fetch.RemovePackKeepFile path)) = Rose was.files is.files
IsCounted was is (errors.Fetch (fetch.UpdateRefs update.WorktreeListing)) = Rose was.trees.listing is.trees.listing
IsCounted was is (errors.Fetch (fetch.UpdateRefs update.OpenWorktreeRepo)) = Rose was.trees.open_repo is.trees.open_repo
IsCounted was is (errors.Fetch (fetch.UpdateRefs update.FollowSymref)) = Rose was.trees.follow_symref is.trees.follow_symref
IsCounted was is e = ⊤

-- the same of what a call answers; where it is done, the interrupt said no yes in it
abbrev pub CountsBy : {T : Type 0} → Meters → Meters → Result T Error → Type 0
CountsBy was is (Ok value) = is.yes.count ≡ was.yes.count
CountsBy was is (Err e) = IsCounted was is e

-- Nothing that is counted fell.
pub record Later (was is : Meters) : Type 0 where
  pub made : Counts was.made is.made
  pub lost : was.lost.count ≤ is.lost.count
  pub yes : Counts was.yes is.yes
  pub files : Counts was.files is.files
  pub listing : Counts was.trees.listing is.trees.listing
  pub open_repo : Counts was.trees.open_repo is.trees.open_repo
  pub follow_symref : Counts was.trees.follow_symref is.trees.follow_symref

-- All that is lent, which is counted so: none of it is blamed unless its count rose, and no count fell. Where the call is done, the
-- interrupt said no yes in it.
pub record BlamesLent {L T : Type 0} (counts : L → Meters) (old new : L) (result : Result T Error) : Type 0 where
  pub counted : CountsBy (counts old) (counts new) result
  pub later : Later (counts old) (counts new)
