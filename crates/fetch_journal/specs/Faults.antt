-- Where a journal doesn't replay, and what one leaves that does.
use Rattle.std.specs.Prelude.{◌≡◌, ◌<◌, ℕ, List, Option, None, Some, slice_get, take, ⊤}
use Rattle.std.specs.Option.{option_and_then}
use Rattle.fetch_store.specs.Borders.{ids_of, set_of}
use Rattle.fetch_refs.specs.declared.error.RefError.{RefError}
use Rattle.fetch_refs.specs.declared.error.RefError.TheVariants.{Expectation}
use Rattle.fetch_refs.specs.declared.target.Target.{Target}
use Rattle.fetch_refs.specs.Expectations.{refusal_of}
use Rattle.fetch_refs.specs.Names.{Names}
use Rattle.fetch_journal.specs.declared.entry.Entry.{Entry}
use Rattle.fetch_journal.specs.declared.entry.Entry.TheVariants.{Take, Commit, Delete}
use Rattle.fetch_journal.specs.declared.replaying.Playing.{Playing}
use Rattle.fetch_journal.specs.declared.replaying.Replayed.{Replayed}
use Rattle.fetch_journal.specs.declared.replaying.ReplayFault.{ReplayFault}
use Rattle.fetch_journal.specs.declared.replaying.ReplayFault.TheVariants as faults
use Rattle.fetch_journal.specs.Replays.{Outline, replay}

-- the first edit of a commit that finds something else than it expects
abbrev pub unmet : Names → Entry → Option RefError
unmet names (Take pass ids shallow unshallow) = None
unmet names (Commit pass edits committer) = refusal_of names edits
unmet names (Delete pass names') = None

-- and at a place of a journal, over what the entries before it leave
abbrev pub unmet_at : Outline → List Entry → ℕ → Option RefError
unmet_at v journal place = option_and_then (unmet (replay v (take place journal)).refs.names) (slice_get journal place)

-- the first place at which an edit finds something else than it expects, and the first such edit there
pub record IsFirstUnmet (v : Outline) (journal : List Entry) (place index : ℕ) (found : Option Target) : Type 0 where
  pub told : unmet_at v journal place ≡ Some (Expectation index found)
  pub first : (earlier : ℕ) → earlier < place → unmet_at v journal earlier ≡ None

-- what is told of it; out of memory is free
abbrev pub TellsFault : Outline → List Entry → ReplayFault → Type 0
TellsFault v journal (faults.Expectation place index found) = IsFirstUnmet v journal place index found
TellsFault v journal faults.NoMemory = ⊤

-- the references, the ids in ascending order, and the border
abbrev pub left_by : Outline → Replayed
left_by v = record { refs = v.refs; ids = ids_of v.ids; border = v.border }

-- an outline in parts, its ids in any order
pub record Shows (v : Outline) (p : Playing) : Type 0 where
  pub refs : p.refs ≡ v.refs
  pub ids : set_of p.ids.items ≡ v.ids
  pub border : p.border ≡ v.border
  pub logging : p.logging ≡ v.setup.logging

-- what is told of an entry at a place that isn't played for this cause
abbrev pub fault_at : ℕ → RefError → ReplayFault
fault_at place (Expectation index found) = faults.Expectation place index found
fault_at place cause = faults.NoMemory
