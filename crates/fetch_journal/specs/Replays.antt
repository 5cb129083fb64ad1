-- What a journal tells of a repository: all but what its objects hold.
use Rattle.std.specs.Prelude.{◌≡◌, List, [], ◌∷◌, None, ⊤}
use Rattle.std.specs.FinMap as map
use Rattle.std.specs.FinSet as set
use Rattle.fetch_base.specs.declared.id.Kind.{Kind}
use Rattle.fetch_store.specs.Borders.{IdSet, set_of, merged}
use Rattle.fetch_refs.specs.Expectations.{refusal_of}
use Rattle.fetch_refs.specs.Names.{Names, RefsValue}
use Rattle.fetch_remote.specs.RepositoryValues.{RepositoryValue, Setup}
use Rattle.fetch_journal.specs.declared.entry.Entry.{Entry}
use Rattle.fetch_journal.specs.declared.entry.Entry.TheVariants.{Take, Commit, Delete}
use Rattle.fetch_journal.specs.Deletions.{without}
use Rattle.fetch_journal.specs.Machine.{State, edited}

-- a repository without what its objects hold
pub record Outline : Type 0 where
  pub hash : Kind
  pub ids : IdSet
  pub border : IdSet
  pub refs : RefsValue
  pub setup : Setup

-- all of a repository but what its objects hold
abbrev pub outline : RepositoryValue → Outline
outline r = record {
  hash = r.state.hash;
  ids = set_of (map.keys r.state.objects);
  border = r.state.border;
  refs = r.state.refs;
  setup = r.setup;
}

-- what an entry makes of it
abbrev pub played : Outline → Entry → Outline
played v (Take pass ids shallow unshallow) = record v { ids = set.union v.ids (set_of ids); border = merged v.border shallow unshallow }
played v (Commit pass edits committer) = record v { refs = edited v.setup.logging v.refs edits committer }
played v (Delete pass names) = record v { refs = without v.refs names }

-- what entries make of it, one after the other
abbrev pub replay : Outline → List Entry → Outline
replay v [] = v
replay v (entry ∷ entries) = replay (played v entry) entries

-- of a commit, that its expectations hold of these references
abbrev pub IsMet : Names → Entry → Type 0
IsMet names (Take pass ids shallow unshallow) = ⊤
IsMet names (Commit pass edits committer) = refusal_of names edits ≡ None
IsMet names (Delete pass names') = ⊤

-- each entry meets its expectations at its place
abbrev pub AllMet : Outline → List Entry → Type 0
AllMet v [] = ⊤
AllMet v (entry ∷ entries) = IsMet v.refs.names entry × AllMet (played v entry) entries

-- the journal of this state tells what became of that repository
pub record Tells (opening : Outline) (s : State) : Type 0 where
  pub replays : outline s.repository ≡ replay opening s.journal
  pub met : AllMet opening s.journal
