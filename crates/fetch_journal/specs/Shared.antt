-- What a shared repository shows: what it opened as, what it is now, and its journal.
use Rattle.std.specs.Prelude.{◌≡◌, Bool, true, false, List, [], Option, IfSome, length}
use Rattle.fetch_store.specs.Graph.{Graph, graph_of}
use Rattle.fetch_store.specs.Stores.{ObjectMap}
use Rattle.fetch_remote.specs.RepositoryValues.{RepositoryValue}
use Rattle.fetch_journal.specs.declared.entry.Entry.{Entry}
use Rattle.fetch_journal.specs.declared.error.SharedError.{SharedError}
use Rattle.fetch_journal.specs.declared.error.SharedError.TheVariants as errors
use Rattle.fetch_specs.specs.declared.tags.Tags.{Tags}
use Rattle.fetch_map.specs.declared.mapping.RefMap.{RefMap}
use Rattle.fetch_negotiate.specs.declared.algorithm.Shallow.{Shallow}
use Rattle.fetch_negotiate.specs.Tips.{tips_of}
use Rattle.fetch_negotiate.specs.Wants.{wants_of}
use Rattle.fetch_journal.specs.declared.plan.Plan.{Plan}
use Rattle.fetch_journal.specs.declared.plan.Taken.{Taken}
use Rattle.fetch_journal.specs.Fronts.{IsSound, IsStateOf}
use Rattle.fetch_journal.specs.Machine.{State, Event, effect}
use Rattle.fetch_journal.specs.Replays.{AllMet, outline}

-- a shared state: what it opened as, what it is now, and its journal
pub record SharedValue : Type 0 where
  pub opening : RepositoryValue
  pub repository : RepositoryValue
  pub journal : List Entry

-- a repository that was just shared
abbrev pub opened : RepositoryValue → SharedValue
opened r = record { opening = r; repository = r; journal = [] }

-- the state of the machine
abbrev pub state_of : SharedValue → State
state_of v = record { repository = v.repository; journal = v.journal }

-- once an event has had its effect
abbrev pub done : SharedValue → Event → SharedValue
done v event = record {
  opening = v.opening;
  repository = (effect (state_of v) event).repository;
  journal = (effect (state_of v) event).journal;
}

-- what a fetch with these mappings, tags and depth is to ask with: the number of entries, and what it wants, the border,
-- the tips and the graph as they are now
abbrev pub plan_of : SharedValue → RefMap → Tags → Shallow → Plan
plan_of v mappings tags shallow =
    let graph = graph_of v.repository.state.objects in
    record {
      place = length v.journal;
      wants = wants_of mappings tags shallow graph;
      border = v.repository.state.border;
      tips = tips_of v.repository.state.refs.names graph;
      graph = graph;
    }

-- what a fetch is to judge by: the number of entries, the references and the graph as they are now
abbrev pub snapshot_of : SharedValue → Taken
snapshot_of v = record { place = length v.journal; refs = v.repository.state.refs; graph = graph_of v.repository.state.objects }

-- It is closed, and what the journal leaves of what it opened as: its setup is as it was. Each commit met its expectations
-- at its place.
pub record IsKept (v : SharedValue) : Type 0 where
  pub setup : v.repository.setup ≡ v.opening.setup
  pub sound : IsSound v.repository
  pub state : IsStateOf v.opening v.journal v.repository
  pub met : AllMet (outline v.opening) v.journal

-- a graph that is kept is that of these objects
abbrev pub IsGraphOf : ObjectMap → Option Graph → Type 0
IsGraphOf objects kept = IfSome kept (λ graph. graph ≡ graph_of objects)

-- out of memory
abbrev pub is_memory : SharedError → Bool
is_memory errors.NoMemory = true
is_memory _ = false
