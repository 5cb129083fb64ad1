-- Where branches are checked out.
use Rattle.std.specs.Prelude.{◌≡◌, ℕ, Bool, false, List, map, filter, is_some}
use Rattle.std.specs.BTreeMap.{BTreeMap, get}
use Rattle.std.specs.BTreeSet.{BTreeSet, contains}
use Rattle.std.specs.FinMap as finmap
use Rattle.std.specs.List.{list_any}
use Rattle.std.specs.Option.{option_map_or}
use Rattle.std.specs.Ordering.{eq_by_cmp}
use Rattle.std.specs.Str.{bytes_eq}
use Rattle.fetch_refs.specs.Names.{name_cmp}
use Rattle.fetch_update.specs.declared.worktrees.Worktree.{Worktree}

-- whether a branch is checked out somewhere
abbrev pub is_checked_out : List Worktree → List ℕ → Bool
is_checked_out worktrees name = list_any (λ w. bytes_eq w.branch name) worktrees

-- the directories of the worktrees with this branch
abbrev pub directories_in : List Worktree → List ℕ → List (List ℕ)
directories_in worktrees name = map (λ w. w.directory) (filter (λ w. bytes_eq w.branch name) worktrees)

-- the keys, with nothing at each
abbrev pub bare : List (List ℕ) → List (List ℕ × Unit {0})
bare keys = map (λ k. (k, tt)) keys

-- those directories, sorted, each once, as a finite map has its keys
abbrev pub directories_of : List Worktree → List ℕ → List (List ℕ)
directories_of worktrees name = finmap.keys (finmap.from_entries {R = name_cmp} (bare (directories_in worktrees name)))

-- whether an index has a directory for a branch
abbrev pub has : BTreeMap (List ℕ) (BTreeSet (List ℕ)) → List ℕ → List ℕ → Bool
has index name directory = option_map_or (λ set. contains name_cmp set directory) (get name_cmp index name) false

-- An index has for each branch that is checked out the directories where it is, and nothing for any other.
abbrev pub IsIndex : List Worktree → BTreeMap (List ℕ) (BTreeSet (List ℕ)) → Type 0
IsIndex worktrees index =
    (name : List ℕ) → (is_some (get name_cmp index name) ≡ is_checked_out worktrees name)
    × ((directory : List ℕ) → has index name directory ≡ list_any (eq_by_cmp name_cmp directory) (directories_in worktrees name))
