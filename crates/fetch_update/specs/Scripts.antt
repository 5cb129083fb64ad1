-- Worktrees that follow a script: which calls fail, and what is counted.
use Rattle.std.specs.Prelude.{ℕ, List, Option, Some, None, nat_eq, nat_lt, length}
use Rattle.std.specs.List.{find}
use Rattle.std.specs.Option.{option_and_then, option_map}
use Rattle.fetch_base.specs.Calls.{one_more}
use Rattle.fetch_base.specs.Faults.{Faults}
use Rattle.fetch_update.specs.declared.worktrees.Worktree.{Worktree}
use Rattle.fetch_update.specs.declared.worktrees.WorktreeFault.{WorktreeFault}
use Rattle.fetch_update.specs.declared.worktrees.WorktreeFault.TheVariants.{Listing, OpenRepo, FollowSymref, NoMemory}

-- the list, the calls that fail, each beside its fault, the number of the next call, and how often each fault was answered
pub record Script : Type 0 where
  pub list : List Worktree
  pub failing : List (ℕ × WorktreeFault)
  pub next : ℕ
  pub listing : ℕ
  pub open_repo : ℕ
  pub follow_symref : ℕ

-- what is listed first for a call
abbrev pub listed_for : List (ℕ × WorktreeFault) → ℕ → Option WorktreeFault
listed_for failing call = option_map (λ f. f.1) (find (λ f. nat_eq f.0 call) failing)

-- A listed out of memory is no fault.
abbrev pub unless_memory : WorktreeFault → Option WorktreeFault
unless_memory NoMemory = None
unless_memory fault = Some fault

-- the fault that is listed for the next call
abbrev pub fault_at : Script → Option WorktreeFault
fault_at s = option_and_then unless_memory (listed_for s.failing s.next)

-- a fault was answered
abbrev pub counted : Option WorktreeFault → Script → Script
counted (Some Listing) s = record s { listing = one_more s.listing }
counted (Some OpenRepo) s = record s { open_repo = one_more s.open_repo }
counted (Some FollowSymref) s = record s { follow_symref = one_more s.follow_symref }
counted other s = s

-- what stands after a call
abbrev pub after_call : Script → Script
after_call s = counted (fault_at s) (record s { next = one_more s.next })

-- that many faults, which are possible where a call is listed
abbrev pub faults_of : Script → ℕ → Faults
faults_of s count = record { count = count; possible = nat_lt 0 (length s.failing) }
