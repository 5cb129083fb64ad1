-- The order of refspecs.
use Rattle.std.specs.Prelude.{ℕ, Bool, true, false, List, Option}
use Rattle.std.specs.declared.cmp.Ordering.{Ordering}
use Rattle.std.specs.Option.{option_cmp}
use Rattle.std.specs.Ordering.{nat_cmp, ordering_then}
use Rattle.std.specs.Cmp.Lexicographic.{slice_cmp}
use Rattle.fetch_specs.specs.Specs.{Spec}
use Rattle.fetch_specs.specs.declared.error.SpecError.{SpecError}
use Rattle.fetch_specs.specs.declared.error.SpecError.TheVariants as errors
use Rattle.fetch_specs.specs.declared.operation.Operation.{Operation}
use Rattle.fetch_specs.specs.declared.operation.Operation.TheVariants.{Push, Fetch}
use Rattle.fetch_specs.specs.declared.operation.Mode.{Mode}
use Rattle.fetch_specs.specs.declared.operation.Mode.TheVariants.{Normal, Force, Exclusion}

-- to push, to fetch
abbrev pub operation_rank : Operation → ℕ
operation_rank Push = 0
operation_rank Fetch = 1

-- as it stands, by force, an exclusion
abbrev pub mode_rank : Mode → ℕ
mode_rank Normal = 0
mode_rank Force = 1
mode_rank Exclusion = 2

-- none first, then byte by byte
abbrev pub side_cmp : Option (List ℕ) → Option (List ℕ) → Ordering
side_cmp = option_cmp (slice_cmp nat_cmp)

-- by what they are for, then by mode, then by source, then by destination
abbrev pub spec_cmp : Spec → Spec → Ordering
spec_cmp a b =
    ordering_then (nat_cmp (operation_rank a.operation) (operation_rank b.operation))
    (ordering_then (nat_cmp (mode_rank a.mode) (mode_rank b.mode))
    (ordering_then (side_cmp a.source b.source) (side_cmp a.destination b.destination)))

-- out of memory
abbrev pub is_spec_memory : SpecError → Bool
is_spec_memory errors.NoMemory = true
is_spec_memory _ = false
