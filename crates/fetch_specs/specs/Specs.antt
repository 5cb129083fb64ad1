-- What a refspec says.
use Rattle.std.specs.Prelude.{ℕ, List, Option}
use Rattle.fetch_specs.specs.declared.operation.Operation.{Operation}
use Rattle.fetch_specs.specs.declared.operation.Mode.{Mode}

-- its sides are absent where nothing is written, and a source for fetching is always there
pub record Spec : Type 0 where
  pub operation : Operation
  pub mode : Mode
  pub source : Option (List ℕ)
  pub destination : Option (List ℕ)
