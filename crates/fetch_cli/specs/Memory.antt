-- A source and a sink in memory, as contracts see them.
use Rattle.std.specs.Prelude.{ℕ, List}
use Rattle.fetch_base.specs.Calls.{CallList}

-- the bytes that are left, the calls, and how many failed
pub record SourceValue : Type 0 where
  pub left : List ℕ
  pub calls : CallList
  pub failed : ℕ

-- the bytes that were taken, the calls, and how many failed
pub record SinkValue : Type 0 where
  pub taken : List ℕ
  pub calls : CallList
  pub failed : ℕ
