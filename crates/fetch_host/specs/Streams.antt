-- What a peer over two streams has, and what is counted of it.
use Rattle.std.specs.Prelude.{◌≡◌, ℕ, ◌+◌, ◌-◌, ◌^◌, min, Option}
use Rattle.std.specs.declared.io.ErrorKind.{ErrorKind}
use Rattle.fetch_base.specs.Faults.{Rose, Counts, counted}
use Rattle.fetch_lines.specs.declared.peer.SendFault.{SendFault}
use Rattle.fetch_lines.specs.declared.peer.SendFault.TheVariants as faults

-- a peer over a reader and a writer: how many bytes passed each way, how often it failed, and the kind of its last error
pub record Stream (R W : Type 0) : Type 0 where
  pub reader : R
  pub writer : W
  pub sent : ℕ
  pub received : ℕ
  pub failed : ℕ
  pub last_fault : Option ErrorKind

-- a maker of such peers: what opens connections, how many peers are out, how many were lost, how often it failed, and the
-- kind of its last error
pub record Making (D : Type 0) : Type 0 where
  pub dial : D
  pub out : ℕ
  pub lost : ℕ
  pub failed : ℕ
  pub last_fault : Option ErrorKind

-- so many bytes more; a count stands still at its type's end
abbrev pub more_by : ℕ → ℕ → ℕ
more_by n count = min (n + count) (2 ^ 64 - 1)

-- a failed call is one fault more, and out of memory is none
abbrev pub IsCounted : ℕ → ℕ → SendFault → Type 0
IsCounted before now faults.Failed = Rose (counted before) (counted now) × Counts (counted before) (counted now)
IsCounted before now faults.NoMemory = now ≡ before
