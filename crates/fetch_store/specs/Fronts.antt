-- Ids, and the numbers that their first bytes write.
use Rattle.std.specs.Prelude.{ℕ, ◌+◌, ◌<◌, List, take, length, get_or, All, Contains}
use Rattle.std.specs.Int.{from_be_bytes, w64}
use Rattle.fetch_base.specs.declared.id.ObjectId.{ObjectId}
use Rattle.fetch_base.specs.Id.{bytes_of}
use Rattle.fetch_objects.specs.Objects.{Stored}
use Rattle.fetch_store.specs.Stores.{Entries}

-- the number that the first eight bytes of an id write
abbrev pub front : ObjectId → ℕ
front id = from_be_bytes w64 (take 8 (bytes_of id))

-- These numbers rise, each with a place.
abbrev pub Rise : List (ℕ × ℕ) → Type 0
Rise places = (k : ℕ) (d : ℕ × ℕ) → k + 1 < length places → (get_or places k d).0 < (get_or places (k + 1) d).0

-- Each entry has its place in the list under the number that its id begins with, and these numbers rise: so no id comes twice.
pub record AreFronts (es : Entries) (places : List (ℕ × ℕ)) : Type 0 where
  pub each : (i : ℕ) (d : ObjectId × Stored) → i < length es → Contains places (front (get_or es i d).0, i)
  pub within : All (λ p. p.1 < length es) places
  pub rise : Rise places
