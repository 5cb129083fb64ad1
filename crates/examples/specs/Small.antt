-- Objects that are small enough for an example.
use Rattle.std.specs.Prelude.{Bool, length, nat_le}
use Rattle.fetch_objects.specs.Objects.{Stored}

-- at most a thousand bytes
abbrev pub is_small : Stored → Bool
is_small o = nat_le (length o.bytes) 1000
