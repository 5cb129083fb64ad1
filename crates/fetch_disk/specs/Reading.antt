-- How the next record is read.
use Rattle.std.specs.Prelude.{ℕ, ◌+◌, List, [], ◌∷◌, length, take, drop, slice_index, Option, Some, None, nat_lt, if◌then◌else◌, ◌==◌}
use Rattle.std.specs.Int.{w64, from_be_bytes}
use Rattle.std.specs.Option.{option_and_then}
use Rattle.std.specs.Str.{bytes_eq}
use Rattle.fetch_base.specs.Hashing.{digest}
use Rattle.fetch_base.specs.Id.{bytes_of, byte_len}
use Rattle.fetch_base.specs.declared.id.Kind.{Kind}
use Rattle.fetch_disk.specs.declared.record.Record.{Record}

-- a message and its digest, and the bytes behind them
abbrev pub Frame : Type 0
Frame = (List ℕ × List ℕ) × List ℕ

-- a message of this size and a digest of n bytes, if they are there
abbrev pub cut_at : ℕ → ℕ → List ℕ → Option Frame
cut_at n size bytes = if nat_lt (length bytes) (size + n) then None
    else Some ((take size bytes, take n (drop size bytes)), drop n (drop size bytes))

-- the same, the size being told by eight bytes behind the first
abbrev pub sized : ℕ → List ℕ → Option Frame
sized n bytes = if nat_lt (length bytes) 9 then None else cut_at n (9 + from_be_bytes w64 (take 8 (drop 1 bytes))) bytes

-- the same behind an open gate
unfoldable pub frame : ℕ → List ℕ → Option Frame
frame n (gate ∷ bytes) = if gate == 1 then sized n bytes else None
frame n [] = None

-- the record whose message this is, if the digest is the message's
abbrev pub checked : Kind → Frame → Option (Record × List ℕ)
checked hash x = if bytes_eq (bytes_of (digest hash x.0.0)) x.0.1 then Some (record { kind = slice_index x.0.0 0; body = drop 9 x.0.0 }, x.1)
    else None

-- The first record, if the gate is open, the record whole and its digest right, and the bytes behind it.
unfoldable pub first : Kind → List ℕ → Option (Record × List ℕ)
first hash bytes = option_and_then (checked hash) (frame (byte_len hash) bytes)
