use Rattle.std.proofs.Common.{length, ◌-◌, ◌≡◌, ◌≤◌, [], slice_index_or}
use Rattle.fetch_wire.specs.Scripts.{given_of, pieces_from, from_first}
use Rattle.fetch_wire.proofs.session.scripted.next_place.Given as goal

abbrev pub invariant-loop-piece : goal.invariant-loop-piece
invariant-loop-piece l =
    (l.piece ≤ length l.pieces) × (l.offset ≤ length (slice_index_or l.pieces l.piece []))
    × (given_of l.pieces l.piece l.offset ≡ given_of l.pieces l.fn.piece l.fn.offset)
    × (from_first (pieces_from l.pieces l.piece l.offset) ≡ from_first (pieces_from l.pieces l.fn.piece l.fn.offset))

abbrev pub decreases-loop-piece : goal.decreases-loop-piece
decreases-loop-piece l = length l.pieces - l.piece
