use Rattle.std.proofs.Common.{◌≡◌, List, ℕ, length}
use Rattle.fetch_replies.specs.Awaited.{replies_behind}
use Rattle.fetch_lines.specs.Feeding.{room_at}
use Rattle.fetch_replies.specs.Progressing.{told_of}
use Rattle.fetch_replies.proofs.replies.progress.read_on.Given as goal

abbrev pub invariant-lines : goal.invariant-lines
invariant-lines l = record {
  bound : l.lines.bound ≡ l.fn.lines.bound;
  room : room_at l.lines.bound l.lines.place l.lines.pending ≡ room_at l.fn.lines.bound l.fn.lines.place l.fn.lines.pending;
  behind : replies_behind l.reading ≡ replies_behind l.fn.reading;
  told : (more : List ℕ) → told_of l.lines l.reading more ≡ told_of l.fn.lines l.fn.reading more;
}

abbrev pub decreases-lines : goal.decreases-lines
decreases-lines l = length l.lines.pending
