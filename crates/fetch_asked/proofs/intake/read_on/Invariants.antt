use Rattle.std.proofs.Common.{◌≡◌, ℕ, ◌≤◌, ◌-◌, List, length}
use Rattle.fetch_asked.specs.Intakes.{told_of}
use Rattle.fetch_asked.specs.Texts.{request_bound}
use Rattle.fetch_asked.proofs.intake.read_on.Given as goal

abbrev pub invariant-lines : goal.invariant-lines
invariant-lines l = record {
  within : l.place ≤ length l.bytes;
  bounded : l.place ≤ request_bound;
  told : (more : List ℕ) → told_of l.hash l.bytes l.place l.reading more ≡ told_of l.hash l.fn.bytes l.fn.place l.fn.reading more;
}

abbrev pub decreases-lines : goal.decreases-lines
decreases-lines l = length l.bytes - l.place
