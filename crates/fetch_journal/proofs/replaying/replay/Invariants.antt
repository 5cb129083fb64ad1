use Rattle.std.proofs.Common.{◌≡◌, ◌<◌, ℕ, None, take}
use Rattle.fetch_journal.specs.Faults.{Shows, unmet_at}
use Rattle.fetch_journal.specs.Replays.{outline}
use Rattle.fetch_journal.specs.Replays as spec
use Rattle.fetch_journal.proofs.replaying.replay.Given as goal

abbrev pub invariant-loop-place : goal.invariant-loop-place
invariant-loop-place l = record {
  shows : Shows (spec.replay (outline l.opening) (take l.place l.journal)) l.playing;
  met : (k : ℕ) → k < l.place → unmet_at (outline l.opening) l.journal k ≡ None;
}
