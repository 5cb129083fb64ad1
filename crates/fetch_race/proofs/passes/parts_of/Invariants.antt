use Rattle.std.proofs.Common.{◌≡◌, ◌++◌, ◌+◌, ◌≤◌, length, map, Some, vec_len, vec_capacity}
use Rattle.std.specs.Vec.Iter.{into_iter_items}
use Rattle.fetch_race.specs.Passes.{answer_in}
use Rattle.fetch_race.proofs.passes.parts_of.Given as goal

abbrev pub invariant-loop-job_run : goal.invariant-loop-job_run
invariant-loop-job_run g l = record {
  next : (goal.iterator-loop-job_run g).can_next l.job_run-iterator;
  ends : (goal.iterator-loop-job_run g).is_finite l.job_run-iterator;
  split : l.yielded ++ into_iter_items l.job_run-iterator ≡ l.fn.job_runs.items;
  answers : map Some l.answers.items ≡ map answer_in l.yielded;
  peers : l.peers.items ≡ map (λ r. r.job.peer) l.yielded;
  answers_room : vec_len l.answers + length (into_iter_items l.job_run-iterator) ≤ vec_capacity l.answers;
  peers_room : vec_len l.peers + length (into_iter_items l.job_run-iterator) ≤ vec_capacity l.peers;
}
