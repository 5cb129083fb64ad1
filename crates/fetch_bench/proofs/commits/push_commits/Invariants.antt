use Rattle.std.proofs.Common.{◌≡◌, ◌+◌, ◌++◌, map}
use Rattle.fetch_bench.specs.Commits as spec
use Rattle.fetch_bench.proofs.commits.push_commits.Given as goal

abbrev pub invariant-loop-i : goal.invariant-loop-i
invariant-loop-i l = record {
  commits : l.out.items ≡ l.fn.out.items ++ map spec.under_its_id (spec.commits_after l.before l.i);
  tip : l.last ≡ spec.tip (l.before + l.i);
}
