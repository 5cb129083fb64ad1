use Rattle.std.proofs.Common.{◌≡◌, map}
use Rattle.fetch_bench.proofs.generated.without_ids.Given as goal

abbrev pub invariant-loop-object : goal.invariant-loop-object
invariant-loop-object l = l.objects.items ≡ map (λ e. e.1) l.yielded
