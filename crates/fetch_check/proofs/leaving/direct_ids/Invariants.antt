use Rattle.std.proofs.Common.{◌≡◌, ◌++◌, ℕ, List}
use Rattle.std.specs.FinMap.{entries}
use Rattle.std.specs.List.{filter_map}
use Rattle.fetch_refs.specs.Iter.{left}
use Rattle.fetch_refs.specs.Packed.{direct_id}
use Rattle.fetch_refs.specs.declared.target.Target.{Target}
use Rattle.fetch_check.proofs.leaving.direct_ids.Given as goal

abbrev pub invariant-loop-target : goal.invariant-loop-target
invariant-loop-target l =
    l.ids.items ++ filter_map (λ (e : List ℕ × Target). direct_id e.1) (left l.target-iterator) ≡ filter_map (λ (e : List ℕ × Target). direct_id e.1) (entries l.refs.names)
