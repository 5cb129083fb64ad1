use Rattle.std.proofs.Common.{◌≡◌, drop}
use Rattle.std.specs.List.{flat_map}
use Rattle.fetch_specs.specs.Prefixes.{put_all, spec_prefixes}
use Rattle.fetch_specs.proofs.listing.put_specs.Given as goal

abbrev pub invariant-loop-i : goal.invariant-loop-i
invariant-loop-i l = put_all l.texts.keys (flat_map spec_prefixes (drop l.i l.specs)) ≡ put_all l.initial.texts.keys (flat_map spec_prefixes l.specs)
