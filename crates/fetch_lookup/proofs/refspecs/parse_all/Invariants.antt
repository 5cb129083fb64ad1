use Rattle.std.proofs.Common.{◌≡◌, drop}
use Rattle.fetch_specs.specs.Parses.{parsed}
use Rattle.fetch_lookup.specs.Results.{all_of}
use Rattle.fetch_lookup.proofs.Gathered.{behind}
use Rattle.fetch_lookup.proofs.refspecs.parse_all.Given as goal

abbrev pub invariant-loop-text : goal.invariant-loop-text
invariant-loop-text l = all_of (parsed l.operation) l.texts ≡ behind l.specs.items (all_of (parsed l.operation) (drop l.text-index l.texts))
