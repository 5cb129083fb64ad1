use Rattle.std.proofs.Common.{◌≡◌, drop}
use Rattle.fetch_lookup.specs.Results.{all_of}
use Rattle.fetch_lookup.specs.Upstreams.{leading_in}
use Rattle.fetch_lookup.proofs.Gathered.{behind}
use Rattle.fetch_lookup.proofs.leading.each_leading.Given as goal

abbrev pub invariant-loop-name : goal.invariant-loop-name
invariant-loop-name l = all_of (leading_in l.file.sections l.tracking) l.names ≡ behind l.found.items (all_of (leading_in l.file.sections l.tracking) (drop l.name-index l.names))
