use Rattle.std.proofs.Common.{◌≡◌, map, take}
use Rattle.fetch_init.specs.NamedRefs.{name_of}
use Rattle.fetch_init.proofs.named_ref.names_of.Given as goal

abbrev pub invariant-loop-named_ref : goal.invariant-loop-named_ref
invariant-loop-named_ref l = l.names.items ≡ map name_of (take l.named_ref-index l.found)
