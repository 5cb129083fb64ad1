use Rattle.std.proofs.Common.{◌≡◌, take}
use Rattle.fetch_init.specs.NamedRefs.{taken_of}
use Rattle.fetch_init.proofs.named_ref.taken.Given as goal

abbrev pub invariant-loop-mapping : goal.invariant-loop-mapping
invariant-loop-mapping l = l.found.items ≡ taken_of (take l.mapping-index l.mappings) l.wanted
