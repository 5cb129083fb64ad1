use Rattle.std.proofs.Common.{◌≡◌, ◌++◌, drop}
use Rattle.std.specs.List.{flat_map}
use Rattle.fetch_config.specs.Print.{text_if_of, text_of, of_origin}
use Rattle.fetch_config.proofs.print.text_of.Given as goal

abbrev pub invariant-loop-section : goal.invariant-loop-section
invariant-loop-section l = l.out.items ++ flat_map (text_if_of l.origin) (drop l.section-index l.sections) ≡ text_of (of_origin l.origin l.sections)
