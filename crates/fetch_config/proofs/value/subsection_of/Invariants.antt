use Rattle.std.proofs.Common.{◌≡◌, drop, false}
use Rattle.fetch_config.specs.Values.{subsection_of}
use Rattle.fetch_config.proofs.Decoding.{onto_sub}
use Rattle.fetch_config.proofs.value.subsection_of.Given as goal

abbrev pub invariant-loop-place : goal.invariant-loop-place
invariant-loop-place l = onto_sub l.name.items (subsection_of l.escaped (drop l.place l.text)) ≡ subsection_of false l.text
