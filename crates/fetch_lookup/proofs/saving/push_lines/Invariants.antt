use Rattle.std.proofs.Common.{◌≡◌, ◌<◌, length, take, drop}
use Rattle.fetch_config.specs.Contents.{with_sections, on_section}
use Rattle.fetch_lookup.specs.Saved as spec
use Rattle.fetch_lookup.proofs.Destinations.{first}
use Rattle.fetch_lookup.proofs.saving.push_lines.Given as goal

abbrev pub invariant-loop-line : goal.invariant-loop-line
invariant-loop-line l = record {
  room : l.index < length l.file.sections;
  so_far : l.file ≡ with_sections l.fn.file (on_section l.index (spec.with_lines (take l.line-index l.lines)) l.fn.file.sections);
  nul : first spec.nul_at (drop l.line-index l.lines) ≡ first spec.nul_at l.lines;
}
