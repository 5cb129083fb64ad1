use Rattle.std.proofs.Common.{◌≡◌, ◌≤◌, ◌++◌, length, take, drop}
use Rattle.fetch_config.specs.Contents.{with_sections}
use Rattle.fetch_lookup.specs.Saved as spec
use Rattle.fetch_lookup.proofs.cleaning.clean.Given as goal

abbrev pub invariant-sections : goal.invariant-sections
invariant-sections l = record {
  within : l.left ≤ length l.fn.file.sections;
  room : l.left ≤ length l.file.sections;
  so_far : l.file ≡ with_sections l.fn.file (take l.left l.fn.file.sections ++ spec.cleaned l.name (drop l.left l.fn.file.sections));
}

abbrev pub decreases-sections : goal.decreases-sections
decreases-sections l = l.left
