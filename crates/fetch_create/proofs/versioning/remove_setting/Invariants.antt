use Rattle.std.proofs.Common.{◌≡◌, ◌≤◌, ◌++◌, length, take, drop}
use Rattle.std.specs.List.{flat_map}
use Rattle.fetch_config.specs.Contents.{with_sections}
use Rattle.fetch_create.proofs.Settings.{cleared_at}
use Rattle.fetch_create.proofs.versioning.remove_setting.Given as goal

abbrev pub invariant-sections : goal.invariant-sections
invariant-sections l = record {
  within : l.left ≤ length l.fn.file.sections;
  room : l.left ≤ length l.file.sections;
  so_far : l.file ≡ with_sections l.fn.file (take l.left l.fn.file.sections ++ flat_map (cleared_at l.name l.key) (drop l.left l.fn.file.sections));
}

abbrev pub decreases-sections : goal.decreases-sections
decreases-sections l = l.left
