use Rattle.std.proofs.Common.{◌≡◌, ◌≤◌, ◌++◌, length, take, drop}
use Rattle.std.specs.List.{flat_map}
use Rattle.fetch_config.specs.Contents.{with_sections}
use Rattle.fetch_create.proofs.Gone.{gone_at}
use Rattle.fetch_create.proofs.replacing.remove_replaced.Given as goal

abbrev pub invariant-sections : goal.invariant-sections
invariant-sections l = record {
  within : l.left ≤ length l.fn.file.sections;
  room : l.left ≤ length l.file.sections;
  so_far : l.file ≡ with_sections l.fn.file (take l.left l.fn.file.sections ++ flat_map (gone_at l.news.sections) (drop l.left l.fn.file.sections));
}

abbrev pub decreases-sections : goal.decreases-sections
decreases-sections l = l.left
