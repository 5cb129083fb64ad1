use Rattle.std.proofs.Common.{◌≡◌, ◌++◌, filter, take}
use Rattle.fetch_lines.specs.Written.{lines_text}
use Rattle.fetch_pack.specs.Texts.{Keeps}
use Rattle.fetch_reach.specs.Sets.{is_among}
use Rattle.fetch_check.specs.Bundles.{border_lines}
use Rattle.fetch_check.proofs.writing.append_border.Given as goal

abbrev pub invariant-loop-id : goal.invariant-loop-id
invariant-loop-id l = record {
  text : l.out.items ≡ l.fn.out.items ++ lines_text (border_lines (filter (λ id. is_among id l.ids) (take l.id-index l.id-items)));
  keeps : Keeps l.fn.out.items l.out.items;
}
