use Rattle.std.proofs.Common.{◌≡◌, map, take}
use Rattle.fetch_specs.specs.Matches.{is_excluded}
use Rattle.fetch_specs.proofs.matching.Names.new.Given as goal

abbrev pub invariant-loop-item : goal.invariant-loop-item
invariant-loop-item l = l.excluded.items ≡ map (λ item. is_excluded l.specs item.full_ref_name) (take l.item-index l.items)
