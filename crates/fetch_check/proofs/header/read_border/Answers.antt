use Rattle.std.proofs.Common.{◌++◌, ◌∷◌, [], length, refl, subst}
use Rattle.fetch_check.specs.Bundles.{border_line}
use Rattle.fetch_check.specs.Reading.{AreBorderIds}
use Rattle.fetch_check.specs.Scanning.{NoneStands}
use Rattle.fetch_check.proofs.Steps.{fewer, further, no_border_ids, none_stand}
use Rattle.fetch_check.proofs.header.read_border.Goals as goal

pub border-init : goal.border-init
border-init c = record {
  stand = none_stand border_line c.args.bytes.now c.args.place c.new-found.result.items c.requires c.new-found.ensures.items;
  may = no_border_ids c.args.hash c.new-found.result.items c.new-found.ensures.items;
}

pub border-smaller : goal.border-smaller
border-smaller c =
    let f = further c.args.bytes.now c.border.next c.in-Some.behind (border_line c.in-Some.id) c.in-Some.ensures.line in
    fewer (length c.args.bytes.now) c.border.next c.in-Some.behind f.0 f.1

pub returns : goal.returns
returns c = record {
  stand = c.border.invariant.stand;
  may = c.border.invariant.may;
  ended = subst (λ ids. NoneStands border_line (λ id. AreBorderIds c.args.hash (ids ++ id ∷ [])) c.args.bytes.now c.border.next) c.as_slice.ensures.value (c.in_default.ensures.none refl);
}
