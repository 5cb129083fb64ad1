use Rattle.std.proofs.Common.{◌++◌, ◌∷◌, [], Ok, ap, length, subst}
use Rattle.fetch_check.specs.Bundles.{ref_line}
use Rattle.fetch_check.specs.Reading.{AreReferences}
use Rattle.fetch_check.specs.Scanning.{NoneStands}
use Rattle.fetch_check.proofs.Steps.{fewer, further, no_references, none_stand}
use Rattle.fetch_check.proofs.header.read_references.Goals as goal

pub references-init : goal.references-init
references-init c = record {
  stand = none_stand ref_line c.args.bytes.now c.args.place c.new-found.result.items c.requires c.new-found.ensures.items;
  may = no_references c.args.hash c.new-found.result.items c.new-found.ensures.items;
}

pub references-smaller : goal.references-smaller
references-smaller c =
    let f = further c.args.bytes.now c.references.next c.in-Some.behind (ref_line c.in-Some.reference) (rw c.in-Some.is at c.in_ok-reference.ensures.line) in
    fewer (length c.args.bytes.now) c.references.next c.in-Some.behind f.0 f.1

pub returns : goal.returns
returns c = record {
  stand = c.references.invariant.stand;
  may = c.references.invariant.may;
  ended = subst (λ es. NoneStands ref_line (λ e. AreReferences c.args.hash (es ++ e ∷ [])) c.args.bytes.now c.references.next) c.as_slice.ensures.value (c.in_ok-reference.ensures.none (ap (λ x. Ok x) c.in_default.is));
}
