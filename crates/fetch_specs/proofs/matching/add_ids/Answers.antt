use Rattle.std.proofs.Common.{◌≡◌, ◌+◌, List, ◌++◌, drop, Option, sym, ap, ◌∙◌}
use Rattle.std.proofs.lemmas.List.{drop_all}
use Rattle.fetch_specs.specs.declared.spec.RefSpec.{RefSpec}
use Rattle.fetch_specs.specs.declared.found.Match.{Match}
use Rattle.fetch_specs.specs.Matches.{added_all, found, ids_from}
use Rattle.fetch_specs.proofs.Keys.{turn, from}
use Rattle.fetch_specs.proofs.matching.add_ids.Goals as goal

pub loop-i-preserved : goal.loop-i-preserved
loop-i-preserved c =
    let specs = c.args.specs.now in
    let i = c.loop-i.i in
    let rest : List Match = ids_from c.args.kind (i + 1) (drop (i + 1) specs) in
    let whole : ids_from c.args.kind i (drop i specs) ≡ found c.in_ok-one.one ++ rest =
    ap (ids_from c.args.kind i) (from specs i c.index-specs-i.result c.loop-i-test.true c.index-specs-i.is) ∙ ap (λ (o : Option Match). found o ++ rest) (sym c.in_ok-one.ensures) in
    record {
      pairs = c.add_some.ensures.pairs ∙ c.loop-i.invariant.pairs;
      added = turn c.loop-i.found.pairs c.add_some.new.found.pairs c.loop-i.found.matches c.add_some.new.found.matches (found c.in_ok-one.one) rest _ _ c.add_some.ensures.pairs c.in_ok-add_some.ensures.added whole c.loop-i.invariant.added;
    }

pub returns-clause-added : goal.returns-clause-added
returns-clause-added c =
    sym (ap (λ (specs : List RefSpec). added_all c.loop-i.found.pairs c.loop-i.found.matches (ids_from c.args.kind c.loop-i.i specs)) (drop_all c.loop-i.i c.args.specs.now c.loop-i-test.false))
    ∙ c.loop-i.invariant.added
