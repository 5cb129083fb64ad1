use Rattle.std.proofs.Common.{◌≡◌, ◌+◌, List, ◌++◌, drop, map, sym, ap, ap₂, ◌∙◌}
use Rattle.std.proofs.lemmas.List.{drop_all}
use Rattle.fetch_specs.specs.declared.spec.RefSpec.{RefSpec}
use Rattle.fetch_specs.specs.declared.matching.Item.{Item}
use Rattle.fetch_specs.specs.declared.found.Match.{Match}
use Rattle.fetch_specs.specs.Matches.{added_all, specs_from, names_from, name_matches}
use Rattle.fetch_specs.proofs.Keys.{turn, from}
use Rattle.fetch_specs.proofs.matching.add_names.Goals as goal

pub loop-i-preserved : goal.loop-i-preserved
loop-i-preserved c =
    let specs = c.args.specs.now in
    let i = c.loop-i.i in
    let names = map (λ (item : Item). item.full_ref_name) c.args.items.now in
    let rest : List Match = specs_from (name_matches specs) (i + 1) (drop (i + 1) specs) names in
    let here : List Match = names_from (name_matches specs i c.index-specs-i.result) 0 names in
    let whole : specs_from (name_matches specs) i (drop i specs) names ≡ here ++ rest =
    ap (λ (xs : List RefSpec). specs_from (name_matches specs) i xs names) (from specs i c.index-specs-i.result c.loop-i-test.true c.index-specs-i.is) in
    let same = ap₂ (λ (specs : List RefSpec) (items : List Item). added_all c.loop-i.found.pairs c.loop-i.found.matches (names_from (name_matches specs i c.index-specs-i.result) 0 (map (λ (item : Item). item.full_ref_name) items))) c.in_ok-names.ensures.specs c.in_ok-names.ensures.items in
    record {
      pairs = c.add_names_by.ensures.pairs ∙ c.loop-i.invariant.pairs;
      places = c.loop-i.invariant.places;
      added = turn c.loop-i.found.pairs c.add_names_by.new.found.pairs c.loop-i.found.matches c.add_names_by.new.found.matches here rest _ _ c.add_names_by.ensures.pairs (c.in_ok-add_names_by.ensures.added ∙ same) whole c.loop-i.invariant.added;
    }

pub returns-clause-added : goal.returns-clause-added
returns-clause-added c =
    sym (ap (λ (specs : List RefSpec). added_all c.loop-i.found.pairs c.loop-i.found.matches (specs_from (name_matches c.args.specs.now) c.loop-i.i specs (map (λ (item : Item). item.full_ref_name) c.args.items.now))) (drop_all c.loop-i.i c.args.specs.now c.loop-i-test.false))
    ∙ c.loop-i.invariant.added
