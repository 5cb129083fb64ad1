use Rattle.std.proofs.Common.{◌≡◌, ◌+◌, List, ◌++◌, drop, map, sym, ap, ◌∙◌}
use Rattle.std.proofs.lemmas.List.{drop_all}
use Rattle.fetch_specs.specs.declared.matching.Item.{Item}
use Rattle.fetch_specs.specs.declared.found.Match.{Match}
use Rattle.fetch_specs.specs.Matches.{added_all, leading, names_from, source_matches}
use Rattle.fetch_specs.proofs.Keys.{turn, from}
use Rattle.fetch_specs.proofs.leading.add_sources_of.Goals as goal

pub loop-j-preserved : goal.loop-j-preserved
loop-j-preserved c =
    let items = c.args.items.now in
    let j = c.loop-j.j in
    let one = source_matches c.args.specs.now c.args.index c.args.spec.now in
    let rest : List Match = names_from one (j + 1) (map (λ (item : Item). item.full_ref_name) (drop (j + 1) items)) in
    let name_is = c.as_bytes-name.ensures ∙ ap (λ (item : Item). item.full_ref_name) (sym c.index-items-j.is) in
    let here : List Match = map (leading c.args.index j c.as_bytes-name.result.now) c.as_slice.result.now in
    let whole : names_from one j (map (λ (item : Item). item.full_ref_name) (drop j items)) ≡ here ++ rest =
    ap (λ (xs : List Item). names_from one j (map (λ (item : Item). item.full_ref_name) xs)) (from items j c.index-items-j.result c.loop-j-test.true c.index-items-j.is)
    ∙ ap (λ (ms : List Match). ms ++ rest) (sym (ap (map (leading c.args.index j c.as_bytes-name.result.now)) (c.as_slice.ensures.value ∙ c.in_ok-sources.ensures) ∙ ap (one j) name_is)) in
    record {
      pairs = c.add_leading.ensures.pairs ∙ c.loop-j.invariant.pairs;
      added = turn c.loop-j.found.pairs c.add_leading.new.found.pairs c.loop-j.found.matches c.add_leading.new.found.matches here rest _ _ c.add_leading.ensures.pairs c.in_ok-add_leading.ensures.added whole c.loop-j.invariant.added;
    }

pub returns-clause-added : goal.returns-clause-added
returns-clause-added c =
    sym (ap (λ (items : List Item). added_all c.loop-j.found.pairs c.loop-j.found.matches (names_from (source_matches c.args.specs.now c.args.index c.args.spec.now) c.loop-j.j (map (λ (item : Item). item.full_ref_name) items))) (drop_all c.loop-j.j c.args.items.now c.loop-j-test.false))
    ∙ c.loop-j.invariant.added
