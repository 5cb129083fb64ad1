use Rattle.std.proofs.Common.{false, List, [], map, ap, ◌∙◌}
use Rattle.fetch_specs.specs.declared.matching.Item.{Item}
use Rattle.fetch_specs.specs.declared.found.Match.{Match}
use Rattle.fetch_specs.specs.Specs.{Spec}
use Rattle.fetch_specs.specs.FoundSets.{FoundValue}
use Rattle.fetch_specs.specs.Matches.{added_all, specs_from, source_matches, sources_of}
use Rattle.fetch_specs.proofs.Keys.{all-once}
use Rattle.fetch_specs.proofs.matching.MatchGroup.match_rhs.Goals as goal

pub returns-clause-sources : goal.returns-clause-sources
unfolding sources_of
returns-clause-sources c =
    let specs = c.self.inside.specs.now in
    let names = map (λ (item : Item). item.full_ref_name) c.args.items.now in
    let all : List Match = specs_from (source_matches specs) 0 specs names in
    c.into_matches.ensures ∙ c.in_ok-add_sources.ensures.added ∙ ap (λ (s : FoundValue). added_all s.pairs s.matches all) c.new-found.ensures
    ∙ all-once false [] all ∙ ap (λ (xs : List Spec). sources_of xs names) c.self.view_is
