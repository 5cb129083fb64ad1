use Rattle.std.proofs.Common.{◌≡◌, Bool, true, List, [], ◌++◌, map, sym, ap, ◌∙◌}
use Rattle.fetch_specs.specs.declared.matching.Item.{Item}
use Rattle.fetch_specs.specs.declared.found.Match.{Match}
use Rattle.fetch_specs.specs.Specs.{Spec}
use Rattle.fetch_specs.specs.FoundSets.{FoundValue}
use Rattle.fetch_specs.specs.Matches.{added_all, ids_from, specs_from, name_matches, mappings_of}
use Rattle.fetch_specs.proofs.Keys.{all-once, added_all-append}
use Rattle.fetch_specs.proofs.matching.MatchGroup.match_lhs.Goals as goal

pub returns-clause-mappings : goal.returns-clause-mappings
unfolding mappings_of
returns-clause-mappings c =
    let specs = c.self.inside.specs.now in
    let names = map (λ (item : Item). item.full_ref_name) c.args.items.now in
    let ids : List Match = ids_from c.args.kind 0 specs in
    let named : List Match = specs_from (name_matches specs) 0 specs names in
    let pairs : c.add_ids.new.found.pairs ≡ true = c.add_ids.ensures.pairs ∙ ap (λ (s : FoundValue). s.pairs) c.new-found.ensures in
    let first : c.add_ids.new.found.matches ≡ added_all true [] ids = c.in_ok-add_ids.ensures.added ∙ ap (λ (s : FoundValue). added_all s.pairs s.matches ids) c.new-found.ensures in
    c.into_matches.ensures ∙ c.in_ok-add_names.ensures.added
    ∙ ap (λ (p : Bool). added_all p c.add_ids.new.found.matches named) pairs ∙ ap (λ (ms : List Match). added_all true ms named) first
    ∙ sym (added_all-append true [] ids named) ∙ all-once true [] (ids ++ named)
    ∙ ap (λ (xs : List Spec). mappings_of xs names c.args.kind) c.self.view_is
