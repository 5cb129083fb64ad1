use Rattle.std.proofs.Common.{rules, ◌≡◌, ℕ, List, map, Option, Some, OnOk, sym, ap, subst, ◌∙◌}
use Rattle.fetch_specs.specs.declared.found.Match.{Match}
use Rattle.fetch_specs.specs.declared.matching.Item.{Item}
use Rattle.fetch_specs.specs.Exact.{exact_source, place_from, matches_at}
use Rattle.fetch_specs.specs.Matches.{added_all, name_matches, names_from}
use Rattle.fetch_specs.proofs.Exactly.{exact_is, at_first}
use Rattle.fetch_specs.proofs.matching.add_names_by.Goals as goal

pub returns-in_ok-place-in-Some-Some-clause-added : goal.returns-in_ok-place-in-Some-Some-clause-added
returns-in_ok-place-in-Some-Some-clause-added c =
    let specs = c.args.names.now.specs.now in
    let names = map (λ (item : Item). item.full_ref_name) c.args.names.now.items.now in
    let name = c.in-Some-Some.name.now in
    let spec = c.args.spec.now in
    let i = c.args.index in
    let before = c.args.found.now in
    let exact : exact_source spec.source ≡ Some name = search rules in
    let parts = exact_is spec.source name exact in
    let place : c.in_ok-place-in-Some-Some.place ≡ place_from 0 name names = search rules in
    let all : added_all before.pairs before.matches (matches_at (name_matches specs i spec) name c.in_ok-place-in-Some-Some.place) ≡ added_all before.pairs before.matches (names_from (name_matches specs i spec) 0 names) =
    ap (λ (o : Option ℕ). added_all before.pairs before.matches (matches_at (name_matches specs i spec) name o)) place
    ∙ sym (at_first before.pairs specs i spec name parts.0 parts.1 parts.2 names 0 before.matches) in
    subst (λ (ms : List Match). OnOk c.add_name_at.result (c.add_name_at.new.found.matches ≡ ms)) all c.add_name_at.ensures.added
