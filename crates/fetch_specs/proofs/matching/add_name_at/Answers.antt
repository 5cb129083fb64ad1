use Rattle.std.proofs.Common.{◌≡◌, Bool, List, Option, OnOk, sym, ap, subst, ◌∙◌, arith}
use Rattle.fetch_specs.specs.declared.found.Match.{Match}
use Rattle.fetch_specs.specs.Exact.{matches_at}
use Rattle.fetch_specs.specs.Matches.{added_all, found, is_excluded, mapping_unless, name_matches, source_taken}
use Rattle.fetch_specs.proofs.Exactly.{tested}
use Rattle.fetch_specs.proofs.matching.add_name_at.Goals as goal

pub index-requires : goal.index-requires
index-requires c =
    let names = c.args.names.now in
    let t = tested names.specs.now names.items.now names.excluded.items c.args.name.now c.in-Some.place names.tested (sym c.requires ∙ c.in-Some.is) in
    let within = t.within in
    let fits = names.excluded.ok in
    omega (arith, within, fits.0, fits.1)

pub returns-clause-added : goal.returns-clause-added
returns-clause-added c =
    let names = c.args.names.now in
    let name = c.args.name.now in
    let spec = c.args.spec.now in
    let i = c.args.index in
    let j = c.in-Some.place in
    let before = c.args.found.now in
    let t = tested names.specs.now names.items.now names.excluded.items name j names.tested (sym c.requires ∙ c.in-Some.is) in
    let excluded : c.index.result.now ≡ is_excluded names.specs.now name = c.index.ensures ∙ t.is _ in
    let all : found c.in_ok-one.one ≡ matches_at (name_matches names.specs.now i spec) name c.args.place =
    ap (λ (o : Option Match). found o) (c.in_ok-one.ensures ∙ ap (λ (e : Bool). mapping_unless e i spec j name (source_taken spec.source name)) excluded)
    ∙ ap (matches_at (name_matches names.specs.now i spec) name) (sym c.in-Some.is) in
    subst (λ (ms : List Match). OnOk c.add_some.result (c.add_some.new.found.matches ≡ added_all before.pairs before.matches ms)) all c.add_some.ensures.added
