use Rattle.std.proofs.Common.{Some, None, refl, ap, ◌∙◌}
use Rattle.std.specs.Prelude.{slice_get}
use Rattle.fetch_store.specs.Borders.{ids_of}
use Rattle.fetch_store.specs.Closed.{holding}
use Rattle.fetch_store.specs.Missing.{unknown_in}
use Rattle.fetch_store.proofs.Unclosed.{first_unclosed, closed_first}
use Rattle.fetch_store.proofs.missing.first_missing.Goals as goal

pub returns-in-Some-clause-first : goal.returns-in-Some-clause-first
returns-in-Some-clause-first c =
    let h = holding c.args.store.now.objects c.args.border.now in
    first_unclosed h (Some c.in-Some.missing) (slice_get (unknown_in h.objects (ids_of h.border)) 0) c.in-Some.ensures refl

pub returns-in-Some-clause-closed : goal.returns-in-Some-clause-closed
returns-in-Some-clause-closed c =
    let h = holding c.args.store.now.objects c.args.border.now in
    closed_first h (Some c.in-Some.missing) (first_unclosed h (Some c.in-Some.missing) (slice_get (unknown_in h.objects (ids_of h.border)) 0) c.in-Some.ensures refl)

pub returns-clause-first : goal.returns-clause-first
returns-clause-first c =
    let h = holding c.args.store.now.objects c.args.border.now in
    first_unclosed h None c.first_unknown.result c.in_default.ensures (c.first_unknown.ensures ∙ ap (λ ids. slice_get (unknown_in h.objects ids) 0) c.commits.ensures.members)

pub returns-clause-closed : goal.returns-clause-closed
returns-clause-closed c =
    let h = holding c.args.store.now.objects c.args.border.now in
    closed_first h c.first_unknown.result
    (first_unclosed h None c.first_unknown.result c.in_default.ensures (c.first_unknown.ensures ∙ ap (λ ids. slice_get (unknown_in h.objects ids) 0) c.commits.ensures.members))
