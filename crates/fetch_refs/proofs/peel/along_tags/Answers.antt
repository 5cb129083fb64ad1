use Rattle.std.proofs.Common.{◌-◌, [], ◌∷◌, ◌++◌, length-append, refl, ap, sym, ◌∙◌, arith}
use Rattle.std.specs.FinMap.{get}
use Rattle.fetch_refs.specs.Leading.{next_tag}
use Rattle.fetch_refs.specs.Peeled.{through}
use Rattle.fetch_refs.proofs.TagWays.{eq, open_stop}
use Rattle.fetch_refs.proofs.Walks.{leads_on}
use Rattle.fetch_refs.proofs.Ways.{through-cycle, through-end, through-open, open-tag}
use Rattle.fetch_refs.proofs.peel.along_tags.Goals as goal

pub tags-init : goal.tags-init
tags-init g c =
    let graph = g.O.Objects.graph c.args.objects.now in
    ([], refl, refl, ap (λ n. through graph n [] c.args.first) c.len-left.ensures, omega arith)

pub returns-then-is_among : goal.returns-then-is_among
returns-then-is_among g c =
    let (way, leads, count, same, fits) = c.tags.invariant in
    sym (through-cycle (g.O.Objects.graph c.args.objects.now) way c.tags.id c.tags.left (sym (c.is_among.ensures way c.tags.id leads count) ∙ c.if-is_among.true)) ∙ same

pub returns-in-None : goal.returns-in-None
returns-in-None g c =
    let graph = g.O.Objects.graph c.args.objects.now in
    let (way, leads, count, same, fits) = c.tags.invariant in
    c.if_stored.ensures
    ∙ sym (through-open graph way c.tags.id c.tags.left c.tags-test.true (sym (c.is_among.ensures way c.tags.id leads count) ∙ c.if-is_among.false)
    ∙ open_stop c.tags.id (get graph c.tags.id) (λ target. through graph (c.tags.left - 1) (way ++ c.tags.id ∷ []) target) (sym c.in-None.ensures))
    ∙ same

pub tags-preserved : goal.tags-preserved
tags-preserved g c =
    let graph = g.O.Objects.graph c.args.objects.now in
    let (way, leads, count, same, fits) = c.tags.invariant in
    let n = length-append way (c.tags.id ∷ []) in
    let some = c.tags-test.true in (
      way ++ c.tags.id ∷ [],
      leads_on eq (next_tag graph) way c.args.first c.tags.id c.in-Some.target leads (sym c.in-Some.ensures),
      omega (arith, n, count),
      sym (through-open graph way c.tags.id c.tags.left some (sym (c.is_among.ensures way c.tags.id leads count) ∙ c.if-is_among.false)
          ∙ open-tag c.tags.id (λ target. through graph (c.tags.left - 1) (way ++ c.tags.id ∷ []) target) (get graph c.tags.id) c.in-Some.target (sym c.in-Some.ensures))
          ∙ same,
      omega (arith, fits, some),
    )

pub returns-then-is_among-2 : goal.returns-then-is_among-2
returns-then-is_among-2 g c =
    let (way, leads, count, same, fits) = c.tags.invariant in
    sym (through-cycle (g.O.Objects.graph c.args.objects.now) way c.tags.id c.tags.left (sym (c.is_among-2.ensures way c.tags.id leads count) ∙ c.if-is_among-2.true)) ∙ same

pub returns : goal.returns
returns g c =
    let (way, leads, count, same, fits) = c.tags.invariant in
    sym (through-end (g.O.Objects.graph c.args.objects.now) way c.tags.id c.tags.left (λ p. omega (arith, c.tags-test.false)) (sym (c.is_among-2.ensures way c.tags.id leads count) ∙ c.if-is_among-2.false)) ∙ same
