use Rattle.std.proofs.Common.{sym, ap, subst, ◌∙◌}
use Rattle.fetch_negotiate.specs.Haves.{Negotiation, next_taken}
use Rattle.fetch_negotiate.specs.Reading.{Table, Grows, IsTold, read_in}
use Rattle.fetch_negotiate.proofs.Taking.{so_far_same, ready_same, chosen_next}
use Rattle.fetch_negotiate.proofs.walk.come_next.Goals as goal

pub returns-clause-stays : goal.returns-clause-stays
returns-clause-stays g c =
    let e = c.choose.ensures in
    let p = c.in_ok-prepare.ensures.stays in
    record {
      walk = e.walk;
      told = subst (λ (t : Table). IsTold (read_in t) (g.O.Objects.graph c.args.objects.now)) (sym e.table) p.told;
      grows = subst (λ (t : Table). Grows (read_in c.args.walk.now.table) (read_in t)) (sym e.table) p.grows;
      so_far = so_far_same c.prepare.new.walk c.choose.new.walk e.border e.tips e.candidates e.taken (λ i. (e.common i).acknowledged) ∙ p.so_far;
    }

pub returns-clause-next : goal.returns-clause-next
returns-clause-next g c =
    let e = c.choose.ensures in
    let p = c.in_ok-prepare.ensures.stays in
    let graph = g.O.Objects.graph c.args.objects.now in
    let told : IsTold (read_in c.choose.new.walk.table) graph = subst (λ (t : Table). IsTold (read_in t) graph) (sym e.table) p.told in
    chosen_next graph c.choose.new.walk c.choose.result told (ready_same graph c.prepare.new.walk c.choose.new.walk e.border e.common e.candidates e.entered c.in_ok-prepare.ensures.ready) e.walk e.chosen e.none
    ∙ ap (λ (n : Negotiation). next_taken graph n) (so_far_same c.prepare.new.walk c.choose.new.walk e.border e.tips e.candidates e.taken (λ i. (e.common i).acknowledged) ∙ p.so_far)
