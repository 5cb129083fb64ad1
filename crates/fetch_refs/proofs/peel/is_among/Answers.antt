use Rattle.std.proofs.Common.{sym, arith}
use Rattle.fetch_refs.specs.Leading.{next_tag}
use Rattle.fetch_refs.proofs.TagSteps.{differs, ties}
use Rattle.fetch_refs.proofs.TagWays.{eq}
use Rattle.fetch_refs.proofs.Walks.{whole_rest, rest-here, rest-next, rest-none, rest-over}
use Rattle.fetch_refs.proofs.peel.is_among.Goals as goal

pub tags-init : goal.tags-init
tags-init g c = λ way end leads count. whole_rest eq (next_tag (g.O.Objects.graph c.args.objects.now)) way c.args.first end c.args.id.now c.args.count leads count

pub returns-then-same_id : goal.returns-then-same_id
returns-then-same_id g c =
    λ way end leads count.
    rest-here eq (next_tag (g.O.Objects.graph c.args.objects.now)) way end c.tags.at c.tags.left c.args.id.now (c.tags.invariant way end leads count) c.tags-test.true
    (ties c.tags.at c.args.id.now (c.same_id.ensures.0 c.if-same_id.true))

pub tags-preserved : goal.tags-preserved
tags-preserved g c =
    λ way end leads count.
    rest-next eq (next_tag (g.O.Objects.graph c.args.objects.now)) way end c.tags.at c.tags.left c.args.id.now (c.tags.invariant way end leads count) c.in-Some.target c.tags-test.true
    (differs c.tags.at c.args.id.now (λ same. absurd (let found = c.same_id.ensures.1 same in let no = c.if-same_id.false in cc))) (sym c.in-Some.ensures)

pub returns-in-None : goal.returns-in-None
returns-in-None g c =
    λ way end leads count.
    absurd (rest-none eq (next_tag (g.O.Objects.graph c.args.objects.now)) way end c.tags.at c.tags.left c.args.id.now (c.tags.invariant way end leads count) (sym c.in-None.ensures) c.tags-test.true)

pub returns : goal.returns
returns g c =
    λ way end leads count.
    rest-over eq (next_tag (g.O.Objects.graph c.args.objects.now)) way end c.tags.at c.tags.left c.args.id.now (c.tags.invariant way end leads count) (λ p. omega (arith, c.tags-test.false))
