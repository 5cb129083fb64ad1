use Rattle.std.proofs.Common.{◌≡◌, true, false, Some, None, refl, sym, ap, ◌∙◌, rules}
use Rattle.fetch_negotiate.specs.Haves.{Negotiation, next_taken}
use Rattle.fetch_negotiate.specs.Skips.{Offer, offers, next_offered}
use Rattle.fetch_negotiate.specs.Walking.{so_far_in}
use Rattle.fetch_negotiate.proofs.Counting.{come_to, ends_none, ends_some, found_next, more_taken, none, passed_over, smaller, some}
use Rattle.fetch_negotiate.proofs.Handing.{still}
use Rattle.fetch_negotiate.proofs.GivingBack.{here, stays_on, goes_one}
use Rattle.fetch_negotiate.proofs.skipping.skip_on.Goals as goal

pub loop-id-init : goal.loop-id-init
loop-id-init g c =
    record {
      skipping = c.requires.skipping;
      told = c.requires.told;
      later = refl;
      goes = here c.args.walk.now;
      more = record { stays = λ q h. h };
    }

pub come_next-requires : goal.come_next-requires
come_next-requires g c = record { walk = c.loop-id.invariant.skipping.walk; told = c.loop-id.invariant.told }

pub returns-in_err-id-clause-goes : goal.returns-in_err-id-clause-goes
returns-in_err-id-clause-goes g c = stays_on c.args.walk.now c.loop-id.walk c.come_next.new.walk c.loop-id.invariant.goes c.in_err-id.ensures.stays.grows c.in_err-id.ensures.stays.so_far

pub returns-in_err-pass-clause-goes : goal.returns-in_err-pass-clause-goes
returns-in_err-pass-clause-goes g c =
    stays_on c.args.walk.now c.come_next.new.walk c.pass.new.walk (stays_on c.args.walk.now c.loop-id.walk c.come_next.new.walk c.loop-id.invariant.goes c.in_ok-id.ensures.stays.grows c.in_ok-id.ensures.stays.so_far)
    c.pass.ensures.grows c.in_err-pass.ensures.err

pub returns-then-branch-clause-goes : goal.returns-then-branch-clause-goes
returns-then-branch-clause-goes g c =
    goes_one c.args.walk.now c.come_next.new.walk c.pass.new.walk c.in-Some.id (stays_on c.args.walk.now c.loop-id.walk c.come_next.new.walk c.loop-id.invariant.goes c.in_ok-id.ensures.stays.grows c.in_ok-id.ensures.stays.so_far)
    c.pass.ensures.grows c.in_ok-pass.ensures.ok

pub returns-clause-goes : goal.returns-clause-goes
returns-clause-goes g c = stays_on c.args.walk.now c.loop-id.walk c.come_next.new.walk c.loop-id.invariant.goes c.in_ok-id.ensures.stays.grows c.in_ok-id.ensures.stays.so_far

pub returns-in_err-id-clause-skipping : goal.returns-in_err-id-clause-skipping
returns-in_err-id-clause-skipping g c =
    let i = c.loop-id.invariant in
    let e = c.in_err-id.ensures in
    still c.loop-id.walk c.come_next.new.walk c.loop-id.skips c.loop-id.skips i.skipping e.stays.walk i.skipping.paired e.stays.grows refl e.stays.so_far

pub pass-requires-clause-skipping : goal.pass-requires-clause-skipping
pass-requires-clause-skipping g c =
    let i = c.loop-id.invariant in
    let e = c.in_ok-id.ensures in
    still c.loop-id.walk c.come_next.new.walk c.loop-id.skips c.loop-id.skips i.skipping e.stays.walk i.skipping.paired e.stays.grows refl e.stays.so_far

pub returns-then-branch-clause-next : goal.returns-then-branch-clause-next
returns-then-branch-clause-next g c =
    let h = g.O.Objects.graph c.args.objects.now in
    let n = so_far_in c.loop-id.walk in
    let m = so_far_in c.come_next.new.walk in
    let id = c.in-Some.id in
    let e = c.in_ok-id.ensures in
    let next : next_taken h m ≡ Some id = found_next h n m c.in_ok-id.field-0 (Some id) e.stays.so_far e.next c.in-Some.is in
    let offered : offers h m id ≡ true = sym c.in_ok-pass.ensures.offered ∙ c.if-branch.true in
    let found = come_to h (so_far_in c.args.walk.now) n m (some h m id) c.loop-id.invariant.later e.stays.so_far (ends_some h m id next offered) in
    sym (ap (λ (o : Offer). o.have) found)

pub returns-then-branch-clause-ok : goal.returns-then-branch-clause-ok
returns-then-branch-clause-ok g c =
    let h = g.O.Objects.graph c.args.objects.now in
    let n = so_far_in c.loop-id.walk in
    let m = so_far_in c.come_next.new.walk in
    let id = c.in-Some.id in
    let e = c.in_ok-id.ensures in
    let next : next_taken h m ≡ Some id = found_next h n m c.in_ok-id.field-0 (Some id) e.stays.so_far e.next c.in-Some.is in
    let offered : offers h m id ≡ true = sym c.in_ok-pass.ensures.offered ∙ c.if-branch.true in
    let found = come_to h (so_far_in c.args.walk.now) n m (some h m id) c.loop-id.invariant.later e.stays.so_far (ends_some h m id next offered) in
    c.in_ok-pass.ensures.ok ∙ sym (ap (λ (o : Offer). o.later) found)

pub returns-then-branch-clause-more : goal.returns-then-branch-clause-more
returns-then-branch-clause-more g c =
    more_taken c.args.walk.now.frontier.taken.items (so_far_in c.loop-id.walk) (so_far_in c.come_next.new.walk) (so_far_in c.pass.new.walk) c.in-Some.id c.loop-id.invariant.more c.in_ok-id.ensures.stays.so_far c.in_ok-pass.ensures.ok

pub loop-id-smaller : goal.loop-id-smaller
loop-id-smaller g c =
    let h = g.O.Objects.graph c.args.objects.now in
    let n = so_far_in c.loop-id.walk in
    let m = so_far_in c.come_next.new.walk in
    let id = c.in-Some.id in
    let e = c.in_ok-id.ensures in
    smaller h n m (so_far_in c.pass.new.walk) id e.stays.so_far c.in_ok-pass.ensures.ok (found_next h n m c.in_ok-id.field-0 (Some id) e.stays.so_far e.next c.in-Some.is)

pub loop-id-preserved : goal.loop-id-preserved
loop-id-preserved g c =
    let h = g.O.Objects.graph c.args.objects.now in
    let n = so_far_in c.loop-id.walk in
    let m = so_far_in c.come_next.new.walk in
    let id = c.in-Some.id in
    let e = c.in_ok-id.ensures in
    let p = c.in_ok-pass.ensures in
    let next : next_taken h m ≡ Some id = found_next h n m c.in_ok-id.field-0 (Some id) e.stays.so_far e.next c.in-Some.is in
    let passed : offers h m id ≡ false = sym p.offered ∙ c.if-branch.false in
    record {
      skipping = p.skipping;
      told = p.told;
      goes = goes_one c.args.walk.now c.come_next.new.walk c.pass.new.walk id (stays_on c.args.walk.now c.loop-id.walk c.come_next.new.walk c.loop-id.invariant.goes e.stays.grows e.stays.so_far) c.pass.ensures.grows p.ok;
      later = ap (λ (x : Negotiation). next_offered h x) p.ok ∙ sym (passed_over h m id next passed) ∙ ap (λ (x : Negotiation). next_offered h x) e.stays.so_far ∙ c.loop-id.invariant.later;
      more = more_taken c.args.walk.now.frontier.taken.items n m (so_far_in c.pass.new.walk) id c.loop-id.invariant.more e.stays.so_far p.ok;
    }

pub returns-clause-skipping : goal.returns-clause-skipping
returns-clause-skipping g c =
    let i = c.loop-id.invariant in
    let e = c.in_ok-id.ensures in
    still c.loop-id.walk c.come_next.new.walk c.loop-id.skips c.loop-id.skips i.skipping e.stays.walk i.skipping.paired e.stays.grows refl e.stays.so_far

pub returns-clause-next : goal.returns-clause-next
returns-clause-next g c =
    let h = g.O.Objects.graph c.args.objects.now in
    let n = so_far_in c.loop-id.walk in
    let m = so_far_in c.come_next.new.walk in
    let e = c.in_ok-id.ensures in
    let nothing : c.in_ok-id.field-0 ≡ None = search rules in
    let next : next_taken h m ≡ None = found_next h n m c.in_ok-id.field-0 None e.stays.so_far e.next nothing in
    let found = come_to h (so_far_in c.args.walk.now) n m (none h m) c.loop-id.invariant.later e.stays.so_far (ends_none h m next) in
    sym (ap (λ (o : Offer). o.have) found)

pub returns-clause-ok : goal.returns-clause-ok
returns-clause-ok g c =
    let h = g.O.Objects.graph c.args.objects.now in
    let n = so_far_in c.loop-id.walk in
    let m = so_far_in c.come_next.new.walk in
    let e = c.in_ok-id.ensures in
    let nothing : c.in_ok-id.field-0 ≡ None = search rules in
    let next : next_taken h m ≡ None = found_next h n m c.in_ok-id.field-0 None e.stays.so_far e.next nothing in
    let found = come_to h (so_far_in c.args.walk.now) n m (none h m) c.loop-id.invariant.later e.stays.so_far (ends_none h m next) in
    sym (ap (λ (o : Offer). o.later) found)
