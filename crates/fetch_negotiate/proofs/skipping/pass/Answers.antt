use Rattle.std.proofs.Common.{◌≡◌, ◌++◌, map, Some, sym, ap, subst, ◌∙◌}
use Rattle.fetch_base.specs.declared.id.ObjectId.{ObjectId}
use Rattle.fetch_negotiate.specs.declared.skip.Skip.{Skip}
use Rattle.fetch_negotiate.specs.Haves.{Negotiation, taking}
use Rattle.fetch_negotiate.specs.Reading.{Table, Grows, IsTold, links_at, read_in}
use Rattle.fetch_negotiate.specs.Skips.{Pairs, handed, pairs_of}
use Rattle.fetch_negotiate.specs.Walking.{so_far_in}
use Rattle.fetch_negotiate.proofs.Choosing.{links_told}
use Rattle.fetch_negotiate.proofs.Growing.{commit_stays, grows_none, read_of}
use Rattle.fetch_negotiate.proofs.Handing.{linked, still, told_before, handed_on, offers_by}
use Rattle.fetch_negotiate.proofs.skipping.pass.Goals as goal

pub is_offered-requires-clause-over : goal.is_offered-requires-clause-over
is_offered-requires-clause-over g c = record { walk = c.requires.skipping.walk; told = c.requires.told }

pub returns-in_err-offered-clause-skipping : goal.returns-in_err-offered-clause-skipping
returns-in_err-offered-clause-skipping g c =
    let e = c.in_err-offered.ensures.stays in
    still c.args.walk.now c.is_offered.new.walk c.args.skips.now c.pair.new.skips c.requires.skipping e.walk c.in_ok-skip.ensures.paired e.grows (λ i. (c.in_ok-skip.ensures.handed i).items) e.so_far

pub returns-in_err-hand_on-clause-skipping : goal.returns-in_err-hand_on-clause-skipping
returns-in_err-hand_on-clause-skipping g c =
    let e = c.in_err-hand_on.ensures in
    let o = c.in_ok-offered.ensures in
    let same : c.pair.new.skips.handed.items ≡ c.args.skips.now.handed.items = λ i. (c.in_ok-skip.ensures.handed i).items in
    still c.args.walk.now c.hand_on.new.walk c.args.skips.now c.hand_on.new.skips c.requires.skipping e.walk e.paired
    (subst (λ (t : Table). Grows (read_in c.args.walk.now.table) (read_in t)) (sym e.table) o.stays.grows) (e.kept ∙ same) (e.err ∙ o.stays.so_far)

pub returns-clause-skipping : goal.returns-clause-skipping
returns-clause-skipping g c =
    let w = c.args.walk.now in
    let v = c.is_offered.new.walk in
    let n = so_far_in w in
    let id = c.args.id.now in
    let e = c.in_ok-hand_on.ensures in
    let o = c.in_ok-offered.ensures in
    let pairs = c.args.skips.now.handed.items in
    let links = links_at (read_in v.table) v.border id in
    let same : c.pair.new.skips.handed.items ≡ pairs = λ i. (c.in_ok-skip.ensures.handed i).items in
    let read = commit_stays (read_in w.table) (read_in v.table) o.stays.grows id c.requires.read in
    let borders : v.border ≡ w.border = ap (λ (m : Negotiation). m.border) o.stays.so_far in
    record {
      walk = e.walk;
      paired = e.paired;
      handed = λ h told.
          let here : IsTold (read_in v.table) h = subst (λ (t : Table). IsTold (read_in t) h) e.table told in
          let found = links_told (read_in v.table) h here v.border id (read_of (read_in v.table) id read) in
          handed_on h n id pairs c.hand_on.new.skips.handed.items c.in_ok-skip.skip c.in_ok-offered.offered links (c.requires.skipping.handed h (told_before (read_in w.table) (read_in v.table) h o.stays.grows here)) c.in_ok-skip.ensures.pair
          (o.offered.says h here) (linked h v.border w.border id links found borders)
          (e.handed ∙ ap (λ (s : Skip). c.pair.new.skips.handed.items ++ map (λ (p : ObjectId). (p, s)) links) c.handed.ensures ∙ ap (λ (l : Pairs). l ++ map (λ (p : ObjectId). (p, handed c.in_ok-offered.offered c.in_ok-skip.skip)) links) same)
          ∙ ap (λ (m : Negotiation). pairs_of h m) (sym (e.ok ∙ ap (λ (m : Negotiation). taking m (Some id)) o.stays.so_far));
    }

pub returns-clause-offered : goal.returns-clause-offered
returns-clause-offered g c =
    let h = g.O.Objects.graph c.args.objects.now in
    let o = c.in_ok-offered.ensures in
    offers_by h (so_far_in c.args.walk.now) c.args.id.now c.args.skips.now.handed.items c.in_ok-skip.skip c.in_ok-offered.offered (c.requires.skipping.handed h c.requires.told) c.in_ok-skip.ensures.pair (o.offered.says h o.stays.told)

pub returns-in_err-hand_on-clause-grows : goal.returns-in_err-hand_on-clause-grows
returns-in_err-hand_on-clause-grows g c = subst (λ (t : Table). Grows (read_in c.args.walk.now.table) (read_in t)) (sym c.hand_on.ensures.table) c.is_offered.ensures.stays.grows

pub returns-clause-grows : goal.returns-clause-grows
returns-clause-grows g c = subst (λ (t : Table). Grows (read_in c.args.walk.now.table) (read_in t)) (sym c.hand_on.ensures.table) c.is_offered.ensures.stays.grows

pub returns-in_err-skip-clause-grows : goal.returns-in_err-skip-clause-grows
returns-in_err-skip-clause-grows g c = grows_none (read_in c.args.walk.now.table)

pub returns-in_err-offered-clause-grows : goal.returns-in_err-offered-clause-grows
returns-in_err-offered-clause-grows g c = c.in_err-offered.ensures.stays.grows
