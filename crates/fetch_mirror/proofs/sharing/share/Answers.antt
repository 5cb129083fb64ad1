use Rattle.std.proofs.Common.{◌≡◌, ◌+◌, ◌<◌, ◌%◌, [], ◌∷◌, ◌++◌, length, drop, set, get_or, sym, ap, subst, arith}
use Rattle.std.proofs.lemmas.List.{length-set, take_at}
use Rattle.fetch_mirror.specs.Shares.{as_itself, AreShares}
use Rattle.fetch_mirror.proofs.Dealing.{AreDealt, dealt_more, dealt_all}
use Rattle.fetch_mirror.proofs.sharing.share.Goals as goal

pub loop-i-preserved : goal.loop-i-preserved
loop-i-preserved c =
    let items = c.loop-i.shares.items in
    let at = c.loop-i.i % c.args.workers in
    let name = c.index-names-i.result in
    let own : c.in_ok-as_itself.field-0 ≡ as_itself name = c.in_ok-as_itself.ensures in
    let value : c.as_mut_slice.result.now ≡ items = c.as_mut_slice.ensures.value in
    let placed : c.deal.new.shares ≡ set items at (get_or items at [] ++ as_itself name ∷ []) = (let dealt = c.in_ok-deal.ensures in cc) in
    let low : c.loop-i.i < length c.args.names.now = omega arith in
    let found : get_or c.args.names.now c.loop-i.i name ≡ name = (let is = c.index-names-i.is in cc) in
    let long : length c.deal.new.shares ≡ c.loop-i.shares.len = omega (arith, ap length placed, length-set items at (get_or items at [] ++ as_itself name ∷ []), c.as_mut_slice.ensures.len, ap length value) in
    subst (AreDealt c.args.workers (c.loop-i.i + 1) c.args.names.now) (sym (take_at c.deal.new.shares (drop (length c.deal.new.shares) items) c.loop-i.shares.len long))
    (dealt_more c.args.workers c.loop-i.i c.args.names.now name items c.deal.new.shares (omega arith) low found placed c.loop-i.invariant)

pub returns : goal.returns
returns c = record {
  shares = subst (AreShares c.args.workers c.args.names.now) (sym c.from.ensures) (dealt_all c.args.workers c.loop-i.i c.args.names.now c.loop-i.shares.items (omega arith) c.loop-i.invariant);
}
