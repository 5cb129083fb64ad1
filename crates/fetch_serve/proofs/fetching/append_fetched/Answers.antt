use Rattle.std.proofs.Common.{All, ap, sym, subst, ◌∙◌}
use Rattle.fetch_reach.specs.Named.{IsOwnId}
use Rattle.fetch_serve.specs.Packs.{served_at}
use Rattle.fetch_serve.specs.Parts.{held_by}
use Rattle.fetch_serve.proofs.Appending.{on_ok, pack_fetched, round_fetched}
use Rattle.fetch_serve.proofs.Needed.{served_own}
use Rattle.fetch_serve.proofs.fetching.append_fetched.Goals as goal

pub append_pack-requires-clause-own : goal.append_pack-requires-clause-own
append_pack-requires-clause-own c =
    let d = held_by c.args.parts in
    subst (All (IsOwnId d.objects)) (sym (c.as_slice.ensures ∙ c.in_ok-ids.ensures)) (served_own d c.args.asked.now c.in_ok-depth.depth c.requires.servable.own)

pub returns-then-asked : goal.returns-then-asked
returns-then-asked c =
    let d = held_by c.args.parts in
    on_ok c.append_pack.result _ _
    (pack_fetched d c.args.asked.now c.as_slice.result.now c.args.out.now.items c.append_pack.new.out.items (c.as_slice.ensures ∙ c.in_ok-ids.ensures ∙ ap (served_at d c.args.asked.now) c.in_ok-depth.ensures) c.if-asked.true) c.append_pack.ensures

pub returns : goal.returns
returns c =
    on_ok c.append_round.result _ _ (round_fetched (held_by c.args.parts) c.args.asked.now c.as_slice-2.result.now c.args.out.now.items c.append_round.new.out.items c.as_slice-2.ensures c.if-asked.false) c.append_round.ensures
