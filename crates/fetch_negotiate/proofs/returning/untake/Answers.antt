use Rattle.std.proofs.Common.{◌<◌, length, refl, sym, ◌∙◌, arith}
use Rattle.std.proofs.lemmas.List.{take_all}
use Rattle.fetch_negotiate.proofs.GivingBack.{front_shorter, shorter}
use Rattle.fetch_negotiate.proofs.returning.untake.Goals as goal

pub taken-init : goal.taken-init
taken-init c = record { tips = refl; candidates = refl; told = c.requires; front = refl }

pub taken-smaller : goal.taken-smaller
taken-smaller c =
    let less : c.args.count < length c.taken.frontier.taken.items = omega (arith, c.len.ensures, c.taken-test.true) in
    shorter c.taken.frontier.taken.items c.untake_last.new.frontier.taken.items c.args.count less c.untake_last.ensures.taken

pub taken-preserved : goal.taken-preserved
taken-preserved c =
    let i = c.taken.invariant in
    let e = c.untake_last.ensures in
    let less : c.args.count < length c.taken.frontier.taken.items = omega (arith, c.len.ensures, c.taken-test.true) in
    record {
      tips = e.tips ∙ i.tips;
      candidates = e.candidates ∙ i.candidates;
      told = e.told;
      front = front_shorter c.args.count c.taken.frontier.taken.items c.untake_last.new.frontier.taken.items c.args.frontier.now.taken.items less e.taken i.front;
    }

pub returns-clause-taken : goal.returns-clause-taken
returns-clause-taken c =
    sym (take_all c.args.count c.taken.frontier.taken.items (omega (arith, c.len.ensures, c.taken-test.false))) ∙ c.taken.invariant.front
