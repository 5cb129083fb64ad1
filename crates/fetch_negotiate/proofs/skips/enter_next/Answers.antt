use Rattle.std.proofs.Common.{ap, ◌∙◌}
use Rattle.fetch_negotiate.specs.declared.skip.Skip.{Skip}
use Rattle.fetch_negotiate.specs.Skips.{higher}
use Rattle.fetch_negotiate.proofs.Pairing.{entered_more}
use Rattle.fetch_negotiate.proofs.skips.enter_next.Goals as goal

pub returns-clause-paired : goal.returns-clause-paired
returns-clause-paired c =
    let s = c.args.skips.now in
    let p = c.index.result.now in
    entered_more s.handed.items s.entered s.pairs c.insert.new.self p c.higher.result c.requires.open c.index.ensures (c.higher.ensures ∙ ap (λ (o : Skip). higher o p.1) c.skip_of-own.ensures) c.in_ok-insert.ensures.updates c.requires.paired
