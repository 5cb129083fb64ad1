use Rattle.std.proofs.Common.{ap, ◌++◌, ◌∙◌}
use Rattle.fetch_store.specs.Borders.{set_of}
use Rattle.fetch_reach.proofs.Sets.{of_both}
use Rattle.fetch_reach.proofs.ids.union.Goals as goal

pub returns-clause-each : goal.returns-clause-each
returns-clause-each c =
    of_both c.args.ids.now c.args.others.now c.from.result
    (ap set_of c.from.ensures ∙ c.ascending.ensures.set ∙ ap set_of (c.in_ok-extend_from_slice.ensures.items ∙ ap (λ t. t ++ c.args.others.now) c.in_ok-all.ensures.items))
