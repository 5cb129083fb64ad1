use Rattle.std.proofs.Common.{sym, ◌∙◌}
use Rattle.fetch_store.specs.Closed.{holding}
use Rattle.fetch_store.specs.Missing.{unclosed}
use Rattle.fetch_check.proofs.Bundling.{first_of_firsts}
use Rattle.fetch_check.proofs.writing.first_link.Goals as goal

pub returns-in-Ok : goal.returns-in-Ok
returns-in-Ok c = c.in-Ok.ensures.first ∙ sym (first_of_firsts (unclosed (holding c.args.store.now.objects c.args.border.now)))
