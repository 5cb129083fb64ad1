use Rattle.std.proofs.Common.{ap, ◌∙◌}
use Rattle.fetch_store.specs.Stores.{add_all}
use Rattle.fetch_check.proofs.Stocked.{all_added}
use Rattle.fetch_check.proofs.reading.store_of.Goals as goal

pub returns-in-Ok-clause-objects : goal.returns-in-Ok-clause-objects
returns-in-Ok-clause-objects c = c.in-Ok.ensures.ok.0 ∙ ap (λ s. add_all s.objects c.args.objects.items) c.new-store.ensures ∙ all_added c.args.objects.items
