use Rattle.std.proofs.Common.{ap, ◌∙◌}
use Rattle.std.specs.List.{flat_map}
use Rattle.fetch_store.specs.Borders.{set_of}
use Rattle.fetch_serve.specs.Offered.{ids_in}
use Rattle.fetch_serve.proofs.Collecting.{first_same}
use Rattle.fetch_serve.proofs.offered.first_unoffered.Goals as goal

pub returns : goal.returns
returns c = first_same c.deref.result.now (flat_map ids_in c.args.references.now) c.args.wants.now c.first_outside.result (ap set_of c.deref.ensures.value ∙ c.in_ok-ids.ensures.each) c.first_outside.ensures
