use Rattle.std.proofs.Common.{sym}
use Rattle.fetch_specs.specs.Views.{parts_spec}
use Rattle.fetch_specs.proofs.Prints.{reads_again}
use Rattle.fetch_specs.proofs.spec.parse.Goals as goal

pub owned-requires : goal.owned-requires
owned-requires c = reads_again c.args.operation c.args.text.now (parts_spec c.in_ok-parts.parts) (sym c.in_ok-parts.ensures)
