use Rattle.fetch_update.proofs.Aheads.{found_ahead}
use Rattle.fetch_update.proofs.stored.is_ahead.Goals as goal

pub returns : goal.returns
returns g c = found_ahead (g.O.Objects.graph c.args.objects.now) c.args.remote.now c.args.local.now _ c.in_ok-has_dated_path.ensures
