use Rattle.fetch_lookup.specs.Branches.{destination_in}
use Rattle.fetch_lookup.proofs.Destinations.{lost}
use Rattle.fetch_lookup.proofs.branches.destination_name.Goals as goal

pub returns-in-Err : goal.returns-in-Err
returns-in-Err c = lost (destination_in c.args.specs.now c.args.name.now)
