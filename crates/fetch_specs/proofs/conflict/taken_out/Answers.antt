use Rattle.std.proofs.Common.{None}
use Rattle.fetch_specs.proofs.Taking.{put_at}
use Rattle.fetch_specs.proofs.conflict.taken_out.Goals as goal

pub returns-in-Some-clause-others : goal.returns-in-Some-clause-others
returns-in-Some-clause-others c = λ text. put_at text c.args.destination.now None c.args.sources.now.entries c.remove.new.self.entries c.remove.ensures.updates.0
