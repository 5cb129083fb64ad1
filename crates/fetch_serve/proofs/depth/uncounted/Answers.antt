use Rattle.fetch_store.specs.Graph.{graph_of}
use Rattle.fetch_serve.proofs.Kept.{walk_is}
use Rattle.fetch_serve.proofs.depth.uncounted.Goals as goal

pub returns : goal.returns
returns g c = walk_is (graph_of c.args.walk.store.now.objects) c.args.way c.args.starts.now c.args.limit c.spread.result c.spread.ensures.ids c.spread.ensures.ascending
