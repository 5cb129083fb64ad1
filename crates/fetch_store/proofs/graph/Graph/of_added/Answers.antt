use Rattle.fetch_store.proofs.graph.Graph.of_added.Goals as goal

pub returns-clause-graph : goal.returns-clause-graph
returns-clause-graph c = c.in_ok-extend.ensures.graph c.args.store.now.hash c.args.store.now.objects c.in_ok-graph.ensures.graph c.iter-stored.ensures.of_hash c.requires.of_hash c.requires.no_collision
