use Rattle.fetch_journal.proofs.kept_graph.extended.Goals as goal

pub returns-in-Ok : goal.returns-in-Ok
returns-in-Ok c = c.in-Ok.ensures.graph _ _ c.in_ok-graph.ensures c.iter-stored.ensures.of_hash c.requires.of_hash c.requires.no_collision
