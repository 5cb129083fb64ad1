use Rattle.fetch_remote.proofs.phases.list.Goals as goal

pub returns-clause-held : goal.returns-clause-held
returns-clause-held g c = rw (c.address.ensures, c.agent.ensures, c.refspecs.ensures, c.fetch_tags.ensures) at c.list.ensures.held
