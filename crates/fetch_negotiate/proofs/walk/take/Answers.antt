use Rattle.fetch_negotiate.proofs.walk.take.Goals as goal

pub returns-clause-walk : goal.returns-clause-walk
returns-clause-walk c = record { common = c.requires.walk.common; frontier = c.take_one.ensures.frontier }
