use Rattle.fetch_init.proofs.init.init.Goals as goal

pub returns-clause-repo : goal.returns-clause-repo
returns-clause-repo g c = rw c.lenient.ensures at c.init_opts.ensures.repo

pub returns-clause-refused : goal.returns-clause-refused
returns-clause-refused g c = rw c.lenient.ensures at c.init_opts.ensures.refused
