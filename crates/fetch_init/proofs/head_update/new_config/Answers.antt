use Rattle.fetch_init.proofs.head_update.new_config.Goals as goal

pub returns-clause-ready : goal.returns-clause-ready
returns-clause-ready c = (rw c.git_dir.ensures at c.in_ok-path.ensures, c.in_ok-text.ensures, c.in_ok-resolved.ensures.config)
