use Rattle.fetch_init.proofs.Alone.{one-section, only-section}
use Rattle.fetch_init.proofs.laws.a_saved_remote_has_one_section.Goals as goal

pub returns-clause-one : goal.returns-clause-one
returns-clause-one c = one-section

pub returns-clause-only : goal.returns-clause-only
returns-clause-only c = only-section
