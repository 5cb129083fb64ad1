use Rattle.fetch_create.proofs.Alone.{stands-alone}
use Rattle.fetch_create.proofs.laws.a_section_that_replaces_others_stands_alone.Goals as goal

pub returns : goal.returns
returns c = stands-alone
