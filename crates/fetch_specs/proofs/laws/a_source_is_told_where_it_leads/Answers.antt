use Rattle.fetch_specs.proofs.Telling.{told_where_it_leads}
use Rattle.fetch_specs.proofs.laws.a_source_is_told_where_it_leads.Goals as goal

pub returns : goal.returns
returns c = λ specs spec name source is. told_where_it_leads specs spec name source is
