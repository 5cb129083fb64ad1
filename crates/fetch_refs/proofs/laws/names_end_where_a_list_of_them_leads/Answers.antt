use Rattle.fetch_refs.proofs.NameWays.{resolved_to}
use Rattle.fetch_refs.proofs.laws.names_end_where_a_list_of_them_leads.Goals as goal

pub returns : goal.returns
returns c = resolved_to
