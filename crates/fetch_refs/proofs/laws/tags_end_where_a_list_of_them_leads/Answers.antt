use Rattle.fetch_refs.proofs.TagWays.{tags_end}
use Rattle.fetch_refs.proofs.laws.tags_end_where_a_list_of_them_leads.Goals as goal

pub returns : goal.returns
returns c = tags_end
