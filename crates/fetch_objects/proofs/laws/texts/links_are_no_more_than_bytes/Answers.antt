use Rattle.fetch_objects.proofs.LinkCounts.{few_links}
use Rattle.fetch_objects.proofs.laws.texts.links_are_no_more_than_bytes.Goals as goal

pub returns : goal.returns
returns c = few_links
