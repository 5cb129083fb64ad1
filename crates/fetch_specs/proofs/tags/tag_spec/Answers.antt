use Rattle.fetch_specs.proofs.TagTexts.{found_tags, tags_ok}
use Rattle.fetch_specs.proofs.tags.tag_spec.Goals as goal

pub returns-clause-spec : goal.returns-clause-spec
returns-clause-spec c = found_tags c.parse.result c.parse.ensures.spec

pub returns-clause-memory : goal.returns-clause-memory
returns-clause-memory c = c.parse.ensures.memory tags_ok
