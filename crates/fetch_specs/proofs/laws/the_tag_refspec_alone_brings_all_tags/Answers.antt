use Rattle.fetch_specs.proofs.AllTags.{known}
use Rattle.fetch_specs.proofs.laws.the_tag_refspec_alone_brings_all_tags.Goals as goal

pub returns : goal.returns
returns c = λ spec. known spec
