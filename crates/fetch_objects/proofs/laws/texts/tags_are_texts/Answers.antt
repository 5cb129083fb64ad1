use Rattle.fetch_objects.proofs.TagTexts.{tags_are_texts}
use Rattle.fetch_objects.proofs.laws.texts.tags_are_texts.Goals as goal

pub returns : goal.returns
returns c = tags_are_texts
