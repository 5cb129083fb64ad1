use Rattle.fetch_objects.proofs.TreeTexts.{trees_are_texts}
use Rattle.fetch_objects.proofs.laws.texts.trees_are_texts.Goals as goal

pub returns : goal.returns
returns c = trees_are_texts
