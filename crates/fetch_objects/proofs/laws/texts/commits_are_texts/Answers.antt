use Rattle.fetch_objects.proofs.CommitTexts.{commits_are_texts}
use Rattle.fetch_objects.proofs.laws.texts.commits_are_texts.Goals as goal

pub returns : goal.returns
returns c = commits_are_texts
