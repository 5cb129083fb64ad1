use Rattle.fetch_store.specs.Missing.{unclosed}
use Rattle.fetch_check.proofs.Told.{all_told, only_told}
use Rattle.fetch_check.proofs.laws.each_missing_link_is_told.Goals as goal

pub returns : goal.returns
returns c = λ h link. (only_told (unclosed h) link, all_told (unclosed h) link)
