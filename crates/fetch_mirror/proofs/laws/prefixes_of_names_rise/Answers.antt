use Rattle.fetch_mirror.proofs.RisingPrefixes.{rising_prefixes}
use Rattle.fetch_mirror.proofs.laws.prefixes_of_names_rise.Goals as goal

pub returns : goal.returns
returns c = rising_prefixes
