use Rattle.std.proofs.Common.{[]}
use Rattle.fetch_reach.proofs.Written.{all_kept}
use Rattle.fetch_reach.proofs.laws.distinct_entries_are_all_kept.Goals as goal

pub returns : goal.returns
returns c = λ es distinct. all_kept [] es distinct
