use Rattle.std.specs.Cmp.Lexicographic.{nat_list_cmp_total}
use Rattle.fetch_lookup.proofs.Ascending.{ascends}
use Rattle.fetch_lookup.proofs.laws.names_ascend.Goals as goal

pub returns : goal.returns
returns c = ascends nat_list_cmp_total
