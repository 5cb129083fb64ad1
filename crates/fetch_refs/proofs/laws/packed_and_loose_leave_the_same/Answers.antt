use Rattle.std.proofs.Common.{refl}
use Rattle.fetch_refs.proofs.laws.packed_and_loose_leave_the_same.Goals as goal

pub returns : goal.returns
returns c = λ committer logging refs edits. record { hash = refl; names = refl; logs = refl }
