use Rattle.std.proofs.Common.{◌≡◌, not, drop}
use Rattle.std.specs.Prelude.{find}
use Rattle.std.specs.FinSet as set
use Rattle.fetch_conversation.proofs.receiving.first_outside.Given as goal

abbrev pub invariant-loop-id : goal.invariant-loop-id
invariant-loop-id l = find (λ id. not (set.contains l.border id)) (drop l.id-index l.commits) ≡ find (λ id. not (set.contains l.border id)) l.commits
