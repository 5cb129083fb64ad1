use Rattle.std.proofs.Common.{◌≡◌, map, take}
use Rattle.fetch_journal.proofs.taking.ids_of.Given as goal

abbrev pub invariant-loop-id : goal.invariant-loop-id
invariant-loop-id l = l.ids.items ≡ map (λ e. e.0) (take l.id-index l.objects)
