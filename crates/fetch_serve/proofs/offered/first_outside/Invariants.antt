use Rattle.std.proofs.Common.{◌≡◌, drop, filter, not}
use Rattle.std.specs.Prelude.{slice_get}
use Rattle.fetch_asked.specs.Requests.{has_id}
use Rattle.fetch_serve.proofs.offered.first_outside.Given as goal

abbrev pub invariant-loop-id : goal.invariant-loop-id
invariant-loop-id l = slice_get (filter (λ id. not (has_id id l.ids)) (drop l.id-index l.wants)) 0 ≡ slice_get (filter (λ id. not (has_id id l.ids)) l.wants) 0
