use Rattle.std.proofs.Common.{◌≡◌, drop}
use Rattle.std.specs.List.{list_any}
use Rattle.fetch_reach.specs.Stored.{objects_at}
use Rattle.fetch_serve.specs.Replies.{is_too_long}
use Rattle.fetch_serve.proofs.limits.has_too_long.Given as goal

abbrev pub invariant-loop-id : goal.invariant-loop-id
invariant-loop-id l = list_any (is_too_long l.version) (objects_at l.store.objects (drop l.id-index l.ids)) ≡ list_any (is_too_long l.version) (objects_at l.store.objects l.ids)
