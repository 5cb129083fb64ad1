use Rattle.std.proofs.Common.{◌≡◌, ◌++◌, drop}
use Rattle.fetch_serve.specs.Packs.{stored_in}
use Rattle.fetch_serve.proofs.served.known.Given as goal

abbrev pub invariant-loop-id : goal.invariant-loop-id
invariant-loop-id l = l.ids ++ stored_in l.store.objects (drop l.id-index l.haves) ≡ stored_in l.store.objects l.haves
