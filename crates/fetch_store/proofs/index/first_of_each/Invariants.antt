use Rattle.fetch_store.proofs.IndexOf.{IsIndexing}
use Rattle.fetch_store.proofs.index.first_of_each.Given as goal

abbrev pub invariant-loop-id : goal.invariant-loop-id
invariant-loop-id l = IsIndexing l.objects l.id-iterator.iter.rest.now l.index
