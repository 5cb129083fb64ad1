use Rattle.std.proofs.Common.{◌∙◌, sym, subst, All}
use Rattle.std.specs.FinMap.{entries, get-entries}
use Rattle.fetch_base.specs.declared.id.ObjectId.{ObjectId}
use Rattle.fetch_objects.specs.Objects.{Stored, IsObject}
use Rattle.fetch_store.proofs.Lists.{All-find}
use Rattle.fetch_reach.proofs.OwnIds.{mapped}
use Rattle.fetch_reach.proofs.naming.stored_objects_are_objects.Goals as goal

pub returns : goal.returns
returns c =
    let m = c.args.store.now.objects in
    let P : ObjectId × Stored → Type 0 = λ e. IsObject e.1.hash e.1.kind e.1.bytes in
    let all : All P (entries m) = subst (All P) c.iter-objects.ensures.objects (mapped P _ _ (λ k d lt. (c.iter-objects.result.lent k d lt).valid)) in
    record { each = λ id o is. All-find P id o (entries m) all (sym (get-entries m id) ∙ is) }
