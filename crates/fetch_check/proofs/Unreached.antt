-- What is stored, without what is reached.
use Rattle.std.proofs.Common.{◌≡◌, List, Contains, Result, Ok, Err, sym, subst, ◌∙◌}
use Rattle.std.specs.Prelude.{IfOk, ◌↔◌}
use Rattle.std.specs.List.Sorted.{IsStrictlySortedBy}
use Rattle.std.specs.FinMap as map
use Rattle.fetch_base.specs.declared.id.ObjectId.{ObjectId}
use Rattle.fetch_store.specs.Closed.{Holding, IsStored, Reached}
use Rattle.fetch_store.specs.Stores.{ObjectMap}
use Rattle.fetch_base.specs.Id.{id_cmp}
use Rattle.fetch_store.proofs.Borders.{named-Contains, Contains-named}
use Rattle.fetch_refs.specs.Names.{Names}
use Rattle.fetch_check.specs.Finding.{AreUnreached, direct_ids}

-- an id is stored where it is a key
pub key_stored : (objects : ObjectMap) (id : ObjectId) → Contains (map.keys objects) id → IsStored objects id
key_stored objects id here = map.contains_key-keys objects id ∙ named-Contains id (map.keys objects) here

pub stored_key : (objects : ObjectMap) (id : ObjectId) → IsStored objects id → Contains (map.keys objects) id
stored_key objects id is = Contains-named id (map.keys objects) (sym (map.contains_key-keys objects id) ∙ is)

pub are_unreached : {E : Type 0} (names : Names) (h : Holding) (stored reached : List ObjectId) (r : Result (List ObjectId) E) → stored ≡ map.keys h.objects
    → ((id : ObjectId) → Contains reached id ↔ Reached h (direct_ids names) id)
    → IfOk r (λ left. (id : ObjectId) → Contains left id ↔ (Contains stored id × ¬ Contains reached id)) → IfOk r (λ left. IsStrictlySortedBy id_cmp left) → IfOk r (λ ids. AreUnreached names h ids)
are_unreached names h stored reached (Ok left) keys are each rise = record {
  each = λ id. (
    λ here. let p = (each id).0 here in (key_stored h.objects id (subst (λ ids. Contains ids id) keys p.0), λ there. p.1 ((are id).1 there)),
    λ p. (each id).1 (subst (λ ids. Contains ids id) (sym keys) (stored_key h.objects id p.0), λ there. p.1 ((are id).0 there)),
  );
  ascending = rise;
}
are_unreached names h stored reached (Err e) keys are each rise = tt
