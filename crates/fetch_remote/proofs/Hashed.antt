-- A repository of another hash.
use Rattle.std.proofs.Common.{◌≡◌, sym, refl, ◌∙◌}
use Rattle.std.specs.FinMap as map
use Rattle.std.specs.FinMap.{empty_of_len}
use Rattle.fetch_store.specs.Borders.{IdSet}
use Rattle.fetch_store.specs.Stores.{ObjectMap}
use Rattle.fetch_base.specs.declared.id.Kind.{Kind}
use Rattle.fetch_refs.specs.Hashing.{of_hash as refs_of_hash}
use Rattle.fetch_refs.specs.Names.{RefsValue}
use Rattle.fetch_remote.specs.Hashing.{of_hash}
use Rattle.fetch_remote.specs.RepositoryValues.{State}

-- An empty store stays as empty.
pub rehashed : (kind : Kind) (s : State) (hash : Kind) (objects : ObjectMap) (border : IdSet) (refs : RefsValue) → map.len s.objects ≡ 0 → hash ≡ kind → objects ≡ map.empty → border ≡ s.border → refs ≡ refs_of_hash kind s.refs
    → ◌≡◌ {A = State} (record { hash = hash; objects = objects; border = border; refs = refs }) (of_hash kind s)
rehashed kind s hash objects border refs none p q r t = let o : objects ≡ s.objects = q ∙ sym (empty_of_len s.objects none) in rw (p, o, r, t) refl
