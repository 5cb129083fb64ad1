-- Ids and objects as data that a model may keep.
use Rattle.std.specs.Prelude.{◌≡◌, ℕ, zero, suc, Bool, true, false, ◌⊎◌, List, refl}
use Rattle.std.proofs.Common.{inl, inr}
use Rattle.std.specs.Coded.{Coded, code_by, coded_ℕ, coded_bool, coded_list, coded×, coded⊎}
use Rattle.fetch_base.specs.declared.id.Kind.{Kind}
use Rattle.fetch_base.specs.declared.id.Kind.TheVariants as kinds
use Rattle.fetch_base.specs.declared.id.ObjectId.{ObjectId}
use Rattle.fetch_base.specs.declared.id.ObjectId.TheVariants as ids
use Rattle.fetch_base.specs.declared.object_kind.ObjectKind.{ObjectKind}
use Rattle.fetch_base.specs.declared.object_kind.ObjectKind.TheVariants as objects
use Rattle.fetch_objects.specs.Objects.{Stored}

abbrev is_sha1 : Kind → Bool
is_sha1 kinds.Sha1 = true
is_sha1 kinds.Sha256 = false

abbrev kind_from : Bool → Kind
kind_from true = kinds.Sha1
kind_from false = kinds.Sha256

-- a hash is the one that its bit names
pub kind_back : (k : Kind) → kind_from (is_sha1 k) ≡ k
kind_back kinds.Sha1 = refl
kind_back kinds.Sha256 = refl

-- a hash, coded
abbrev pub coded_kind : Coded Kind
coded_kind = code_by Bool coded_bool is_sha1 kind_from kind_back

abbrev split : ObjectId → List ℕ ⊎ List ℕ
split (ids.Sha1 bytes) = inl bytes
split (ids.Sha256 bytes) = inr bytes

abbrev join : List ℕ ⊎ List ℕ → ObjectId
join (inl bytes) = ids.Sha1 bytes
join (inr bytes) = ids.Sha256 bytes

-- an id is put together as it was taken apart
pub join-split : (id : ObjectId) → join (split id) ≡ id
join-split (ids.Sha1 bytes) = refl
join-split (ids.Sha256 bytes) = refl

-- an id, coded
abbrev pub coded_id : Coded ObjectId
coded_id = code_by (List ℕ ⊎ List ℕ) (coded⊎ (coded_list coded_ℕ) (coded_list coded_ℕ)) split join join-split

abbrev number : ObjectKind → ℕ
number objects.Commit = 0
number objects.Tree = 1
number objects.Blob = 2
number objects.Tag = 3

abbrev numbered : ℕ → ObjectKind
numbered zero = objects.Commit
numbered (suc zero) = objects.Tree
numbered (suc (suc zero)) = objects.Blob
numbered (suc (suc (suc n))) = objects.Tag

-- a kind is the one that its number names
pub numbered-number : (k : ObjectKind) → numbered (number k) ≡ k
numbered-number objects.Commit = refl
numbered-number objects.Tree = refl
numbered-number objects.Blob = refl
numbered-number objects.Tag = refl

-- a kind of object, coded
abbrev pub coded_object_kind : Coded ObjectKind
coded_object_kind = code_by ℕ coded_ℕ number numbered numbered-number

-- a stored object, coded
abbrev pub coded_stored : Coded Stored
coded_stored =
    code_by (Kind × (ObjectKind × List ℕ)) (coded× coded_kind (coded× coded_object_kind (coded_list coded_ℕ)))
    (λ o. (o.hash, (o.kind, o.bytes))) (λ p. record { hash = p.0; kind = p.1.0; bytes = p.1.1 }) (λ _. refl)
