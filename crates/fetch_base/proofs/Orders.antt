-- The comparisons that Rust derives for ids are the order of ids.
use Rattle.std.proofs.Common.{◌≡◌, refl}
use Rattle.std.specs.Ordering.{eq_by_cmp}
use Rattle.std.specs.Cmp.Lexicographic.{texts_ties}
use Rattle.fetch_base.specs.declared.id.ObjectId.{ObjectId}
use Rattle.fetch_base.specs.declared.id.ObjectId.TheVariants as ids
use Rattle.fetch_base.specs.contracts.id.ObjectIdOrd.TheImpl as order
use Rattle.fetch_base.specs.contracts.id.ObjectIdPartialEq.TheImpl as equality
use Rattle.fetch_base.specs.Id.{id_cmp}

pub cmp_at : (a b : ObjectId) → (order.ghosts).cmp a b ≡ id_cmp a b
cmp_at (ids.Sha1 a) (ids.Sha1 b) = refl
cmp_at (ids.Sha1 a) (ids.Sha256 b) = refl
cmp_at (ids.Sha256 a) (ids.Sha1 b) = refl
cmp_at (ids.Sha256 a) (ids.Sha256 b) = refl

pub cmp_is : (order.ghosts).cmp ≡ id_cmp
cmp_is = λ i a b. cmp_at a b i

pub eq_is : (a b : ObjectId) → (equality.ghosts).eq a b ≡ eq_by_cmp id_cmp a b
eq_is (ids.Sha1 a) (ids.Sha1 b) = texts_ties a b
eq_is (ids.Sha1 a) (ids.Sha256 b) = refl
eq_is (ids.Sha256 a) (ids.Sha1 b) = refl
eq_is (ids.Sha256 a) (ids.Sha256 b) = texts_ties a b

pub same_is : (equality.ghosts).eq ≡ eq_by_cmp id_cmp
same_is = λ i a b. eq_is a b i
