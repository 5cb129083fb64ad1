-- The order of ids is total, and ids that tie are one.
use Rattle.std.proofs.Common.{◌≡◌, ℕ, List, refl, ap}
use Rattle.std.specs.Ordering.{ordering_reverse}
use Rattle.std.specs.Cmp.{IsTotalOrder}
use Rattle.std.specs.Cmp.Lexicographic.{nat_list_cmp_total}
use Rattle.std.specs.FinMap.{IsAntisymmetric, slice_cmp-IsAntisymmetric, nat_cmp-IsAntisymmetric}
use Rattle.std.specs.declared.cmp.Ordering.TheVariants.{Less, Equal}
use Rattle.fetch_base.specs.declared.id.ObjectId.{ObjectId}
use Rattle.fetch_base.specs.declared.id.ObjectId.TheVariants as ids
use Rattle.fetch_base.specs.Id.{id_cmp}

trans : (x y z : ObjectId) → id_cmp x y ≡ Less → id_cmp y z ≡ Less → id_cmp x z ≡ Less
trans (ids.Sha1 a) (ids.Sha1 b) (ids.Sha1 c) p q = nat_list_cmp_total.trans a b c p q
trans (ids.Sha1 a) y (ids.Sha256 c) p q = refl
trans (ids.Sha1 a) (ids.Sha256 b) (ids.Sha1 c) p q = absurd cc
trans (ids.Sha256 a) (ids.Sha1 b) z p q = absurd cc
trans (ids.Sha256 a) (ids.Sha256 b) (ids.Sha1 c) p q = absurd cc
trans (ids.Sha256 a) (ids.Sha256 b) (ids.Sha256 c) p q = nat_list_cmp_total.trans a b c p q

antisymm : (x y : ObjectId) → id_cmp x y ≡ ordering_reverse (id_cmp y x)
antisymm (ids.Sha1 a) (ids.Sha1 b) = nat_list_cmp_total.antisymm a b
antisymm (ids.Sha1 a) (ids.Sha256 b) = refl
antisymm (ids.Sha256 a) (ids.Sha1 b) = refl
antisymm (ids.Sha256 a) (ids.Sha256 b) = nat_list_cmp_total.antisymm a b

congr : (x y z : ObjectId) → id_cmp x y ≡ Equal → id_cmp x z ≡ id_cmp y z
congr (ids.Sha1 a) (ids.Sha1 b) (ids.Sha1 c) p = nat_list_cmp_total.congr a b c p
congr (ids.Sha1 a) (ids.Sha1 b) (ids.Sha256 c) p = refl
congr (ids.Sha1 a) (ids.Sha256 b) z p = absurd cc
congr (ids.Sha256 a) (ids.Sha1 b) z p = absurd cc
congr (ids.Sha256 a) (ids.Sha256 b) (ids.Sha1 c) p = refl
congr (ids.Sha256 a) (ids.Sha256 b) (ids.Sha256 c) p = nat_list_cmp_total.congr a b c p

pub id_cmp_total : IsTotalOrder id_cmp
id_cmp_total = record { antisymm = antisymm; trans = trans; congr = congr }

pub id_cmp_exact : IsAntisymmetric id_cmp
id_cmp_exact (ids.Sha1 a) (ids.Sha1 b) e = ap (λ (bytes : List ℕ). ids.Sha1 bytes) (slice_cmp-IsAntisymmetric nat_cmp-IsAntisymmetric a b e)
id_cmp_exact (ids.Sha1 a) (ids.Sha256 b) e = absurd cc
id_cmp_exact (ids.Sha256 a) (ids.Sha1 b) e = absurd cc
id_cmp_exact (ids.Sha256 a) (ids.Sha256 b) e = ap (λ (bytes : List ℕ). ids.Sha256 bytes) (slice_cmp-IsAntisymmetric nat_cmp-IsAntisymmetric a b e)
