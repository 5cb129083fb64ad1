-- Small objects fit a pack.
use Rattle.std.proofs.Common.{◌≡◌, ℕ, ◌^◌, ◌<◌, ◌≤◌, Bool, true, false, ◌&&◌, List, [], ◌∷◌, length, refl, arith}
use Rattle.std.specs.Prelude.{nat_le}
use Rattle.std.specs.List.{AllByRecursion, list_all}
use Rattle.std.proofs.lemmas.Bool.{leb-true}
use Rattle.std.proofs.lemmas.List.{length-map}
use Rattle.fetch_objects.specs.Objects.{Stored}
use Rattle.fetch_pack.specs.Records.{Fits, Payload, limit_of, payload_of, payloads_of}
use Rattle.fetch_pack.specs.declared.version.PackVersion.TheVariants.{V1}
use Rattle.examples.specs.Small.{is_small}

below : (n : ℕ) → nat_le n 1000 ≡ true → n < 2 ^ 32
below n small = let h : n ≤ 1000 = leb-true n 1000 small in omega arith

-- each of them has a length that a pack can write
each_fits : (os : List Stored) → list_all is_small os ≡ true → AllByRecursion (λ p. length p.bytes < limit_of V1) (payloads_of os)
each_fits [] all = tt
each_fits (o ∷ os) all = at (is_small o) refl all (each_fits os)
  where
    at : (b : Bool) → is_small o ≡ b → (b && list_all is_small os) ≡ true → (list_all is_small os ≡ true → AllByRecursion (λ (p : Payload). length p.bytes < limit_of V1) (payloads_of os))
        → (length o.bytes < limit_of V1) × AllByRecursion (λ (p : Payload). length p.bytes < limit_of V1) (payloads_of os)
    at true e rest tail = (below (length o.bytes) e, tail rest)
    at false e rest tail = absurd cc

-- few and small objects have a pack
pub small_fit : (os : List Stored) → length os ≤ 100 → list_all is_small os ≡ true → Fits V1 (payloads_of os)
small_fit os few small =
    let many : length (payloads_of os) ≡ length os = length-map os payload_of in
    record { count = omega (arith, many); each = each_fits os small }
