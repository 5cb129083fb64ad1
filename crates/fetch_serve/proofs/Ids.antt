-- Stored ids are of their hash, and have its bytes.
use Rattle.std.proofs.Common.{◌≡◌, ℕ, zero, suc, ◌≤◌, true, List, [], ◌∷◌, ◌++◌, length, Option, Some, None, refl, sym, ap, ◌∙◌, subst, arith}
use Rattle.std.specs.Prelude.{is_some, slice_index}
use Rattle.std.specs.FinMap as finmap
use Rattle.std.specs.Int.{w32, to_be_bytes}
use Rattle.hex.specs.Hex.{IsBytes, encode_lower, lower_digits}
use Rattle.hex.proofs.HexLemmas.{length-encode_with}
use Rattle.sha1.specs.Sha1 as one
use Rattle.sha2.specs.Sha256 as two
use Rattle.fetch_store.specs.Closed.{IsStored}
use Rattle.fetch_base.specs.Hashing.{digest}
use Rattle.fetch_base.specs.Id.{byte_len, bytes_of, kind_of}
use Rattle.fetch_objects.specs.Objects.{Stored}
use Rattle.fetch_base.specs.declared.id.Kind.{Kind}
use Rattle.fetch_base.specs.declared.id.Kind.TheVariants.{Sha1, Sha256}
use Rattle.fetch_base.specs.declared.id.ObjectId.{ObjectId}
use Rattle.fetch_base.proofs.Digests.{length-digest}
use Rattle.fetch_reach.specs.Named.{own_id}
use Rattle.fetch_lines.specs.ServerLines.{IsIdOf}
use Rattle.fetch_serve.specs.Servable.{IsServable}
use Rattle.fetch_serve.specs.Served.{Data}

word_bytes : (n : ℕ) → IsBytes (to_be_bytes w32 n)
word_bytes n zero = omega arith
word_bytes n (suc zero) = omega arith
word_bytes n (suc (suc zero)) = omega arith
word_bytes n (suc (suc (suc zero))) = omega arith
word_bytes n (suc (suc (suc (suc i)))) = omega arith

bytes_both : (xs ys : List ℕ) → IsBytes xs → IsBytes ys → IsBytes (xs ++ ys)
bytes_both [] ys f g i = g i
bytes_both (x ∷ xs) ys f g zero = f zero
bytes_both (x ∷ xs) ys f g (suc i) = bytes_both xs ys (λ j. f (suc j)) g i

no_bytes : IsBytes []
no_bytes i = omega arith

words_one : (h : List ℕ) (n : ℕ) → IsBytes (one.digest_bytes h n)
unfolding one.digest_bytes
words_one h zero = no_bytes
words_one h (suc n) = bytes_both (one.digest_bytes h n) (to_be_bytes w32 (slice_index h n)) (words_one h n) (word_bytes (slice_index h n))

words_two : (h : List ℕ) (n : ℕ) → IsBytes (two.digest_bytes h n)
unfolding two.digest_bytes
words_two h zero = no_bytes
words_two h (suc n) = bytes_both (two.digest_bytes h n) (to_be_bytes w32 (slice_index h n)) (words_two h n) (word_bytes (slice_index h n))

bytes_one : (m : List ℕ) → IsBytes (one.sha1 m)
unfolding one.sha1
bytes_one m = words_one _ 5

bytes_two : (m : List ℕ) → IsBytes (two.sha256 m)
unfolding two.sha256
bytes_two m = words_two _ 8

digest_bytes : (hash : Kind) (m : List ℕ) → IsBytes (bytes_of (digest hash m))
digest_bytes Sha1 m = bytes_one m
digest_bytes Sha256 m = bytes_two m

digest_kind : (hash : Kind) (m : List ℕ) → kind_of (digest hash m) ≡ hash
digest_kind Sha1 m = refl
digest_kind Sha256 m = refl

digest_is : (hash : Kind) (m : List ℕ) → IsIdOf hash (digest hash m)
digest_is hash m = record { same = digest_kind hash m; len = length-digest hash m; bytes = digest_bytes hash m }

-- an object's own id is of its hash
pub own_is : (o : Stored) → IsIdOf o.hash (own_id o)
own_is o = digest_is o.hash _

stored_is_by : (d : Data) (id : ObjectId) (found : Option Stored) → finmap.get d.objects id ≡ found → IsServable d → is_some found ≡ true → IsIdOf d.hash id
stored_is_by d id None is s there = absurd (cc)
stored_is_by d id (Some o) is s there = subst (λ h. IsIdOf h id) (s.hash.each id o is) (subst (IsIdOf o.hash) (sym (s.own.each id o is)) (own_is o))

-- a stored id is of the hash
pub stored_is : (d : Data) (id : ObjectId) → IsServable d → IsStored d.objects id → IsIdOf d.hash id
stored_is d id s there = stored_is_by d id (finmap.get d.objects id) refl s there

few : (hash : Kind) → byte_len hash ≤ 32
few Sha1 = omega arith
few Sha256 = omega arith

-- its digits are few
pub short_digits : (id : ObjectId) → length (bytes_of id) ≡ byte_len (kind_of id) → length (encode_lower (bytes_of id)) ≤ 64
short_digits id len =
    let most = few (kind_of id) in
    let hex = length-encode_with lower_digits (bytes_of id) in
    omega arith

pub short_id : (hash : Kind) (id : ObjectId) → IsIdOf hash id → length (encode_lower (bytes_of id)) ≤ 64
short_id hash id is = short_digits id (is.len ∙ ap byte_len (sym is.same))
