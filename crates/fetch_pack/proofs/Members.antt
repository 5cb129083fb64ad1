-- What holds of the objects that a pack gives.
use Rattle.std.proofs.Common.{◌≡◌, ℕ, List, [], ◌∷◌, Result, Ok, Err, IfOk, refl, sym, subst, arith}
use Rattle.fetch_base.specs.declared.id.Kind.{Kind}
use Rattle.fetch_base.specs.declared.id.Kind.TheVariants as kinds
use Rattle.fetch_base.specs.Id.{kind_of}
use Rattle.fetch_base.specs.Hashing.{digest, id_of}
use Rattle.fetch_store.specs.Stores.{AreOf}
use Rattle.fetch_pack.specs.declared.error.PackError.{PackError}
use Rattle.fetch_pack.specs.declared.reading.Pack.{Pack}
use Rattle.fetch_pack.specs.declared.version.PackVersion.{PackVersion}
use Rattle.fetch_pack.specs.Records.{Payload}
use Rattle.fetch_pack.specs.Reading.{Contents, once_from}
use Rattle.fetch_pack.specs.Views.{contents}
use Rattle.fetch_pack.specs.Packs.{entries, IsPack, contents_of}
use Rattle.fetch_store.specs.Collisions.{HasDistinctIds}
use Rattle.fetch_pack.specs.Once.{AreNamed}
use Rattle.fetch_pack.proofs.Once.{once-each, once-distinct}

-- What holds of the contents of every list of payloads holds of what was read.
pub of_contents : (hash : Kind) (bytes : List ℕ) (P : Contents → Type 0) (r : Result Pack PackError) → ((v : PackVersion) (ps : List Payload) → P (contents_of v hash ps))
    → IfOk r (λ p. (v : PackVersion) × (ps : List Payload) × IsPack v hash bytes ps × (contents p ≡ contents_of v hash ps)) → IfOk r (λ p. P (contents p))
of_contents hash bytes P (Ok p) all (v, ps, is, same) = subst P (sym same) (all v ps)
of_contents hash bytes P (Err e) all found = tt

kind-digest : (hash : Kind) (message : List ℕ) → kind_of (digest hash message) ≡ hash
kind-digest kinds.Sha1 message = refl
kind-digest kinds.Sha256 message = refl

entries-of_kind : (hash : Kind) (ps : List Payload) → AreOf hash (entries hash ps)
entries-of_kind hash [] = tt
entries-of_kind hash (p ∷ ps) = ((kind-digest hash _, refl), entries-of_kind hash ps)

entries-named : (hash : Kind) (ps : List Payload) → AreNamed (entries hash ps)
entries-named hash [] = tt
entries-named hash (p ∷ ps) = (refl, entries-named hash ps)

pub once_of_kind : (hash : Kind) (ps : List Payload) → AreOf hash (once_from [] (entries hash ps))
once_of_kind hash ps = once-each (λ o. (kind_of o.0 ≡ hash) × (o.1.hash ≡ hash)) [] (entries hash ps) tt (entries-of_kind hash ps)

pub once_named : (hash : Kind) (ps : List Payload) → AreNamed (once_from [] (entries hash ps))
once_named hash ps = once-each (λ o. o.0 ≡ id_of o.1.hash o.1.kind o.1.bytes) [] (entries hash ps) tt (entries-named hash ps)

pub once_distinct : (hash : Kind) (ps : List Payload) → HasDistinctIds (once_from [] (entries hash ps))
once_distinct hash ps = once-distinct [] (entries hash ps) (λ i j d lt below. absurd (omega arith))
