-- Why a text isn't read, in the words of the format.
use Rattle.std.specs.Prelude.{◌≡◌, ◌≢◌, ℕ, ◌+◌, ◌<◌, ◌^◌, List, ◌∷◌, ◌++◌, length, sum_by, Some}
use Rattle.std.specs.List.{flat_map, AllByRecursion}
use Rattle.std.specs.FinMap as finmap
use Rattle.fetch_base.specs.declared.id.Kind.{Kind}
use Rattle.fetch_base.specs.declared.id.ObjectId.{ObjectId}
use Rattle.fetch_base.specs.Id.{byte_len, bytes_of, kind_of}
use Rattle.fetch_base.specs.Hashing.{digest, id_of}
use Rattle.fetch_objects.specs.Objects.{IsObject}
use Rattle.fetch_store.specs.Stores.{collision}
use Rattle.fetch_pack.specs.declared.error.PackError.{PackError}
use Rattle.fetch_pack.specs.declared.error.PackError.TheVariants.{Malformed, PackDigest, IdMismatch, Collision, NoMemory}
use Rattle.fetch_pack.specs.declared.version.PackVersion.{PackVersion}
use Rattle.fetch_pack.specs.declared.version.PackVersion.TheVariants.{V2}
use Rattle.fetch_pack.specs.Records.{Payload, Written, Fits, IsRecord, AreRecords, mark, version_text, record_text, head_of, body_of}
use Rattle.fetch_pack.specs.Records.{text_of, under_their_ids, pack_text}
use Rattle.fetch_pack.specs.Reading.{record_len}
use Rattle.fetch_pack.specs.Packs.{entries}

-- No record stands at the front.
abbrev pub StartsNoRecord : PackVersion → Kind → List ℕ → Type 0
StartsNoRecord v hash bytes = (w : Written) (rest : List ℕ) → IsRecord v hash w → bytes ≢ record_text v w ++ rest

-- After the count stand these whole records, and the rest is at a place.
pub record StopsAfter (v : PackVersion) (hash : Kind) (bytes : List ℕ) (place count : ℕ) (ws : List Written) (rest : List ℕ) : Type 0 where
  pub text : bytes ≡ head_of v count ++ flat_map (record_text v) ws ++ rest
  pub counted : count < 2 ^ 32
  pub each : AllByRecursion (IsRecord v hash) ws
  pub there : place + length rest ≡ length bytes

-- Structure and digest are right, the payloads before one are objects, and it is none.
pub record HasNoObject (v : PackVersion) (hash : Kind) (bytes : List ℕ) (place : ℕ) (before : List Written) (w : Written)
    (after : List Written) : Type 0 where
  pub text : bytes ≡ text_of v hash (before ++ w ∷ after)
  pub fits : AreRecords v hash (before ++ w ∷ after)
  pub objects : AllByRecursion (λ x. IsObject hash x.payload.kind x.payload.bytes) before
  pub none : ¬ (IsObject hash w.payload.kind w.payload.bytes)
  pub there : place ≡ 12 + sum_by (record_len v) before

-- What is wrong at a place.
pub data IsMalformed (hash : Kind) (bytes : List ℕ) (place : ℕ) : Type 0 where
  -- The mark is missing.
  no_mark : place ≡ 0 → ((rest : List ℕ) → bytes ≢ mark ++ rest) → IsMalformed hash bytes place
  -- The version is another, or missing.
  no_version : place ≡ 4 → (rest : List ℕ) → bytes ≡ mark ++ rest → ((v : PackVersion) (more : List ℕ) → rest ≢ version_text v ++ more)
      → IsMalformed hash bytes place
  -- The count is cut off.
  no_count : place ≡ 8 → (v : PackVersion) (rest : List ℕ) → bytes ≡ mark ++ version_text v ++ rest → length rest < 4
      → IsMalformed hash bytes place
  -- A record is cut off, too long, or of no kind.
  no_record : (v : PackVersion) (count : ℕ) (ws : List Written) (rest : List ℕ) → StopsAfter v hash bytes place count ws rest
      → length ws < count → StartsNoRecord v hash rest → IsMalformed hash bytes place
  -- What stands after the records is shorter or longer than a digest.
  no_digest : (v : PackVersion) (count : ℕ) (ws : List Written) (rest : List ℕ) → StopsAfter v hash bytes place count ws rest
      → length ws ≡ count → length rest ≢ byte_len hash → IsMalformed hash bytes place
  -- A payload breaks the grammar of its kind.
  no_object : (v : PackVersion) (before : List Written) (w : Written) (after : List Written) → HasNoObject v hash bytes place before w after
      → IsMalformed hash bytes place

-- The structure is right, and the digest is another one of the same hash.
pub record HasOtherDigest (v : PackVersion) (hash : Kind) (bytes : List ℕ) (found computed : ObjectId) (ws : List Written) : Type 0 where
  pub text : bytes ≡ body_of v ws ++ bytes_of found
  pub fits : AreRecords v hash ws
  pub kind : kind_of found ≡ hash
  pub whole : length (bytes_of found) ≡ byte_len hash
  pub computes : computed ≡ digest hash (body_of v ws)
  pub other : found ≢ computed

-- Structure and digest are right and all payloads are objects. Each of those before one stands after its own id, and that one after another
-- id of the same hash.
pub record HasOtherId (hash : Kind) (bytes : List ℕ) (written computed : ObjectId) (before : List Payload) (p : Payload)
    (after : List Written) : Type 0 where
  pub text : bytes ≡ text_of V2 hash (under_their_ids V2 hash before ++ record { id = bytes_of written; payload = p } ∷ after)
  pub fits : AreRecords V2 hash (under_their_ids V2 hash before ++ record { id = bytes_of written; payload = p } ∷ after)
  pub objects : AllByRecursion (λ x. IsObject hash x.payload.kind x.payload.bytes) (under_their_ids V2 hash before
      ++ record { id = bytes_of written; payload = p } ∷ after)
  pub kind : kind_of written ≡ hash
  pub computes : computed ≡ id_of hash p.kind p.bytes
  pub other : written ≢ computed

-- The text is that of objects two of which have one id and differ.
pub record HasCollision (v : PackVersion) (hash : Kind) (bytes : List ℕ) (id : ObjectId) (ps : List Payload) : Type 0 where
  pub text : bytes ≡ pack_text v hash ps
  pub fits : Fits v ps
  pub objects : AllByRecursion (λ p. IsObject hash p.kind p.bytes) ps
  pub first : collision finmap.empty (entries hash ps) ≡ Some id

-- why a text is refused, by each error
abbrev pub IsRefused : Kind → List ℕ → PackError → Type 0
IsRefused hash bytes (Malformed place) = IsMalformed hash bytes place
IsRefused hash bytes (PackDigest found computed) = (v : PackVersion) × (ws : List Written) × HasOtherDigest v hash bytes found computed ws
IsRefused hash bytes (IdMismatch written computed) = (before : List Payload) × (p : Payload) × (after : List Written)
    × HasOtherId hash bytes written computed before p after
IsRefused hash bytes (Collision id) = (v : PackVersion) × (ps : List Payload) × HasCollision v hash bytes id ps
IsRefused hash bytes NoMemory = Unit {0}
