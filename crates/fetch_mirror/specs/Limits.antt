-- What is too long where a server is mirrored, and that nothing is refused but for that.
use Rattle.std.specs.Prelude.{◌≡◌, ◌⊎◌, ℕ, ◌<◌, ◌≤◌, ⊤, List, [], ◌∷◌, map, true, false, codes, Some, slice_get, sum_by}
use Rattle.std.specs.FinSet as set
use Rattle.std.specs.List.{Contains}
use Rattle.fetch_base.specs.Faults.{Rose}
use Rattle.fetch_base.specs.declared.id.Kind.{Kind}
use Rattle.fetch_base.specs.declared.id.ObjectId.{ObjectId}
use Rattle.fetch_specs.specs.Prefixes.{prefixes_of}
use Rattle.fetch_specs.specs.declared.tags.Tags.TheVariants as tags
use Rattle.fetch_pack.specs.declared.version.PackVersion.TheVariants.{V2}
use Rattle.fetch_refs.specs.declared.log.Signature.{Signature}
use Rattle.fetch_lines.specs.Lines.{line_len}
use Rattle.fetch_lines.specs.Requests.{listing_lines}
use Rattle.fetch_lines.specs.declared.error.WireError.TheVariants.{ReplyTooLong}
use Rattle.fetch_lines.specs.declared.lines.line.Line.{Line}
use Rattle.fetch_negotiate.specs.Requests.{fetch_request}
use Rattle.fetch_negotiate.specs.declared.algorithm.Shallow.TheVariants.{NoChange}
use Rattle.fetch_conversation.specs.declared.ref_map.Error.{Error as ListError}
use Rattle.fetch_conversation.specs.declared.ref_map.Error.TheVariants.{Handshake}
use Rattle.fetch_remote.specs.Errors.{is_free, is_of_peer}
use Rattle.fetch_remote.specs.Form.{Given}
use Rattle.fetch_remote.specs.declared.fetching.fetch_error.FetchError.{FetchError}
use Rattle.fetch_asked.specs.declared.asked.Asked.TheVariants.{First, Listing, Fetch}
use Rattle.fetch_serve.specs.Peers.{ServedPeer, faults_of}
use Rattle.fetch_serve.specs.Replies.{is_too_large, objects_of, reply_lines}
use Rattle.fetch_serve.specs.Served.{Data}
use Rattle.fetch_asked.specs.Texts.{request_bound}
use Rattle.fetch_mirror.specs.declared.error.MirrorError.{MirrorError}
use Rattle.fetch_mirror.specs.declared.error.MirrorError.TheVariants as errors
use Rattle.fetch_mirror.specs.Born.{born_names, born_of}
use Rattle.fetch_mirror.specs.Copying.{fresh}
use Rattle.fetch_mirror.specs.Fetches.{AreNew, wanting_all}
use Rattle.fetch_mirror.specs.Listings.{greeting_of}
use Rattle.fetch_mirror.specs.Mirroring.{worker_options, worker_remote}
use Rattle.fetch_mirror.specs.Opening.{bare_setup}
use Rattle.fetch_mirror.specs.Shares.{AreOwnNames, as_itself, dealt_to}

-- ---- the listing

-- The server's greeting, or its listing of all references, has more bytes than a reply may have.
abbrev pub PassesListing : Data → ℕ → Type 0
PassesListing d bound = (bound < sum_by line_len (reply_lines d First)) ⊎ (bound < sum_by line_len (reply_lines d (Listing true [])))

-- The references of a server aren't listed where a reply is too long, and for no other cause.
pub record IsTooLong (d : Data) (bound : ℕ) (e : ListError) : Type 0 where
  pub is : e ≡ Handshake (ReplyTooLong bound)
  pub long : PassesListing d bound

-- Where the references aren't listed, it is so.
abbrev pub IsLimited : Data → ℕ → MirrorError → Type 0
IsLimited d bound (errors.List e) = IsTooLong d bound e
IsLimited d bound e = ⊤

-- ---- the workers

-- what a worker with this share is given
abbrev pub worker_given : Data → Signature → ℕ → List (List ℕ) → Given
worker_given d committer bound share = record {
  remote = worker_remote (map as_itself share);
  options = worker_options bound;
  setup = bare_setup d.hash committer;
}

-- the request for the references of a share
abbrev pub listing_for : Kind → List (List ℕ) → List Line
listing_for hash share = listing_lines (greeting_of hash) (codes "oxide-0.87.1") (prefixes_of (map as_itself share))

-- the request for a pack of these and all that they reach
abbrev pub request_for : Kind → List ObjectId → List Line
request_for hash wants = fetch_request (record {
  handshake = greeting_of hash;
  agent = codes "oxide-0.87.1";
  tags = tags.None;
  shallow = NoChange;
  border = set.empty;
  wants = wants;
}) [] true

-- some names that are born on a server, each once
pub record IsShare (d : Data) (share : List (List ℕ)) : Type 0 where
  pub own : AreOwnNames share
  pub born : (index : ℕ) (name : List ℕ) → slice_get share index ≡ Some name → (id : ObjectId) × Contains (born_of d) (name, id)
  pub first : List ℕ
  pub some : slice_get share 0 ≡ Some first

-- Ids that a worker with this share may want: each is that of one of its references, and comes once.
pub record MayBeWanted (d : Data) (share : List (List ℕ)) (wants : List ObjectId) : Type 0 where
  pub born : (id : ObjectId) → Contains wants id → (index : ℕ) × (name : List ℕ) × (slice_get share index ≡ Some name)
      × Contains (born_of d) (name, id)
  pub new : AreNew d.hash [] wants

-- A server reads the request for these, their pack isn't too large, and it is within the bound.
pub record IsPackWithin (d : Data) (bound : ℕ) (wants : List ObjectId) : Type 0 where
  pub request : sum_by line_len (request_for d.hash wants) ≤ request_bound
  pub pack : is_too_large V2 (objects_of d (wanting_all wants)) ≡ false
  pub reply : sum_by line_len (reply_lines d (Fetch (wanting_all wants))) ≤ bound

-- Nothing that passes between a server and a worker with this share is too long, whatever is stored already.
pub record IsWithin (d : Data) (bound : ℕ) (share : List (List ℕ)) : Type 0 where
  pub greeting : sum_by line_len (reply_lines d First) ≤ bound
  pub request : sum_by line_len (listing_for d.hash share) ≤ request_bound
  pub listing : sum_by line_len (reply_lines d (Listing true (prefixes_of (map as_itself share)))) ≤ bound
  pub packs : (id : ObjectId) (wants : List ObjectId) → MayBeWanted d share (id ∷ wants) → IsPackWithin d bound (id ∷ wants)

-- So it is of a mirror by so many workers: of its lister, and of each worker that has a share.
pub record AreWithin (d : Data) (workers bound : ℕ) : Type 0 where
  pub greeting : sum_by line_len (reply_lines d First) ≤ bound
  pub listing : sum_by line_len (reply_lines d (Listing true [])) ≤ bound
  pub shares : (worker : ℕ) → worker < workers → IsShare d (dealt_to workers worker (born_names d))
      → IsWithin d bound (dealt_to workers worker (born_names d))

-- A refusal that has no cause in what was said is the fault of this peer, a server that was fresh, whose count rose.
pub record IsPeersFault (d : Data) (peer : ServedPeer) (e : FetchError) : Type 0 where
  pub alone : is_free e ≡ true → is_of_peer e ≡ true
  pub rose : is_of_peer e ≡ true → Rose (faults_of (fresh d)) (faults_of peer)
