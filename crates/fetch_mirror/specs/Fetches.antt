-- What a worker of a mirror asks its server for.
use Rattle.std.specs.Prelude.{◌≡◌, ◌-◌, ⊤, true, false, List, [], ◌∷◌, ◌++◌, length, None, slice_get}
use Rattle.std.specs.Option.{option_or}
use Rattle.fetch_base.specs.declared.id.Kind.{Kind}
use Rattle.fetch_base.specs.declared.id.ObjectId.{ObjectId}
use Rattle.fetch_store.specs.Borders.{ids_of}
use Rattle.fetch_specs.specs.declared.tags.Tags.TheVariants as tags
use Rattle.fetch_pack.specs.declared.version.PackVersion.TheVariants.{V2}
use Rattle.fetch_replies.specs.Awaited.{step_of, start_of}
use Rattle.fetch_replies.specs.LinesTold.{Tells}
use Rattle.fetch_lines.specs.ServerLines.{IsIdOf}
use Rattle.fetch_lines.specs.Written.{first_too_long}
use Rattle.fetch_replies.specs.declared.replies.reply.ReplyKind.TheVariants as await
use Rattle.fetch_replies.specs.declared.replies.reply.ParsedReply.TheVariants as told
use Rattle.fetch_lines.specs.declared.requests.records.FetchReply.{FetchReply}
use Rattle.fetch_negotiate.specs.Requests.{Asked, fetch_request}
use Rattle.fetch_negotiate.specs.declared.algorithm.Algorithm.TheVariants as algorithms
use Rattle.fetch_negotiate.specs.declared.algorithm.Shallow.TheVariants.{NoChange}
use Rattle.fetch_conversation.specs.ConverseStage.{algorithm_in, lacking, no_mapping, other_hash, unfit}
use Rattle.fetch_conversation.specs.Exchange.{FetchArgumentsValue, asked_by, reply_to}
use Rattle.fetch_conversation.specs.ListStage.{is_nil}
use Rattle.fetch_conversation.specs.Rounds.{Negotiated}
use Rattle.fetch_asked.specs.declared.asked.Asked.TheVariants.{Fetch}
use Rattle.fetch_asked.specs.declared.asked.FetchAsked.{FetchAsked}
use Rattle.fetch_serve.specs.Replies.{reply_lines}
use Rattle.fetch_asked.specs.Requests.{has_id, is_greater, nothing_asked}
use Rattle.fetch_serve.specs.Served.{Data}
use Rattle.fetch_mirror.specs.Listings.{greeting_of}
use Rattle.fetch_mirror.specs.Settings.{IsRead}

-- Ids of this hash, each new behind these and the ones before it.
abbrev pub AreNew : Kind → List ObjectId → List ObjectId → Type 0
AreNew hash before [] = ⊤
AreNew hash before (id ∷ ids) = IsIdOf hash id × (has_id id before ≡ false) × AreNew hash (before ++ id ∷ []) ids

-- Ids of this hash, each greater than the one before it, behind these: so a border is told.
abbrev pub AreAbove : Kind → List ObjectId → List ObjectId → Type 0
AreAbove hash before [] = ⊤
AreAbove hash before (id ∷ ids) = IsIdOf hash id × (is_greater (slice_get before (length before - 1)) id ≡ true)
    × AreAbove hash (before ++ id ∷ []) ids

-- the request for these and all that they reach, behind a border: no tags, no haves, and done at once
abbrev pub wanting_behind : List ObjectId → List ObjectId → FetchAsked
wanting_behind border wants = record (nothing_asked V2) { border = border; wants = wants; done = true }

-- the same without a border
abbrev pub wanting_all : List ObjectId → FetchAsked
wanting_all wants = wanting_behind [] wants

-- The request of a worker, behind its server's greeting and this border: these are wanted, without tags and a change of the depth.
pub record IsWanting (hash : Kind) (a : Asked) (border : List ObjectId) (id : ObjectId) (wants : List ObjectId) : Type 0 where
  pub handshake : a.handshake ≡ greeting_of hash
  pub tags : a.tags ≡ tags.None
  pub shallow : a.shallow ≡ NoChange
  pub border_is : ids_of a.border ≡ border
  pub wanted : a.wants ≡ id ∷ wants

-- The second stage of a worker, behind a listing: nothing is refused before it, some ids are wanted, no haves are told, and the
-- server reads the request, whose reply tells this.
pub record IsFetching (d : Data) (t : FetchArgumentsValue) (border : List ObjectId) (id : ObjectId) (wants : List ObjectId)
    (reply : FetchReply) : Type 0 where
  pub accepted : option_or (no_mapping t) (option_or (other_hash t) (option_or (unfit t.settings) (lacking t))) ≡ None
  pub wanted : t.view.wants ≡ id ∷ wants
  pub noop : algorithm_in t.settings ≡ algorithms.Noop
  pub asked : IsWanting d.hash (asked_by t) border id wants
  pub above : AreAbove d.hash [] border
  pub new : AreNew d.hash [] (id ∷ wants)
  pub fits : first_too_long (fetch_request (asked_by t) [] true) ≡ None
  pub tells : Tells step_of (start_of (await.Reply (reply_to t [] true))) (reply_lines d (Fetch (wanting_behind border (id ∷ wants))))
      (told.Reply reply)
  pub whole : first_too_long (reply_lines d (Fetch (wanting_behind border (id ∷ wants)))) ≡ None

-- what the one round of it ends with
abbrev pub one_round : FetchReply → Negotiated
one_round reply = record { rounds = record { haves = []; acknowledged = reply.acknowledged; done = true } ∷ []; reply = reply }

-- What a worker asks by, behind its server's greeting: the settings of a mirror, some reference mapped, and no change of the depth.
pub record AreTerms (hash : Kind) (t : FetchArgumentsValue) : Type 0 where
  pub read : IsRead t.settings.config
  pub strict : t.settings.lenient ≡ false
  pub kind : t.settings.kind ≡ hash
  pub handshake : t.listed.handshake ≡ greeting_of hash
  pub mapped : is_nil t.listed.ref_map.mappings ≡ false
  pub shallow : t.shallow ≡ NoChange
