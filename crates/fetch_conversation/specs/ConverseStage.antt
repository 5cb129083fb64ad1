-- The second stage of a fetch: a pack is asked for and read.
use Rattle.std.specs.Prelude.{ℕ, suc, Bool, true, false, not, ◌&&◌, ◌||◌, ◌==◌, List, [], ◌∷◌, ◌++◌, length, find, Option, Some, None}
use Rattle.std.specs.Prelude.{Result, Ok, Err, codes, unwrap_or, if◌then◌else◌}
use Rattle.std.specs.FinMap as map
use Rattle.std.specs.FinSet as set
use Rattle.std.specs.List.{list_any}
use Rattle.std.specs.Option.{option_or, option_map}
use Rattle.fetch_pack.specs.Reading.{Contents, read}
use Rattle.fetch_pack.specs.declared.error.PackError.{PackError}
use Rattle.fetch_store.specs.Borders.{IdSet, ids_of}
use Rattle.fetch_store.specs.Graph.{Graph}
use Rattle.fetch_base.specs.declared.id.Kind.{Kind}
use Rattle.fetch_base.specs.declared.id.Kind.TheVariants.{Sha1, Sha256}
use Rattle.fetch_base.specs.declared.id.ObjectId.{ObjectId}
use Rattle.fetch_specs.specs.Specs.{Spec}
use Rattle.fetch_specs.specs.declared.operation.Mode.{Mode}
use Rattle.fetch_specs.specs.declared.operation.Mode.TheVariants as modes
use Rattle.fetch_lines.specs.Greetings.{offers, has_word, value_of}
use Rattle.fetch_lines.specs.RequestWords.{plain_pack, plain_pack_2}
use Rattle.fetch_lines.specs.declared.error.WireError.TheVariants as wire
use Rattle.fetch_lines.specs.declared.greetings.handshake.Capability.{Capability}
use Rattle.fetch_lines.specs.declared.greetings.handshake.Handshake.{Handshake}
use Rattle.fetch_lines.specs.declared.greetings.handshake.Version.{Version}
use Rattle.fetch_lines.specs.declared.greetings.handshake.Version.TheVariants as versions
use Rattle.fetch_map.specs.declared.mapping.RefMap.{RefMap}
use Rattle.fetch_lines.specs.declared.requests.records.FetchReply.{FetchReply}
use Rattle.fetch_negotiate.specs.declared.algorithm.Algorithm.{Algorithm}
use Rattle.fetch_negotiate.specs.declared.algorithm.Algorithm.TheVariants as algorithms
use Rattle.fetch_negotiate.specs.declared.algorithm.Shallow.{Shallow}
use Rattle.fetch_negotiate.specs.declared.algorithm.Shallow.TheVariants as depth
use Rattle.fetch_conversation.specs.Conversation.{Conversation, ends, and_then}
use Rattle.fetch_conversation.specs.Errors.{fetch_of_pack}
use Rattle.fetch_conversation.specs.Exchange.{FetchArgumentsValue}
use Rattle.fetch_conversation.specs.ListStage.{is_nil, unless}
use Rattle.fetch_conversation.specs.ReadSettings.{rejects_shallow_of, algorithm_of_config, threads_of}
use Rattle.fetch_conversation.specs.Rounds.{Negotiated, first_rounds_state, negotiating}
use Rattle.fetch_conversation.specs.declared.conversing.Received.{Received}
use Rattle.fetch_conversation.specs.declared.conversing.View.{View}
use Rattle.fetch_conversation.specs.declared.settings.Settings.{Settings}
use Rattle.fetch_conversation.specs.declared.fetch.Error.{Error}
use Rattle.fetch_conversation.specs.declared.fetch.Error.TheVariants as errors

-- ---- refusals before anything is sent, also where nothing is wanted

-- whether a refspec is no exclusion
abbrev pub is_positive : Mode → Bool
is_positive modes.Normal = true
is_positive modes.Force = true
is_positive modes.Exclusion = false

-- whether a source has a star
abbrev pub has_star : Option (List ℕ) → Bool
has_star None = false
has_star (Some text) = list_any (λ b. b == 42) text

-- a refspec that takes what it names, and names it without a star
abbrev pub names_one : Spec → Bool
names_one spec = is_positive spec.mode && not (has_star spec.source)

-- the remote's refspecs and then the extra ones
abbrev pub specs_of : RefMap → List Spec
specs_of m = m.refspecs ++ m.extra_refspecs

-- References are advertised, none of them is mapped, and some refspec names one.
abbrev pub is_unmapped : RefMap → Bool
is_unmapped m = is_nil m.mappings && not (is_nil m.remote_refs) && list_any names_one (specs_of m)

-- nothing is mapped that a refspec names
abbrev pub unmapped : RefMap → Option Error
unmapped m = if is_unmapped m then Some (errors.NoMapping (specs_of m) (length m.remote_refs)) else None

-- the same, of what was listed
abbrev pub no_mapping : FetchArgumentsValue → Option Error
no_mapping t = unmapped t.listed.ref_map

-- whether two hashes are one
abbrev pub is_same_kind : Kind → Kind → Bool
is_same_kind Sha1 Sha1 = true
is_same_kind Sha1 Sha256 = false
is_same_kind Sha256 Sha1 = false
is_same_kind Sha256 Sha256 = true

-- the server's hash is another
abbrev pub unlike : Kind → Kind → Option Error
unlike local remote = if is_same_kind local remote then None else Some (errors.IncompatibleObjectHash local remote)

-- the same, of what was listed
abbrev pub other_hash : FetchArgumentsValue → Option Error
other_hash t = unlike t.settings.kind t.listed.handshake.object_hash

-- a setting that can't be read, told so
abbrev pub unread_as : {X : Type 0} → (List ℕ → Error) → Result X (List ℕ) → Option Error
unread_as refusal (Ok x) = None
unread_as refusal (Err value) = Some (refusal value)

-- the first of the settings that can't be read
abbrev pub unfit : Settings → Option Error
unfit s =
    option_or (unread_as errors.RejectShallowRemoteConfig (rejects_shallow_of s.config)) (
    option_or (unread_as errors.NegotiationAlgorithmConfig (algorithm_of_config s.config s.lenient))
    (unread_as errors.PackThreads (threads_of s.config s.lenient)))

-- the capability of a fetch
unfoldable pub fetch_feature : List ℕ
fetch_feature = codes "fetch"

-- the feature of a border and of depths
unfoldable pub shallow_feature : List ℕ
shallow_feature = codes "shallow"

-- what a server offers for a fetch; one of version 1 offers nothing
abbrev pub offered_in : Version → List Capability → List Capability
offered_in versions.V1 capabilities = []
offered_in versions.V2 capabilities = capabilities

-- what a greeting of version 2 offers
abbrev pub offered : Handshake → List Capability
offered h = offered_in h.version h.capabilities

-- whether a word stands among those of `fetch=`
abbrev pub fetches : List ℕ → Handshake → Bool
fetches word h = has_word word (value_of fetch_feature (offered h))

-- whether the depth isn't to change
abbrev pub is_no_change : Shallow → Bool
is_no_change depth.NoChange = true
is_no_change (depth.DepthAtRemote n) = false
is_no_change (depth.Deepen n) = false
is_no_change (depth.Since cutoff) = false
is_no_change (depth.Exclude names cutoff) = false

-- whether the server has to know of a border: one is told, or the depth is to change
abbrev pub is_border_needed : IdSet → Shallow → Bool
is_border_needed border shallow = not (is_nil (ids_of border)) || not (is_no_change shallow)

-- whether a border or a depth is to be sent
abbrev pub needs_shallow : FetchArgumentsValue → Bool
needs_shallow t = is_border_needed t.view.border t.shallow

-- a feature that isn't offered
abbrev pub lacks : Bool → List ℕ → Option Error
lacks offered name = if offered then None else Some (errors.Fetch (wire.MissingFeature name))

-- the first of fetching, plain packs of either version and, where it is needed, the border that isn't offered
abbrev pub lacked : Handshake → Bool → Option Error
lacked h border_needed =
    option_or (lacks (offers fetch_feature (offered h)) fetch_feature) (
    option_or (lacks (fetches plain_pack h || fetches plain_pack_2 h) plain_pack)
    (lacks (not border_needed || fetches shallow_feature h) shallow_feature))

-- the first feature that the server lacks
abbrev pub lacking : FetchArgumentsValue → Option Error
lacking t = lacked t.listed.handshake (needs_shallow t)

-- ---- what the rounds bring

-- the pack beside the rounds, where it holds this
abbrev pub with_pack : Negotiated → Contents → Received
with_pack n c = record {
  negotiate = record { rounds = n.rounds };
  objects = c.objects;
  shallow = n.reply.shallow;
  unshallow = n.reply.unshallow;
  pack = Some (c.count, c.digest);
}

-- the same where no pack is read
abbrev pub without_pack : Negotiated → Received
without_pack n = record {
  negotiate = record { rounds = n.rounds };
  objects = [];
  shallow = n.reply.shallow;
  unshallow = n.reply.unshallow;
  pack = None;
}

-- what a pack brings, or why it can't be read
abbrev pub unpacked : Negotiated → Result Contents PackError → Result (Option Received) Error
unpacked n (Ok c) = Ok (Some (with_pack n c))
unpacked n (Err e) = Err (fetch_of_pack e)

-- whether a server with a border of its own is refused
abbrev pub is_rejecting : Result Bool (List ℕ) → Bool
is_rejecting (Ok rejects) = rejects
is_rejecting (Err value) = false

-- the first commit of a border that isn't in this one
abbrev pub first_outside : IdSet → List ObjectId → Option ObjectId
first_outside border shallow = find (λ id. not (set.contains border id)) shallow

-- A server whose history is cut off where that of the request isn't is refused, where the settings say so and the depth
-- isn't to change.
abbrev pub rejected : Settings → View → Shallow → FetchReply → Option Error
rejected settings view shallow reply =
    if is_rejecting (rejects_shallow_of settings.config) && is_no_change shallow
    then option_map (λ id. errors.RejectShallowRemote id) (first_outside view.border reply.shallow) else None

-- this refusal, where there is one
abbrev pub result_unless : {X E : Type 0} → Option E → Result X E → Result X E
result_unless None r = r
result_unless (Some e) r = Err e

-- what is read of the last reply: in a dry run no pack
abbrev pub read_of : Kind → Bool → Negotiated → Result (Option Received) Error
read_of kind dry_run n = if dry_run then Ok (Some (without_pack n)) else unpacked n (read kind (unwrap_or n.reply.pack []))

-- what the rounds bring; a border that is refused comes before the pack
unfoldable pub received : FetchArgumentsValue → Negotiated → Result (Option Received) Error
received t n = result_unless (rejected t.settings t.view t.shallow n.reply) (read_of t.listed.handshake.object_hash t.dry_run n)

-- ---- the conversation

-- how commits are chosen; a setting that can't be read is refused before
abbrev pub algorithm_told : Result Algorithm (List ℕ) → Algorithm
algorithm_told (Ok algorithm) = algorithm
algorithm_told (Err value) = algorithms.Consecutive

-- the algorithm of the settings
abbrev pub algorithm_in : Settings → Algorithm
algorithm_in s = algorithm_told (algorithm_of_config s.config s.lenient)

-- the rounds, and what they bring
unfoldable pub fetching : ℕ → Graph → FetchArgumentsValue → Conversation (Option Received) Error
fetching bound g t =
    let algorithm : Algorithm = algorithm_in t.settings in
    and_then (negotiating (suc (map.len g)) bound t g algorithm (first_rounds_state algorithm t.view)) (λ n. ends (received t n))

-- nothing is asked for where nothing is wanted
abbrev pub wanting : ℕ → Graph → FetchArgumentsValue → List ObjectId → Conversation (Option Received) Error
wanting bound g t [] = ends (Ok None)
wanting bound g t (id ∷ ids) = fetching bound g t

-- the whole stage, over the objects that are stored
unfoldable pub converse_stage : ℕ → Graph → FetchArgumentsValue → Conversation (Option Received) Error
converse_stage bound g t = unless (option_or (no_mapping t) (option_or (other_hash t) (option_or (unfit t.settings) (lacking t))))
    (wanting bound g t t.view.wants)
