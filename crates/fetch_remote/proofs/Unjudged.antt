-- A conversation is never refused as judging is, nor as a taking is for a link that is missing, nor by the files.
use Rattle.std.proofs.Common.{◌≡◌, ℕ, zero, suc, Bool, true, false, not, List, [], ◌∷◌, ◌++◌, length, Option, Some, None, Result, Ok, Err, subst, inl, inr}
use Rattle.std.specs.Prelude.{◌&&◌, ◌||◌, ⊤, IfSome, if◌then◌else◌}
use Rattle.std.specs.FinMap as map
use Rattle.std.specs.Option.{option_or, option_map}
use Rattle.fetch_store.specs.Graph.{Graph, graph_of}
use Rattle.fetch_pack.specs.Reading.{Contents}
use Rattle.fetch_pack.specs.declared.error.PackError.{PackError}
use Rattle.fetch_pack.specs.declared.error.PackError.TheVariants as pack
use Rattle.fetch_base.specs.declared.id.Kind.{Kind}
use Rattle.fetch_base.specs.declared.id.Kind.TheVariants.{Sha1, Sha256}
use Rattle.fetch_negotiate.specs.Requests.{fetch_request}
use Rattle.fetch_negotiate.specs.declared.algorithm.Algorithm.{Algorithm}
use Rattle.fetch_conversation.specs.ReadSettings.{rejects_shallow_of, algorithm_of_config, threads_of}
use Rattle.fetch_conversation.specs.declared.settings.Settings.{Settings}
use Rattle.fetch_lines.specs.Greetings.{offers}
use Rattle.fetch_lines.specs.RequestWords.{plain_pack, plain_pack_2}
use Rattle.fetch_replies.specs.declared.replies.reply.ReplyKind.{ReplyKind}
use Rattle.fetch_replies.specs.declared.replies.reply.ReplyKind.TheVariants as awaits
use Rattle.fetch_lines.specs.declared.lines.line.Line.{Line}
use Rattle.fetch_base.specs.declared.id.ObjectId.{ObjectId}
use Rattle.fetch_replies.specs.Awaited.{told_at}
use Rattle.fetch_lines.specs.Talks.{Talk}
use Rattle.fetch_lines.specs.Written.{first_too_long}
use Rattle.fetch_replies.specs.declared.replies.reply.ReplyError.{ReplyError}
use Rattle.fetch_replies.specs.declared.replies.reply.ParsedReply.{ParsedReply}
use Rattle.fetch_replies.specs.declared.replies.reply.ParsedReply.TheVariants as told
use Rattle.fetch_lines.specs.declared.greetings.handshake.Handshake.{Handshake}
use Rattle.fetch_map.specs.declared.mapping.RefMap.{RefMap}
use Rattle.fetch_conversation.specs.Conversation.{Conversation, ends, asks, asks_unless, asking, and_then, after_reply, answer_in, IsRefusedBy}
use Rattle.fetch_conversation.specs.ConverseStage as converse
use Rattle.fetch_conversation.specs.ConverseStage.{converse_stage, wanting, fetching, algorithm_in, received, rejected, result_unless, unpacked, is_unmapped, unmapped, unlike, unread_as, unfit, lacks, lacked, lacking, no_mapping, other_hash}
use Rattle.fetch_conversation.specs.Exchange as exchanging
use Rattle.fetch_conversation.specs.Exchange.{FetchArgumentsValue, replied, exchange}
use Rattle.fetch_conversation.specs.Rounds.{RoundsStateValue, Negotiated, first_rounds_state, next_window, rounds_state_after, negotiating}
use Rattle.fetch_conversation.specs.Errors.{fetch_of_pack, is_free_receiving}
use Rattle.fetch_conversation.specs.ListStage.{ListedValue, unless}
use Rattle.fetch_conversation.specs.declared.fetch.Error.{Error}
use Rattle.fetch_conversation.specs.declared.fetch.Error.TheVariants as errors
use Rattle.fetch_remote.specs.Errors.{receiving}
use Rattle.fetch_remote.specs.Form.{Given}
use Rattle.fetch_remote.specs.Repositories.{State}
use Rattle.fetch_remote.specs.Stages.{bound_of, terms_in, pack_stage}
use Rattle.fetch_remote.specs.Conversed.{BreaksReceiving}
use Rattle.fetch_remote.specs.declared.fetching.fetch_error.FetchError.{FetchError}
use Rattle.fetch_remote.specs.declared.fetching.fetch_error.FetchError.TheVariants as fetch

-- no refusal of judging, of a link that is missing, or of the files
abbrev pub IsOther : Error → Type 0
IsOther (errors.UpdateRefs e) = ⊥
IsOther (errors.KeepFile path) = ⊥
IsOther (errors.RemovePackKeepFile path) = ⊥
IsOther (errors.Disconnected link) = ⊥
IsOther e = ⊤

-- None of its refusals is one of these.
unfoldable Spares : {X : Type 0} → Conversation X Error → Type 0
Spares (ends (Ok x)) = ⊤
Spares (ends (Err e)) = IsOther e
Spares (asks lines awaited failed next) = ((fault : ReplyError) → IsOther (failed fault)) × ((t : ParsedReply) → Spares (next t))

spared_after : {X : Type 0} (bound : ℕ) (failed : ReplyError → Error) (next : ParsedReply → Conversation X Error) (reading : Result (ParsedReply × List ℕ) ReplyError) (e : Error) → (IsOther e → ⊥) → ((fault : ReplyError) → IsOther (failed fault))
    → ((t : ParsedReply) (stream : List ℕ) → answer_in bound (next t) stream ≡ Err e → ⊥)
    → after_reply (λ fault. Err (failed fault)) (λ told rest. answer_in bound (next told) rest) reading ≡ Err e → ⊥
spared_after bound failed next (Ok y) e apart other again is = again y.0 y.1 is
spared_after {X} bound failed next (Err fault) e apart other again is = let h : failed fault ≡ e = cc in apart (subst IsOther h (other fault))

spared : {X : Type 0} (bound : ℕ) (c : Conversation X Error) (stream : List ℕ) (e : Error) → (IsOther e → ⊥) → Spares c → answer_in bound c stream ≡ Err e → ⊥
unfolding answer_in Spares
spared bound (ends (Ok y)) stream e apart h is = absurd (cc)
spared bound (ends (Err x)) stream e apart h is = let k : x ≡ e = cc in apart (subst IsOther k h)
spared bound (asks lines awaited failed next) stream e apart h is = spared_after bound failed next (told_at bound awaited stream) e apart h.0 (λ t s. spared bound (next t) s e apart (h.1 t)) is

spares_ok : {X : Type 0} (x : X) → Spares (ends (Ok x))
unfolding Spares
spares_ok x = tt

spares_err : (X : Type 0) (e : Error) → IsOther e → Spares {X = X} (ends (Err e))
unfolding Spares
spares_err X e h = h

spares_long : {X : Type 0} (o : Option ℕ) (long : ℕ → Error) (c : Conversation X Error) → ((n : ℕ) → IsOther (long n)) → Spares c → Spares (asks_unless o long c)
spares_long None long c other k = k
spares_long {X} (Some n) long c other k = spares_err X (long n) (other n)

spares_unless : {X : Type 0} (o : Option Error) (c : Conversation X Error) → IfSome o IsOther → Spares c → Spares (unless o c)
spares_unless None c h k = k
spares_unless {X} (Some e) c h k = spares_err X e h

other_or : (a b : Option Error) → IfSome a IsOther → IfSome b IsOther → IfSome (option_or a b) IsOther
other_or (Some e) b h k = h
other_or None b h k = k

other_unless : (b : Bool) (e : Error) → IsOther e → IfSome (if b then Some e else None) IsOther
other_unless true e h = h
other_unless false e h = tt

other_pack : (e : PackError) → IsOther (fetch_of_pack e)
other_pack (pack.Malformed place) = tt
other_pack (pack.PackDigest found computed) = tt
other_pack (pack.IdMismatch written computed) = tt
other_pack (pack.Collision id) = tt
other_pack pack.NoMemory = tt

spares_unpacked : (n : Negotiated) (r : Result Contents PackError) → Spares (ends (unpacked n r))
spares_unpacked n (Ok c) = spares_ok _
spares_unpacked n (Err e) = spares_err _ _ (other_pack e)

spares_dry : {X : Type 0} (dry : Bool) (x : X) (r : Result X Error) → Spares (ends r) → Spares (ends (if dry then Ok x else r))
spares_dry true x r h = spares_ok x
spares_dry false x r h = h

spares_result : {X : Type 0} (o : Option Error) (r : Result X Error) → IfSome o IsOther → Spares (ends r) → Spares (ends (result_unless o r))
spares_result None r h k = k
spares_result {X} (Some e) r h k = spares_err X e h

other_outside : (o : Option ObjectId) → IfSome (option_map (λ id. errors.RejectShallowRemote id) o) IsOther
other_outside None = tt
other_outside (Some id) = tt

other_when : (b : Bool) (o : Option Error) → IfSome o IsOther → IfSome (if b then o else None) IsOther
other_when true o h = h
other_when false o h = tt

other_rejected : (t : FetchArgumentsValue) (n : Negotiated) → IfSome (rejected t.settings t.view t.shallow n.reply) IsOther
other_rejected t n =
    other_when (converse.is_rejecting (rejects_shallow_of t.settings.config) && converse.is_no_change t.shallow) (option_map (λ (id : ObjectId). errors.RejectShallowRemote id) (converse.first_outside t.view.border n.reply.shallow))
    (other_outside (converse.first_outside t.view.border n.reply.shallow))

spares_received : (t : FetchArgumentsValue) (n : Negotiated) → Spares (ends (received t n))
unfolding received
spares_received t n = spares_result (rejected t.settings t.view t.shallow n.reply) _ (other_rejected t n) (spares_dry t.dry_run _ _ (spares_unpacked n _))

spares_replied : (x : ParsedReply) → Spares (replied x)
spares_replied (told.Reply reply) = spares_ok reply
spares_replied (told.Greeting h) = spares_err _ _ tt
spares_replied (told.Advertisement h refs) = spares_err _ _ tt
spares_replied (told.Listing refs) = spares_err _ _ tt

spares_then : {X Y : Type 0} (c : Conversation X Error) (f : X → Conversation Y Error) → Spares c → ((x : X) → Spares (f x)) → Spares (and_then c f)
unfolding and_then Spares
spares_then (ends (Ok x)) f h k = k x
spares_then (ends (Err e)) f h k = h
spares_then (asks lines awaited failed next) f h k = (h.0, λ t. spares_then (next t) f (h.1 t) k)

spares_asks : {X : Type 0} (lines : List Line) (awaited : ReplyKind) (failed : ReplyError → Error) (next : ParsedReply → Conversation X Error) → ((fault : ReplyError) → IsOther (failed fault)) → ((t : ParsedReply) → Spares (next t)) → Spares (asks lines awaited failed next)
unfolding Spares
spares_asks lines awaited failed next h k = (h, k)

spares_asking : {X : Type 0} (long : ℕ → Error) (lines : List Line) (awaited : ReplyKind) (failed : ReplyError → Error) (next : ParsedReply → Conversation X Error) → ((n : ℕ) → IsOther (long n)) → ((fault : ReplyError) → IsOther (failed fault)) → ((t : ParsedReply) → Spares (next t))
    → Spares (asking long lines awaited failed next)
spares_asking long lines awaited failed next a h k = spares_long (first_too_long lines) long (asks lines awaited failed next) a (spares_asks lines awaited failed next h k)

spares_exchange : (bound : ℕ) (t : FetchArgumentsValue) (haves : List ObjectId) (done : Bool) → Spares (exchange bound t haves done)
unfolding exchange
spares_exchange bound t haves done =
    spares_asking exchanging.too_long (fetch_request (exchanging.asked_by t) haves done) (awaits.Reply (exchanging.reply_to t haves done)) (exchanging.failed bound) (λ x. replied x) (λ n. tt) (λ fault. tt) (λ x. spares_replied x)

spares_either : {X : Type 0} (b : Bool) (c d : Conversation X Error) → Spares c → Spares d → Spares (if b then c else d)
spares_either true c d h k = h
spares_either false c d h k = k

spares_negotiating : (more bound : ℕ) (t : FetchArgumentsValue) (g : Graph) (algorithm : Algorithm) (c : RoundsStateValue) → Spares (negotiating more bound t g algorithm c)
unfolding negotiating
spares_negotiating zero bound t g algorithm c = spares_err _ _ tt
spares_negotiating (suc more) bound t g algorithm c =
    spares_then _ _ (spares_exchange bound t _ _) (λ reply. spares_either _ _ _ (spares_ok _) (spares_negotiating more bound t g algorithm (rounds_state_after algorithm c (next_window g algorithm c) reply)))

spares_fetching : (bound : ℕ) (g : Graph) (t : FetchArgumentsValue) → Spares (fetching bound g t)
unfolding fetching
spares_fetching bound g t = spares_then _ _ (spares_negotiating (suc (map.len g)) bound t g (algorithm_in t.settings) (first_rounds_state (algorithm_in t.settings) t.view)) (λ n. spares_received t n)

spares_wanting : (bound : ℕ) (g : Graph) (t : FetchArgumentsValue) (wants : List ObjectId) → Spares (wanting bound g t wants)
spares_wanting bound g t [] = spares_ok _
spares_wanting bound g t (id ∷ ids) = spares_fetching bound g t

other_unmapped : (m : RefMap) → IfSome (unmapped m) IsOther
other_unmapped m = other_unless (is_unmapped m) (errors.NoMapping (converse.specs_of m) (length m.remote_refs)) tt

other_unlike : (a b : Kind) → IfSome (unlike a b) IsOther
other_unlike Sha1 Sha1 = tt
other_unlike Sha1 Sha256 = tt
other_unlike Sha256 Sha1 = tt
other_unlike Sha256 Sha256 = tt

lacks_other : (a b c : Bool) (x y z : List ℕ) → IfSome (option_or (lacks a x) (option_or (lacks b y) (lacks c z))) IsOther
lacks_other false b c x y z = tt
lacks_other true false c x y z = tt
lacks_other true true false x y z = tt
lacks_other true true true x y z = tt

other_lacked : (h : Handshake) (border : Bool) → IfSome (lacked h border) IsOther
other_lacked h border =
    lacks_other (offers converse.fetch_feature (converse.offered h)) (converse.fetches plain_pack h || converse.fetches plain_pack_2 h) (not border || converse.fetches converse.shallow_feature h) converse.fetch_feature plain_pack converse.shallow_feature

other_unread : {X : Type 0} (refusal : List ℕ → Error) (r : Result X (List ℕ)) → ((value : List ℕ) → IsOther (refusal value)) → IfSome (unread_as refusal r) IsOther
other_unread refusal (Ok x) h = tt
other_unread refusal (Err value) h = h value

other_unfit : (s : Settings) → IfSome (unfit s) IsOther
other_unfit s =
    let threads = unread_as errors.PackThreads (threads_of s.config s.lenient) in
    let algorithm = unread_as errors.NegotiationAlgorithmConfig (algorithm_of_config s.config s.lenient) in
    let shallow = unread_as errors.RejectShallowRemoteConfig (rejects_shallow_of s.config) in
    other_or shallow (option_or algorithm threads) (other_unread errors.RejectShallowRemoteConfig (rejects_shallow_of s.config) (λ value. tt))
    (other_or algorithm threads (other_unread errors.NegotiationAlgorithmConfig (algorithm_of_config s.config s.lenient) (λ value. tt)) (other_unread errors.PackThreads (threads_of s.config s.lenient) (λ value. tt)))

spares_converse : (bound : ℕ) (g : Graph) (t : FetchArgumentsValue) → Spares (converse_stage bound g t)
unfolding converse_stage
spares_converse bound g t =
    spares_unless (option_or (no_mapping t) (option_or (other_hash t) (option_or (unfit t.settings) (lacking t)))) (wanting bound g t t.view.wants)
    (other_or (no_mapping t) (option_or (other_hash t) (option_or (unfit t.settings) (lacking t))) (other_unmapped t.listed.ref_map)
    (other_or (other_hash t) (option_or (unfit t.settings) (lacking t)) (other_unlike t.settings.kind t.listed.handshake.object_hash)
    (other_or (unfit t.settings) (lacking t) (other_unfit t.settings) (other_lacked t.listed.handshake (converse.needs_shallow t)))))
    (spares_wanting bound g t t.view.wants)

-- ---- the whole

pub refusal_is : (e x : Error) → receiving e ≡ fetch.Receive x → e ≡ x
refusal_is (errors.UpdateRefs e) x is = cc
refusal_is (errors.NoMapping specs count) x is = cc
refusal_is (errors.IncompatibleObjectHash local remote) x is = cc
refusal_is (errors.Disconnected link) x is = cc
refusal_is (errors.RejectShallowRemoteConfig value) x is = cc
refusal_is (errors.NegotiationAlgorithmConfig value) x is = cc
refusal_is (errors.PackThreads value) x is = cc
refusal_is (errors.Fetch e) x is = cc
refusal_is (errors.RejectShallowRemote id) x is = cc
refusal_is (errors.Pack e) x is = cc
refusal_is (errors.Collision id) x is = cc
refusal_is (errors.KeepFile path) x is = cc
refusal_is (errors.RemovePackKeepFile path) x is = cc
refusal_is errors.Client x is = cc
refusal_is errors.Interrupted x is = cc
refusal_is errors.NoMemory x is = absurd (cc)

pub refused_as : (now : Option Talk) (g : Given) (s : State) (l : ListedValue) (stream heard : List ℕ) (x : Error) → (IsOther x → ⊥) → IsRefusedBy (bound_of g) now (pack_stage g s l) stream heard x → ⊥
refused_as now g s l stream heard x apart (inl all) = spared (bound_of g) (pack_stage g s l) (stream ++ []) x apart (spares_converse (bound_of g) (graph_of s.objects) (terms_in g s l)) (all []).answer
refused_as now g s l stream heard x apart (inr last) = spared (bound_of g) (pack_stage g s l) stream x apart (spares_converse (bound_of g) (graph_of s.objects) (terms_in g s l)) last.1.answer

-- the second stage breaks off by no refusal of judging or of the files
pub receives_no_other : (answers : Bool) (old new : Option Talk) (g : Given) (s : State) (e : FetchError) (h : BreaksReceiving answers old new g s e) (x : Error) → (IsOther x → ⊥) → is_free_receiving x ≡ false → receiving h.cause ≡ fetch.Receive x → ⊥
receives_no_other answers old new g s e h x apart sure is =
    let cause = refusal_is h.cause x is in
    let b = rw cause at h.broke in
    refused_as new g s h.listed _ _ x apart (b.why sure)
