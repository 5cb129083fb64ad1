-- What the answers of the two stages tell.
use Rattle.std.proofs.Common.{◌≡◌, ℕ, Bool, true, false, List, [], ◌∷◌, map, Option, Some, None, Result, Ok, Err, refl, ap}
use Rattle.std.specs.Prelude.{⊤, if◌then◌else◌}
use Rattle.std.specs.Option.{option_or}
use Rattle.fetch_store.specs.Graph.{Graph}
use Rattle.fetch_base.specs.declared.id.Kind.{Kind}
use Rattle.fetch_base.specs.declared.id.Kind.TheVariants.{Sha1, Sha256}
use Rattle.fetch_base.specs.declared.id.ObjectId.{ObjectId}
use Rattle.fetch_specs.specs.Conflicts.{conflicts_of}
use Rattle.fetch_specs.specs.Matches.{mappings_of}
use Rattle.fetch_specs.specs.declared.conflict.Conflict.{Conflict}
use Rattle.fetch_replies.specs.Awaited.{told_at}
use Rattle.fetch_lines.specs.Requests.{first_line}
use Rattle.fetch_lines.specs.Written.{first_too_long}
use Rattle.fetch_replies.specs.declared.replies.reply.ReplyKind.{ReplyKind}
use Rattle.fetch_replies.specs.declared.replies.reply.ReplyKind.TheVariants as awaits
use Rattle.fetch_replies.specs.declared.replies.reply.ReplyError.{ReplyError}
use Rattle.fetch_replies.specs.declared.replies.reply.ParsedReply.{ParsedReply}
use Rattle.fetch_replies.specs.declared.replies.reply.ParsedReply.TheVariants as told
use Rattle.fetch_lines.specs.declared.greetings.handshake.Handshake.{Handshake}
use Rattle.fetch_lines.specs.declared.lines.line.Line.{Line}
use Rattle.fetch_lines.specs.declared.listings.reference.Ref.{Ref}
use Rattle.fetch_lines.specs.References.{name_in}
use Rattle.fetch_conversation.specs.Conversation.{Conversation, ends, asks, asks_unless, asking, and_then, after_reply, answer_in}
use Rattle.fetch_conversation.specs.ConverseStage.{converse_stage, wanting, fetching, received, rejected, result_unless, unpacked, with_pack, without_pack, no_mapping, unfit, lacking, is_same_kind}
use Rattle.fetch_conversation.specs.Exchange.{FetchArgumentsValue}
use Rattle.fetch_conversation.specs.Rounds.{Negotiated}
use Rattle.fetch_conversation.specs.ListStage as list
use Rattle.fetch_conversation.specs.ListStage.{LsRefsValue, ListedValue, list_stage, ls_refs_stage, greeted, listing, listed, mapped, mapped_unless, map_of, all_specs, unless, unlisted, unsendable, no_specs}
use Rattle.fetch_conversation.specs.declared.conversing.Received.{Received}
use Rattle.fetch_conversation.specs.declared.fetch.Error.{Error as ReceiveError}
use Rattle.fetch_conversation.specs.declared.fetch.Error.TheVariants as errors
use Rattle.fetch_conversation.specs.declared.prepare.Error.{Error as PrepareError}

-- ---- whatever a conversation ends with has a property of its answers

-- Each answer of it has this property.
unfoldable pub Gives : {X E : Type 0} → (X → Type 0) → Conversation X E → Type 0
Gives p (ends (Ok x)) = p x
Gives p (ends (Err e)) = ⊤
Gives p (asks lines awaited failed next) = (t : ParsedReply) → Gives p (next t)

gives_after : {X E : Type 0} (p : X → Type 0) (bound : ℕ) (failed : ReplyError → E) (next : ParsedReply → Conversation X E) (reading : Result (ParsedReply × List ℕ) ReplyError) (x : X) (rest : List ℕ)
    → ((t : ParsedReply) (stream : List ℕ) → answer_in bound (next t) stream ≡ Ok (x, rest) → p x)
    → after_reply (λ fault. Err (failed fault)) (λ told rest. answer_in bound (next told) rest) reading ≡ Ok (x, rest) → p x
gives_after p bound failed next (Ok y) x rest again is = again y.0 y.1 is
gives_after p bound failed next (Err fault) x rest again is = absurd (cc)

pub gives_answer : {X E : Type 0} (p : X → Type 0) (bound : ℕ) (c : Conversation X E) (stream : List ℕ) (x : X) (rest : List ℕ) → Gives p c → answer_in bound c stream ≡ Ok (x, rest) → p x
unfolding answer_in Gives
gives_answer {X} p bound (ends (Ok y)) stream x rest h is =
    let same : (y, stream) ≡ (x, rest) = cc in
    let e : y ≡ x = ap (λ (z : X × List ℕ). z.0) same in
    rw (← e) h
gives_answer p bound (ends (Err e)) stream x rest h is = absurd (cc)
gives_answer p bound (asks lines awaited failed next) stream x rest h is =
    gives_after p bound failed next (told_at bound awaited stream) x rest (λ t s. gives_answer p bound (next t) s x rest (h t)) is

pub gives_ok : {X : Type 0} (E : Type 0) (p : X → Type 0) (x : X) → p x → Gives {E = E} p (ends (Ok x))
unfolding Gives
gives_ok E p x h = h

pub gives_err : {X E : Type 0} (p : X → Type 0) (e : E) → Gives p (ends (Err e))
unfolding Gives
gives_err p e = tt

gives_asks : {X E : Type 0} (p : X → Type 0) (lines : List Line) (awaited : ReplyKind) (failed : ReplyError → E) (next : ParsedReply → Conversation X E) → ((t : ParsedReply) → Gives p (next t)) → Gives p (asks lines awaited failed next)
unfolding Gives
gives_asks p lines awaited failed next h = h

gives_long : {X E : Type 0} (p : X → Type 0) (o : Option ℕ) (long : ℕ → E) (c : Conversation X E) → Gives p c → Gives p (asks_unless o long c)
gives_long p None long c h = h
gives_long p (Some n) long c h = gives_err p (long n)

gives_asking : {X E : Type 0} (p : X → Type 0) (long : ℕ → E) (lines : List Line) (awaited : ReplyKind) (failed : ReplyError → E) (next : ParsedReply → Conversation X E) → ((t : ParsedReply) → Gives p (next t)) → Gives p (asking long lines awaited failed next)
gives_asking p long lines awaited failed next h = gives_long p (first_too_long lines) long _ (gives_asks p lines awaited failed next h)

pub gives_unless : {X E : Type 0} (p : X → Type 0) (o : Option E) (c : Conversation X E) → Gives p c → Gives p (unless o c)
gives_unless p None c h = h
gives_unless p (Some e) c h = gives_err p e

-- ---- the listing

-- the mappings are those of the refspecs over what was listed
pub record IsMapped (q : LsRefsValue) (l : ListedValue) : Type 0 where
  pub map : l.ref_map ≡ map_of q l.handshake l.ref_map.remote_refs

mapped_gives : (q : LsRefsValue) (h : Handshake) (refs : List Ref) → Gives {E = PrepareError} (IsMapped q) (ends (mapped q h refs))
unfolding mapped
mapped_gives q h refs = by (conflicts_of (mappings_of (all_specs q) (map name_in refs) h.object_hash))
  where
    by : (conflicts : List Conflict) → Gives {E = PrepareError} (IsMapped q) (ends (mapped_unless conflicts q h refs))
    by [] = gives_ok _ (IsMapped q) _ (record { map = refl })
    by (c ∷ cs) = gives_err (IsMapped q) _

listed_gives : (q : LsRefsValue) (h : Handshake) (t : ParsedReply) → Gives (IsMapped q) (listed q h t)
listed_gives q h (told.Listing refs) = mapped_gives q h refs
listed_gives q h (told.Greeting other) = gives_err (IsMapped q) _
listed_gives q h (told.Advertisement other refs) = gives_err (IsMapped q) _
listed_gives q h (told.Reply reply) = gives_err (IsMapped q) _

listing_gives : (bound : ℕ) (q : LsRefsValue) (h : Handshake) → Gives (IsMapped q) (listing bound q h)
unfolding listing
listing_gives bound q h = gives_long (IsMapped q) _ _ _ (gives_unless (IsMapped q) (unlisted h) _ (gives_asks (IsMapped q) _ _ _ _ (λ t. listed_gives q h t)))

greeted_gives : (bound : ℕ) (q : LsRefsValue) (t : ParsedReply) → Gives (IsMapped q) (greeted bound q t)
greeted_gives bound q (told.Greeting h) = listing_gives bound q h
greeted_gives bound q (told.Advertisement h refs) = mapped_gives q h refs
greeted_gives bound q (told.Listing refs) = gives_err (IsMapped q) _
greeted_gives bound q (told.Reply reply) = gives_err (IsMapped q) _

list_gives : (bound : ℕ) (q : LsRefsValue) → Gives (IsMapped q) (list_stage bound q)
unfolding list_stage ls_refs_stage
list_gives bound q =
    gives_unless (IsMapped q) (no_specs q) _ (gives_unless (IsMapped q) (unsendable q) _
    (gives_asking (IsMapped q) list.too_long (first_line q.address q.options.handshake_parameters ∷ []) awaits.Greeting (list.failed bound) (greeted bound q) (λ t. greeted_gives bound q t)))

pub is_mapped : (bound : ℕ) (q : LsRefsValue) (stream : List ℕ) (l : ListedValue) (rest : List ℕ) → answer_in bound (list_stage bound q) stream ≡ Ok (l, rest) → IsMapped q l
is_mapped bound q stream l rest is = gives_answer (IsMapped q) bound (list_stage bound q) stream l rest (list_gives bound q) is

-- ---- the reply

-- Nothing is received where nothing is wanted, and what is received is of the repository's hash.
pub record IsReceived (t : FetchArgumentsValue) (r : Option Received) : Type 0 where
  pub none : r ≡ None → t.view.wants ≡ []
  pub kind : t.settings.kind ≡ t.listed.handshake.object_hash

some_received : (t : FetchArgumentsValue) (r : Received) → t.settings.kind ≡ t.listed.handshake.object_hash → IsReceived t (Some r)
some_received t r same = record { none = λ e. absurd (cc); kind = same }

either_gives : {X E A B : Type 0} (p : X → Type 0) (f : Result A B → Result X E) → ((a : A) → Gives p (ends (f (Ok a)))) → ((b : B) → Gives p (ends (f (Err b)))) → (c : Result A B) → Gives p (ends (f c))
either_gives p f ok err (Ok a) = ok a
either_gives p f ok err (Err b) = err b

pub dry_or_gives : {X E : Type 0} (p : X → Type 0) (dry : Bool) (x : X) (r : Result X E) → p x → Gives p (ends r) → Gives p (ends (if dry then Ok x else r))
dry_or_gives p true x r h k = gives_ok _ p x h
dry_or_gives p false x r h k = k

pub unless_gives : {X E : Type 0} (p : X → Type 0) (o : Option E) (r : Result X E) → Gives p (ends r) → Gives p (ends (result_unless o r))
unless_gives p None r h = h
unless_gives p (Some e) r h = gives_err p e

received_gives : (t : FetchArgumentsValue) (n : Negotiated) → t.settings.kind ≡ t.listed.handshake.object_hash → Gives {E = ReceiveError} (IsReceived t) (ends (received t n))
unfolding received
received_gives t n same =
    unless_gives (IsReceived t) (rejected t.settings t.view t.shallow n.reply) _
    (dry_or_gives (IsReceived t) t.dry_run (Some (without_pack n)) _ (some_received t (without_pack n) same)
    (either_gives (IsReceived t) (unpacked n) (λ c. gives_ok _ (IsReceived t) (Some (with_pack n c)) (some_received t (with_pack n c) same)) (λ e. gives_err (IsReceived t) _) _))

-- one conversation after another gives what the other gives
pub gives_then : {X Y E : Type 0} (p : Y → Type 0) (c : Conversation X E) (f : X → Conversation Y E) → ((x : X) → Gives p (f x)) → Gives p (and_then c f)
unfolding Gives and_then
gives_then p (ends (Ok x)) f h = h x
gives_then p (ends (Err e)) f h = tt
gives_then p (asks lines awaited failed next) f h = λ t. gives_then p (next t) f h

wanting_gives : (bound : ℕ) (g : Graph) (t : FetchArgumentsValue) (wants : List ObjectId) → t.view.wants ≡ wants → t.settings.kind ≡ t.listed.handshake.object_hash → Gives (IsReceived t) (wanting bound g t wants)
unfolding fetching
wanting_gives bound g t [] is same = gives_ok _ (IsReceived t) None (record { none = λ _. is; kind = same })
wanting_gives bound g t (id ∷ ids) is same = gives_then (IsReceived t) _ _ (λ n. received_gives t n same)

kinds_same : (a b : Kind) → is_same_kind a b ≡ true → a ≡ b
kinds_same Sha1 Sha1 is = refl
kinds_same Sha1 Sha256 is = absurd (cc)
kinds_same Sha256 Sha1 is = absurd (cc)
kinds_same Sha256 Sha256 is = refl

converse_gives : (bound : ℕ) (g : Graph) (t : FetchArgumentsValue) → Gives (IsReceived t) (converse_stage bound g t)
unfolding converse_stage
converse_gives bound g t = by (no_mapping t) (is_same_kind t.settings.kind t.listed.handshake.object_hash) refl (option_or (unfit t.settings) (lacking t))
  where
    by : (a : Option ReceiveError) (b : Bool) → is_same_kind t.settings.kind t.listed.handshake.object_hash ≡ b → (c : Option ReceiveError)
        → Gives (IsReceived t) (unless (option_or a (option_or (if b then None else Some (errors.IncompatibleObjectHash t.settings.kind t.listed.handshake.object_hash)) c)) (wanting bound g t t.view.wants))
    by (Some e) b same c = gives_err (IsReceived t) e
    by None false same c = gives_err (IsReceived t) _
    by None true same (Some e) = gives_err (IsReceived t) e
    by None true same None = wanting_gives bound g t t.view.wants refl (kinds_same _ _ same)

pub is_received : (bound : ℕ) (g : Graph) (t : FetchArgumentsValue) (stream : List ℕ) (r : Option Received) (rest : List ℕ) → answer_in bound (converse_stage bound g t) stream ≡ Ok (r, rest) → IsReceived t r
is_received bound g t stream r rest is = gives_answer (IsReceived t) bound (converse_stage bound g t) stream r rest (converse_gives bound g t) is
