-- What a server writes is heard to its end.
use Rattle.std.proofs.Common.{◌≡◌, ◌≢◌, ◌<◌, ◌+◌, ℕ, zero, suc, Bool, false, not, List, [], ◌∷◌, ◌++◌, map, length, Option, Some, None, Ok, Err, unwrap_or, refl, sym, ap, ◌∙◌, arith, append_assoc}
use Rattle.std.specs.FinMap as map
use Rattle.fetch_pack.specs.Reading.{Contents, read}
use Rattle.fetch_specs.specs.Conflicts.{conflicts_of}
use Rattle.fetch_specs.specs.Matches.{mappings_of}
use Rattle.fetch_specs.specs.declared.conflict.Conflict.{Conflict}
use Rattle.fetch_store.specs.Graph.{Graph}
use Rattle.fetch_base.specs.declared.id.ObjectId.{ObjectId}
use Rattle.fetch_replies.specs.Awaited.{told_at}
use Rattle.fetch_lines.specs.Greetings.{handshake_of}
use Rattle.fetch_lines.specs.References.{name_in}
use Rattle.fetch_lines.specs.Requests.{listing_lines}
use Rattle.fetch_lines.specs.ServerLines.{greeting_lines, listing_lines_of}
use Rattle.fetch_lines.specs.Written.{lines_text, first_too_long}
use Rattle.fetch_replies.specs.declared.replies.reply.ReplyKind.TheVariants as awaits
use Rattle.fetch_replies.specs.declared.replies.reply.ReplyError.{ReplyError}
use Rattle.fetch_replies.specs.declared.replies.reply.ParsedReply.{ParsedReply}
use Rattle.fetch_replies.specs.declared.replies.reply.ParsedReply.TheVariants as told
use Rattle.fetch_lines.specs.declared.greetings.handshake.Capability.{Capability}
use Rattle.fetch_lines.specs.declared.greetings.handshake.Handshake.{Handshake}
use Rattle.fetch_lines.specs.declared.lines.line.Line.{Line}
use Rattle.fetch_lines.specs.declared.requests.records.FetchReply.{FetchReply}
use Rattle.fetch_lines.specs.declared.listings.reference.Ref.{Ref}
use Rattle.fetch_replies.proofs.GreetingLines.{greeting_tells}
use Rattle.fetch_replies.proofs.ListingLines.{listing_tells}
use Rattle.fetch_replies.proofs.Moving.{text_tells}
use Rattle.fetch_replies.proofs.ReplyLines.{round_tells, last_tells, ready_tells}
use Rattle.fetch_negotiate.specs.declared.algorithm.Algorithm.{Algorithm}
use Rattle.fetch_conversation.specs.Conversation.{Conversation, ends, asks, after_reply, beside, answer_in}
use Rattle.fetch_conversation.specs.ConverseStage.{algorithm_in, rejected, result_unless, unpacked, read_of, received, with_pack, fetching, wanting, converse_stage}
use Rattle.fetch_conversation.specs.Conversing.{IsClear}
use Rattle.fetch_conversation.specs.Exchange.{FetchArgumentsValue, failed, replied, exchange}
use Rattle.fetch_conversation.specs.Listing.{first_of}
use Rattle.fetch_conversation.specs.ListStage.{LsRefsValue, ListedValue, prefixes_asked, all_specs, mapped, mapped_unless, map_of, unless, listed, listing, greeted, list_stage, ls_refs_stage}
use Rattle.fetch_conversation.specs.ListStage as stage
use Rattle.fetch_conversation.specs.Rounds.{RoundsStateValue, Negotiated, first_rounds_state, negotiating}
use Rattle.fetch_conversation.specs.Writing.{AreWithin, IsAskable, IsListing, listing_text, Answer, acknowledges, packs, readies, lines_of, reply_of, MayBe, asked_in, request_in, AnswersRound, after, AnswerRounds, negotiated_by, negotiated_in, answers_text, IsPacking}
use Rattle.fetch_conversation.specs.declared.conversing.Received.{Received}
use Rattle.fetch_conversation.specs.declared.fetch.Error.{Error}
use Rattle.fetch_conversation.specs.declared.prepare.Error.{Error as PrepareError}
use Rattle.fetch_conversation.proofs.Chained.{answer_behind, answer_then}
use Rattle.fetch_conversation.proofs.Ending.{never_used_up}
use Rattle.fetch_conversation.proofs.Held.{round_in, behind_round, negotiating_is, goes_on, ends_here}

-- ---- a question whose reply is written

-- it goes on by what is told
asked_by_told : {X E : Type 0} (bound : ℕ) (lines : List Line) (awaited : _) (none : ReplyError → E) (next : ParsedReply → Conversation X E) (stream rest : List ℕ) (t : ParsedReply) → told_at bound awaited stream ≡ Ok (t, rest)
    → answer_in bound (asks lines awaited none next) stream ≡ answer_in bound (next t) rest
unfolding answer_in
asked_by_told bound lines awaited none next stream rest t is = ap (after_reply (λ fault. Err (none fault)) (λ u left. answer_in bound (next u) left)) is

-- ---- the references

mapped_is : (q : LsRefsValue) (h : Handshake) (refs : List Ref) → conflicts_of (mappings_of (all_specs q) (map name_in refs) h.object_hash) ≡ [] → mapped q h refs ≡ Ok (record { ref_map = map_of q h refs; handshake = h })
unfolding mapped
mapped_is q h refs clear = ap (λ (c : List Conflict). mapped_unless c q h refs) clear

listed_is : (bound : ℕ) (q : LsRefsValue) (h : Handshake) (refs : List Ref) (rest : List ℕ) → conflicts_of (mappings_of (all_specs q) (map name_in refs) h.object_hash) ≡ []
    → answer_in bound (listed q h (told.Listing refs)) rest ≡ Ok (record { ref_map = map_of q h refs; handshake = h }, rest)
unfolding answer_in
listed_is bound q h refs rest clear = ap (beside rest) (mapped_is q h refs clear)

listing_is : (bound : ℕ) (q : LsRefsValue) (h : Handshake) → IsAskable q h → listing bound q h ≡ asks (listing_lines h q.agent (prefixes_asked q)) (awaits.Listing h.object_hash) (stage.failed bound) (λ t. listed q h t)
unfolding listing
listing_is bound q h can = rw (can.request, can.offered) refl

stage_is : (bound : ℕ) (q : LsRefsValue) (h : Handshake) → IsAskable q h → list_stage bound q ≡ asks (first_of q ∷ []) awaits.Greeting (stage.failed bound) (λ t. greeted bound q t)
unfolding list_stage ls_refs_stage
stage_is bound q h can = rw (can.some, can.sendable, can.first) refl

-- What a server lists is mapped.
pub written_listing : (bound : ℕ) (q : LsRefsValue) (capabilities : List Capability) (refs : List Ref) (rest : List ℕ) → IsAskable q (handshake_of capabilities) → IsListing bound q capabilities refs
    → answer_in bound (list_stage bound q) (listing_text capabilities refs ++ rest) ≡ Ok (record { ref_map = map_of q (handshake_of capabilities) refs; handshake = handshake_of capabilities }, rest)
written_listing bound q capabilities refs rest can h =
    let hs : Handshake = handshake_of capabilities in
    let behind : List ℕ = lines_text (listing_lines_of refs) ++ rest in
    let greets : told_at bound awaits.Greeting (listing_text capabilities refs ++ rest) ≡ Ok (told.Greeting hs, behind) =
    ap (told_at bound awaits.Greeting) (append_assoc (lines_text (greeting_lines capabilities)) (lines_text (listing_lines_of refs)) rest)
    ∙ text_tells bound awaits.Greeting (greeting_lines capabilities) (told.Greeting hs) behind (greeting_tells capabilities h.tellable) h.greeting.fit h.greeting.bounded in
    let lists : told_at bound (awaits.Listing hs.object_hash) behind ≡ Ok (told.Listing refs, rest) =
    text_tells bound (awaits.Listing hs.object_hash) (listing_lines_of refs) (told.Listing refs) rest (listing_tells hs.object_hash refs h.listable h.named_once) h.listing.fit h.listing.bounded in
    ap (λ (c : Conversation ListedValue PrepareError). answer_in bound c (listing_text capabilities refs ++ rest)) (stage_is bound q hs can)
    ∙ asked_by_told bound (first_of q ∷ []) awaits.Greeting (stage.failed bound) (λ t. greeted bound q t) (listing_text capabilities refs ++ rest) behind (told.Greeting hs) greets
    ∙ ap (λ (c : Conversation ListedValue PrepareError). answer_in bound c behind) (listing_is bound q hs can)
    ∙ asked_by_told bound (listing_lines hs q.agent (prefixes_asked q)) (awaits.Listing hs.object_hash) (stage.failed bound) (λ t. listed q hs t) behind rest (told.Listing refs) lists
    ∙ listed_is bound q hs refs rest h.clear

-- ---- one round

module _ (bound : ℕ) (t : FetchArgumentsValue) (g : Graph) (algorithm : Algorithm) (whole : t.dry_run ≡ false) where
  -- an answer tells its reply
  tells : (c : RoundsStateValue) (a : Answer) (rest : List ℕ) → MayBe (asked_in t g algorithm c) a → AreWithin bound (lines_of a) → told_at bound (awaits.Reply (asked_in t g algorithm c)) (lines_text (lines_of a) ++ rest) ≡ Ok (told.Reply (reply_of a), rest)
  tells c (acknowledges ids) rest may h =
      let asked = asked_in t g algorithm c in
      text_tells bound (awaits.Reply asked) (lines_of (acknowledges ids)) (told.Reply (reply_of (acknowledges ids))) rest (round_tells asked ids may.0 may.1.kind may.1.told) h.fit h.bounded
  tells c (packs change bands) rest may h =
      let asked = asked_in t g algorithm c in
      text_tells bound (awaits.Reply asked) (lines_of (packs change bands)) (told.Reply (reply_of (packs change bands))) rest (last_tells asked change bands may.0 (ap not whole) may.1) h.fit h.bounded
  tells c (readies ids change bands) rest may h =
      let asked = asked_in t g algorithm c in
      text_tells bound (awaits.Reply asked) (lines_of (readies ids change bands)) (told.Reply (reply_of (readies ids change bands))) rest (ready_tells asked ids change bands may.0 (ap not whole) may.1.kind may.1.told may.2) h.fit h.bounded

  exchange_is : (c : RoundsStateValue) → first_too_long (request_in t g algorithm c) ≡ None → round_in bound t g algorithm c ≡ asks (request_in t g algorithm c) (awaits.Reply (asked_in t g algorithm c)) (failed bound) (λ x. replied x)
  unfolding exchange
  exchange_is c fits = rw fits refl

  reply_ends : (reply : FetchReply) (rest : List ℕ) → answer_in bound (replied (told.Reply reply)) rest ≡ Ok (reply, rest)
  unfolding answer_in
  reply_ends reply rest = refl

  -- the request of a round is answered
  round_is : (c : RoundsStateValue) (a : Answer) (rest : List ℕ) → AnswersRound bound t g algorithm c a → answer_in bound (round_in bound t g algorithm c) (lines_text (lines_of a) ++ rest) ≡ Ok (reply_of a, rest)
  round_is c a rest h =
      ap (λ (x : Conversation FetchReply Error). answer_in bound x (lines_text (lines_of a) ++ rest)) (exchange_is c h.request)
      ∙ asked_by_told bound (request_in t g algorithm c) (awaits.Reply (asked_in t g algorithm c)) (failed bound) (λ x. replied x) (lines_text (lines_of a) ++ rest) rest (told.Reply (reply_of a)) (tells c a rest h.answer h.written)
      ∙ reply_ends (reply_of a) rest

  ended : (c : Conversation Negotiated Error) (n : Negotiated) (rest : List ℕ) → c ≡ ends (Ok n) → answer_in bound c rest ≡ Ok (n, rest)
  unfolding answer_in
  ended c n rest is = rw is refl

  round_then : (more : ℕ) (c : RoundsStateValue) (a : Answer) (rest : List ℕ) → AnswersRound bound t g algorithm c a
      → answer_in bound (negotiating (suc more) bound t g algorithm c) (lines_text (lines_of a) ++ rest) ≡ answer_in bound (behind_round bound t g algorithm more c (reply_of a)) rest
  round_then more c a rest h =
      ap (λ (x : Conversation Negotiated Error). answer_in bound x (lines_text (lines_of a) ++ rest)) (negotiating_is bound t g algorithm more c)
      ∙ answer_then bound (round_in bound t g algorithm c) (λ reply. behind_round bound t g algorithm more c reply) (lines_text (lines_of a) ++ rest)
      ∙ ap (answer_behind bound (λ reply. behind_round bound t g algorithm more c reply)) (round_is c a rest h)

  -- and those after it
  rounds_are : (more : ℕ) (c : RoundsStateValue) (a : Answer) (answers : List Answer) (rest : List ℕ) → length answers < more → AnswerRounds bound t g algorithm c a answers
      → answer_in bound (negotiating more bound t g algorithm c) (answers_text a answers ++ rest) ≡ Ok (negotiated_by g algorithm c a answers, rest)
  rounds_are zero c a answers rest few h = absurd (omega arith)
  rounds_are (suc more) c a [] rest few h =
      round_then more c a rest h.0 ∙ ended (behind_round bound t g algorithm more c (reply_of a)) (negotiated_by g algorithm c a []) rest (ends_here bound t g algorithm more c (reply_of a) h.1)
  rounds_are (suc more) c a (b ∷ answers) rest few h =
      ap (answer_in bound (negotiating (suc more) bound t g algorithm c)) (append_assoc (lines_text (lines_of a)) (answers_text b answers) rest)
      ∙ round_then more c a (answers_text b answers ++ rest) h.0
      ∙ ap (λ (x : Conversation Negotiated Error). answer_in bound x (answers_text b answers ++ rest)) (goes_on bound t g algorithm more c (reply_of a) h.1)
      ∙ rounds_are more (after g algorithm c a) b answers rest (omega arith) h.2

-- ---- the pack

received_is : (t : FetchArgumentsValue) (n : Negotiated) (contents : Contents) → t.dry_run ≡ false → rejected t.settings t.view t.shallow n.reply ≡ None → read t.listed.handshake.object_hash (unwrap_or n.reply.pack []) ≡ Ok contents → received t n ≡ Ok (Some (with_pack n contents))
unfolding received
received_is t n contents whole border pack =
    ap (λ (e : Option Error). result_unless e (read_of t.listed.handshake.object_hash t.dry_run n)) border
    ∙ ap (λ (dry : Bool). read_of t.listed.handshake.object_hash dry n) whole
    ∙ ap (unpacked n) pack

clear_stage : (bound : ℕ) (g : Graph) (t : FetchArgumentsValue) → IsClear t → converse_stage bound g t ≡ wanting bound g t t.view.wants
unfolding converse_stage
clear_stage bound g t clear = rw (clear.mapped, clear.alike, clear.fit, clear.offered) refl

wanting_is : (bound : ℕ) (g : Graph) (t : FetchArgumentsValue) (wants : List ObjectId) → wants ≢ [] → wanting bound g t wants ≡ fetching bound g t
wanting_is bound g t [] some = absurd (some refl)
wanting_is bound g t (id ∷ ids) some = refl

brings : (bound : ℕ) (t : FetchArgumentsValue) (n : Negotiated) (rest : List ℕ) (contents : Contents) → received t n ≡ Ok (Some (with_pack n contents)) → answer_in bound (ends (received t n)) rest ≡ Ok (Some (with_pack n contents), rest)
unfolding answer_in
brings bound t n rest contents is = ap (beside rest) is

fetching_is : (bound : ℕ) (t : FetchArgumentsValue) (g : Graph) (n : Negotiated) (stream rest : List ℕ) (contents : Contents)
    → answer_in bound (negotiating (suc (map.len g)) bound t g (algorithm_in t.settings) (first_rounds_state (algorithm_in t.settings) t.view)) stream ≡ Ok (n, rest) → received t n ≡ Ok (Some (with_pack n contents))
    → answer_in bound (fetching bound g t) stream ≡ Ok (Some (with_pack n contents), rest)
unfolding fetching
fetching_is bound t g n stream rest contents is brought =
    answer_then bound (negotiating (suc (map.len g)) bound t g (algorithm_in t.settings) (first_rounds_state (algorithm_in t.settings) t.view)) (λ m. ends (received t m)) stream
    ∙ ap (answer_behind bound (λ (m : Negotiated). ends (received t m))) is
    ∙ brings bound t n rest contents brought

-- What a server answers is received.
pub written_pack : (bound : ℕ) (t : FetchArgumentsValue) (g : Graph) (a : Answer) (answers : List Answer) (contents : Contents) (rest : List ℕ) → IsPacking bound t g a answers contents
    → answer_in bound (converse_stage bound g t) (answers_text a answers ++ rest) ≡ Ok (Some (with_pack (negotiated_in t g a answers) contents), rest)
written_pack bound t g a answers contents rest h =
    let algorithm : Algorithm = algorithm_in t.settings in
    let first : RoundsStateValue = first_rounds_state algorithm t.view in
    let n : Negotiated = negotiated_in t g a answers in
    let stream : List ℕ = answers_text a answers ++ rest in
    let enough : answer_in bound (negotiating (suc (map.len g) + length answers) bound t g algorithm first) stream ≡ Ok (n, rest) =
    rounds_are bound t g algorithm h.kept (suc (map.len g) + length answers) first a answers rest (omega arith) h.answered in
    let rounds : answer_in bound (negotiating (suc (map.len g)) bound t g algorithm first) stream ≡ Ok (n, rest) = sym ((never_used_up bound t g algorithm t.view (length answers)).answered stream) ∙ enough in
    ap (λ (c : Conversation (Option Received) Error). answer_in bound c stream) (clear_stage bound g t h.clear ∙ wanting_is bound g t t.view.wants h.wanted)
    ∙ fetching_is bound t g n stream rest contents rounds (received_is t n contents h.kept h.border h.pack)
