-- What a fetch hears to its end, a dry run of it hears to its end.
use Rattle.std.proofs.Common.{◌≡◌, ℕ, zero, suc, Bool, true, false, List, [], ◌∷◌, Option, Some, None, Result, Ok, Err, refl, sym, ap, ◌∙◌}
use Rattle.std.specs.Prelude.{◌||◌, unwrap_or}
use Rattle.std.specs.FinMap as map
use Rattle.std.specs.Option.{option_or, option_map}
use Rattle.fetch_pack.specs.Reading.{Contents, read}
use Rattle.fetch_pack.specs.declared.error.PackError.{PackError}
use Rattle.fetch_store.specs.Graph.{Graph}
use Rattle.fetch_base.specs.declared.id.ObjectId.{ObjectId}
use Rattle.fetch_replies.specs.Awaited.{told_at}
use Rattle.fetch_lines.specs.Written.{first_too_long}
use Rattle.fetch_lines.specs.declared.lines.line.Line.{Line}
use Rattle.fetch_replies.specs.declared.replies.reply.ReplyContext.{ReplyContext}
use Rattle.fetch_replies.specs.declared.replies.reply.ReplyKind.{ReplyKind}
use Rattle.fetch_replies.specs.declared.replies.reply.ReplyKind.TheVariants as awaits
use Rattle.fetch_replies.specs.declared.replies.reply.ReplyError.{ReplyError}
use Rattle.fetch_replies.specs.declared.replies.reply.ParsedReply.{ParsedReply as Heard}
use Rattle.fetch_replies.specs.declared.replies.reply.ParsedReply.TheVariants as told
use Rattle.fetch_lines.specs.declared.requests.records.FetchReply.{FetchReply}
use Rattle.fetch_negotiate.specs.Requests.{fetch_request}
use Rattle.fetch_negotiate.specs.declared.algorithm.Algorithm.{Algorithm}
use Rattle.fetch_conversation.specs.Conversation.{Conversation, ends, asks, asks_unless, answer_in, after_reply, beside}
use Rattle.fetch_conversation.specs.ConverseStage.{converse_stage, wanting, fetching, received, rejected, result_unless, read_of, unpacked, with_pack, without_pack, algorithm_in, no_mapping, other_hash, unfit, lacking}
use Rattle.fetch_conversation.specs.Exchange.{FetchArgumentsValue, asked_by, haves_told, too_long, failed, replied, reply_to, exchange}
use Rattle.fetch_conversation.specs.ListStage.{unless}
use Rattle.fetch_conversation.specs.Rounds.{RoundsStateValue, Negotiated, first_rounds_state, next_window, is_short, is_end, rounds_with, rounds_state_after, negotiating}
use Rattle.fetch_conversation.specs.declared.conversing.Received.{Received}
use Rattle.fetch_conversation.specs.declared.fetch.Error.{Error}
use Rattle.fetch_conversation.proofs.Chained.{answer_behind, answer_then}
use Rattle.fetch_conversation.proofs.Held.{round_in, behind_round, negotiating_is, negotiating_none, goes_on, ends_here}
use Rattle.fetch_remote.specs.Serving.{but_its_pack}
use Rattle.fetch_remote.proofs.Unread.{up_to_pack, unread, reads_up_to}

-- the same terms, of a dry run
abbrev pub dry : FetchArgumentsValue → FetchArgumentsValue
dry t = record t { dry_run = true }

-- ---- what is answered

never_ok : {X : Type 0} (bound : ℕ) (e : Error) (stream rest : List ℕ) (x : X) → answer_in bound (ends (Err e)) stream ≡ Ok (x, rest) → ⊥
unfolding answer_in
never_ok bound e stream rest x is = cc

-- an answer at once
record AtOnce {X : Type 0} (answer : Result X Error) (x : X) (stream rest : List ℕ) : Type 0 where
  is : answer ≡ Ok x
  left : stream ≡ rest

at_once : {X : Type 0} (bound : ℕ) (answer : Result X Error) (stream rest : List ℕ) (x : X) → answer_in bound (ends answer) stream ≡ Ok (x, rest) → AtOnce answer x stream rest
unfolding answer_in
at_once {X} bound (Ok y) stream rest x is =
    let p : (y, stream) ≡ (x, rest) = cc in
    record { is = ap (λ (z : X × List ℕ). Ok z.0) p; left = ap (λ (z : X × List ℕ). z.1) p }
at_once bound (Err e) stream rest x is = absurd cc

answered_at_once : {X : Type 0} (bound : ℕ) (answer : Result X Error) (stream : List ℕ) (x : X) → answer ≡ Ok x → answer_in bound (ends answer) stream ≡ Ok (x, stream)
unfolding answer_in
answered_at_once bound answer stream x is = ap (beside stream) is

-- what a dry run is answered
record Answers {X : Type 0} (bound : ℕ) (c : Conversation X Error) (stream : List ℕ) (x : X) : Type 0 where
  left : List ℕ
  is : answer_in bound c stream ≡ Ok (x, left)

-- ---- one round

-- the reply up to its pack, and all that the whole one leaves, where it isn't the last
record UpToPack (bound : ℕ) (c : Conversation FetchReply Error) (stream rest : List ℕ) (reply : FetchReply) : Type 0 where
  left : List ℕ
  is : answer_in bound c stream ≡ Ok (unread reply, left)
  kept : reply.last ≡ false → left ≡ rest

record WasReply (x : Heard) (reply : FetchReply) (behind rest : List ℕ) : Type 0 where
  is : x ≡ told.Reply reply
  left : behind ≡ rest

was_reply : (bound : ℕ) (x : Heard) (behind rest : List ℕ) (reply : FetchReply) → answer_in bound (replied x) behind ≡ Ok (reply, rest) → WasReply x reply behind rest
was_reply bound (told.Reply other) behind rest reply is =
    let a = at_once bound (Ok other) behind rest reply is in
    let same : other ≡ reply = let e = a.is in cc in
    record { is = ap (λ (r : FetchReply). told.Reply r) same; left = a.left }
was_reply bound (told.Greeting h) behind rest reply is = absurd (never_ok bound _ behind rest reply is)
was_reply bound (told.Advertisement h refs) behind rest reply is = absurd (never_ok bound _ behind rest reply is)
was_reply bound (told.Listing refs) behind rest reply is = absurd (never_ok bound _ behind rest reply is)

after_told : {X : Type 0} (bound : ℕ) (lines : List Line) (awaited : ReplyKind) (none : ReplyError → Error) (next : Heard → Conversation X Error) (stream rest : List ℕ) (x : Heard) → told_at bound awaited stream ≡ Ok (x, rest)
    → answer_in bound (asks lines awaited none next) stream ≡ answer_in bound (next x) rest
unfolding answer_in
after_told bound lines awaited none next stream rest x is = ap (after_reply (λ fault. Err (none fault)) (λ u left. answer_in bound (next u) left)) is

-- what was told to a question that was answered
record WasTold {X : Type 0} (bound : ℕ) (awaited : ReplyKind) (next : Heard → Conversation X Error) (stream rest : List ℕ) (x : X) : Type 0 where
  heard : Heard
  behind : List ℕ
  is : told_at bound awaited stream ≡ Ok (heard, behind)
  next_is : answer_in bound (next heard) behind ≡ Ok (x, rest)

was_told : {X : Type 0} (bound : ℕ) (lines : List Line) (awaited : ReplyKind) (none : ReplyError → Error) (next : Heard → Conversation X Error) (stream rest : List ℕ) (x : X) → answer_in bound (asks lines awaited none next) stream ≡ Ok (x, rest)
    → WasTold bound awaited next stream rest x
unfolding answer_in
was_told {X} bound lines awaited none next stream rest x is = by_found (told_at bound awaited stream) refl is
  where
    by_found : (found : Result (Heard × List ℕ) ReplyError) → told_at bound awaited stream ≡ found → after_reply (λ fault. Err (none fault)) (λ u left. answer_in bound (next u) left) found ≡ Ok (x, rest) → WasTold bound awaited next stream rest x
    by_found (Err fault) e h = absurd cc
    by_found (Ok y) e h = record { heard = y.0; behind = y.1; is = e; next_is = h }

asked_up_to : (bound : ℕ) (lines : List Line) (asked : ReplyContext) (stream rest : List ℕ) (reply : FetchReply) → answer_in bound (asks lines (awaits.Reply asked) (failed bound) (λ x. replied x)) stream ≡ Ok (reply, rest)
    → UpToPack bound (asks lines (awaits.Reply (up_to_pack asked)) (failed bound) (λ x. replied x)) stream rest reply
asked_up_to bound lines asked stream rest reply is =
    let h = was_told bound lines (awaits.Reply asked) (failed bound) (λ x. replied x) stream rest reply is in
    let r = was_reply bound h.heard h.behind rest reply h.next_is in
    let read : told_at bound (awaits.Reply asked) stream ≡ Ok (told.Reply reply, rest) = h.is ∙ ap (λ (x : Heard). Ok (x, h.behind)) r.is ∙ ap (λ (l : List ℕ). Ok (told.Reply reply, l)) r.left in
    let u = reads_up_to bound asked stream rest reply read in
    record {
      left = u.left;
      is = after_told bound lines (awaits.Reply (up_to_pack asked)) (failed bound) (λ x. replied x) stream u.left (told.Reply (unread reply)) u.same ∙ answered_at_once bound (Ok (unread reply)) u.left (unread reply) refl;
      kept = u.kept;
    }

asked_unless : (bound : ℕ) (lines : List Line) (asked : ReplyContext) (stream rest : List ℕ) (reply : FetchReply) (long : Option ℕ) → answer_in bound (asks_unless long too_long (asks lines (awaits.Reply asked) (failed bound) (λ x. replied x))) stream ≡ Ok (reply, rest)
    → UpToPack bound (asks_unless long too_long (asks lines (awaits.Reply (up_to_pack asked)) (failed bound) (λ x. replied x))) stream rest reply
asked_unless bound lines asked stream rest reply None is = asked_up_to bound lines asked stream rest reply is
asked_unless bound lines asked stream rest reply (Some n) is = absurd (never_ok bound (too_long n) stream rest reply is)

exchanged : (bound : ℕ) (t : FetchArgumentsValue) (haves : List ObjectId) (done : Bool) (stream rest : List ℕ) (reply : FetchReply) → answer_in bound (exchange bound t haves done) stream ≡ Ok (reply, rest) → UpToPack bound (exchange bound (dry t) haves done) stream rest reply
unfolding exchange
exchanged bound t haves done stream rest reply is =
    let lines = fetch_request (asked_by t) haves done in
    asked_unless bound lines (reply_to t haves done) stream rest reply (first_too_long lines) is

-- ---- the rounds

-- what the rounds end with, without the pack
abbrev unread_last : Negotiated → Negotiated
unread_last n = record n { reply = unread n.reply }

not_last : (short last : Bool) → (short || last) ≡ false → last ≡ false
not_last true last is = absurd cc
not_last false last is = is

negotiated : (more bound : ℕ) (t : FetchArgumentsValue) (g : Graph) (algorithm : Algorithm) (c : RoundsStateValue) (stream rest : List ℕ) (n : Negotiated) → answer_in bound (negotiating more bound t g algorithm c) stream ≡ Ok (n, rest)
    → Answers bound (negotiating more bound (dry t) g algorithm c) stream (unread_last n)
negotiated zero bound t g algorithm c stream rest n is =
    absurd (never_ok bound _ stream rest n (ap (λ (x : Conversation Negotiated Error). answer_in bound x stream) (sym (negotiating_none bound t g algorithm c)) ∙ is))
negotiated (suc more) bound t g algorithm c stream rest n is =
    by_round (answer_in bound (round_in bound t g algorithm c) stream) refl
    (sym (answer_then bound (round_in bound t g algorithm c) (λ reply. behind_round bound t g algorithm more c reply) stream)
    ∙ ap (λ (x : Conversation Negotiated Error). answer_in bound x stream) (sym (negotiating_is bound t g algorithm more c)) ∙ is)
    (λ next left read. negotiated more bound t g algorithm next left rest n read)
  where
    -- the rounds of the dry run, once the first is answered
    whole : (reply : FetchReply) (mid : List ℕ) → (x : UpToPack bound (round_in bound (dry t) g algorithm c) stream mid reply) → Answers bound (behind_round bound (dry t) g algorithm more c (unread reply)) x.left (unread_last n)
        → Answers bound (negotiating (suc more) bound (dry t) g algorithm c) stream (unread_last n)
    whole reply mid x h = record {
      left = h.left;
      is = ap (λ (d : Conversation Negotiated Error). answer_in bound d stream) (negotiating_is bound (dry t) g algorithm more c)
          ∙ answer_then bound (round_in bound (dry t) g algorithm c) (λ r. behind_round bound (dry t) g algorithm more c r) stream
          ∙ ap (answer_behind bound (λ r. behind_round bound (dry t) g algorithm more c r)) x.is ∙ h.is;
    }

    by_end : (reply : FetchReply) (mid : List ℕ) (b : Bool) → is_end c (next_window g algorithm c) reply ≡ b → (x : UpToPack bound (round_in bound (dry t) g algorithm c) stream mid reply) → answer_in bound (behind_round bound t g algorithm more c reply) mid ≡ Ok (n, rest)
        → ((next : RoundsStateValue) (left : List ℕ) → answer_in bound (negotiating more bound t g algorithm next) left ≡ Ok (n, rest) → Answers bound (negotiating more bound (dry t) g algorithm next) left (unread_last n))
        → Answers bound (behind_round bound (dry t) g algorithm more c (unread reply)) x.left (unread_last n)
    by_end reply mid true ended x h again =
        let n0 : Negotiated = record { rounds = rounds_with c (next_window g algorithm c) reply; reply = reply } in
        let a = at_once bound (Ok n0) mid rest n (ap (λ (d : Conversation Negotiated Error). answer_in bound d mid) (sym (ends_here bound t g algorithm more c reply ended)) ∙ h) in
        let same : n0 ≡ n = let e = a.is in cc in
        record {
          left = x.left;
          is = ap (λ (d : Conversation Negotiated Error). answer_in bound d x.left) (ends_here bound (dry t) g algorithm more c (unread reply) ended) ∙ answered_at_once bound (Ok (unread_last n0)) x.left (unread_last n) (ap (λ (m : Negotiated). Ok (unread_last m)) same);
        }
    by_end reply mid false ended x h again =
        let next : RoundsStateValue = rounds_state_after algorithm c (next_window g algorithm c) reply in
        let read = ap (λ (d : Conversation Negotiated Error). answer_in bound d mid) (sym (goes_on bound t g algorithm more c reply ended)) ∙ h in
        let later = again next mid read in
        let left : x.left ≡ mid = x.kept (not_last (is_short c (next_window g algorithm c)) reply.last ended) in
        record {
          left = later.left;
          is = ap (λ (d : Conversation Negotiated Error). answer_in bound d x.left) (goes_on bound (dry t) g algorithm more c (unread reply) ended) ∙ ap (answer_in bound (negotiating more bound (dry t) g algorithm next)) left ∙ later.is;
        }

    by_round : (first : Result (FetchReply × List ℕ) Error) → answer_in bound (round_in bound t g algorithm c) stream ≡ first → answer_behind bound (λ reply. behind_round bound t g algorithm more c reply) first ≡ Ok (n, rest)
        → ((next : RoundsStateValue) (left : List ℕ) → answer_in bound (negotiating more bound t g algorithm next) left ≡ Ok (n, rest) → Answers bound (negotiating more bound (dry t) g algorithm next) left (unread_last n))
        → Answers bound (negotiating (suc more) bound (dry t) g algorithm c) stream (unread_last n)
    by_round (Err e) first h again = absurd cc
    by_round (Ok y) first h again =
        let w = next_window g algorithm c in
        let x = exchanged bound t (haves_told c.shared w.haves) (is_short c w) stream y.1 y.0 first in
        whole y.0 y.1 x (by_end y.0 y.1 (is_end c w y.0) refl x h again)

-- ---- what they bring

brought : (n : Negotiated) (x : Option Received) (r : Result Contents PackError) → unpacked n r ≡ Ok x → Some (without_pack n) ≡ option_map but_its_pack x
brought n x (Ok c) is = let e : Some (with_pack n c) ≡ x = cc in ap (option_map but_its_pack) e
brought n x (Err e) is = absurd cc

read_dry : (t : FetchArgumentsValue) (n : Negotiated) (x : Option Received) (b : Bool) → read_of t.listed.handshake.object_hash b n ≡ Ok x → Some (without_pack n) ≡ option_map but_its_pack x
read_dry t n x true is = let e : Some (without_pack n) ≡ x = cc in ap (option_map but_its_pack) e
read_dry t n x false is = brought n x (read t.listed.handshake.object_hash (unwrap_or n.reply.pack [])) is

received_dry : (t : FetchArgumentsValue) (n : Negotiated) (x : Option Received) → received t n ≡ Ok x → received (dry t) (unread_last n) ≡ Ok (option_map but_its_pack x)
unfolding received
received_dry t n x is = by_border (rejected t.settings t.view t.shallow n.reply) is
  where
    by_border : (o : Option Error) → result_unless o (read_of t.listed.handshake.object_hash t.dry_run n) ≡ Ok x → result_unless o (read_of t.listed.handshake.object_hash true (unread_last n)) ≡ Ok (option_map but_its_pack x)
    by_border None h = ap (λ (r : Option Received). Ok r) (read_dry t n x t.dry_run h)
    by_border (Some e) h = absurd cc

fetched_dry : (bound : ℕ) (g : Graph) (t : FetchArgumentsValue) (stream rest : List ℕ) (x : Option Received) → answer_in bound (fetching bound g t) stream ≡ Ok (x, rest) → Answers bound (fetching bound g (dry t)) stream (option_map but_its_pack x)
unfolding fetching
fetched_dry bound g t stream rest x is =
    by_rounds (answer_in bound (negotiating (suc (map.len g)) bound t g (algorithm_in t.settings) (first_rounds_state (algorithm_in t.settings) t.view)) stream) refl
    (sym (answer_then bound (negotiating (suc (map.len g)) bound t g (algorithm_in t.settings) (first_rounds_state (algorithm_in t.settings) t.view)) (λ n. ends (received t n)) stream) ∙ is)
  where
    by_rounds : (first : Result (Negotiated × List ℕ) Error) → answer_in bound (negotiating (suc (map.len g)) bound t g (algorithm_in t.settings) (first_rounds_state (algorithm_in t.settings) t.view)) stream ≡ first
        → answer_behind bound (λ n. ends (received t n)) first ≡ Ok (x, rest) → Answers bound (fetching bound g (dry t)) stream (option_map but_its_pack x)
    by_rounds (Err e) first h = absurd cc
    by_rounds (Ok y) first h =
        let rounds = negotiating (suc (map.len g)) bound (dry t) g (algorithm_in t.settings) (first_rounds_state (algorithm_in t.settings) t.view) in
        let k = negotiated (suc (map.len g)) bound t g (algorithm_in t.settings) (first_rounds_state (algorithm_in t.settings) t.view) stream y.1 y.0 first in
        let a = at_once bound (received t y.0) y.1 rest x h in
        record {
          left = k.left;
          is = answer_then bound rounds (λ n. ends (received (dry t) n)) stream ∙ ap (answer_behind bound (λ n. ends (received (dry t) n))) k.is
              ∙ answered_at_once bound (received (dry t) (unread_last y.0)) k.left (option_map but_its_pack x) (received_dry t y.0 x a.is);
        }

wanted_dry : (bound : ℕ) (g : Graph) (t : FetchArgumentsValue) (wants : List ObjectId) (stream rest : List ℕ) (x : Option Received) → answer_in bound (wanting bound g t wants) stream ≡ Ok (x, rest) → Answers bound (wanting bound g (dry t) wants) stream (option_map but_its_pack x)
wanted_dry bound g t [] stream rest x is =
    let a = at_once bound (Ok None) stream rest x is in
    let none : None ≡ x = let e = a.is in cc in
    record { left = stream; is = answered_at_once bound (Ok None) stream (option_map but_its_pack x) (ap (λ (o : Option Received). Ok (option_map but_its_pack o)) none) }
wanted_dry bound g t (id ∷ ids) stream rest x is = fetched_dry bound g t stream rest x is

unless_dry : (bound : ℕ) (g : Graph) (t : FetchArgumentsValue) (refusal : Option Error) (stream rest : List ℕ) (x : Option Received) → answer_in bound (unless refusal (wanting bound g t t.view.wants)) stream ≡ Ok (x, rest)
    → Answers bound (unless refusal (wanting bound g (dry t) t.view.wants)) stream (option_map but_its_pack x)
unless_dry bound g t None stream rest x is = wanted_dry bound g t t.view.wants stream rest x is
unless_dry bound g t (Some e) stream rest x is = absurd (never_ok bound e stream rest x is)

-- the second stage of a dry run
pub record StageDry (bound : ℕ) (g : Graph) (t : FetchArgumentsValue) (stream : List ℕ) (x : Option Received) : Type 0 where
  pub left : List ℕ
  pub is : answer_in bound (converse_stage bound g (dry t)) stream ≡ Ok (option_map but_its_pack x, left)

pub stage_dry : (bound : ℕ) (g : Graph) (t : FetchArgumentsValue) (stream rest : List ℕ) (x : Option Received) → answer_in bound (converse_stage bound g t) stream ≡ Ok (x, rest) → StageDry bound g t stream x
unfolding converse_stage
stage_dry bound g t stream rest x is =
    let h = unless_dry bound g t (option_or (no_mapping t) (option_or (other_hash t) (option_or (unfit t.settings) (lacking t)))) stream rest x is in
    record { left = h.left; is = h.is }
