-- What is sent for a pack: the requests of rounds.
use Rattle.std.proofs.Common.{◌≡◌, ℕ, zero, suc, Bool, true, false, List, [], ◌∷◌, ◌++◌, Option, Some, None, Result, Ok, Err, refl, sym, ap, ◌∙◌, append_assoc, append-nil, inl, inr}
use Rattle.std.specs.Prelude.{◌||◌, ◌⊎◌, if◌then◌else◌}
use Rattle.std.specs.FinMap as map
use Rattle.std.specs.Option.{option_or}
use Rattle.fetch_base.specs.declared.id.ObjectId.{ObjectId}
use Rattle.fetch_store.specs.Graph.{Graph}
use Rattle.fetch_pack.specs.Reading.{Contents}
use Rattle.fetch_pack.specs.declared.error.PackError.{PackError}
use Rattle.fetch_replies.specs.Awaited.{told_at}
use Rattle.fetch_lines.specs.FetchRecords.{no_reply}
use Rattle.fetch_lines.specs.Written.{first_too_long}
use Rattle.fetch_replies.specs.declared.replies.reply.ReplyKind.TheVariants as awaits
use Rattle.fetch_replies.specs.declared.replies.reply.ReplyError.{ReplyError}
use Rattle.fetch_replies.specs.declared.replies.reply.ParsedReply.{ParsedReply}
use Rattle.fetch_replies.specs.declared.replies.reply.ParsedReply.TheVariants as told
use Rattle.fetch_lines.specs.declared.lines.line.Line.{Line}
use Rattle.fetch_lines.specs.declared.requests.records.FetchReply.{FetchReply}
use Rattle.fetch_negotiate.specs.Requests.{fetch_request}
use Rattle.fetch_negotiate.specs.Rounds.{AreRounds}
use Rattle.fetch_negotiate.specs.Windows.{Window}
use Rattle.fetch_negotiate.specs.declared.algorithm.Algorithm.{Algorithm}
use Rattle.fetch_negotiate.specs.declared.algorithm.Round.{Round}
use Rattle.fetch_conversation.specs.Conversation.{Conversation, ends, asks, asks_unless, after_reply, beside, sent_in, answer_in}
use Rattle.fetch_conversation.specs.ConverseStage.{algorithm_in, no_mapping, other_hash, unfit, lacking, received, read_of, rejected, result_unless, unpacked, with_pack, without_pack, fetching, wanting, converse_stage}
use Rattle.fetch_conversation.specs.Exchange.{FetchArgumentsValue, asked_by, haves_told, too_long, failed, replied, reply_to, exchange}
use Rattle.fetch_conversation.specs.ListStage.{unless}
use Rattle.fetch_conversation.specs.Requested.{requests_of, AreOpen, TellsRounds}
use Rattle.fetch_conversation.specs.Rounds.{RoundsStateValue, Negotiated, first_rounds_state, next_window, is_short, is_end, round_of, rounds_with, rounds_state_after, negotiating}
use Rattle.fetch_conversation.specs.declared.conversing.Received.{Received}
use Rattle.fetch_conversation.specs.declared.fetch.Error.{Error}
use Rattle.fetch_conversation.proofs.Chained.{sent_behind, answer_behind, sent_then, answer_then}
use Rattle.fetch_conversation.proofs.Held.{round_in, behind_round, negotiating_is, negotiating_none, goes_on, ends_here}

-- ---- one request

-- nothing is sent after a reply
reply_sends : (bound : ℕ) (told : ParsedReply) (rest : List ℕ) → sent_in bound (replied told) rest ≡ []
unfolding sent_in
reply_sends bound (told.Reply reply) rest = refl
reply_sends bound (told.Greeting h) rest = refl
reply_sends bound (told.Advertisement h refs) rest = refl
reply_sends bound (told.Listing refs) rest = refl

behind_reply : (bound : ℕ) (reading : Result (ParsedReply × List ℕ) ReplyError) → after_reply (λ _. []) (λ told rest. sent_in bound (replied told) rest) reading ≡ []
behind_reply bound (Err fault) = refl
behind_reply bound (Ok x) = reply_sends bound x.0 x.1

-- A request that fits is sent. One that doesn't isn't, and is refused.
record SendsOne (bound : ℕ) (c : Conversation FetchReply Error) (lines : List Line) (stream : List ℕ) : Type 0 where
  sent : sent_in bound c stream ≡ lines

record SendsNone (bound : ℕ) (c : Conversation FetchReply Error) (stream : List ℕ) : Type 0 where
  sent : sent_in bound c stream ≡ []
  refusal : Error
  refused : answer_in bound c stream ≡ Err refusal

one_or_none : (bound : ℕ) (lines : List Line) (long : Option ℕ) (asked : _) (stream : List ℕ)
    → SendsOne bound (asks_unless long too_long (asks lines (awaits.Reply asked) (failed bound) (λ x. replied x))) lines stream
    ⊎ SendsNone bound (asks_unless long too_long (asks lines (awaits.Reply asked) (failed bound) (λ x. replied x))) stream
unfolding sent_in answer_in
one_or_none bound lines (Some n) asked stream = inr (record { sent = refl; refusal = too_long n; refused = refl })
one_or_none bound lines None asked stream = inl (record { sent = ap (λ (l : List Line). lines ++ l) (behind_reply bound (told_at bound (awaits.Reply asked) stream)) ∙ append-nil lines })

exchange_sends : (bound : ℕ) (t : FetchArgumentsValue) (haves : List ObjectId) (done : Bool) (stream : List ℕ) → SendsOne bound (exchange bound t haves done) (fetch_request (asked_by t) haves done) stream ⊎ SendsNone bound (exchange bound t haves done) stream
unfolding exchange
exchange_sends bound t haves done stream = one_or_none bound (fetch_request (asked_by t) haves done) (first_too_long (fetch_request (asked_by t) haves done)) (reply_to t haves done) stream

-- ---- the rounds

abbrev pair : {A B : Type 0} → A → B → A × B
pair x u = (x, u)

same_first : {A B : Type 0} (x y : A) (u v : B) → pair x u ≡ pair y v → x ≡ y
same_first {A} {B} x y u v is = ap (λ (p : A × B). p.0) is

-- what was answered, and is known to be this
same_told : {A B E : Type 0} (answer : Result (A × B) E) (x y : A) (u v : B) → answer ≡ Ok (x, u) → answer ≡ Ok (y, v) → x ≡ y
same_told answer x y u v is at = let p : pair x u ≡ pair y v = cc in same_first x y u v p

or_left : (a b : Bool) → (a || b) ≡ false → a ≡ false
or_left false b is = refl
or_left true b is = absurd (cc)

at_end_sent : (bound : ℕ) (c : Conversation Negotiated Error) (n : Negotiated) (stream : List ℕ) → c ≡ ends (Ok n) → sent_in bound c stream ≡ []
unfolding sent_in
at_end_sent bound c n stream is = rw is refl

at_end_answer : (bound : ℕ) (c : Conversation Negotiated Error) (n : Negotiated) (stream : List ℕ) → c ≡ ends (Ok n) → answer_in bound c stream ≡ Ok (n, stream)
unfolding answer_in
at_end_answer bound c n stream is = rw is refl

none_sent : (bound : ℕ) (c : Conversation Negotiated Error) (e : Error) (stream : List ℕ) → c ≡ ends (Err e) → sent_in bound c stream ≡ []
unfolding sent_in
none_sent bound c e stream is = rw is refl

none_answer : (bound : ℕ) (c : Conversation Negotiated Error) (e : Error) (stream : List ℕ) → c ≡ ends (Err e) → answer_in bound c stream ≡ Err e
unfolding answer_in
none_answer bound c e stream is = rw is refl

module _ (bound : ℕ) (t : FetchArgumentsValue) (g : Graph) (algorithm : Algorithm) where
  abbrev window_in : RoundsStateValue → Window
  window_in c = next_window g algorithm c

  abbrev request_in : RoundsStateValue → List Line
  request_in c = fetch_request (asked_by t) (haves_told c.shared (window_in c).haves) (is_short c (window_in c))

  abbrev tree : ℕ → RoundsStateValue → Conversation Negotiated Error
  tree more c = negotiating more bound t g algorithm c

  abbrev round_at : RoundsStateValue → Conversation FetchReply Error
  round_at c = round_in bound t g algorithm c

  abbrev behind : ℕ → RoundsStateValue → FetchReply → Conversation Negotiated Error
  behind more c reply = behind_round bound t g algorithm more c reply

  -- what is sent are the requests of rounds, and the rounds that are told are these
  pub record Sends (more : ℕ) (c : RoundsStateValue) (stream : List ℕ) : Type 0 where
    pub rounds : List Round
    pub are : AreRounds g algorithm c.size c.so_far rounds
    pub going : AreOpen rounds
    pub lines : sent_in bound (negotiating more bound t g algorithm c) stream ≡ requests_of (asked_by t) c.shared rounds
    pub answered : (n : Negotiated) (rest : List ℕ) → answer_in bound (negotiating more bound t g algorithm c) stream ≡ Ok (n, rest) → n.rounds ≡ c.rounds ++ rounds

  sent_is : (more : ℕ) (c : RoundsStateValue) (stream : List ℕ) (one : List Line) (answer : Result (FetchReply × List ℕ) Error) → sent_in bound (round_at c) stream ≡ one → answer_in bound (round_at c) stream ≡ answer
      → sent_in bound (tree (suc more) c) stream ≡ one ++ sent_behind bound (λ reply. behind more c reply) answer
  sent_is more c stream one answer is at =
      ap (λ (x : Conversation Negotiated Error). sent_in bound x stream) (negotiating_is bound t g algorithm more c) ∙ sent_then bound (round_at c) (λ reply. behind more c reply) stream
      ∙ ap (λ (l : List Line). l ++ sent_behind bound (λ reply. behind more c reply) (answer_in bound (round_at c) stream)) is
      ∙ ap (λ (a : Result (FetchReply × List ℕ) Error). one ++ sent_behind bound (λ reply. behind more c reply) a) at

  answer_is : (more : ℕ) (c : RoundsStateValue) (stream : List ℕ) (answer : Result (FetchReply × List ℕ) Error) → answer_in bound (round_at c) stream ≡ answer
      → answer_in bound (tree (suc more) c) stream ≡ answer_behind bound (λ reply. behind more c reply) answer
  answer_is more c stream answer at =
      ap (λ (x : Conversation Negotiated Error). answer_in bound x stream) (negotiating_is bound t g algorithm more c) ∙ answer_then bound (round_at c) (λ reply. behind more c reply) stream
      ∙ ap (answer_behind bound (λ reply. behind more c reply)) at

  no_round : (more : ℕ) (c : RoundsStateValue) (stream : List ℕ) (e : Error) → sent_in bound (tree more c) stream ≡ [] → answer_in bound (tree more c) stream ≡ Err e → Sends more c stream
  no_round more c stream e none refused = record {
    rounds = [];
    are = tt;
    going = tt;
    lines = none;
    answered = λ n rest is. absurd (cc);
  }

  last_round : (more : ℕ) (c : RoundsStateValue) (stream : List ℕ) (reply : FetchReply) → sent_in bound (tree more c) stream ≡ request_in c ++ []
      → ((n : Negotiated) (rest : List ℕ) → answer_in bound (tree more c) stream ≡ Ok (n, rest) → n.rounds ≡ rounds_with c (window_in c) reply) → Sends more c stream
  last_round more c stream reply sent answered = record {
    rounds = round_of c (window_in c) reply ∷ [];
    are = (record { haves = refl; done = refl }, tt);
    going = (λ some. absurd (some refl), tt);
    lines = sent;
    answered = answered;
  }

  more_rounds : (more : ℕ) (c : RoundsStateValue) (stream rest : List ℕ) (reply : FetchReply) → is_end c (window_in c) reply ≡ false → (s : Sends more (rounds_state_after algorithm c (window_in c) reply) rest)
      → sent_in bound (tree (suc more) c) stream ≡ request_in c ++ sent_in bound (tree more (rounds_state_after algorithm c (window_in c) reply)) rest
      → answer_in bound (tree (suc more) c) stream ≡ answer_in bound (tree more (rounds_state_after algorithm c (window_in c) reply)) rest → Sends (suc more) c stream
  more_rounds more c stream rest reply going s sent answer = record {
    rounds = round_of c (window_in c) reply ∷ s.rounds;
    are = (record { haves = refl; done = refl }, s.are);
    going = (λ some. or_left (is_short c (window_in c)) reply.last going, s.going);
    lines = sent ∙ ap (λ (l : List Line). request_in c ++ l) s.lines;
    answered = λ n left is. s.answered n left (sym answer ∙ is) ∙ append_assoc c.rounds (round_of c (window_in c) reply ∷ []) s.rounds;
  }

  answered_round : (more : ℕ) (c : RoundsStateValue) (stream rest : List ℕ) (reply : FetchReply) (end : Bool) → is_end c (window_in c) reply ≡ end → sent_in bound (round_at c) stream ≡ request_in c → answer_in bound (round_at c) stream ≡ Ok (reply, rest)
      → Sends more (rounds_state_after algorithm c (window_in c) reply) rest → Sends (suc more) c stream
  answered_round more c stream rest reply true end sent at again =
      let n : Negotiated = record { rounds = rounds_with c (window_in c) reply; reply = reply } in
      let last : behind more c reply ≡ ends (Ok n) = ends_here bound t g algorithm more c reply end in
      last_round (suc more) c stream reply
      (sent_is more c stream (request_in c) (Ok (reply, rest)) sent at ∙ ap (λ (l : List Line). request_in c ++ l) (at_end_sent bound (behind more c reply) n rest last))
      (λ m left is. ap (λ (x : Negotiated). x.rounds) (same_told (answer_in bound (tree (suc more) c) stream) m n left rest is (answer_is more c stream (Ok (reply, rest)) at ∙ at_end_answer bound (behind more c reply) n rest last)))
  answered_round more c stream rest reply false end sent at again =
      let next : behind more c reply ≡ tree more (rounds_state_after algorithm c (window_in c) reply) = goes_on bound t g algorithm more c reply end in
      more_rounds more c stream rest reply end again
      (sent_is more c stream (request_in c) (Ok (reply, rest)) sent at ∙ ap (λ (x : Conversation Negotiated Error). request_in c ++ sent_in bound x rest) next)
      (answer_is more c stream (Ok (reply, rest)) at ∙ ap (λ (x : Conversation Negotiated Error). answer_in bound x rest) next)

  round_sends : (more : ℕ) (c : RoundsStateValue) (stream : List ℕ) (answer : Result (FetchReply × List ℕ) Error) → answer_in bound (round_at c) stream ≡ answer → SendsOne bound (round_at c) (request_in c) stream ⊎ SendsNone bound (round_at c) stream
      → ((reply : FetchReply) (rest : List ℕ) → Sends more (rounds_state_after algorithm c (window_in c) reply) rest) → Sends (suc more) c stream
  round_sends more c stream answer at (inr none) again =
      no_round (suc more) c stream none.refusal (sent_is more c stream [] (Err none.refusal) none.sent none.refused) (answer_is more c stream (Err none.refusal) none.refused)
  round_sends more c stream (Err e) at (inl one) again =
      last_round (suc more) c stream no_reply (sent_is more c stream (request_in c) (Err e) one.sent at)
      (λ n rest is. let refused : answer_in bound (tree (suc more) c) stream ≡ Err e = answer_is more c stream (Err e) at in absurd (cc))
  round_sends more c stream (Ok x) at (inl one) again =
      answered_round more c stream x.1 x.0 (is_end c (window_in c) x.0) refl one.sent at (again x.0 x.1)

  pub sends : (more : ℕ) (c : RoundsStateValue) (stream : List ℕ) → Sends more c stream
  sends zero c stream = no_round zero c stream _ (none_sent bound (tree zero c) _ stream (negotiating_none bound t g algorithm c)) (none_answer bound (tree zero c) _ stream (negotiating_none bound t g algorithm c))
  sends (suc more) c stream =
      round_sends more c stream (answer_in bound (round_at c) stream) refl (exchange_sends bound t (haves_told c.shared (window_in c).haves) (is_short c (window_in c)) stream)
      (λ reply rest. sends more (rounds_state_after algorithm c (window_in c) reply) rest)

-- ---- the whole stage

abbrev Lines : ℕ → Graph → FetchArgumentsValue → List ℕ → List Line
Lines bound g t stream = sent_in bound (converse_stage bound g t) stream

no_rounds : (g : Graph) (t : FetchArgumentsValue) (lines : List Line) → lines ≡ [] → TellsRounds g t lines []
no_rounds g t lines none = record { are = tt; going = tt; lines = none }

-- What is sent by the stage are the requests of rounds; where something is received, it tells them.
pub record SendsRounds (bound : ℕ) (g : Graph) (t : FetchArgumentsValue) (stream : List ℕ) (c : Conversation (Option Received) Error) : Type 0 where
  pub rounds : List Round
  pub tells : TellsRounds g t (sent_in bound c stream) rounds
  pub answered : (r : Received) (rest : List ℕ) → answer_in bound c stream ≡ Ok (Some r, rest) → r.negotiate.rounds ≡ rounds

sends_nothing : (bound : ℕ) (g : Graph) (t : FetchArgumentsValue) (stream : List ℕ) (c : Conversation (Option Received) Error) (answer : Result (Option Received) Error) → c ≡ ends answer → ((r : Received) → answer ≡ Ok (Some r) → ⊥) → SendsRounds bound g t stream c
unfolding sent_in answer_in
sends_nothing bound g t stream c (Ok None) is other = rw is (record {
  rounds = [];
  tells = no_rounds g t [] refl;
  answered = λ r rest e.
      let none : None ≡ Some r = same_told (answer_in bound (ends (Ok None)) stream) None (Some r) stream rest refl e in
      absurd (cc);
})
sends_nothing bound g t stream c (Ok (Some x)) is other = absurd (other x refl)
sends_nothing bound g t stream c (Err e) is other = rw is (record { rounds = []; tells = no_rounds g t [] refl; answered = λ r rest e. absurd (cc) })

same_received : (result : Result (Option Received) Error) (x y : Received) → result ≡ Ok (Some x) → result ≡ Ok (Some y) → x ≡ y
same_received result x y is at = cc

-- what is brought tells the rounds
unpacked_tells : (n : Negotiated) (c : Result Contents PackError) (r : Received) → unpacked n c ≡ Ok (Some r) → r.negotiate.rounds ≡ n.rounds
unpacked_tells n (Ok c) r is = ap (λ (x : Received). x.negotiate.rounds) (same_received (Ok (Some r)) r (with_pack n c) refl (sym is))
unpacked_tells n (Err e) r is = absurd (cc)

dry_tells : (dry : Bool) (n : Negotiated) (c : Result Contents PackError) (r : Received) → (if dry then Ok (Some (without_pack n)) else unpacked n c) ≡ Ok (Some r) → r.negotiate.rounds ≡ n.rounds
dry_tells true n c r is = ap (λ (x : Received). x.negotiate.rounds) (same_received (Ok (Some r)) r (without_pack n) refl (sym is))
dry_tells false n c r is = unpacked_tells n c r is

unless_tells : {X : Type 0} (refusal : Option Error) (result : Result X Error) (x : X) → result_unless refusal result ≡ Ok x → result ≡ Ok x
unless_tells None result x is = is
unless_tells (Some e) result x is = absurd (cc)

received_tells : (t : FetchArgumentsValue) (n : Negotiated) (r : Received) → received t n ≡ Ok (Some r) → r.negotiate.rounds ≡ n.rounds
unfolding received
received_tells t n r is = dry_tells t.dry_run n _ r (unless_tells (rejected t.settings t.view t.shallow n.reply) (read_of t.listed.handshake.object_hash t.dry_run n) (Some r) is)

brought : (rest left : List ℕ) (result : Result (Option Received) Error) (r : Received) → beside rest result ≡ Ok (Some r, left) → result ≡ Ok (Some r)
brought rest left (Ok x) r is = ap (λ (o : Option Received). Ok o) (same_told (beside rest (Ok x)) x (Some r) rest left refl is)
brought rest left (Err e) r is = absurd (cc)

brings_sent : (bound : ℕ) (t : FetchArgumentsValue) (answer : Result (Negotiated × List ℕ) Error) → sent_behind bound (λ n. ends (received t n)) answer ≡ []
unfolding sent_in
brings_sent bound t (Ok x) = refl
brings_sent bound t (Err e) = refl

brings_told : (bound : ℕ) (t : FetchArgumentsValue) (answer : Result (Negotiated × List ℕ) Error) (rounds : List Round) (r : Received) (rest : List ℕ) → ((n : Negotiated) (left : List ℕ) → answer ≡ Ok (n, left) → n.rounds ≡ rounds)
    → answer_behind bound (λ n. ends (received t n)) answer ≡ Ok (Some r, rest) → r.negotiate.rounds ≡ rounds
unfolding answer_in
brings_told bound t (Ok x) rounds r rest told is = received_tells t x.0 r (brought x.1 rest (received t x.0) r is) ∙ told x.0 x.1 refl
brings_told bound t (Err e) rounds r rest told is = absurd (cc)

fetching_sends : (bound : ℕ) (g : Graph) (t : FetchArgumentsValue) (stream : List ℕ) → SendsRounds bound g t stream (fetching bound g t)
unfolding fetching
fetching_sends bound g t stream =
    let algorithm : Algorithm = algorithm_in t.settings in
    let first : RoundsStateValue = first_rounds_state algorithm t.view in
    let tree : Conversation Negotiated Error = negotiating (suc (map.len g)) bound t g algorithm first in
    let s = sends bound t g algorithm (suc (map.len g)) first stream in
    record {
      rounds = s.rounds;
      tells = record {
        are = s.are;
        going = s.going;
        lines = sent_then bound tree (λ n. ends (received t n)) stream ∙ ap (λ (l : List Line). sent_in bound tree stream ++ l) (brings_sent bound t (answer_in bound tree stream)) ∙ append-nil _ ∙ s.lines;
      };
      answered = λ r rest is. brings_told bound t (answer_in bound tree stream) s.rounds r rest (λ n left e. s.answered n left e) (sym (answer_then bound tree (λ n. ends (received t n)) stream) ∙ is);
    }

pub wanting_sends : (bound : ℕ) (g : Graph) (t : FetchArgumentsValue) (stream : List ℕ) (wants : List ObjectId) → SendsRounds bound g t stream (wanting bound g t wants)
wanting_sends bound g t stream [] = sends_nothing bound g t stream _ (Ok None) refl (λ r is. cc)
wanting_sends bound g t stream (id ∷ ids) = fetching_sends bound g t stream

unless_sends : (bound : ℕ) (g : Graph) (t : FetchArgumentsValue) (stream : List ℕ) (refusal : Option Error) (c : Conversation (Option Received) Error) → SendsRounds bound g t stream c → SendsRounds bound g t stream (unless refusal c)
unless_sends bound g t stream None c h = h
unless_sends bound g t stream (Some e) c h = sends_nothing bound g t stream _ (Err e) refl (λ r is. cc)

pub stage_sends : (bound : ℕ) (g : Graph) (t : FetchArgumentsValue) (stream : List ℕ) → SendsRounds bound g t stream (converse_stage bound g t)
unfolding converse_stage
stage_sends bound g t stream = unless_sends bound g t stream (option_or (no_mapping t) (option_or (other_hash t) (option_or (unfit t.settings) (lacking t)))) (wanting bound g t t.view.wants) (wanting_sends bound g t stream t.view.wants)
