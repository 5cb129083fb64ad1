-- The fetch of a pack, along what a server gives.
use Rattle.std.proofs.Common.{◌≡◌, ℕ, suc, ◌<◌, ◌≤◌, true, List, [], ◌∷◌, ◌++◌, Option, Some, None, Ok, Err, refl, sym, ap, subst, ◌∙◌, sum_by, codes}
use Rattle.std.specs.Option.{option_or}
use Rattle.std.specs.FinMap as map
use Rattle.fetch_store.specs.Graph.{Graph}
use Rattle.fetch_base.specs.declared.id.ObjectId.{ObjectId}
use Rattle.fetch_replies.specs.Awaited.{start_of, step_of}
use Rattle.fetch_lines.specs.Lines.{line_len}
use Rattle.fetch_lines.specs.Requests.{text_line}
use Rattle.fetch_replies.specs.Stepping.{says}
use Rattle.fetch_replies.specs.Steps.{error_text}
use Rattle.fetch_lines.specs.Texts.{is_error}
use Rattle.fetch_lines.specs.Written.{first_too_long, lines_text, too_long_in}
use Rattle.fetch_lines.specs.declared.lines.line.Line.{Line}
use Rattle.fetch_replies.specs.declared.replies.reply.ReplyKind.TheVariants as await
use Rattle.fetch_replies.specs.declared.replies.reply.ReplyError.TheVariants.{Short, TooLong}
use Rattle.fetch_replies.specs.declared.replies.reply.ParsedReply.{ParsedReply}
use Rattle.fetch_replies.specs.declared.replies.reply.ParsedReply.TheVariants as told
use Rattle.fetch_lines.specs.declared.requests.records.FetchReply.{FetchReply}
use Rattle.fetch_negotiate.specs.Requests.{fetch_request}
use Rattle.fetch_negotiate.specs.Windows.{window_of}
use Rattle.fetch_negotiate.specs.declared.algorithm.Algorithm.{Algorithm}
use Rattle.fetch_negotiate.specs.declared.algorithm.Algorithm.TheVariants as algorithms
use Rattle.fetch_conversation.specs.Conversation.{Conversation, ends, asks, asks_unless, and_then}
use Rattle.fetch_conversation.specs.ConverseStage.{algorithm_in, converse_stage, fetching, lacking, no_mapping, other_hash, received, unfit, wanting}
use Rattle.fetch_conversation.specs.Exchange.{FetchArgumentsValue, asked_by, exchange, failed, replied, reply_to, too_long}
use Rattle.fetch_conversation.specs.ListStage.{unless}
use Rattle.fetch_conversation.specs.Rounds.{Negotiated, first_rounds_state, negotiating}
use Rattle.fetch_conversation.specs.declared.conversing.Received.{Received}
use Rattle.fetch_conversation.specs.declared.fetch.Error.{Error}
use Rattle.fetch_asked.specs.declared.asked.Asked.TheVariants.{Fetch}
use Rattle.fetch_serve.specs.Replies.{error_lines, replies_of, reply_lines}
use Rattle.fetch_serve.specs.Served.{Data}
use Rattle.fetch_asked.specs.Texts.{request_bound}
use Rattle.fetch_mirror.specs.Fetches.{AreAbove, AreNew, IsFetching, IsWanting, one_round, wanting_behind}
use Rattle.fetch_mirror.specs.GoingAlong.{GoesAlong, GoesTo}
use Rattle.fetch_mirror.proofs.FetchRead.{fetch_read}
use Rattle.fetch_mirror.proofs.GoingAlong.{goes_end}
use Rattle.fetch_mirror.proofs.RequestsRead.{asked_too_long, asked_whole}
use Rattle.fetch_mirror.proofs.ServedAlong.{AreWhole, IsServed, served_on, served_refused, served_to, served_too_long, unserved}
use Rattle.fetch_mirror.proofs.StagesAlong.{to_end}

-- ---- the tree

module _ (d : Data) (bound : ℕ) (g : Graph) (t : FetchArgumentsValue) (border : List ObjectId) (id : ObjectId) (wants : List ObjectId) (reply : FetchReply) (h : IsFetching d t border id wants reply) where
  request : List Line
  request = fetch_request (asked_by t) [] true

  -- what follows a reply
  next : ParsedReply → Conversation (Option Received) Error
  next = λ x. and_then (and_then (replied x) (λ reply. ends (Ok (one_round reply)))) (λ n. ends (received t n))

  tree : Conversation (Option Received) Error
  tree = asks request (await.Reply (reply_to t [] true)) (failed bound) next

  asks_it : exchange bound t [] true ≡ asks request (await.Reply (reply_to t [] true)) (failed bound) (λ x. replied x)
  unfolding exchange request
  asks_it = ap (λ (o : Option ℕ). asks_unless o too_long (asks (fetch_request (asked_by t) [] true) (await.Reply (reply_to t [] true)) (failed bound) (λ x. replied x))) h.fits

  one : (more : ℕ) → negotiating (suc more) bound t g algorithms.Noop (first_rounds_state algorithms.Noop t.view) ≡ and_then (exchange bound t [] true) (λ reply. ends (Ok (one_round reply)))
  unfolding negotiating window_of
  one more = refl

  stage : converse_stage bound g t ≡ tree
  unfolding converse_stage fetching tree next and_then
  stage =
      ap (λ (o : Option Error). unless o (wanting bound g t t.view.wants)) h.accepted
      ∙ ap (wanting bound g t) h.wanted
      ∙ ap (λ (a : Algorithm). and_then (negotiating (suc (map.len g)) bound t g a (first_rounds_state a t.view)) (λ n. ends (received t n))) h.noop
      ∙ ap (λ (c : Conversation Negotiated Error). and_then c (λ n. ends (received t n))) (one (map.len g))
      ∙ ap (λ (c : Conversation FetchReply Error). and_then (and_then c (λ reply. ends (Ok (one_round reply)))) (λ n. ends (received t n))) asks_it

  ends_so : next (told.Reply reply) ≡ ends (received t (one_round reply))
  unfolding next and_then
  ends_so = refl

  served : (heard : List ℕ) → AreWhole d.hash true heard → sum_by line_len request ≤ request_bound → IsServed d true heard request (await.Reply (reply_to t [] true)) (Fetch (wanting_behind border (id ∷ wants))) (told.Reply reply)
  unfolding request
  served heard whole short = record {
    whole = whole;
    read = asked_whole d.hash true (fetch_request (asked_by t) [] true) (Fetch (wanting_behind border (id ∷ wants))) (fetch_read d.hash (asked_by t) border id wants h.asked h.above h.new) h.fits short;
    tells = h.tells;
    fits = h.whole;
  }

  -- The pack is read.
  pub pack_along : (heard : List ℕ) → AreWhole d.hash true heard → sum_by line_len (fetch_request (asked_by t) [] true) ≤ request_bound → sum_by line_len (reply_lines d (Fetch (wanting_behind border (id ∷ wants)))) ≤ bound
      → GoesAlong bound (replies_of d) heard (converse_stage bound g t) (fetch_request (asked_by t) [] true ++ []) (received t (one_round reply))
  unfolding request tree
  pack_along heard whole short within =
      subst (λ (c : Conversation (Option Received) Error). GoesAlong bound (replies_of d) heard c (fetch_request (asked_by t) [] true ++ []) (received t (one_round reply))) (sym stage)
      (served_on d bound true heard (fetch_request (asked_by t) [] true) (await.Reply (reply_to t [] true)) (failed bound) next (Fetch (wanting_behind border (id ∷ wants))) (told.Reply reply) [] (received t (one_round reply)) (served heard whole short) within
      (subst (λ (c : Conversation (Option Received) Error). GoesAlong bound (replies_of d) (heard ++ lines_text (fetch_request (asked_by t) [] true)) c [] (received t (one_round reply))) (sym ends_so)
      (goes_end bound (replies_of d) (heard ++ lines_text (fetch_request (asked_by t) [] true)) (received t (one_round reply)))))

  -- The same as a stage behind which the conversation goes on.
  pub pack_to : (heard : List ℕ) (x : Option Received) → AreWhole d.hash true heard → sum_by line_len (fetch_request (asked_by t) [] true) ≤ request_bound → sum_by line_len (reply_lines d (Fetch (wanting_behind border (id ∷ wants)))) ≤ bound
      → received t (one_round reply) ≡ Ok x
      → GoesTo bound (replies_of d) heard (heard ++ lines_text (fetch_request (asked_by t) [] true)) (converse_stage bound g t) (fetch_request (asked_by t) [] true ++ []) x
  unfolding request tree
  pack_to heard x whole short within is =
      subst (λ (c : Conversation (Option Received) Error). GoesTo bound (replies_of d) heard (heard ++ lines_text (fetch_request (asked_by t) [] true)) c (fetch_request (asked_by t) [] true ++ []) x) (sym stage)
      (served_to d bound true heard (fetch_request (asked_by t) [] true) (await.Reply (reply_to t [] true)) (failed bound) next (Fetch (wanting_behind border (id ∷ wants))) (told.Reply reply)
      (heard ++ lines_text (fetch_request (asked_by t) [] true)) [] x (served heard whole short) within
      (subst (λ (c : Conversation (Option Received) Error). GoesTo bound (replies_of d) (heard ++ lines_text (fetch_request (asked_by t) [] true)) (heard ++ lines_text (fetch_request (asked_by t) [] true)) c [] x) (sym ends_so)
      (to_end bound (replies_of d) (heard ++ lines_text (fetch_request (asked_by t) [] true)) (received t (one_round reply)) x is)))

  -- Its reply passes the bound.
  pub pack_too_long : (heard : List ℕ) → AreWhole d.hash true heard → sum_by line_len (fetch_request (asked_by t) [] true) ≤ request_bound → bound < sum_by line_len (reply_lines d (Fetch (wanting_behind border (id ∷ wants))))
      → GoesAlong bound (replies_of d) heard (converse_stage bound g t) (fetch_request (asked_by t) [] true ++ []) (Err (failed bound TooLong))
  unfolding request tree
  pack_too_long heard whole short far =
      subst (λ (c : Conversation (Option Received) Error). GoesAlong bound (replies_of d) heard c (fetch_request (asked_by t) [] true ++ []) (Err (failed bound TooLong))) (sym stage)
      (served_too_long d bound true heard (fetch_request (asked_by t) [] true) (await.Reply (reply_to t [] true)) (failed bound) next (Fetch (wanting_behind border (id ∷ wants))) (told.Reply reply) (served heard whole short) far)

  -- The request is longer than a server reads: it is dead.
  pub pack_unserved : (heard : List ℕ) → AreWhole d.hash true heard → request_bound < sum_by line_len (fetch_request (asked_by t) [] true)
      → GoesAlong bound (replies_of d) heard (converse_stage bound g t) (fetch_request (asked_by t) [] true ++ []) (Err (failed bound (Short 0)))
  unfolding request tree
  pack_unserved heard whole long =
      subst (λ (c : Conversation (Option Received) Error). GoesAlong bound (replies_of d) heard c (fetch_request (asked_by t) [] true ++ []) (Err (failed bound (Short 0)))) (sym stage)
      (unserved d bound true heard (fetch_request (asked_by t) [] true) (await.Reply (reply_to t [] true)) (failed bound) next whole
      (asked_too_long d.hash true (fetch_request (asked_by t) [] true) (Fetch (wanting_behind border (id ∷ wants))) (fetch_read d.hash (asked_by t) border id wants h.asked h.above h.new) h.fits long))

-- where nothing is wanted nothing is asked
no_request : (bound : ℕ) (g : Graph) (t : FetchArgumentsValue) → option_or (no_mapping t) (option_or (other_hash t) (option_or (unfit t.settings) (lacking t))) ≡ None → t.view.wants ≡ [] → converse_stage bound g t ≡ ends (Ok None)
unfolding converse_stage
no_request bound g t accepted none = ap (λ (o : Option Error). unless o (wanting bound g t t.view.wants)) accepted ∙ ap (wanting bound g t) none

-- Nothing is wanted: nothing is asked.
pub nothing_to : (d : Data) (bound : ℕ) (g : Graph) (t : FetchArgumentsValue) (heard : List ℕ) → option_or (no_mapping t) (option_or (other_hash t) (option_or (unfit t.settings) (lacking t))) ≡ None → t.view.wants ≡ []
    → GoesTo bound (replies_of d) heard heard (converse_stage bound g t) [] None
nothing_to d bound g t heard accepted none =
    subst (λ (c : Conversation (Option Received) Error). GoesTo bound (replies_of d) heard heard c [] None) (sym (no_request bound g t accepted none)) (to_end bound (replies_of d) heard (Ok None) None refl)

-- ---- a pack that is too large

-- What is asked stands but for the pack: nothing is refused before the request, which the server reads.
pub record IsRequesting (d : Data) (t : FetchArgumentsValue) (border : List ObjectId) (id : ObjectId) (wants : List ObjectId) : Type 0 where
  pub accepted : option_or (no_mapping t) (option_or (other_hash t) (option_or (unfit t.settings) (lacking t))) ≡ None
  pub wanted : t.view.wants ≡ id ∷ wants
  pub noop : algorithm_in t.settings ≡ algorithms.Noop
  pub asked : IsWanting d.hash (asked_by t) border id wants
  pub above : AreAbove d.hash [] border
  pub new : AreNew d.hash [] (id ∷ wants)

module _ (d : Data) (bound : ℕ) (g : Graph) (t : FetchArgumentsValue) (border : List ObjectId) (id : ObjectId) (wants : List ObjectId) (h : IsRequesting d t border id wants) where
  -- what follows a reply
  abbrev behind : ParsedReply → Conversation (Option Received) Error
  behind = λ x. and_then (and_then (replied x) (λ reply. ends (Ok (one_round reply)))) (λ n. ends (received t n))

  once_asked : (more : ℕ) → negotiating (suc more) bound t g algorithms.Noop (first_rounds_state algorithms.Noop t.view) ≡ and_then (exchange bound t [] true) (λ reply. ends (Ok (one_round reply)))
  unfolding negotiating window_of
  once_asked more = refl

  exchanges : converse_stage bound g t ≡ and_then (and_then (exchange bound t [] true) (λ reply. ends (Ok (one_round reply)))) (λ n. ends (received t n))
  unfolding converse_stage fetching
  exchanges =
      ap (λ (o : Option Error). unless o (wanting bound g t t.view.wants)) h.accepted
      ∙ ap (wanting bound g t) h.wanted
      ∙ ap (λ (a : Algorithm). and_then (negotiating (suc (map.len g)) bound t g a (first_rounds_state a t.view)) (λ n. ends (received t n))) h.noop
      ∙ ap (λ (c : Conversation Negotiated Error). and_then c (λ n. ends (received t n))) (once_asked (map.len g))

  -- by whether a line of the request is too long
  unsent_by : (long : Option ℕ) → first_too_long (fetch_request (asked_by t) [] true) ≡ long → and_then (and_then (exchange bound t [] true) (λ reply. ends (Ok (one_round reply)))) (λ n. ends (received t n))
      ≡ and_then (and_then (asks_unless long too_long (asks (fetch_request (asked_by t) [] true) (await.Reply (reply_to t [] true)) (failed bound) (λ x. replied x))) (λ reply. ends (Ok (one_round reply)))) (λ n. ends (received t n))
  unfolding exchange
  unsent_by long is = ap (λ (o : Option ℕ). and_then (and_then (asks_unless o too_long (asks (fetch_request (asked_by t) [] true) (await.Reply (reply_to t [] true)) (failed bound) (λ x. replied x))) (λ reply. ends (Ok (one_round reply)))) (λ n. ends (received t n))) is

  ends_unsent : (n : ℕ) → and_then (and_then (asks_unless (Some n) too_long (asks (fetch_request (asked_by t) [] true) (await.Reply (reply_to t [] true)) (failed bound) (λ x. replied x))) (λ reply. ends (Ok (one_round reply)))) (λ n. ends (received t n)) ≡ ends (Err (too_long n))
  unfolding and_then
  ends_unsent n = refl

  asks_sent : and_then (and_then (asks_unless None too_long (asks (fetch_request (asked_by t) [] true) (await.Reply (reply_to t [] true)) (failed bound) (λ x. replied x))) (λ reply. ends (Ok (one_round reply)))) (λ n. ends (received t n)) ≡ asks (fetch_request (asked_by t) [] true) (await.Reply (reply_to t [] true)) (failed bound) behind
  unfolding and_then
  asks_sent = refl

  sends : first_too_long (fetch_request (asked_by t) [] true) ≡ None → converse_stage bound g t ≡ asks (fetch_request (asked_by t) [] true) (await.Reply (reply_to t [] true)) (failed bound) behind
  sends fits = exchanges ∙ unsent_by None fits ∙ asks_sent

  -- A line of the request is too long: it isn't sent.
  pub pack_unsent : (heard : List ℕ) (n : ℕ) → first_too_long (fetch_request (asked_by t) [] true) ≡ Some n → GoesAlong bound (replies_of d) heard (converse_stage bound g t) [] (Err (too_long n))
  pack_unsent heard n is =
      subst (λ (c : Conversation (Option Received) Error). GoesAlong bound (replies_of d) heard c [] (Err (too_long n))) (sym (exchanges ∙ unsent_by (Some n) is ∙ ends_unsent n))
      (goes_end bound (replies_of d) heard (Err (too_long n)))

  -- a line that says why the server fails
  says_so : (text : List ℕ) → step_of (start_of (await.Reply (reply_to t [] true))) (text_line (codes "ERR " ++ text)) ≡ says (error_text ((codes "ERR " ++ text) ++ 10 ∷ []))
  unfolding step_of is_error
  says_so text = refl

  -- The request is longer than a server reads: it is dead.
  pub pack_unread : (heard : List ℕ) → AreWhole d.hash true heard → first_too_long (fetch_request (asked_by t) [] true) ≡ None → request_bound < sum_by line_len (fetch_request (asked_by t) [] true)
      → GoesAlong bound (replies_of d) heard (converse_stage bound g t) (fetch_request (asked_by t) [] true ++ []) (Err (failed bound (Short 0)))
  pack_unread heard whole fits long =
      subst (λ (c : Conversation (Option Received) Error). GoesAlong bound (replies_of d) heard c (fetch_request (asked_by t) [] true ++ []) (Err (failed bound (Short 0)))) (sym (sends fits))
      (unserved d bound true heard (fetch_request (asked_by t) [] true) (await.Reply (reply_to t [] true)) (failed bound) behind whole
      (asked_too_long d.hash true (fetch_request (asked_by t) [] true) (Fetch (wanting_behind border (id ∷ wants))) (fetch_read d.hash (asked_by t) border id wants h.asked h.above h.new) fits long))

  -- The server answers by a line that says why it fails.
  pub pack_refused : (heard text : List ℕ) → AreWhole d.hash true heard → first_too_long (fetch_request (asked_by t) [] true) ≡ None → sum_by line_len (fetch_request (asked_by t) [] true) ≤ request_bound
      → reply_lines d (Fetch (wanting_behind border (id ∷ wants))) ≡ error_lines text → first_too_long (error_lines text) ≡ None
      → (e : Error) × GoesAlong bound (replies_of d) heard (converse_stage bound g t) (fetch_request (asked_by t) [] true ++ []) (Err e)
  pack_refused heard text whole fits short is line_fits =
      let line = text_line (codes "ERR " ++ text) in
      let asked = Fetch (wanting_behind border (id ∷ wants)) in
      let r = served_refused d bound true heard (fetch_request (asked_by t) [] true) (await.Reply (reply_to t [] true)) (failed bound) behind asked line (error_text ((codes "ERR " ++ text) ++ 10 ∷ [])) whole
      (asked_whole d.hash true (fetch_request (asked_by t) [] true) asked (fetch_read d.hash (asked_by t) border id wants h.asked h.above h.new) fits short) is (says_so text) (fit_first (too_long_in line) None line_fits) in (
        failed bound r.0,
        subst (λ (c : Conversation (Option Received) Error). GoesAlong bound (replies_of d) heard c (fetch_request (asked_by t) [] true ++ []) (Err (failed bound r.0))) (sym (sends fits)) r.1,
      )
    where
      fit_first : (a b : Option ℕ) → option_or a b ≡ None → a ≡ None
      fit_first None b e = refl
      fit_first (Some n) b e = absurd cc
