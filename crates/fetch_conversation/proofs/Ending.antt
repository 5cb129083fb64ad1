-- The rounds are never used up.
use Rattle.std.proofs.Common.{◌≡◌, ℕ, zero, suc, ◌+◌, ◌*◌, ◌<◌, ◌≤◌, Bool, true, false, List, [], ◌∷◌, ◌++◌, length, Result, Ok, Err, refl, sym, ap, ◌∙◌, subst, arith, append_assoc, append-nil, length-append}
use Rattle.std.specs.Prelude.{◌||◌}
use Rattle.std.specs.FinMap as map
use Rattle.std.specs.List.{AllByRecursion}
use Rattle.std.proofs.lemmas.List.Elements.{All-from_recursion}
use Rattle.fetch_store.specs.Graph.{Graph}
use Rattle.fetch_lines.specs.declared.lines.line.Line.{Line}
use Rattle.fetch_lines.specs.declared.requests.records.FetchReply.{FetchReply}
use Rattle.fetch_negotiate.specs.Any.{begun}
use Rattle.fetch_negotiate.specs.Rounds.{AreRounds}
use Rattle.fetch_negotiate.specs.Windows.{Window, first_size}
use Rattle.fetch_negotiate.specs.declared.algorithm.Algorithm.{Algorithm}
use Rattle.fetch_negotiate.specs.declared.algorithm.Round.{Round}
use Rattle.fetch_negotiate.proofs.Rounding.{are_few}
use Rattle.fetch_conversation.specs.Conversation.{Conversation, and_then, sent_in, answer_in}
use Rattle.fetch_conversation.specs.Exchange.{FetchArgumentsValue}
use Rattle.fetch_conversation.specs.Rounds.{RoundsStateValue, Negotiated, first_rounds_state, next_window, is_short, is_end, round_of, rounds_state_after, negotiating}
use Rattle.fetch_conversation.specs.declared.conversing.View.{View}
use Rattle.fetch_conversation.specs.declared.fetch.Error.{Error}
use Rattle.fetch_conversation.proofs.Chained.{sent_behind, answer_behind, sent_then, answer_then}
use Rattle.fetch_conversation.proofs.Held.{round_in, behind_round, negotiating_is, goes_on, ends_here}

module _ (bound : ℕ) (t : FetchArgumentsValue) (g : Graph) (algorithm : Algorithm) (view : View) where
  -- a state that open rounds lead to
  pub record IsRoundsState (c : RoundsStateValue) : Type 0 where
    pub are : (more : List Round) → AreRounds g algorithm c.size c.so_far more → AreRounds g algorithm first_size (begun algorithm view.tips view.border) (c.rounds ++ more)
    pub going : AllByRecursion (λ (r : Round). r.done ≡ false) c.rounds

  open_more : (rounds : List Round) (r : Round) → AllByRecursion (λ (r : Round). r.done ≡ false) rounds → r.done ≡ false → AllByRecursion (λ (r : Round). r.done ≡ false) (rounds ++ r ∷ [])
  open_more [] r all one = (one, tt)
  open_more (x ∷ rounds) r all one = (all.0, open_more rounds r all.1 one)

  or_left : (a b : Bool) → (a || b) ≡ false → a ≡ false
  or_left false b is = refl
  or_left true b is = absurd (cc)

  pub rounds_state_on : (c : RoundsStateValue) (reply : FetchReply) → IsRoundsState c → is_end c (next_window g algorithm c) reply ≡ false → IsRoundsState (rounds_state_after algorithm c (next_window g algorithm c) reply)
  rounds_state_on c reply h going =
      let w : Window = next_window g algorithm c in
      let r : Round = round_of c w reply in
      record {
        are = λ more next. subst (λ (l : List Round). AreRounds g algorithm first_size (begun algorithm view.tips view.border) l) (sym (append_assoc c.rounds (r ∷ []) more)) (h.are (r ∷ more) (record { haves = refl; done = refl }, next));
        going = open_more c.rounds r h.going (or_left (is_short c w) reply.last going);
      }

  pub few : (c : RoundsStateValue) → IsRoundsState c → 16 * length c.rounds ≤ map.len g
  few c h =
      are_few g algorithm view.tips view.border c.rounds (subst (λ (l : List Round). AreRounds g algorithm first_size (begun algorithm view.tips view.border) l) (append-nil c.rounds) (h.are [] tt))
      (All-from_recursion (λ (r : Round). r.done ≡ false) c.rounds h.going)

  -- the same is sent to one who says this, and the same is answered
  pub record IsSame (a b : Conversation Negotiated Error) : Type 0 where
    pub sent : (stream : List ℕ) → sent_in bound a stream ≡ sent_in bound b stream
    pub answered : (stream : List ℕ) → answer_in bound a stream ≡ answer_in bound b stream

  same_none : (a : Conversation Negotiated Error) → IsSame a a
  same_none a = record { sent = λ stream. refl; answered = λ stream. refl }

  same_then : (c : Conversation FetchReply Error) (f f' : FetchReply → Conversation Negotiated Error) → ((reply : FetchReply) → IsSame (f reply) (f' reply)) → IsSame (and_then c f) (and_then c f')
  same_then c f f' h = record {
    sent = λ stream. sent_then bound c f stream ∙ ap (λ (l : List Line). sent_in bound c stream ++ l) (by_sent (answer_in bound c stream)) ∙ sym (sent_then bound c f' stream);
    answered = λ stream. answer_then bound c f stream ∙ by_answer (answer_in bound c stream) ∙ sym (answer_then bound c f' stream);
  }
    where
      by_sent : (answer : Result (FetchReply × List ℕ) Error) → sent_behind bound f answer ≡ sent_behind bound f' answer
      by_sent (Ok x) = (h x.0).sent x.1
      by_sent (Err e) = refl

      by_answer : (answer : Result (FetchReply × List ℕ) Error) → answer_behind bound f answer ≡ answer_behind bound f' answer
      by_answer (Ok x) = (h x.0).answered x.1
      by_answer (Err e) = refl

  same_by : (a b c d : Conversation Negotiated Error) → a ≡ b → c ≡ d → IsSame b d → IsSame a c
  same_by a b c d is at h = rw (is, at) h

  same_behind : (left more : ℕ) (c : RoundsStateValue) (reply : FetchReply) (end : Bool) → is_end c (next_window g algorithm c) reply ≡ end
      → (is_end c (next_window g algorithm c) reply ≡ false → IsSame (negotiating (left + more) bound t g algorithm (rounds_state_after algorithm c (next_window g algorithm c) reply)) (negotiating left bound t g algorithm (rounds_state_after algorithm c (next_window g algorithm c) reply)))
      → IsSame (behind_round bound t g algorithm (left + more) c reply) (behind_round bound t g algorithm left c reply)
  same_behind left more c reply true end again =
      same_by _ _ _ _ (ends_here bound t g algorithm (left + more) c reply end) (ends_here bound t g algorithm left c reply end) (same_none _)
  same_behind left more c reply false end again =
      same_by _ _ _ _ (goes_on bound t g algorithm (left + more) c reply end) (goes_on bound t g algorithm left c reply end) (again end)

  same_rounds : (left more : ℕ) (c : RoundsStateValue) → IsRoundsState c → map.len g < left + length c.rounds → IsSame (negotiating (left + more) bound t g algorithm c) (negotiating left bound t g algorithm c)
  same_rounds zero more c h less = let le = few c h in absurd (omega arith)
  same_rounds (suc left) more c h less =
      let sum : suc left + more ≡ suc (left + more) = omega arith in
      same_by _ _ _ _ (ap (λ (n : ℕ). negotiating n bound t g algorithm c) sum ∙ negotiating_is bound t g algorithm (left + more) c) (negotiating_is bound t g algorithm left c)
      (same_then (round_in bound t g algorithm c) (λ reply. behind_round bound t g algorithm (left + more) c reply) (λ reply. behind_round bound t g algorithm left c reply)
      (λ reply. same_behind left more c reply (is_end c (next_window g algorithm c) reply) refl
      (λ going. same_rounds left more (rounds_state_after algorithm c (next_window g algorithm c) reply) (rounds_state_on c reply h going)
      (let l = length-append c.rounds (round_of c (next_window g algorithm c) reply ∷ []) in omega arith))))

  pub first_is : IsRoundsState (first_rounds_state algorithm view)
  first_is = record { are = λ more h. h; going = tt }

  pub never_used_up : (more : ℕ) → IsSame (negotiating (suc (map.len g) + more) bound t g algorithm (first_rounds_state algorithm view)) (negotiating (suc (map.len g)) bound t g algorithm (first_rounds_state algorithm view))
  never_used_up more = same_rounds (suc (map.len g)) more (first_rounds_state algorithm view) first_is (omega arith)
