-- The rounds are held, one after another.
use Rattle.std.proofs.Common.{◌≡◌, ℕ, zero, suc, ◌+◌, ◌-◌, ◌<◌, Bool, true, false, List, [], ◌∷◌, ◌++◌, Option, Some, Result, Ok, Err, refl, sym, ap, ◌∙◌, subst, arith}
use Rattle.std.specs.Prelude.{◌||◌, if◌then◌else◌}
use Rattle.fetch_store.specs.Graph.{Graph}
use Rattle.fetch_base.specs.declared.id.ObjectId.{ObjectId}
use Rattle.fetch_lines.specs.Talks.{Talk}
use Rattle.fetch_lines.specs.Written.{lines_text}
use Rattle.fetch_lines.specs.KnownIds.{each_once}
use Rattle.fetch_lines.specs.declared.requests.records.FetchReply.{FetchReply}
use Rattle.fetch_negotiate.specs.Rounds.{sharing_all}
use Rattle.fetch_negotiate.specs.Windows.{next_size}
use Rattle.fetch_negotiate.specs.declared.algorithm.Algorithm.{Algorithm}
use Rattle.fetch_negotiate.specs.declared.algorithm.Round.{Round}
use Rattle.fetch_conversation.specs.Conversation.{Conversation, ends, and_then, sent_in, answer_in, Concludes, RefusesWith, Breaks, ConversesBy, Converses}
use Rattle.fetch_conversation.specs.Conversing.{IsHeld, negotiated_of}
use Rattle.fetch_conversation.specs.Errors.{is_free_receiving, is_stopped}
use Rattle.fetch_conversation.specs.Exchange.{FetchArgumentsValue, haves_told, other_reply, exchange}
use Rattle.fetch_conversation.specs.Rounds.{RoundsStateValue, Negotiated, next_window, is_short, is_end, rounds_with, rounds_state_after, negotiating}
use Rattle.fetch_conversation.specs.declared.fetch.Error.{Error}
use Rattle.fetch_conversation.specs.declared.negotiate.Negotiate.{Negotiate}
use Rattle.fetch_conversation.proofs.Chained.{concludes_then, breaks_late, breaks_early}
use Rattle.fetch_conversation.proofs.Tied.{broken_first, broken_free, concluded_first}

-- ---- a conversation that is an answer

nothing_answers : {X E : Type 0} (bound : ℕ) (c : Conversation X E) (x : X) (stream : List ℕ) → c ≡ ends (Ok x) → answer_in bound c stream ≡ Ok (x, stream)
unfolding answer_in
nothing_answers bound c x stream is = rw is refl

nothing_sent : {X E : Type 0} (bound : ℕ) (c : Conversation X E) (x : X) (stream : List ℕ) → c ≡ ends (Ok x) → lines_text (sent_in bound c stream) ≡ []
unfolding sent_in
nothing_sent bound c x stream is = rw is refl

pub concluded_at_once : {X E : Type 0} (answers : Bool) (bound : ℕ) (now : Option Talk) (pending : List ℕ) (c : Conversation X E) (x : X) → c ≡ ends (Ok x) → Concludes answers bound now now pending c x pending
concluded_at_once answers bound now pending c x is = concluded_first answers bound now pending c x (λ stream. nothing_answers bound c x stream is) (λ stream. nothing_sent bound c x stream is)

pub refusing : {X E : Type 0} (bound : ℕ) (c : Conversation X E) (e : E) (stream : List ℕ) → c ≡ ends (Err e) → RefusesWith bound c stream [] e
unfolding sent_in answer_in
refusing bound c e stream is = rw is (record { answer = refl; asked = refl })

pub broken_at_once : {X E : Type 0} (free stopped : E → Bool) (answers : Bool) (bound : ℕ) (now : Option Talk) (pending : List ℕ) (c : Conversation X E) (e : E) → stopped e ≡ false → (free e ≡ false → c ≡ ends (Err e)) → Breaks free stopped answers bound now now pending c e
broken_at_once free stopped answers bound now pending c e going is = broken_first free stopped answers bound now pending c e going (λ isnt stream. refusing bound c e stream (is isnt))

-- ---- what is left of a conversation

-- However this rest is held, so is the whole.
pub record Leads {X E : Type 0} (free stopped : E → Bool) (answers : Bool) (bound : ℕ) (old : Option Talk) (pending : List ℕ) (c : Conversation X E) (now : Option Talk) (left : List ℕ) (rest : Conversation X E) : Type 0 where
  pub whole : (new : Option Talk) (behind : List ℕ) (result : Result X E) → ConversesBy free stopped answers bound now new left behind rest result → ConversesBy free stopped answers bound old new pending behind c result

pub leads_none : {X E : Type 0} (free stopped : E → Bool) (answers : Bool) (bound : ℕ) (old : Option Talk) (pending : List ℕ) (c : Conversation X E) → Leads free stopped answers bound old pending c old pending c
leads_none free stopped answers bound old pending c = record { whole = λ new behind result h. h }

pub leads_then : {X E : Type 0} (free stopped : E → Bool) (answers : Bool) (bound : ℕ) (old mid now : Option Talk) (pending left behind : List ℕ) (c d e : Conversation X E)
    → Leads free stopped answers bound old pending c mid left d → Leads free stopped answers bound mid left d now behind e → Leads free stopped answers bound old pending c now behind e
leads_then free stopped answers bound old mid now pending left behind c d e h k = record { whole = λ new rest result r. h.whole new rest result (k.whole new rest result r) }

lead_by : {X Y E : Type 0} (free stopped : E → Bool) (answers : Bool) (bound : ℕ) (old mid new : Option Talk) (pending rest behind : List ℕ) (c : Conversation X E) (f : X → Conversation Y E) (x : X) (result : Result Y E)
    → Concludes answers bound old mid pending c x rest → ConversesBy free stopped answers bound mid new rest behind (f x) result → ConversesBy free stopped answers bound old new pending behind (and_then c f) result
lead_by free stopped answers bound old mid new pending rest behind c f x (Ok y) h k = concludes_then answers bound old mid new pending rest behind c f x y h k
lead_by free stopped answers bound old mid new pending rest behind c f x (Err e) h k = breaks_late free stopped answers bound old mid new pending rest c f x e h k

-- the first of two was held to its end
pub leads_by : {X Y E : Type 0} (free stopped : E → Bool) (answers : Bool) (bound : ℕ) (old now : Option Talk) (pending rest : List ℕ) (c : Conversation X E) (f : X → Conversation Y E) (x : X)
    → Concludes answers bound old now pending c x rest → Leads free stopped answers bound old pending (and_then c f) now rest (f x)
leads_by free stopped answers bound old now pending rest c f x h = record { whole = λ new behind result k. lead_by free stopped answers bound old now new pending rest behind c f x result h k }

-- ---- a round

module _ (bound : ℕ) (t : FetchArgumentsValue) (g : Graph) (algorithm : Algorithm) where
  -- the request of the next window, and its reply
  abbrev pub round_in : RoundsStateValue → Conversation FetchReply Error
  round_in c = exchange bound t (haves_told c.shared (next_window g algorithm c).haves) (is_short c (next_window g algorithm c))

  -- how it goes on
  abbrev pub behind_round : ℕ → RoundsStateValue → FetchReply → Conversation Negotiated Error
  behind_round more c reply =
      if is_end c (next_window g algorithm c) reply then ends (Ok (record { rounds = rounds_with c (next_window g algorithm c) reply; reply = reply }))
      else negotiating more bound t g algorithm (rounds_state_after algorithm c (next_window g algorithm c) reply)

  pub negotiating_is : (more : ℕ) (c : RoundsStateValue) → negotiating (suc more) bound t g algorithm c ≡ and_then (round_in c) (λ reply. behind_round more c reply)
  unfolding negotiating
  negotiating_is more c = refl

  pub negotiating_none : (c : RoundsStateValue) → negotiating zero bound t g algorithm c ≡ ends (Err other_reply)
  unfolding negotiating
  negotiating_none c = refl

  pub goes_on : (more : ℕ) (c : RoundsStateValue) (reply : FetchReply) → is_end c (next_window g algorithm c) reply ≡ false
      → behind_round more c reply ≡ negotiating more bound t g algorithm (rounds_state_after algorithm c (next_window g algorithm c) reply)
  goes_on more c reply is = rw is refl

  pub ends_here : (more : ℕ) (c : RoundsStateValue) (reply : FetchReply) → is_end c (next_window g algorithm c) reply ≡ true
      → behind_round more c reply ≡ ends (Ok (record { rounds = rounds_with c (next_window g algorithm c) reply; reply = reply }))
  ends_here more c reply is = rw is refl

  -- a round that doesn't end the rounds
  pub leads_round : (answers : Bool) (old new : Option Talk) (pending rest : List ℕ) (more : ℕ) (c now : RoundsStateValue) (kept : Option FetchReply) → IsHeld answers bound old new pending rest t g algorithm c now kept false
      → Leads is_free_receiving is_stopped answers bound old pending (negotiating (suc more) bound t g algorithm c) new rest (negotiating more bound t g algorithm now)
  leads_round answers old new pending rest more c now kept h =
      let next : behind_round more c h.reply ≡ negotiating more bound t g algorithm now = goes_on more c h.reply (sym h.ends) ∙ ap (λ (x : RoundsStateValue). negotiating more bound t g algorithm x) (sym (h.goes refl)) in
      subst (λ (x : Conversation Negotiated Error). Leads is_free_receiving is_stopped answers bound old pending (negotiating (suc more) bound t g algorithm c) new rest x) next
      (subst (λ (x : Conversation Negotiated Error). Leads is_free_receiving is_stopped answers bound old pending x new rest (behind_round more c h.reply)) (sym (negotiating_is more c))
      (leads_by is_free_receiving is_stopped answers bound old new pending rest (round_in c) (λ reply. behind_round more c reply) h.reply h.held))

  ended_by : (answers : Bool) (old new : Option Talk) (pending rest : List ℕ) (more : ℕ) (c now : RoundsStateValue) (kept : Option FetchReply) → (h : IsHeld answers bound old new pending rest t g algorithm c now kept true)
      → Concludes answers bound old new pending (negotiating (suc more) bound t g algorithm c) (record { rounds = now.rounds; reply = h.reply }) rest
  ended_by answers old new pending rest more c now kept h =
      let last : behind_round more c h.reply ≡ ends (Ok (record { rounds = now.rounds; reply = h.reply })) =
      ends_here more c h.reply (sym h.ends) ∙ ap (λ (l : List Round). ends (Ok (record { rounds = l; reply = h.reply }))) (sym h.rounds) in
      subst (λ (x : Conversation Negotiated Error). Concludes answers bound old new pending x (record { rounds = now.rounds; reply = h.reply }) rest) (sym (negotiating_is more c))
      (concludes_then answers bound old new new pending rest rest (round_in c) (λ reply. behind_round more c reply) h.reply (record { rounds = now.rounds; reply = h.reply }) h.held
      (concluded_at_once answers bound new rest (behind_round more c h.reply) (record { rounds = now.rounds; reply = h.reply }) last))

  -- one that ends them
  pub ends_round : (answers : Bool) (old new : Option Talk) (pending rest : List ℕ) (more : ℕ) (c now : RoundsStateValue) (kept : Option FetchReply) (n : Negotiate) → n.rounds ≡ now.rounds → IsHeld answers bound old new pending rest t g algorithm c now kept true
      → ConversesBy is_free_receiving is_stopped answers bound old new pending rest (negotiating (suc more) bound t g algorithm c) (negotiated_of (Ok n) kept)
  ends_round answers old new pending rest more c now kept n same h =
      let is : negotiated_of (Ok n) kept ≡ Ok (record { rounds = now.rounds; reply = h.reply }) =
      ap (λ (k : Option FetchReply). negotiated_of (Ok n) k) h.kept ∙ ap (λ (l : List Round). Ok (record { rounds = l; reply = h.reply })) same in
      subst (λ (r : Result Negotiated Error). ConversesBy is_free_receiving is_stopped answers bound old new pending rest (negotiating (suc more) bound t g algorithm c) r) (sym is)
      (ended_by answers old new pending rest more c now kept h)

  -- the first round breaks off
  pub breaks_round : (answers : Bool) (old new : Option Talk) (pending : List ℕ) (more : ℕ) (c : RoundsStateValue) (e : Error) → Breaks is_free_receiving is_stopped answers bound old new pending (round_in c) e
      → Breaks is_free_receiving is_stopped answers bound old new pending (negotiating (suc more) bound t g algorithm c) e
  breaks_round answers old new pending more c e h =
      subst (λ (x : Conversation Negotiated Error). Breaks is_free_receiving is_stopped answers bound old new pending x e) (sym (negotiating_is more c))
      (breaks_early is_free_receiving is_stopped answers bound old new pending (round_in c) (λ reply. behind_round more c reply) e h)

  -- memory runs out after the first round
  pub breaks_behind : (answers : Bool) (old new : Option Talk) (pending rest : List ℕ) (more : ℕ) (c : RoundsStateValue) (reply : FetchReply) (e : Error) → Concludes answers bound old new pending (round_in c) reply rest → is_free_receiving e ≡ true → is_stopped e ≡ false
      → Breaks is_free_receiving is_stopped answers bound old new pending (negotiating (suc more) bound t g algorithm c) e
  breaks_behind answers old new pending rest more c reply e h free going =
      subst (λ (x : Conversation Negotiated Error). Breaks is_free_receiving is_stopped answers bound old new pending x e) (sym (negotiating_is more c))
      (breaks_late is_free_receiving is_stopped answers bound old new new pending rest (round_in c) (λ r. behind_round more c r) reply e h
      (broken_free is_free_receiving is_stopped answers bound new rest (behind_round more c reply) e free going))

  -- ---- a round, step by step

  -- the round that comes next, and the state once its window was taken
  pub record IsNext (c d : RoundsStateValue) (round : Round) (shared : List ObjectId) : Type 0 where
    pub haves : round.haves ≡ (next_window g algorithm c).haves
    pub done : round.done ≡ is_short c (next_window g algorithm c)
    pub state : d ≡ record c { so_far = (next_window g algorithm c).later }
    pub told : shared ≡ c.shared

  exchange_is : (c d : RoundsStateValue) (round : Round) (shared : List ObjectId) → IsNext c d round shared → exchange bound t (haves_told shared round.haves) round.done ≡ round_in c
  exchange_is c d round shared h =
      ap (λ (l : List ObjectId). exchange bound t (haves_told l round.haves) round.done) h.told ∙ ap (λ (l : List ObjectId). exchange bound t (haves_told c.shared l) round.done) h.haves
      ∙ ap (λ (b : Bool). exchange bound t (haves_told c.shared (next_window g algorithm c).haves) b) h.done

  abbrev pub Exchanged : Bool → Option Talk → Option Talk → List ℕ → List ℕ → List ObjectId → Round → Result FetchReply Error → Type 0
  Exchanged answers old new pending rest shared round result = ConversesBy is_free_receiving is_stopped answers bound old new pending rest (exchange bound t (haves_told shared round.haves) round.done) result

  exchanged_at : (answers : Bool) (old new : Option Talk) (pending rest : List ℕ) (c d : RoundsStateValue) (round : Round) (shared : List ObjectId) (result : Result FetchReply Error) → IsNext c d round shared
      → Exchanged answers old new pending rest shared round result → ConversesBy is_free_receiving is_stopped answers bound old new pending rest (round_in c) result
  exchanged_at answers old new pending rest c d round shared result h k =
      subst (λ (x : Conversation FetchReply Error). ConversesBy is_free_receiving is_stopped answers bound old new pending rest x result) (exchange_is c d round shared h) k

  -- the request isn't answered
  pub unanswered : (answers : Bool) (old new : Option Talk) (pending rest : List ℕ) (more : ℕ) (c d : RoundsStateValue) (round : Round) (shared : List ObjectId) (e : Error) → IsNext c d round shared → Exchanged answers old new pending rest shared round (Err e)
      → Breaks is_free_receiving is_stopped answers bound old new pending (negotiating (suc more) bound t g algorithm c) e
  unanswered answers old new pending rest more c d round shared e h k = breaks_round answers old new pending more c e (exchanged_at answers old new pending rest c d round shared (Err e) h k)

  -- memory runs out after the answer
  pub untold : (answers : Bool) (old new : Option Talk) (pending rest : List ℕ) (more : ℕ) (c d : RoundsStateValue) (round : Round) (shared : List ObjectId) (reply : FetchReply) (e : Error) → IsNext c d round shared → Exchanged answers old new pending rest shared round (Ok reply)
      → is_free_receiving e ≡ true → is_stopped e ≡ false → Breaks is_free_receiving is_stopped answers bound old new pending (negotiating (suc more) bound t g algorithm c) e
  untold answers old new pending rest more c d round shared reply e h k free going = breaks_behind answers old new pending rest more c reply e (exchanged_at answers old new pending rest c d round shared (Ok reply) h k) free going

  -- memory runs out before the request
  pub unwindowed : (answers : Bool) (now : Option Talk) (pending : List ℕ) (more : ℕ) (c : RoundsStateValue) (e : Error) → is_free_receiving e ≡ true → is_stopped e ≡ false → Breaks is_free_receiving is_stopped answers bound now now pending (negotiating (suc more) bound t g algorithm c) e
  unwindowed answers now pending more c e free going = broken_free is_free_receiving is_stopped answers bound now pending (negotiating (suc more) bound t g algorithm c) e free going

  rounds_are : (c d : RoundsStateValue) (round : Round) (shared : List ObjectId) (reply : FetchReply) → IsNext c d round shared → d.rounds ++ (record { haves = round.haves; acknowledged = reply.acknowledged; done = round.done }) ∷ [] ≡ rounds_with c (next_window g algorithm c) reply
  rounds_are c d round shared reply h =
      ap (λ (x : RoundsStateValue). x.rounds ++ (record { haves = round.haves; acknowledged = reply.acknowledged; done = round.done }) ∷ []) h.state
      ∙ ap (λ (l : List ObjectId). c.rounds ++ (record { haves = l; acknowledged = reply.acknowledged; done = round.done }) ∷ []) h.haves
      ∙ ap (λ (b : Bool). c.rounds ++ (record { haves = (next_window g algorithm c).haves; acknowledged = reply.acknowledged; done = b }) ∷ []) h.done

  -- what the state is once a reply was taken in that isn't the last
  abbrev pub rounds_state_by : RoundsStateValue → Round → FetchReply → RoundsStateValue
  rounds_state_by d round reply = record {
    so_far = sharing_all algorithm d.so_far reply.acknowledged;
    shared = each_once (d.shared ++ reply.acknowledged);
    rounds = d.rounds ++ (record { haves = round.haves; acknowledged = reply.acknowledged; done = round.done }) ∷ [];
    size = next_size d.size;
  }

  rounds_state_is : (c d : RoundsStateValue) (round : Round) (shared : List ObjectId) (reply : FetchReply) → IsNext c d round shared → rounds_state_by d round reply ≡ rounds_state_after algorithm c (next_window g algorithm c) reply
  rounds_state_is c d round shared reply h =
      let so_far = ap (λ (x : RoundsStateValue). sharing_all algorithm x.so_far reply.acknowledged) h.state in
      let told = ap (λ (x : RoundsStateValue). each_once (x.shared ++ reply.acknowledged)) h.state in
      let size = ap (λ (x : RoundsStateValue). next_size x.size) h.state in
      let rounds = rounds_are c d round shared reply h in
      rw (so_far, told, size, rounds) refl

  -- the request is answered, and the reply is taken in
  pub is_held : (answers : Bool) (old new : Option Talk) (pending rest : List ℕ) (c d now : RoundsStateValue) (round : Round) (shared : List ObjectId) (reply : FetchReply) (kept : Option FetchReply) (last : Bool) → IsNext c d round shared → kept ≡ Some reply
      → Exchanged answers old new pending rest shared round (Ok reply) → last ≡ (round.done || reply.last) → now.rounds ≡ d.rounds ++ (record { haves = round.haves; acknowledged = reply.acknowledged; done = round.done }) ∷ []
      → (last ≡ false → now ≡ rounds_state_by d round reply) → IsHeld answers bound old new pending rest t g algorithm c now kept last
  is_held answers old new pending rest c d now round shared reply kept last h is k end rounds goes = record {
    reply = reply;
    kept = is;
    held = exchanged_at answers old new pending rest c d round shared (Ok reply) h k;
    ends = end ∙ ap (λ (b : Bool). b || reply.last) h.done;
    rounds = rounds ∙ rounds_are c d round shared reply h;
    goes = λ going. goes going ∙ rounds_state_is c d round shared reply h;
  }

  -- ---- round by round

  -- Before each round, that many were held: however the rest of the rounds is held, so are all.
  pub record Goes (answers : Bool) (old now : Option Talk) (pending rest : List ℕ) (all : ℕ) (first c : RoundsStateValue) (held : ℕ) : Type 0 where
    pub leads : (left : ℕ) → left + held ≡ all → Leads is_free_receiving is_stopped answers bound old pending (negotiating all bound t g algorithm first) now rest (negotiating left bound t g algorithm c)

  pub starts : (answers : Bool) (old : Option Talk) (pending : List ℕ) (all : ℕ) (first c : RoundsStateValue) → c ≡ first → Goes answers old old pending pending all first c 0
  starts answers old pending all first c is = record {
    leads = λ left sum.
        let same : all ≡ left = omega arith in
        subst (λ (n : ℕ). Leads is_free_receiving is_stopped answers bound old pending (negotiating all bound t g algorithm first) old pending (negotiating n bound t g algorithm c)) same
        (subst (λ (x : RoundsStateValue). Leads is_free_receiving is_stopped answers bound old pending (negotiating all bound t g algorithm first) old pending (negotiating all bound t g algorithm x)) (sym is)
        (leads_none is_free_receiving is_stopped answers bound old pending (negotiating all bound t g algorithm first)));
  }

  -- another round was held, and doesn't end the rounds
  pub goes_again : (answers : Bool) (old mid new : Option Talk) (pending rest behind : List ℕ) (all : ℕ) (first c now : RoundsStateValue) (kept : Option FetchReply) (held : ℕ) → Goes answers old mid pending rest all first c held
      → IsHeld answers bound mid new rest behind t g algorithm c now kept false → Goes answers old new pending behind all first now (held + 1)
  goes_again answers old mid new pending rest behind all first c now kept held h k = record {
    leads = λ left sum.
        let before : suc left + held ≡ all = omega arith in
        leads_then is_free_receiving is_stopped answers bound old mid new pending rest behind (negotiating all bound t g algorithm first) (negotiating (suc left) bound t g algorithm c) (negotiating left bound t g algorithm now)
        (h.leads (suc left) before) (leads_round answers mid new rest behind left c now kept k);
  }

  -- how many are left
  left_of : (all held : ℕ) → held < all → (more : ℕ) × (suc more + held ≡ all)
  left_of all held less = (all - held - 1, omega arith)

  -- a round ends the rounds
  pub goes_to_end : (answers : Bool) (old mid new : Option Talk) (pending rest behind : List ℕ) (all : ℕ) (first c now : RoundsStateValue) (kept : Option FetchReply) (held : ℕ) (n : Negotiate) → held < all → Goes answers old mid pending rest all first c held
      → n.rounds ≡ now.rounds → IsHeld answers bound mid new rest behind t g algorithm c now kept true
      → Converses is_free_receiving is_stopped answers bound old new pending behind (negotiating all bound t g algorithm first) (negotiated_of (Ok n) kept)
  goes_to_end answers old mid new pending rest behind all first c now kept held n less h same k =
      let more = left_of all held less in
      record { held = (h.leads (suc more.0) more.1).whole new behind (negotiated_of (Ok n) kept) (ends_round answers mid new rest behind more.0 c now kept n same k) }

  -- a round breaks off
  pub goes_off : (answers : Bool) (old mid new : Option Talk) (pending rest behind : List ℕ) (all : ℕ) (first c : RoundsStateValue) (held : ℕ) (e : Error) → held < all → Goes answers old mid pending rest all first c held
      → ((more : ℕ) → Breaks is_free_receiving is_stopped answers bound mid new rest (negotiating (suc more) bound t g algorithm c) e)
      → Converses is_free_receiving is_stopped answers bound old new pending behind (negotiating all bound t g algorithm first) (Err e)
  goes_off answers old mid new pending rest behind all first c held e less h k =
      let more = left_of all held less in
      record { held = (h.leads (suc more.0) more.1).whole new behind (Err e) (k more.0) }

  -- memory runs out before the first round
  pub goes_nowhere : (answers : Bool) (now : Option Talk) (pending behind : List ℕ) (all : ℕ) (first : RoundsStateValue) (e : Error) → is_free_receiving e ≡ true → is_stopped e ≡ false → Converses is_free_receiving is_stopped answers bound now now pending behind (negotiating all bound t g algorithm first) (Err e)
  goes_nowhere answers now pending behind all first e free going = record { held = broken_free is_free_receiving is_stopped answers bound now pending (negotiating all bound t g algorithm first) e free going }
