-- What a server tells as a peer, call by call.
use Rattle.std.proofs.Common.{◌≡◌, ℕ, suc, ◌+◌, ◌-◌, ◌^◌, ◌<◌, ◌≤◌, min, Bool, true, false, cond, List, [], ◌∷◌, ◌++◌, length, map, take, drop, Option, Some, None, Result, Ok, Err, refl, sym, ap, ap₂, ◌∙◌, subst, arith, append_assoc, length-append, take-append-drop}
use Rattle.std.specs.Prelude.{is_some}
use Rattle.std.proofs.Math.Seq.{take-append_seam, drop-append_seam}
use Rattle.std.proofs.lemmas.List.{append-nil, map-append, take_all}
use Rattle.fetch_base.specs.Faults.{Counts, Counts-none, Rose}
use Rattle.fetch_base.specs.declared.failed.Failed.{Failed}
use Rattle.fetch_lines.specs.Talks.{IsDrained, Makes, Passes, Receive, Receives, Sends, Talk, Talks, at_once, behind}
use Rattle.fetch_lines.specs.declared.peer.SendFault.{SendFault}
use Rattle.fetch_lines.specs.declared.peer.SendFault.TheVariants as sending
use Rattle.fetch_asked.specs.declared.error.ServeError.{ServeError}
use Rattle.fetch_asked.specs.declared.intake.Refusal.{Refusal}
use Rattle.fetch_asked.specs.declared.intake.Refusal.TheVariants as refusals
use Rattle.fetch_serve.specs.declared.peer.Said.{Said}
use Rattle.fetch_serve.specs.Hearing.{Hears, IsShown, fault_of}
use Rattle.fetch_serve.specs.Peers.{IsFed, IsGoing, IsSaid, ServedPeer, faults_of, heard_by, is_troubled, receive_at, talk_with, told_by}
use Rattle.fetch_serve.specs.Replies.{replies_of, replies_to}
use Rattle.fetch_serve.specs.Served.{Data}
use Rattle.fetch_serve.specs.Servings.{Serving, Takes, unfed}
use Rattle.fetch_asked.specs.Texts.{AskedIn, and_more, asked_in}
use Rattle.fetch_serve.proofs.Acting.{IsAt, asks_on, feeds, gives_on}
use Rattle.fetch_asked.proofs.Asking.{asked_in-more, asked_in-nothing}

-- ---- what is told

-- a peer of this server, with this heard
abbrev pub peer_of : Serving → List ℕ → List Receive → ℕ → ServedPeer
peer_of s heard receives failed = record { served = s.served; heard = heard; left = length s.outgoing; receives = receives; failed = failed }

-- its talk
abbrev pub talk_of : Serving → List ℕ → List ℕ → List Receive → Talk
talk_of s heard given receives = record { heard = heard; given = given; to_come = s.outgoing; receives = receives; rule = Some (replies_of s.served) }

pub given_is : (given out all : List ℕ) → given ++ out ≡ all → take (length all - length out) all ≡ given
given_is given out all is =
    let len = ap length (sym is) ∙ length-append given out in
    let n : length all - length out ≡ length given = omega arith in
    ap₂ take n (sym is) ∙ take-append_seam given out

pub left_is : (given out all : List ℕ) → given ++ out ≡ all → drop (length all - length out) all ≡ out
left_is given out all is =
    let len = ap length (sym is) ∙ length-append given out in
    let n : length all - length out ≡ length given = omega arith in
    ap₂ drop n (sym is) ∙ drop-append_seam given out

pub heard_is : (d : Data) (heard : List ℕ) → is_troubled d (take (length heard - 1) heard) ≡ false → heard_by d heard ≡ heard
heard_is d heard shown = ap (λ b. cond b [] heard) shown

pub tells : (s : Serving) (heard : List ℕ) (receives : List Receive) (failed : ℕ) (i : IsSaid s heard) → told_by (peer_of s heard receives failed) ≡ Some (talk_of s heard i.given receives)
tells s heard receives failed i =
    let p = peer_of s heard receives failed in
    let r = replies_of s.served heard in
    ap (λ h. Some (talk_with p h (replies_of s.served h))) (heard_is s.served heard i.shown)
    ∙ ap₂ (λ (g l : List ℕ). Some (record { heard = heard; given = g; to_come = l; receives = receives; rule = Some (replies_of s.served) })) (given_is i.given s.outgoing r i.is) (left_is i.given s.outgoing r i.is)

pub counts : (s : Serving) (heard : List ℕ) (receives : List Receive) (failed : ℕ) → is_troubled s.served (take (length heard - 1) heard) ≡ false
    → faults_of (peer_of s heard receives failed) ≡ record { count = cond (is_troubled s.served heard) failed 0; possible = true }
counts s heard receives failed shown = ap (λ h. record { count = cond (is_troubled s.served h) failed 0; possible = true }) (heard_is s.served heard shown)

-- a server to which nothing was fed has said nothing
pub said_first : (s : Serving) → s ≡ unfed s.served → IsSaid s []
said_first s is =
    let none = asked_in-nothing s.served.hash false in
    let fed : IsFed s [] = record {
      begun = ap (λ (v : Serving). v.begun) is ∙ sym (ap (λ (f : AskedIn). f.begun) none);
      pending = ap (λ (v : Serving). v.pending) is ∙ sym (ap (λ (f : AskedIn). f.rest) none);
      fine = ap (λ (f : AskedIn). f.trouble) none;
    }
    in
    record {
      given = [];
      is = ap (λ (v : Serving). v.outgoing) is ∙ sym (ap (λ (f : AskedIn). replies_to s.served f.whole) none);
      shown = ap (λ (f : AskedIn). is_some f.trouble) none;
      goes = subst (λ o. IsGoing o s []) (sym (ap (λ (v : Serving). v.refusal) is)) fed;
    }

-- ---- troubles

front_by : (d : Data) (text more : List ℕ) (o : Option ServeError) → (asked_in d.hash false text).trouble ≡ o → (and_more d.hash more (asked_in d.hash false text) o).trouble ≡ None → is_some o ≡ false
front_by d text more None is fine = refl
front_by d text more (Some e) is fine = absurd (let t : Some e ≡ None = sym is ∙ fine in cc)

-- the front of a text without trouble has none
pub front_fine : (d : Data) (text more : List ℕ) → (asked_in d.hash false (text ++ more)).trouble ≡ None → is_troubled d text ≡ false
front_fine d text more fine = front_by d text more (asked_in d.hash false text).trouble refl (sym (ap (λ (f : AskedIn). f.trouble) (asked_in-more d.hash false text more)) ∙ fine)

pub no_trouble : (d : Data) (text : List ℕ) → (asked_in d.hash false text).trouble ≡ None → is_troubled d (take (length text - 1) text) ≡ false
no_trouble d text fine = front_fine d (take (length text - 1) text) (drop (length text - 1) text) (ap (λ (l : List ℕ). (asked_in d.hash false l).trouble) (take-append-drop (length text - 1) text) ∙ fine)

at_of : (s : Serving) (heard : List ℕ) (i : IsSaid s heard) → IsFed s heard → IsAt s.served heard i.given s
at_of s heard i f = record { served = refl; begun = f.begun; pending = f.pending; given_is = i.is; fine = f.fine }

-- ---- a send

module _ (s now : Serving) (heard : List ℕ) (i : IsSaid s heard) (f : IsFed s heard) where
  at : IsAt s.served heard i.given s
  at = at_of s heard i f

  -- a piece that was taken was heard
  module _ (piece : List ℕ) (takes : Takes s piece now None) where
    after : IsAt s.served (heard ++ piece) i.given now
    after = feeds s.served heard i.given piece s now at takes

    fine : (asked_in s.served.hash false (heard ++ piece)).trouble ≡ None
    fine = after.fine

    fed : IsFed now (heard ++ piece)
    fed = record {
      begun = after.begun ∙ ap (λ (d : Data). (asked_in d.hash false (heard ++ piece)).begun) (sym after.served);
      pending = after.pending ∙ ap (λ (d : Data). (asked_in d.hash false (heard ++ piece)).rest) (sym after.served);
      fine = ap (λ (d : Data). (asked_in d.hash false (heard ++ piece)).trouble) after.served ∙ after.fine;
    }

    pub heard_on : (goes : IsGoing now.refusal now (heard ++ piece)) → IsSaid now (heard ++ piece)
    heard_on goes = record {
      given = i.given;
      is = after.given_is ∙ ap (λ (d : Data). replies_of d (heard ++ piece)) (sym after.served);
      shown = ap (λ (d : Data). is_troubled d (take (length (heard ++ piece) - 1) (heard ++ piece))) after.served ∙ no_trouble s.served (heard ++ piece) fine;
      goes = goes;
    }

  -- a piece whose last byte shows a trouble was heard
  module _ (piece : List ℕ) (h : IsShown s piece now) where
    on : (asked_in s.served.hash false (heard ++ piece)).trouble ≡ Some h.trouble
    on = ap (λ (g : AskedIn). g.trouble) (asks_on s.served heard i.given piece s at) ∙ h.takes.trouble

    before : (asked_in s.served.hash false (heard ++ take (length piece - 1) piece)).trouble ≡ None
    before = ap (λ (g : AskedIn). g.trouble) (asks_on s.served heard i.given (take (length piece - 1) piece) s at) ∙ h.fine

    all_but_one : take (length (heard ++ piece) - 1) (heard ++ piece) ≡ heard ++ take (length piece - 1) piece
    all_but_one =
        let len = length-append heard piece in
        let some = h.some in
        let n : length (heard ++ piece) - 1 ≡ length heard + (length piece - 1) = omega arith in
        ap (λ (k : ℕ). take k (heard ++ piece)) n ∙ take_past heard piece (length piece - 1)
      where
        take_past : (xs ys : List ℕ) (k : ℕ) → take (length xs + k) (xs ++ ys) ≡ xs ++ take k ys
        take_past [] ys k = let n : 0 + k ≡ k = omega arith in ap (λ (m : ℕ). take m ys) n
        take_past (x ∷ xs) ys k = let n : length (x ∷ xs) + k ≡ suc (length xs + k) = omega arith in ap (λ (m : ℕ). take m (x ∷ (xs ++ ys))) n ∙ ap (λ (l : List ℕ). x ∷ l) (take_past xs ys k)

    shown_before : is_troubled s.served (take (length (heard ++ piece) - 1) (heard ++ piece)) ≡ false
    shown_before = ap (is_troubled s.served) all_but_one ∙ ap is_some before

    going_by : (refusal : Refusal) → fault_of refusal ≡ sending.Failed → IsGoing (Some refusal) now (heard ++ piece)
    going_by (refusals.Malformed place) e = ap (λ (d : Data). is_troubled d (heard ++ piece)) h.takes.served ∙ ap is_some on
    going_by refusals.TooLong e = ap (λ (d : Data). is_troubled d (heard ++ piece)) h.takes.served ∙ ap is_some on
    going_by refusals.NoMemory e = tt

    pub heard_trouble : IsSaid now (heard ++ piece)
    heard_trouble = record {
      given = i.given;
      is = gives_on s.served heard i.given piece s now (Some h.trouble) at h.takes ∙ ap (λ (d : Data). replies_of d (heard ++ piece)) (sym h.takes.served);
      shown = ap (λ (d : Data). is_troubled d (take (length (heard ++ piece) - 1) (heard ++ piece))) h.takes.served ∙ shown_before;
      goes = subst (λ o. IsGoing o now (heard ++ piece)) (sym h.refused) (going_by h.refusal h.fault);
    }

    pub troubled_now : is_troubled now.served (heard ++ piece) ≡ true
    troubled_now = ap (λ (d : Data). is_troubled d (heard ++ piece)) h.takes.served ∙ ap is_some on

-- what holds after bytes were sent, of which that many were heard
pub record IsSent (s now : Serving) (heard : List ℕ) (i : IsSaid s heard) (bytes : List ℕ) (count : ℕ) (result : Result (Unit {0}) SendFault) : Type 0 where
  pub served : now.served ≡ s.served
  pub said : IsSaid now (heard ++ take count bytes)
  pub given : said.given ≡ i.given
  pub added : List ℕ
  pub outgoing : now.outgoing ≡ s.outgoing ++ added
  -- all of them where none was refused
  pub all : (u : Unit {0}) → result ≡ Ok u → take count bytes ≡ bytes
  -- and at a fault what was heard shows it
  pub fault : result ≡ Err sending.Failed → is_troubled now.served (heard ++ take count bytes) ≡ true
  -- a trouble that was shown before stays
  pub stays : is_troubled s.served heard ≡ true → heard ++ take count bytes ≡ heard

nothing_more : (heard bytes : List ℕ) (count : ℕ) → count ≡ 0 → heard ++ take count bytes ≡ heard
nothing_more heard bytes count none = ap (λ (n : ℕ). heard ++ take n bytes) none ∙ append-nil heard

not_troubled : (s : Serving) (heard : List ℕ) → IsFed s heard → is_troubled s.served heard ≡ false
not_troubled s heard f = ap is_some f.fine

abbrev Answer : Type 0
Answer = Result (Unit {0}) SendFault

shows : (s : Serving) (heard : List ℕ) (refusal : Refusal) → IsGoing (Some refusal) s heard → fault_of refusal ≡ sending.Failed → is_troubled s.served heard ≡ true
shows s heard (refusals.Malformed place) g e = g
shows s heard refusals.TooLong g e = g
shows s heard refusals.NoMemory g e = absurd (cc)

-- a server that refused before hears nothing
sent_none : (s now : Serving) (heard : List ℕ) (i : IsSaid s heard) (bytes : List ℕ) (count : ℕ) (refusal : Refusal) (result : Answer) → IsGoing (Some refusal) s heard → count ≡ 0 → now ≡ s → result ≡ Err (fault_of refusal)
    → IsSent s now heard i bytes count result
sent_none s now heard i bytes count refusal result goes none same why =
    let stay = nothing_more heard bytes count none in
    record {
      served = ap (λ (v : Serving). v.served) same;
      said = record {
        given = i.given;
        is = ap (λ (v : Serving). i.given ++ v.outgoing) same ∙ i.is ∙ ap (λ (v : Serving). replies_of v.served heard) (sym same) ∙ ap (replies_of now.served) (sym stay);
        shown = ap (λ (v : Serving). is_troubled v.served (take (length (heard ++ take count bytes) - 1) (heard ++ take count bytes))) same ∙ ap (λ (t : List ℕ). is_troubled s.served (take (length t - 1) t)) stay ∙ i.shown;
        goes = subst (λ (v : Serving). IsGoing v.refusal v (heard ++ take count bytes)) (sym same) (subst (IsGoing s.refusal s) (sym stay) i.goes);
      };
      given = refl;
      added = [];
      outgoing = ap (λ (v : Serving). v.outgoing) same ∙ sym (append-nil s.outgoing);
      all = λ u e. absurd (let w : ◌≡◌ {A = Answer} (Err (fault_of refusal)) (Ok u) = sym why ∙ e in cc);
      fault = λ e. (let w : ◌≡◌ {A = Answer} (Err (fault_of refusal)) (Err sending.Failed) = sym why ∙ e in
          ap (λ (v : Serving). is_troubled v.served (heard ++ take count bytes)) same ∙ ap (is_troubled s.served) stay ∙ shows s heard refusal goes (cc));
      stays = λ t. stay;
    }

-- what is added by a piece
added_by : (s now : Serving) (piece : List ℕ) (why : Option ServeError) → Takes s piece now why → (added : List ℕ) × (now.outgoing ≡ s.outgoing ++ added)
added_by s now piece why takes = (replies_to s.served (asked_in s.served.hash s.begun (s.pending ++ piece)).whole, takes.outgoing)

fresh_trouble : (s : Serving) (heard : List ℕ) (text : List ℕ) → IsFed s heard → is_troubled s.served heard ≡ true → text ≡ heard
fresh_trouble s heard text f t = absurd (let no = not_troubled s heard f in cc)

-- a piece that was taken
sent_piece : (s now : Serving) (heard : List ℕ) (i : IsSaid s heard) (bytes : List ℕ) (count : ℕ) (result : Answer) (f : IsFed s heard) (takes : Takes s (take count bytes) now None) → IsGoing now.refusal now (heard ++ take count bytes)
    → ((u : Unit {0}) → result ≡ Ok u → take count bytes ≡ bytes) → (result ≡ Err sending.Failed → ⊥) → IsSent s now heard i bytes count result
unfolding heard_on
sent_piece s now heard i bytes count result f takes goes all never =
    let added = added_by s now (take count bytes) None takes in
    record {
      served = takes.served;
      said = heard_on s now heard i f (take count bytes) takes goes;
      given = refl;
      added = added.0;
      outgoing = added.1;
      all = all;
      fault = λ e. absurd (never e);
      stays = fresh_trouble s heard (heard ++ take count bytes) f;
    }

-- a piece that was refused
sent_shown : (s now : Serving) (heard : List ℕ) (i : IsSaid s heard) (bytes : List ℕ) (count : ℕ) (result : Answer) (f : IsFed s heard) (h : IsShown s (take count bytes) now) → ((u : Unit {0}) → result ≡ Ok u → ⊥)
    → IsSent s now heard i bytes count result
unfolding heard_trouble
sent_shown s now heard i bytes count result f h never =
    let added = added_by s now (take count bytes) (Some h.trouble) h.takes in
    record {
      served = h.takes.served;
      said = heard_trouble s now heard i f (take count bytes) h;
      given = refl;
      added = added.0;
      outgoing = added.1;
      all = λ u e. absurd (never u e);
      fault = λ e. troubled_now s now heard i f (take count bytes) h;
      stays = fresh_trouble s heard (heard ++ take count bytes) f;
    }

take_whole : (bytes : List ℕ) (count : ℕ) → count ≡ length bytes → take count bytes ≡ bytes
take_whole bytes count is = ap (λ (n : ℕ). take n bytes) is ∙ take_all (length bytes) bytes (omega arith)

sent_on : (s now : Serving) (heard : List ℕ) (i : IsSaid s heard) (bytes : List ℕ) (count : ℕ) (o : Option Refusal) (result : Answer) → s.refusal ≡ o → IsGoing o s heard → Hears o s bytes count now result → IsSent s now heard i bytes count result
sent_on s now heard i bytes count (Some refusal) result is goes (none, same, why) = sent_none s now heard i bytes count refusal result goes none same why
sent_on s now heard i bytes count None (Ok u) is goes (all, going, takes) =
    let whole = take_whole bytes count all in
    let piece : Takes s (take count bytes) now None = subst (λ (l : List ℕ). Takes s l now None) (sym whole) takes in
    sent_piece s now heard i bytes count (Ok u) goes piece (subst (λ o. IsGoing o now (heard ++ take count bytes)) (sym going) (fed s now heard i goes (take count bytes) piece)) (λ v e. whole) (λ e. cc)
sent_on s now heard i bytes count None (Err sending.NoMemory) is goes (few, gone, takes) =
    sent_piece s now heard i bytes count (Err sending.NoMemory) goes takes (subst (λ o. IsGoing o now (heard ++ take count bytes)) (sym gone) tt) (λ u e. absurd (cc)) (λ e. cc)
sent_on s now heard i bytes count None (Err sending.Failed) is goes (few, shown) = sent_shown s now heard i bytes count (Err sending.Failed) goes shown (λ u e. cc)

pub sent : (s now : Serving) (heard : List ℕ) (i : IsSaid s heard) (bytes : List ℕ) (count : ℕ) (result : Answer) → Hears s.refusal s bytes count now result → IsSent s now heard i bytes count result
sent s now heard i bytes count result h = sent_on s now heard i bytes count s.refusal result refl i.goes h

-- ---- as a peer's clauses say it

talks_of : (answers : Bool) (a b : Option Talk) (before next : Talk) (heard given : List ℕ) → a ≡ Some before → b ≡ Some next → Passes answers before next heard given → Talks answers a b heard given
talks_of answers a b before next heard given is is' p = subst (λ x. Talks answers x b heard given) (sym is) (subst (λ x. Talks answers (Some before) x heard given) (sym is') p)

makes_of : (a b : Option Talk) (before next : Talk) (receives : List Receive) → a ≡ Some before → b ≡ Some next → next.receives ≡ before.receives ++ map (behind before.heard before.given) receives → Makes a b receives
makes_of a b before next receives is is' p = subst (λ x. Makes x b receives) (sym is) (subst (λ x. Makes (Some before) x receives) (sym is') p)

module _ (s now : Serving) (heard : List ℕ) (i : IsSaid s heard) (bytes : List ℕ) (count : ℕ) (result : Answer) (h : Hears s.refusal s bytes count now result) (receives : List Receive) (failed later : ℕ) where
  is_sent : IsSent s now heard i bytes count result
  is_sent = sent s now heard i bytes count result h

  old : told_by (peer_of s heard receives failed) ≡ Some (talk_of s heard i.given receives)
  old = tells s heard receives failed i

  new : told_by (peer_of now (heard ++ take count bytes) receives later) ≡ Some (talk_of now (heard ++ take count bytes) is_sent.said.given receives)
  new = tells now (heard ++ take count bytes) receives later is_sent.said

  passes : Passes true (talk_of s heard i.given receives) (talk_of now (heard ++ take count bytes) is_sent.said.given receives) (take count bytes) []
  passes = record {
    heard_more = refl;
    gave_more = is_sent.given ∙ sym (append-nil i.given);
    added = is_sent.added;
    in_order = sym is_sent.outgoing;
    fixed = λ e. absurd (cc);
    same_rule = ap (λ (d : Data). Some (replies_of d)) is_sent.served;
  }

  talks : Talks true (told_by (peer_of s heard receives failed)) (told_by (peer_of now (heard ++ take count bytes) receives later)) (take count bytes) []
  talks = talks_of true _ _ (talk_of s heard i.given receives) (talk_of now (heard ++ take count bytes) is_sent.said.given receives) (take count bytes) [] old new passes

  sends_by : (r : Answer) → result ≡ r → Sends true (told_by (peer_of s heard receives failed)) (told_by (peer_of now (heard ++ take count bytes) receives later)) r bytes
  sends_by (Ok u) is =
      subst (λ (l : List ℕ). Talks true (told_by (peer_of s heard receives failed)) (told_by (peer_of now (heard ++ take count bytes) receives later)) l []) (is_sent.all u is) talks
  sends_by (Err e) is = (take count bytes, (drop count bytes, sym (take-append-drop count bytes)), talks)

  pub sends : Sends true (told_by (peer_of s heard receives failed)) (told_by (peer_of now (heard ++ take count bytes) receives later)) result bytes
  sends = sends_by result refl

  pub makes : Makes (told_by (peer_of s heard receives failed)) (told_by (peer_of now (heard ++ take count bytes) receives later)) []
  makes = makes_of _ _ (talk_of s heard i.given receives) (talk_of now (heard ++ take count bytes) is_sent.said.given receives) [] old new (sym (append-nil receives))

  old_count : faults_of (peer_of s heard receives failed) ≡ record { count = cond (is_troubled s.served heard) failed 0; possible = true }
  old_count = counts s heard receives failed i.shown

  new_count : faults_of (peer_of now (heard ++ take count bytes) receives later) ≡ record { count = cond (is_troubled now.served (heard ++ take count bytes)) later 0; possible = true }
  new_count = counts now (heard ++ take count bytes) receives later is_sent.said.shown

  -- a trouble that was shown is shown still
  shown_still : is_troubled s.served heard ≡ true → is_troubled now.served (heard ++ take count bytes) ≡ true
  shown_still t = ap (λ (d : Data). is_troubled d (heard ++ take count bytes)) is_sent.served ∙ ap (is_troubled s.served) (is_sent.stays t) ∙ t

  grows_by : (a b : Bool) → (a ≡ true → b ≡ true) → failed ≤ later → cond a failed 0 ≤ cond b later 0
  grows_by true true e le = le
  grows_by true false e le = absurd (let no : false ≡ true = e refl in cc)
  grows_by false b e le = omega arith

  counts_by : failed ≤ later → Counts (record { count = cond (is_troubled s.served heard) failed 0; possible = true }) (record { count = cond (is_troubled now.served (heard ++ take count bytes)) later 0; possible = true })
  counts_by le = record { later = grows_by (is_troubled s.served heard) (is_troubled now.served (heard ++ take count bytes)) shown_still le; kept = refl; none = λ e. absurd (cc) }

  pub faults_count : failed ≤ later → Counts (faults_of (peer_of s heard receives failed)) (faults_of (peer_of now (heard ++ take count bytes) receives later))
  faults_count le = subst (λ a. Counts a (faults_of (peer_of now (heard ++ take count bytes) receives later))) (sym old_count) (subst (λ b. Counts (record { count = cond (is_troubled s.served heard) failed 0; possible = true }) b) (sym new_count) (counts_by le))

  rose_by : (a b : Bool) → b ≡ true → min (failed + 1) (2 ^ 64 - 1) ≤ later → min (cond a failed 0 + 1) (2 ^ 64 - 1) ≤ cond b later 0
  rose_by true true e le = le
  rose_by false true e le = omega arith
  rose_by a false e le = absurd (cc)

  pub faults_rose : result ≡ Err sending.Failed → min (failed + 1) (2 ^ 64 - 1) ≤ later → Rose (faults_of (peer_of s heard receives failed)) (faults_of (peer_of now (heard ++ take count bytes) receives later))
  faults_rose is le =
      subst (λ a. Rose a (faults_of (peer_of now (heard ++ take count bytes) receives later))) (sym old_count)
      (subst (λ b. Rose (record { count = cond (is_troubled s.served heard) failed 0; possible = true }) b) (sym new_count) (rose_by (is_troubled s.served heard) (is_troubled now.served (heard ++ take count bytes)) (is_sent.fault is) le))

-- the same, where each receive is told by what is served
module _ (s now : Serving) (heard : List ℕ) (i : IsSaid s heard) (bytes : List ℕ) (count : ℕ) (result : Answer) (h : Hears s.refusal s bytes count now result) (receives : Data → List Receive) (failed later : ℕ) where
  abbrev earlier : ServedPeer
  earlier = peer_of s heard (receives s.served) failed

  abbrev peer_then : List Receive → ServedPeer
  peer_then made = peer_of now (heard ++ take count bytes) made later

  same_receives : receives s.served ≡ receives now.served
  same_receives = ap receives (sym (sent s now heard i bytes count result h).served)

  pub sends_told : Sends true (told_by earlier) (told_by (peer_then (receives now.served))) result bytes
  sends_told = subst (λ (l : List Receive). Sends true (told_by earlier) (told_by (peer_then l)) result bytes) same_receives (sends s now heard i bytes count result h (receives s.served) failed later)

  pub makes_told : Makes (told_by earlier) (told_by (peer_then (receives now.served))) []
  makes_told = subst (λ (l : List Receive). Makes (told_by earlier) (told_by (peer_then l)) []) same_receives (makes s now heard i bytes count result h (receives s.served) failed later)

  pub counts_told : failed ≤ later → Counts (faults_of earlier) (faults_of (peer_then (receives now.served)))
  counts_told le = faults_count s now heard i bytes count result h (receives s.served) failed later le

  pub rose_told : result ≡ Err sending.Failed → min (failed + 1) (2 ^ 64 - 1) ≤ later → Rose (faults_of earlier) (faults_of (peer_then (receives now.served)))
  rose_told is le = faults_rose s now heard i bytes count result h (receives s.served) failed later is le

-- ---- a receive

none_of : (bytes : List ℕ) → length bytes ≤ 0 → bytes ≡ []
none_of [] le = refl
none_of (b ∷ bytes) le = absurd (omega arith)

-- what was said before a receive, as it is told
abbrev pub told_at : Data → Said → Receive
told_at d said = receive_at d said.heard.values said.left

-- one receive more
pub one_more : (s now : Serving) (heard : List ℕ) (count : ℕ) → now ≡ record s { outgoing = drop count s.outgoing } → (before : List Said) (said : Said) → said.heard.values ≡ heard → said.left ≡ length s.outgoing
    → map (told_at now.served) (before ++ said ∷ []) ≡ map (told_at s.served) before ++ receive_at s.served heard (length s.outgoing) ∷ []
one_more s now heard count is before said same left =
    ap (λ (v : Serving). map (told_at v.served) (before ++ said ∷ [])) is ∙ map-append (told_at s.served) before (said ∷ [])
    ∙ ap₂ (λ (h : List ℕ) (n : ℕ). map (told_at s.served) before ++ receive_at s.served h n ∷ []) same left

pub copied_front : (bytes into : List ℕ) (count : ℕ) → bytes ≡ take count into ++ drop (0 + count) bytes → bytes ≡ take count into ++ drop count bytes
copied_front bytes into count is = let n : 0 + count ≡ count = omega arith in is ∙ ap (λ (k : ℕ). take count into ++ drop k bytes) n

module _ (s now : Serving) (heard : List ℕ) (i : IsSaid s heard) (front : List ℕ) (count : ℕ) (copied : s.outgoing ≡ front ++ drop count s.outgoing) (is : now ≡ record s { outgoing = drop count s.outgoing }) where
  still : (o : Option Refusal) → IsGoing o s heard → IsGoing o (record s { outgoing = drop count s.outgoing }) heard
  still None f = record { begun = f.begun; pending = f.pending; fine = f.fine }
  still (Some (refusals.Malformed place)) g = g
  still (Some refusals.TooLong) g = g
  still (Some refusals.NoMemory) g = tt

  pub given_on : IsSaid now heard
  given_on = record {
    given = i.given ++ front;
    is = append_assoc i.given front now.outgoing ∙ ap (λ (v : Serving). i.given ++ (front ++ v.outgoing)) is ∙ ap (λ (l : List ℕ). i.given ++ l) (sym copied) ∙ i.is ∙ ap (λ (v : Serving). replies_of v.served heard) (sym is);
    shown = ap (λ (v : Serving). is_troubled v.served (take (length heard - 1) heard)) is ∙ i.shown;
    goes = subst (λ (v : Serving). IsGoing v.refusal v heard) (sym is) (still s.refusal i.goes);
  }

  module _ (receives : List Receive) (failed : ℕ) where
    abbrev later : List Receive
    later = receives ++ receive_at s.served heard (length s.outgoing) ∷ []

    before_told : told_by (peer_of s heard receives failed) ≡ Some (talk_of s heard i.given receives)
    before_told = tells s heard receives failed i

    now_told : told_by (peer_of now heard later failed) ≡ Some (talk_of now heard (i.given ++ front) later)
    unfolding given_on
    now_told = tells now heard later failed given_on

    gives : Passes false (talk_of s heard i.given receives) (talk_of now heard (i.given ++ front) later) [] front
    gives = record {
      heard_more = sym (append-nil heard);
      gave_more = refl;
      added = [];
      in_order = append-nil s.outgoing ∙ copied ∙ ap (λ (v : Serving). front ++ v.outgoing) (sym is);
      fixed = λ _. refl;
      same_rule = ap (λ (v : Serving). Some (replies_of v.served)) is;
    }

    talks_on : Talks false (told_by (peer_of s heard receives failed)) (told_by (peer_of now heard later failed)) [] front
    talks_on = talks_of false _ _ (talk_of s heard i.given receives) (talk_of now heard (i.given ++ front) later) [] front before_told now_told gives

    -- nothing is given only where nothing is to come
    drained : (room : ℕ) → count ≡ min room (length s.outgoing - 0) → count ≡ 0 → 0 < room → IsDrained (told_by (peer_of now heard later failed))
    drained room few none some =
        let nothing : s.outgoing ≡ [] = none_of s.outgoing (omega arith) in
        subst IsDrained (sym now_told) (ap (λ (v : Serving). v.outgoing) is ∙ ap (λ (k : ℕ). drop k s.outgoing) none ∙ nothing)

    pub received : (into : List ℕ) → front ≡ take count into → count ≡ min (length into) (length s.outgoing - 0)
        → Receives {E = Failed} (told_by (peer_of s heard receives failed)) (told_by (peer_of now heard later failed)) (Ok count) into
    received into fronts few = (
      subst (λ (l : List ℕ). Talks false (told_by (peer_of s heard receives failed)) (told_by (peer_of now heard later failed)) [] l) fronts talks_on,
      drained (length into) few,
    )

    -- the same for a list that is this one
    pub received_as : (made : List Receive) → made ≡ later → (into : List ℕ) → front ≡ take count into → count ≡ min (length into) (length s.outgoing - 0)
        → Receives {E = Failed} (told_by (peer_of s heard receives failed)) (told_by (peer_of now heard made failed)) (Ok count) into
    received_as made same into fronts few = subst (λ (l : List Receive). Receives {E = Failed} (told_by (peer_of s heard receives failed)) (told_by (peer_of now heard l failed)) (Ok count) into) (sym same) (received into fronts few)

    pub received_once : Makes (told_by (peer_of s heard receives failed)) (told_by (peer_of now heard later failed)) (at_once ∷ [])
    received_once = makes_of _ _ (talk_of s heard i.given receives) (talk_of now heard (i.given ++ front) later) (at_once ∷ []) before_told now_told
        (ap (λ (r : Receive). receives ++ r ∷ []) (ap₂ (λ (h g : List ℕ). record { heard = h; given = g }) (sym (append-nil heard)) (given_is i.given s.outgoing (replies_of s.served heard) i.is ∙ sym (append-nil i.given))))

    pub received_once_as : (made : List Receive) → made ≡ later → Makes (told_by (peer_of s heard receives failed)) (told_by (peer_of now heard made failed)) (at_once ∷ [])
    received_once_as made same = subst (λ (l : List Receive). Makes (told_by (peer_of s heard receives failed)) (told_by (peer_of now heard l failed)) (at_once ∷ [])) (sym same) received_once

    pub counts_on : Counts (faults_of (peer_of s heard receives failed)) (faults_of (peer_of now heard later failed))
    counts_on = subst (Counts (faults_of (peer_of s heard receives failed))) (ap (λ (v : Serving). faults_of (peer_of v heard later failed)) (sym is)) (Counts-none (faults_of (peer_of s heard receives failed)))
