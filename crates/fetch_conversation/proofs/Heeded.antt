-- The interrupt is heeded: in no call, in one receive, and in one call after another.
use Rattle.std.proofs.Common.{◌≡◌, ◌<◌, ◌≤◌, ◌+◌, ◌-◌, ℕ, suc, Bool, true, false, List, [], ◌∷◌, length, Option, Some, None, Result, Ok, Err, IfErr, refl, sym, ap, ◌∙◌, subst, arith, inl, inr}
use Rattle.std.specs.Prelude.{◌⊎◌, map, if◌then◌else◌}
use Rattle.std.proofs.lemmas.Bool.{cases_lt}
use Rattle.std.proofs.lemmas.List.{length-append, length-map}
use Rattle.fetch_lines.specs.Talks.{Talk, Receive, Makes, behind, at_once}
use Rattle.fetch_lines.specs.declared.error.WireError.{WireError}
use Rattle.fetch_lines.specs.declared.error.WireError.TheVariants as wire
use Rattle.fetch_conversation.specs.Errors.{is_yes, is_interrupted, is_stopped, prepare_of_wire, prepare_of_stop, fetch_of_wire, fetch_of_stop}
use Rattle.fetch_conversation.specs.Receiving.{HasReceived, last_question, IsHeeded}
use Rattle.fetch_conversation.specs.declared.drive.DriveError.{DriveError}
use Rattle.fetch_conversation.specs.declared.drive.DriveError.TheVariants as stops

-- ---- how many receives were made

pub received_none : (a : Option Talk) → HasReceived 0 a a
received_none None = tt
received_none (Some a) = omega arith

pub received_then : (n m : ℕ) (a b c : Option Talk) → HasReceived n a b → HasReceived m b c → HasReceived (n + m) a c
received_then n m None b c p q = tt
received_then n m (Some a) None c p q = absurd p
received_then n m (Some a) (Some b) None p q = absurd q
received_then n m (Some a) (Some b) (Some c) p q = omega (arith, p, q)

-- as many as are told
pub received_so : (a b : Option Talk) (receives : List Receive) → Makes a b receives → HasReceived (length receives) a b
received_so None b receives made = tt
received_so (Some a) None receives made = absurd made
received_so (Some a) (Some b) receives made =
    let told : List Receive = map (behind a.heard a.given) receives in
    let each : length told ≡ length receives = length-map receives (behind a.heard a.given) in
    let all : length b.receives ≡ length a.receives + length told = ap length made ∙ length-append a.receives told in
    all ∙ ap (λ (n : ℕ). length a.receives + n) each

-- ---- what was asked

-- no question, and no receive
heeded_none : {T E : Type 0} (says : E → Bool) (will : ℕ → Type 0) (a b : Option Talk) (result : Result T E) → last_question says result ≡ 0 → HasReceived 0 a b → IsHeeded says will will a b result
heeded_none says will a b result none made = record {
  receives = 0;
  made = made;
  no_yes = λ n few y. omega arith;
  later = λ n y. subst will (omega (arith, none)) y;
}

-- no call
pub heeded_still : {T E : Type 0} (says : E → Bool) (will : ℕ → Type 0) (a : Option Talk) (result : Result T E) → last_question says result ≡ 0 → IsHeeded says will will a a result
heeded_still says will a result none = heeded_none says will a a result none (received_none a)

-- a call in which nothing was received
pub heeded_sent : {T E : Type 0} (says : E → Bool) (will : ℕ → Type 0) (a b : Option Talk) (result : Result T E) → last_question says result ≡ 0 → Makes a b [] → IsHeeded says will will a b result
heeded_sent says will a b result none made = heeded_none says will a b result none (received_so a b [] made)

-- a yes
pub heeded_yes : {T E : Type 0} (says : E → Bool) (will will' : ℕ → Type 0) (a : Option Talk) (result : Result T E) → last_question says result ≡ 1 → ((n : ℕ) → will (suc n) → will' n) → IsHeeded says will will' a a result
heeded_yes says will will' a result one next = record {
  receives = 0;
  made = received_none a;
  no_yes = λ n few y. omega arith;
  later = λ n y. next n (subst will (omega (arith, one)) y);
}

-- a no, and a receive
pub heeded_once : {T E : Type 0} (says : E → Bool) (will will' : ℕ → Type 0) (a b : Option Talk) (result : Result T E) → last_question says result ≡ 0 → (will 0 → ⊥) → ((n : ℕ) → will (suc n) → will' n) → Makes a b (at_once ∷ []) → IsHeeded says will will' a b result
heeded_once says will will' a b result none never next made = record {
  receives = 1;
  made = received_so a b (at_once ∷ []) made;
  no_yes = λ n few y. never (subst will (omega arith) y);
  later = λ n y. next n (subst will (omega (arith, none)) y);
}

pub no_yes_by : (will will' : ℕ → Type 0) (k m : ℕ) → ((n : ℕ) → n < k → will n → ⊥) → ((n : ℕ) → will (k + n) → will' n) → ((n : ℕ) → n < m → will' n → ⊥) → (n : ℕ) → n < k + m → will n → (n < k) ⊎ (k ≤ n) → ⊥
no_yes_by will will' k m first next second n few y (inl less) = first n less y
no_yes_by will will' k m first next second n few y (inr more) =
    let e : n ≡ k + (n - k) = omega arith in
    second (n - k) (omega arith) (next (n - k) (subst will e y))

-- one call after another
pub heeded_then : {S T E F : Type 0} (says : F → Bool) (says' : E → Bool) (will will' will'' : ℕ → Type 0) (a b c : Option Talk) (first : Result S F) (result : Result T E) → last_question says first ≡ 0
    → IsHeeded says will will' a b first → IsHeeded says' will' will'' b c result → IsHeeded says' will will'' a c result
heeded_then says says' will will' will'' a b c first result none h k =
    let next : (n : ℕ) → will (h.receives + n) → will' n = λ n y. h.later n (subst will (omega (arith, none)) y) in
    record {
      receives = h.receives + k.receives;
      made = received_then h.receives k.receives a b c h.made k.made;
      no_yes = λ n few y. no_yes_by will will' h.receives k.receives h.no_yes next k.no_yes n few y (cases_lt n h.receives);
      later = λ n y. k.later n (next ((k.receives + last_question says' result) + n) (subst will (omega arith) y));
    }

-- the same, told by another answer
pub heeded_as : {S T E F : Type 0} (says : E → Bool) (says' : F → Bool) (will will' : ℕ → Type 0) (a b : Option Talk) (first : Result S E) (result : Result T F) → last_question says first ≡ last_question says' result
    → IsHeeded says will will' a b first → IsHeeded says' will will' a b result
heeded_as says says' will will' a b first result same h = record {
  receives = h.receives;
  made = h.made;
  no_yes = h.no_yes;
  later = λ n y. h.later n (subst will (omega (arith, same)) y);
}

-- it answered no
pub never_by : (will : ℕ → Type 0) (answer : Bool) → answer ≡ false → (will 0 → answer ≡ true) → will 0 → ⊥
never_by will answer is told y = let t = told y in absurd (cc)

-- ---- which answers tell a yes

abbrev counted : Bool → ℕ
counted b = if b then 1 else 0

by_test : (b b' : Bool) → b ≡ b' → counted b ≡ counted b'
by_test b b' is = ap counted is

pub same_question : (S T : Type 0) {E F : Type 0} (says : E → Bool) (says' : F → Bool) (e : E) (f : F) → says e ≡ says' f → last_question {T = S} says (Err e) ≡ last_question {T = T} says' (Err f)
same_question S T says says' e f is = by_test (says e) (says' f) is

pub no_question : (T : Type 0) {E : Type 0} (says : E → Bool) (e : E) → says e ≡ false → last_question {T = T} says (Err e) ≡ 0
no_question T says e is = by_test (says e) false is

pub none_asked : {T E : Type 0} (says : E → Bool) (result : Result T E) → IfErr result (λ e. says e ≡ false) → 0 ≡ last_question says result
none_asked says (Ok x) own = refl
none_asked says (Err e) own = sym (by_test (says e) false own)

pub prepares : (e : WireError) → false ≡ is_interrupted (prepare_of_wire e)
prepares (wire.Malformed place) = refl
prepares (wire.ServerError text) = refl
prepares (wire.ReplyTooLong bound) = refl
prepares (wire.MissingFeature name) = refl
prepares (wire.LineTooLong length) = refl
prepares (wire.BadParameter text place) = refl
prepares wire.NoMemory = refl

pub fetches : (e : WireError) → false ≡ is_stopped (fetch_of_wire e)
fetches (wire.Malformed place) = refl
fetches (wire.ServerError text) = refl
fetches (wire.ReplyTooLong bound) = refl
fetches (wire.MissingFeature name) = refl
fetches (wire.LineTooLong length) = refl
fetches (wire.BadParameter text place) = refl
fetches wire.NoMemory = refl

stop_prepares : (stop : DriveError) → is_yes stop ≡ is_interrupted (prepare_of_stop stop)
stop_prepares (stops.Refused e) = prepares e
stop_prepares stops.Failed = refl
stop_prepares stops.Interrupted = refl

stop_fetches : (stop : DriveError) → is_yes stop ≡ is_stopped (fetch_of_stop stop)
stop_fetches (stops.Refused e) = fetches e
stop_fetches stops.Failed = refl
stop_fetches stops.Interrupted = refl

-- no question more, where the wire refuses
pub prepare_asks : (T : Type 0) (e : WireError) → last_question {T = T} is_interrupted (Err (prepare_of_wire e)) ≡ 0
prepare_asks T e = no_question T is_interrupted (prepare_of_wire e) (sym (prepares e))

pub fetch_asks : (T : Type 0) (e : WireError) → last_question {T = T} is_stopped (Err (fetch_of_wire e)) ≡ 0
fetch_asks T e = no_question T is_stopped (fetch_of_wire e) (sym (fetches e))

-- a stop, told by each stage
pub stop_prepared : (S T : Type 0) (stop : DriveError) → last_question {T = S} is_yes (Err stop) ≡ last_question {T = T} is_interrupted (Err (prepare_of_stop stop))
stop_prepared S T stop = same_question S T is_yes is_interrupted stop (prepare_of_stop stop) (stop_prepares stop)

pub stop_fetched : (S T : Type 0) (stop : DriveError) → last_question {T = S} is_yes (Err stop) ≡ last_question {T = T} is_stopped (Err (fetch_of_stop stop))
stop_fetched S T stop = same_question S T is_yes is_stopped stop (fetch_of_stop stop) (stop_fetches stop)
