-- Turn by turn, a session goes on until it rests or stops.
use Rattle.std.proofs.Common.{◌≡◌, ◌≢◌, ◌<◌, ◌≤◌, ◌+◌, ◌*◌, ℕ, sym, ap, subst, inl, inr, arith, true, Some, None, Bool, false, List, [], ◌∷◌, Option, Ok, Err, refl, ◌∙◌}
use Rattle.std.specs.Prelude.{is_some}
use Rattle.fetch_base.specs.Faults.{Faults, Counts, Counts-none, Counts-then}
use Rattle.fetch_base.specs.Answers.{RefusesUnless}
use Rattle.fetch_wire.specs.SessionStates.{SessionState, IsAwaiting, fed, ended, is_all_sent, refusal_of, turn_by, turn_of, is_memory}
use Rattle.fetch_lines.specs.Talks.{Talk, Talks, Makes, at_once, IsFront}
use Rattle.fetch_lines.specs.declared.error.WireError.{WireError}
use Rattle.fetch_lines.specs.declared.error.WireError.TheVariants as wire
use Rattle.fetch_wire.specs.declared.session.turn.Turn.TheVariants as turns
use Rattle.fetch_wire.proofs.Lessening.{most_left, same_left, fed_less}
use Rattle.fetch_conversation.specs.Drives.{IsDrivable, GoesOn, IsDriven, IsUnsent, RunsOut, Takes, made_by}
use Rattle.fetch_conversation.specs.Errors.{is_failed, is_yes}
use Rattle.fetch_conversation.specs.Blame.{BlamesPeer, BlamesInterrupt, is_told}
use Rattle.fetch_conversation.proofs.Blame.{peer_then, interrupt_still, interrupt_sent, interrupt_then}
use Rattle.fetch_conversation.specs.Receiving.{last_question}
use Rattle.fetch_conversation.specs.declared.drive.DriveError.{DriveError}
use Rattle.fetch_conversation.specs.declared.drive.DriveError.TheVariants as stops
use Rattle.fetch_conversation.proofs.Driven.{goes_none, goes_sent, goes_received, stops_sending, stops_in_turn, stops_refused, taken_refused, receiving, sending_some, failed_end}

-- what holds before each turn
pub record Holds (answers : Bool) (old now : Option Talk) (s t : SessionState) (faults faults' yes yes' : Faults) (will will' : ℕ → Type 0) : Type 0 where
  pub went : GoesOn answers old now s t
  pub unrefused : t.refused ≡ false
  pub counts : Counts faults faults'
  pub interrupt : BlamesInterrupt yes yes' will will' old now 0

pub starts : (answers : Bool) (old : Option Talk) (s : SessionState) (f y : Faults) (will : ℕ → Type 0) → IsDrivable s → Holds answers old old s s f f y y will will
starts answers old s f y will h = record {
  went = goes_none answers old s h;
  unrefused = h.unrefused;
  counts = Counts-none f;
  interrupt = interrupt_still y will old 0 refl;
}

pub sent_on : (answers : Bool) (old mid new : Option Talk) (s a : SessionState) (f f' f'' y y' : Faults) (will will' : ℕ → Type 0) → Holds answers old mid s a f f' y y' will will'
    → Talks answers mid new a.outgoing [] → Makes mid new [] → Counts f' f'' → Holds answers old new s (record a { outgoing = [] }) f f'' y y' will will'
sent_on answers old mid new s a f f' f'' y y' will will' h talk made more = record {
  went = goes_sent answers old mid new s a h.went talk made;
  unrefused = h.unrefused;
  counts = Counts-then f f' f'' h.counts more;
  interrupt = interrupt_then y y' y' will will' will' old mid new 0 h.interrupt (interrupt_sent y' will' mid new made);
}

no_question : (T : Type 0) (e : DriveError) → IsUnsent e → last_question {T = T} is_yes (Err e) ≡ 0
no_question T (stops.Refused w) is = refl
no_question T stops.Failed is = refl
no_question T stops.Interrupted is = absurd is

-- ---- where out of memory is told

unsent_out : (T : Type 0) (s a b : SessionState) (e : DriveError) → turn_of a ≡ turns.Send → b ≡ a → RunsOut {T = T} s b (Err e)
unsent_out T s a b (stops.Refused w) turn same = λ _. inr (inl (subst (λ (t : SessionState). t.outgoing ≢ []) (sym same) (sending_some a turn)))
unsent_out T s a b stops.Failed turn same = tt
unsent_out T s a b stops.Interrupted turn same = tt

refused_out : (T : Type 0) (s b : SessionState) (e : DriveError) → (e ≡ stops.Refused wire.NoMemory → b.trouble ≢ None) → RunsOut {T = T} s b (Err e)
refused_out T s b (stops.Refused w) refused = λ is. inl (refused (ap stops.Refused is))
refused_out T s b stops.Failed refused = tt
refused_out T s b stops.Interrupted refused = tt

-- ---- a turn

pub unsent : {T : Type 0} (answers : Bool) (old mid new : Option Talk) (s a b : SessionState) (f f' f'' y y' : Faults) (will will' : ℕ → Type 0) (e : DriveError) → Holds answers old mid s a f f' y y' will will'
    → turn_of a ≡ turns.Send → b ≡ a → ((front : List ℕ) × IsFront front a.outgoing × Talks answers mid new front []) → Makes mid new [] → IsUnsent e → BlamesPeer f' f'' (is_told {T = T} is_failed (Err e))
    → IsDriven {T = T} answers old new s b f f'' y y' will will' (Err e)
unsent {T} answers old mid new s a b f f' f'' y y' will will' e h turn same x made free peer = record {
  driven = stops_sending answers old mid new s a x.0 e h.went x.1 x.2 made free;
  memory = unsent_out T s a b e turn same;
  peer = peer_then f f' f'' (is_failed e) h.counts peer;
  interrupt = subst (λ (n : ℕ). BlamesInterrupt y y' will will' old new n) (sym (no_question T e free)) (interrupt_then y y' y' will will' will' old mid new 0 h.interrupt (interrupt_sent y' will' mid new made));
}

pub received_on : (answers : Bool) (old mid new : Option Talk) (s a b : SessionState) (f f' f'' y y' y'' : Faults) (will will' will'' : ℕ → Type 0) → Holds answers old mid s a f f' y y' will will'
    → turn_of a ≡ turns.Receive → IsAwaiting a → Takes {T = Unit {0}} mid new a b (Ok tt) → Makes mid new (at_once ∷ []) → Counts f' f''
    → BlamesInterrupt y' y'' will' will'' mid new 0 → Holds answers old new s b f f'' y y'' will will''
received_on answers old mid new s a b f f' f'' y y' y'' will will' will'' h turn short took made more interrupt = record {
  went = goes_received answers old mid new s a b h.went turn short took made;
  unrefused = taken_refused a b took.0 took.3 ∙ h.unrefused;
  counts = Counts-then f f' f'' h.counts more;
  interrupt = interrupt_then y y' y'' will will' will'' old mid new 0 h.interrupt interrupt;
}

pub unreceived : {T : Type 0} (answers : Bool) (old mid new : Option Talk) (s a b : SessionState) (f f' f'' y y' y'' : Faults) (will will' will'' : ℕ → Type 0) (e : DriveError) → Holds answers old mid s a f f' y y' will will'
    → turn_of a ≡ turns.Receive → IsAwaiting a → Takes {T = T} mid new a b (Err e) → (e ≡ stops.Refused wire.NoMemory → b.trouble ≢ None) → Makes mid new (made_by {T = T} (Err e)) → BlamesPeer f' f'' (is_told {T = T} is_failed (Err e))
    → BlamesInterrupt y' y'' will' will'' mid new (last_question {T = T} is_yes (Err e)) → IsDriven {T = T} answers old new s b f f'' y y'' will will'' (Err e)
unreceived {T} answers old mid new s a b f f' f'' y y' y'' will will' will'' e h turn short took refused made peer interrupt = record {
  driven = stops_in_turn T answers old mid new s a b e h.went turn short took made;
  memory = refused_out T s b e refused;
  peer = peer_then f f' f'' (is_failed e) h.counts peer;
  interrupt = interrupt_then y y' y'' will will' will'' old mid new (last_question {T = T} is_yes (Err e)) h.interrupt interrupt;
}

pub rests : {T : Type 0} (answers : Bool) (old now : Option Talk) (s a : SessionState) (f f' y y' : Faults) (will will' : ℕ → Type 0) (x : T) → Holds answers old now s a f f' y y' will will' → turn_of a ≡ turns.Idle → IsDriven answers old now s a f f' y y' will will' (Ok x)
rests answers old now s a f f' y y' will will' x h idle = record {
  driven = record { went = h.went; idle = idle };
  memory = tt;
  peer = record { counts = h.counts; cause = λ is. absurd (cc) };
  interrupt = h.interrupt;
}

pub refused_end : {T : Type 0} (answers : Bool) (old now : Option Talk) (s a b : SessionState) (f f' y y' : Faults) (will will' : ℕ → Type 0) (w : WireError) → Holds answers old now s a f f' y y' will will'
    → turn_of a ≡ turns.Failed → b ≡ ended a → RefusesUnless {X = Unit {0}} is_memory (refusal_of (ended a)) (Err w) → IsDriven {T = T} answers old now s b f f' y y' will will' (Err (stops.Refused w))
refused_end answers old now s a b f f' y y' will will' w h turn ended_so answer = record {
  memory = λ _. inl (subst (λ (t : SessionState). t.trouble ≢ None) (sym ended_so) (failed_end a turn));
  driven = stops_refused answers old now s a w h.went h.unrefused turn answer;
  peer = record { counts = h.counts; cause = λ is. absurd (cc) };
  interrupt = h.interrupt;
}

-- ---- each turn lessens what may still pass

-- the turn to send, where there is one
abbrev pub turn_to_send : Bool → ℕ
turn_to_send true = 0
turn_to_send false = 1

abbrev pub turns_left : SessionState → ℕ
turns_left s = 2 * most_left s.intake + turn_to_send (is_all_sent s)

one_turn : (all_sent : Bool) → turn_to_send all_sent ≤ 1
one_turn true = omega arith
one_turn false = omega arith

sending_by : (refusal : Option WireError) (all_sent awaits : Bool) → turn_by refusal all_sent awaits ≡ turns.Send → all_sent ≡ false
sending_by (Some e) all_sent awaits is = absurd (cc)
sending_by None false awaits is = refl
sending_by None true true is = absurd (cc)
sending_by None true false is = absurd (cc)

pub sent_less : (a : SessionState) → turn_of a ≡ turns.Send → turns_left (record a { outgoing = [] }) < turns_left a
sent_less a turn =
    let one : turn_to_send (is_all_sent a) ≡ 1 = ap turn_to_send (sending_by (refusal_of a) (is_all_sent a) (is_some a.intake.reading) turn) in
    omega (arith, one)

pub received_less : (mid new : Option Talk) (a b : SessionState) → turn_of a ≡ turns.Receive → IsAwaiting a → Takes {T = Unit {0}} mid new a b (Ok tt) → turns_left b < turns_left a
received_less mid new a b turn short took =
    let well = receiving a turn in
    let less = fed_less a took.0 well.trouble short took.1 in
    let same = same_left b (fed a took.0) took.3 in
    omega (arith, less, same, one_turn (is_all_sent b))
