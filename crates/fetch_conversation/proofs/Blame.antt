-- Who is blamed: in no call, and in one call after another.
use Rattle.std.proofs.Common.{◌≡◌, ◌+◌, ℕ, suc, Bool, [], ◌∷◌, Option, refl, sym, ◌∙◌, subst, arith}
use Rattle.std.proofs.lemmas.Bool.{cases_lt}
use Rattle.fetch_base.specs.Faults.{Faults, Rose, Counts, Counts-none, Counts-then, Rose-earlier}
use Rattle.fetch_lines.specs.Talks.{Talk, Makes, at_once}
use Rattle.fetch_conversation.specs.Receiving.{HasReceived}
use Rattle.fetch_conversation.specs.Blame.{BlamesPeer, BlamesInterrupt}
use Rattle.fetch_conversation.proofs.Heeded.{received_none, received_then, received_so, no_yes_by}

-- one call after another
pub peer_then : (f f' f'' : Faults) (blamed : Bool) → Counts f f' → BlamesPeer f' f'' blamed → BlamesPeer f f'' blamed
peer_then f f' f'' blamed h k = record { counts = Counts-then f f' f'' h k.counts; cause = λ is. Rose-earlier f f' f'' h (k.cause is) }

-- no question, and no receive
pub interrupt_none : (y : Faults) (will : ℕ → Type 0) (a b : Option Talk) → HasReceived 0 a b → BlamesInterrupt y y will will a b 0
interrupt_none y will a b made = record {
  counts = Counts-none y;
  cause = λ is. absurd (omega (arith, is));
  quiet = λ _. refl;
  receives = 0;
  made = made;
  no_yes = λ n few w. omega arith;
  later = λ n w. subst will (omega arith) w;
}

-- no call
pub interrupt_still : (y : Faults) (will : ℕ → Type 0) (a : Option Talk) (more : ℕ) → more ≡ 0 → BlamesInterrupt y y will will a a more
interrupt_still y will a more none = subst (λ (n : ℕ). BlamesInterrupt y y will will a a n) (sym none) (interrupt_none y will a a (received_none a))

-- a call in which nothing was received
pub interrupt_sent : (y : Faults) (will : ℕ → Type 0) (a b : Option Talk) → Makes a b [] → BlamesInterrupt y y will will a b 0
interrupt_sent y will a b made = interrupt_none y will a b (received_so a b [] made)

-- a yes
pub interrupt_yes : (y y' : Faults) (will will' : ℕ → Type 0) (a : Option Talk) → Counts y y' → Rose y y' → ((n : ℕ) → will (suc n) → will' n) → BlamesInterrupt y y' will will' a a 1
interrupt_yes y y' will will' a counts rose next = record {
  counts = counts;
  cause = λ _. rose;
  quiet = λ is. absurd (omega (arith, is));
  receives = 0;
  made = received_none a;
  no_yes = λ n few w. omega arith;
  later = λ n w. next n (subst will (omega arith) w);
}

-- a no, and a receive
pub interrupt_once : (y y' : Faults) (will will' : ℕ → Type 0) (a b : Option Talk) → Counts y y' → y'.count ≡ y.count → (will 0 → ⊥) → ((n : ℕ) → will (suc n) → will' n) → Makes a b (at_once ∷ []) → BlamesInterrupt y y' will will' a b 0
interrupt_once y y' will will' a b counts same never next made = record {
  counts = counts;
  cause = λ is. absurd (omega (arith, is));
  quiet = λ _. same;
  receives = 1;
  made = received_so a b (at_once ∷ []) made;
  no_yes = λ n few w. never (subst will (omega arith) w);
  later = λ n w. next n (subst will (omega arith) w);
}

-- one call after another
pub interrupt_then : (y y' y'' : Faults) (will will' will'' : ℕ → Type 0) (a b c : Option Talk) (more : ℕ) → BlamesInterrupt y y' will will' a b 0 → BlamesInterrupt y' y'' will' will'' b c more → BlamesInterrupt y y'' will will'' a c more
interrupt_then y y' y'' will will' will'' a b c more h k =
    let next : (n : ℕ) → will (h.receives + n) → will' n = λ n w. h.later n (subst will (omega arith) w) in
    record {
      counts = Counts-then y y' y'' h.counts k.counts;
      cause = λ is. Rose-earlier y y' y'' h.counts (k.cause is);
      quiet = λ is. k.quiet is ∙ h.quiet refl;
      receives = h.receives + k.receives;
      made = received_then h.receives k.receives a b c h.made k.made;
      no_yes = λ n few w. no_yes_by will will' h.receives k.receives h.no_yes next k.no_yes n few w (cases_lt n h.receives);
      later = λ n w. k.later n (next ((k.receives + more) + n) (subst will (omega arith) w));
    }

-- told by another answer
pub interrupt_as : (y y' : Faults) (will will' : ℕ → Type 0) (a b : Option Talk) (more more' : ℕ) → more ≡ more' → BlamesInterrupt y y' will will' a b more → BlamesInterrupt y y' will will' a b more'
interrupt_as y y' will will' a b more more' same h = subst (λ (n : ℕ). BlamesInterrupt y y' will will' a b n) same h
