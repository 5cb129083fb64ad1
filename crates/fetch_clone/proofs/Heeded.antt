-- The interrupt says no in one part of a clone after another.
use Rattle.std.proofs.Common.{◌≡◌, ◌+◌, ℕ, Option, subst, arith}
use Rattle.std.proofs.lemmas.Bool.{cases_lt}
use Rattle.fetch_base.specs.Faults.{Faults}
use Rattle.fetch_lines.specs.Talks.{Talk}
use Rattle.fetch_conversation.specs.Blame.{BlamesInterrupt}
use Rattle.fetch_conversation.proofs.Heeded.{no_yes_by, received_then}
use Rattle.fetch_clone.specs.Heeded.{SaysNo, IsHeededOver}

-- no question
pub says-none : (will : ℕ → Type 0) → SaysNo will will
says-none will = record {
  asked = 0;
  no_yes = λ n few y. omega arith;
  later = λ n y. subst will (omega arith) y;
}

-- none was a yes
pub says-of : (y y' : Faults) (will will' : ℕ → Type 0) (a b : Option Talk) (more : ℕ) → more ≡ 0 → BlamesInterrupt y y' will will' a b more → SaysNo will will'
says-of y y' will will' a b more none h = record {
  asked = h.receives;
  no_yes = h.no_yes;
  later = λ n w. h.later n (subst will (omega (arith, none)) w);
}

pub heeded-of : (y y' : Faults) (will will' : ℕ → Type 0) (a b : Option Talk) (more : ℕ) → more ≡ 0 → BlamesInterrupt y y' will will' a b more → IsHeededOver will will' a b
heeded-of y y' will will' a b more none h = record {
  asked = h.receives;
  receives = h.receives;
  made = h.made;
  each = omega arith;
  no_yes = h.no_yes;
  later = λ n w. h.later n (subst will (omega (arith, none)) w);
}

-- behind what was asked before
pub heeded-behind : (will will' will'' : ℕ → Type 0) (a b : Option Talk) → SaysNo will will' → IsHeededOver will' will'' a b → IsHeededOver will will'' a b
heeded-behind will will' will'' a b h k = record {
  asked = h.asked + k.asked;
  receives = k.receives;
  made = k.made;
  each = omega (arith, k.each);
  no_yes = λ n few y. no_yes_by will will' h.asked k.asked h.no_yes h.later k.no_yes n few y (cases_lt n h.asked);
  later = λ n y. k.later n (h.later (k.asked + n) (subst will (omega arith) y));
}

pub says-then : (will will' will'' : ℕ → Type 0) → SaysNo will will' → SaysNo will' will'' → SaysNo will will''
says-then will will' will'' h k = record {
  asked = h.asked + k.asked;
  no_yes = λ n few y. no_yes_by will will' h.asked k.asked h.no_yes h.later k.no_yes n few y (cases_lt n h.asked);
  later = λ n y. k.later n (h.later (k.asked + n) (subst will (omega arith) y));
}

-- one part after another, of one peer
pub heeded-on : (will will' will'' : ℕ → Type 0) (a b c : Option Talk) → IsHeededOver will will' a b → IsHeededOver will' will'' b c → IsHeededOver will will'' a c
heeded-on will will' will'' a b c h k = record {
  asked = h.asked + k.asked;
  receives = h.receives + k.receives;
  made = received_then h.receives k.receives a b c h.made k.made;
  each = omega (arith, h.each, k.each);
  no_yes = λ n few y. no_yes_by will will' h.asked k.asked h.no_yes h.later k.no_yes n few y (cases_lt n h.asked);
  later = λ n y. k.later n (h.later (k.asked + n) (subst will (omega arith) y));
}

pub says-at : (will will' : ℕ → Type 0) (a b : Option Talk) → IsHeededOver will will' a b → SaysNo will will'
says-at will will' a b h = record { asked = h.asked; no_yes = h.no_yes; later = h.later }

-- ahead of what was asked afterwards
pub heeded-ahead : (will will' will'' : ℕ → Type 0) (a b : Option Talk) → IsHeededOver will will' a b → SaysNo will' will'' → IsHeededOver will will'' a b
heeded-ahead will will' will'' a b h k = record {
  asked = h.asked + k.asked;
  receives = h.receives;
  made = h.made;
  each = omega (arith, h.each);
  no_yes = λ n few y. no_yes_by will will' h.asked k.asked h.no_yes h.later k.no_yes n few y (cases_lt n h.asked);
  later = λ n y. k.later n (h.later (k.asked + n) (subst will (omega arith) y));
}
