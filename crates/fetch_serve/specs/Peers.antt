-- A server as the peer of a fetch.
use Rattle.std.specs.Prelude.{◌≡◌, ℕ, ◌-◌, Bool, false, true, List, [], ◌++◌, length, take, drop, Option, Some, None, is_some, ⊤}
use Rattle.std.specs.Prelude.{Result, Ok, Err, if◌then◌else◌, refl}
use Rattle.std.specs.Coded.{Coded, code_by, coded_ℕ, coded_list, coded×}
use Rattle.fetch_base.specs.Calls.{one_more}
use Rattle.fetch_base.specs.Faults.{Faults}
use Rattle.fetch_lines.specs.Talks.{Talk, Receive}
use Rattle.fetch_lines.specs.declared.peer.SendFault.{SendFault}
use Rattle.fetch_lines.specs.declared.peer.SendFault.TheVariants as sending
use Rattle.fetch_serve.specs.Replies.{replies_of}
use Rattle.fetch_serve.specs.Served.{Data}
use Rattle.fetch_serve.specs.Servings.{Serving, coded_data}
use Rattle.fetch_asked.specs.declared.intake.Refusal.{Refusal}
use Rattle.fetch_asked.specs.declared.intake.Refusal.TheVariants as refusals
use Rattle.fetch_asked.specs.Texts.{asked_in}

-- What it serves, what it heard, how many bytes of its replies are still to be given, its receives, and how often it refused
-- what it was sent.
pub record ServedPeer : Type 0 where
  pub served : Data
  pub heard : List ℕ
  pub left : ℕ
  pub receives : List Receive
  pub failed : ℕ

-- a receive, coded
abbrev pub coded_receive : Coded Receive
coded_receive = code_by (List ℕ × List ℕ) (coded× (coded_list coded_ℕ) (coded_list coded_ℕ)) (λ r. (r.heard, r.given))
    (λ p. record { heard = p.0; given = p.1 }) (λ _. refl)

-- a peer, coded
abbrev pub coded_peer : Coded ServedPeer
coded_peer =
    code_by (Data × (List ℕ × (ℕ × (List Receive × ℕ))))
    (coded× coded_data (coded× (coded_list coded_ℕ) (coded× coded_ℕ (coded× (coded_list coded_receive) coded_ℕ))))
    (λ p. (p.served, (p.heard, (p.left, (p.receives, p.failed)))))
    (λ q. record { served = q.0; heard = q.1.0; left = q.1.1.0; receives = q.1.1.1.0; failed = q.1.1.1.1 }) (λ _. refl)

-- whether a text shows that it can't go on as requests
abbrev pub is_troubled : Data → List ℕ → Bool
is_troubled d text = is_some (asked_in d.hash false text).trouble

-- A text that shows trouble at its last byte at the earliest: a peer never tells more than that.
abbrev pub heard_by : Data → List ℕ → List ℕ
heard_by d text = if is_troubled d (take (length text - 1) text) then [] else text

-- its talk, with these bytes heard and these replies to them
abbrev pub talk_with : ServedPeer → List ℕ → List ℕ → Talk
talk_with p heard replies = record {
  heard = heard;
  given = take (length replies - p.left) replies;
  to_come = drop (length replies - p.left) replies;
  receives = p.receives;
  rule = Some (replies_of p.served);
}

-- what it tells: its replies to all that it heard, of which some are still to be given
abbrev pub told_by : ServedPeer → Option Talk
told_by p = let heard = heard_by p.served p.heard in Some (talk_with p heard (replies_of p.served heard))

-- Its faults count where what it heard shows one.
abbrev pub faults_of : ServedPeer → Faults
faults_of p = record { count = if is_troubled p.served (heard_by p.served p.heard) then p.failed else 0; possible = true }

-- how often it failed after this answer: once more where it failed, as far as the count goes
abbrev pub count_after : ℕ → Result (Unit {0}) SendFault → ℕ
count_after failed (Err sending.Failed) = one_more failed
count_after failed (Err sending.NoMemory) = failed
count_after failed (Ok u) = failed

-- what a peer of this data had given where it had heard this, and so many bytes were still to be given
abbrev pub receive_at : Data → List ℕ → ℕ → Receive
receive_at d heard left = record { heard = heard; given = take (length (replies_of d heard) - left) (replies_of d heard) }

-- a server that goes on, and was fed this text
pub record IsFed (s : Serving) (heard : List ℕ) : Type 0 where
  pub begun : s.begun ≡ (asked_in s.served.hash false heard).begun
  pub pending : s.pending ≡ (asked_in s.served.hash false heard).rest
  pub fine : (asked_in s.served.hash false heard).trouble ≡ None

-- the same of one that may have refused: where that wasn't for want of memory, the text shows it
abbrev pub IsGoing : Option Refusal → Serving → List ℕ → Type 0
IsGoing None s heard = IsFed s heard
IsGoing (Some (refusals.Malformed place)) s heard = is_troubled s.served heard ≡ true
IsGoing (Some refusals.TooLong) s heard = is_troubled s.served heard ≡ true
IsGoing (Some refusals.NoMemory) s heard = ⊤

-- What holds of a peer's server and of what was heard: what was given, with what is to be given, are the replies.
pub record IsSaid (s : Serving) (heard : List ℕ) : Type 0 where
  pub given : List ℕ
  pub is : given ++ s.outgoing ≡ replies_of s.served heard
  pub shown : is_troubled s.served (take (length heard - 1) heard) ≡ false
  pub goes : IsGoing s.refusal s heard
