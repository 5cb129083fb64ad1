-- What a peer hears of what it is sent.
use Rattle.std.specs.Prelude.{◌≡◌, ℕ, ◌-◌, ◌<◌, ◌≤◌, List, ◌++◌, length, take, Option, Some, None, Result, Ok, Err}
use Rattle.fetch_lines.specs.declared.peer.SendFault.{SendFault}
use Rattle.fetch_lines.specs.declared.peer.SendFault.TheVariants as sending
use Rattle.fetch_asked.specs.declared.error.ServeError.{ServeError}
use Rattle.fetch_asked.specs.declared.intake.Refusal.{Refusal}
use Rattle.fetch_asked.specs.declared.intake.Refusal.TheVariants as refusals
use Rattle.fetch_serve.specs.Servings.{Serving, Takes}
use Rattle.fetch_asked.specs.Texts.{asked_in}

-- a refusal, as a peer tells it
abbrev pub fault_of : Refusal → SendFault
fault_of (refusals.Malformed place) = sending.Failed
fault_of refusals.TooLong = sending.Failed
fault_of refusals.NoMemory = sending.NoMemory

-- The server refused these bytes, for the last of them: those before it may be the beginning of a request.
pub record IsShown (before : Serving) (front : List ℕ) (now : Serving) : Type 0 where
  pub some : 0 < length front
  pub trouble : ServeError
  pub takes : Takes before front now (Some trouble)
  pub fine : (asked_in before.served.hash before.begun (before.pending ++ take (length front - 1) front)).trouble ≡ None
  pub refusal : Refusal
  pub refused : now.refusal ≡ Some refusal
  pub fault : fault_of refusal ≡ sending.Failed

-- A server hears all bytes, or those up to the one that is refused, or a front of them where memory runs out. One that refused
-- before hears nothing.
abbrev pub Hears : Option Refusal → Serving → List ℕ → ℕ → Serving → Result (Unit {0}) SendFault → Type 0
Hears (Some refusal) before bytes count now result = (count ≡ 0) × (now ≡ before) × (result ≡ Err (fault_of refusal))
Hears None before bytes count now (Ok u) = (count ≡ length bytes) × (now.refusal ≡ None) × Takes before bytes now None
Hears None before bytes count now (Err sending.NoMemory) = (count ≤ length bytes) × (now.refusal ≡ Some refusals.NoMemory)
    × Takes before (take count bytes) now None
Hears None before bytes count now (Err sending.Failed) = (count ≤ length bytes) × IsShown before (take count bytes) now
