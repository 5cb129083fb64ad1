-- A server's turn, and what a piece does to it.
use Rattle.std.proofs.Common.{◌≡◌, ℕ, ◌≤◌, false, List, [], ◌∷◌, ◌++◌, length, drop, Option, None, refl, ap, ◌∙◌, arith}
use Rattle.std.specs.Prelude.{is_some}
use Rattle.std.proofs.lemmas.List.{drop-append-le}
use Rattle.fetch_asked.specs.declared.intake.Refusal.{Refusal}
use Rattle.fetch_asked.specs.declared.intake.Refusal.TheVariants as refusals
use Rattle.fetch_asked.specs.declared.error.ServeError.{ServeError}
use Rattle.fetch_serve.specs.declared.server.ServeTurn.TheVariants as turns
use Rattle.fetch_asked.specs.Intakes.{Incoming}
use Rattle.fetch_serve.specs.Replies.{replies_to}
use Rattle.fetch_serve.specs.Served.{Data}
use Rattle.fetch_serve.specs.Servings.{RefusesBy, Serving, Takes, state_of, turn_for, turn_of}
use Rattle.fetch_asked.specs.Texts.{asked_in}

some_bytes : (bytes : List ℕ) → 1 ≤ length bytes → turns.Send ≡ turn_for bytes
some_bytes [] le = absurd (omega arith)
some_bytes (b ∷ bytes) le = refl

pub sends : (s : Serving) → is_some s.refusal ≡ false → 1 ≤ length s.outgoing → turns.Send ≡ turn_of s
sends s goes some = rw goes (some_bytes s.outgoing some)

-- what was sent already stays aside
pub aside : (d : Data) (i j : Incoming) (out now piece : List ℕ) (sent : ℕ) (refusal : Option Refusal) (why : Option ServeError) → sent ≤ length out
    → Takes (state_of d i out) piece (state_of d j now) why
    → Takes (record { served = d; begun = i.begun; pending = i.pending; outgoing = drop sent out; refusal = None }) piece (record { served = d; begun = j.begun; pending = j.pending; outgoing = drop sent now; refusal = refusal }) why
aside d i j out now piece sent refusal why le t = record {
  served = refl;
  begun = t.begun;
  pending = t.pending;
  outgoing = ap (drop sent) t.outgoing ∙ drop-append-le sent out (replies_to d (asked_in d.hash i.begun (i.pending ++ piece)).whole) le;
  trouble = t.trouble;
}

pub aside_refused : (d : Data) (i j : Incoming) (out now piece : List ℕ) (sent : ℕ) (other : Option Refusal) (refusal : Refusal) → sent ≤ length out
    → RefusesBy (state_of d i out) piece (state_of d j now) refusal
    → RefusesBy (record { served = d; begun = i.begun; pending = i.pending; outgoing = drop sent out; refusal = None }) piece (record { served = d; begun = j.begun; pending = j.pending; outgoing = drop sent now; refusal = other }) refusal
aside_refused d i j out now piece sent other (refusals.Malformed place) le t = aside d i j out now piece sent other _ le t
aside_refused d i j out now piece sent other refusals.TooLong le t = aside d i j out now piece sent other _ le t
aside_refused d i j out now piece sent other refusals.NoMemory le (front, behind, t) = (front, behind, aside d i j out now front sent other None le t)
