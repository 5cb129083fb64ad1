-- A server, as contracts see it.
use Rattle.std.specs.Prelude.{◌≡◌, ℕ, Bool, true, false, List, [], ◌∷◌, ◌++◌, length, ◌≤◌, Option, Some, None, is_some, Result, Ok, Err, ⊤}
use Rattle.std.specs.Prelude.{◌⊎◌, if◌then◌else◌, refl}
use Rattle.std.proofs.Common.{inl, inr}
use Rattle.std.specs.Coded.{Coded, code_by, coded_ℕ, coded_bool, coded_list, coded_option, coded×, coded⊎}
use Rattle.std.specs.FinMap as map
use Rattle.fetch_refs.specs.Codes.{coded_target}
use Rattle.fetch_refs.specs.Names.{Names, name_cmp}
use Rattle.fetch_objects.specs.Codes.{coded_kind, coded_id, coded_stored}
use Rattle.fetch_store.specs.Stores.{ObjectMap}
use Rattle.fetch_base.specs.Id.{id_cmp}
use Rattle.fetch_base.specs.declared.id.Kind.{Kind}
use Rattle.fetch_lines.specs.Talks.{IsFront}
use Rattle.fetch_asked.specs.declared.error.ServeError.{ServeError}
use Rattle.fetch_asked.specs.declared.error.ServeError.TheVariants as errors
use Rattle.fetch_asked.specs.declared.intake.Refusal.{Refusal}
use Rattle.fetch_asked.specs.declared.intake.Refusal.TheVariants as refusals
use Rattle.fetch_asked.specs.Intakes.{Incoming, error_of}
use Rattle.fetch_serve.specs.Replies.{replies_to}
use Rattle.fetch_serve.specs.declared.server.ServeTurn.{ServeTurn}
use Rattle.fetch_serve.specs.declared.server.ServeTurn.TheVariants as turns
use Rattle.fetch_serve.specs.Servable.{IsServable}
use Rattle.fetch_serve.specs.Served.{Data}
use Rattle.fetch_asked.specs.Texts.{IsBegun, asked_in}

-- What is served, whether the first line of the conversation was answered, the bytes behind the last request, those to be
-- sent, and why more bytes are refused.
pub record Serving : Type 0 where
  pub served : Data
  pub begun : Bool
  pub pending : List ℕ
  pub outgoing : List ℕ
  pub refusal : Option Refusal

-- a server to which nothing was fed
abbrev pub unfed : Data → Serving
unfed d = record { served = d; begun = false; pending = []; outgoing = []; refusal = None }

-- a server of this data that goes on, with what was fed and isn't answered, and what is to be sent
abbrev pub state_of : Data → Incoming → List ℕ → Serving
state_of d i outgoing = record { served = d; begun = i.begun; pending = i.pending; outgoing = outgoing; refusal = None }

-- whose turn it is where nothing was refused
abbrev pub turn_for : List ℕ → ServeTurn
turn_for [] = turns.Receive
turn_for (b ∷ bytes) = turns.Send

-- whose turn it is
abbrev pub turn_of : Serving → ServeTurn
turn_of s = if is_some s.refusal then turns.Failed else turn_for s.outgoing

-- what is behind the last request is the beginning of one, unless something was refused
abbrev pub IsAwaiting : Option Refusal → Incoming → Type 0
IsAwaiting None i = IsBegun i.hash i.begun i.pending
IsAwaiting (Some refusal) i = ⊤

-- what holds of a server's parts
pub record IsKept (d : Data) (i : Incoming) (sent : ℕ) (outgoing : List ℕ) (refusal : Option Refusal) : Type 0 where
  pub servable : IsServable d
  pub hash : i.hash ≡ d.hash
  pub within : sent ≤ length outgoing
  pub awaiting : IsAwaiting refusal i

-- ---- codes

abbrev split : Refusal → ℕ ⊎ Bool
split (refusals.Malformed place) = inl place
split refusals.TooLong = inr true
split refusals.NoMemory = inr false

abbrev join : ℕ ⊎ Bool → Refusal
join (inl place) = refusals.Malformed place
join (inr true) = refusals.TooLong
join (inr false) = refusals.NoMemory

-- a refusal is put together as it was taken apart
pub join-split : (r : Refusal) → join (split r) ≡ r
join-split (refusals.Malformed place) = refl
join-split refusals.TooLong = refl
join-split refusals.NoMemory = refl

-- a refusal, coded
abbrev pub coded_refusal : Coded Refusal
coded_refusal = code_by (ℕ ⊎ Bool) (coded⊎ coded_ℕ coded_bool) split join join-split

-- what is served, coded
abbrev pub coded_data : Coded Data
coded_data =
    code_by (Kind × (ObjectMap × Names)) (coded× coded_kind
    (coded× (map.code {R = id_cmp} coded_id coded_stored) (map.code {R = name_cmp} (coded_list coded_ℕ) coded_target)))
    (λ d. (d.hash, (d.objects, d.names))) (λ p. record { hash = p.0; objects = p.1.0; names = p.1.1 }) (λ _. refl)

-- a server, coded
abbrev pub coded_serving : Coded Serving
coded_serving =
    code_by (Data × (Bool × (List ℕ × (List ℕ × Option Refusal))))
    (coded× coded_data (coded× coded_bool (coded× (coded_list coded_ℕ) (coded× (coded_list coded_ℕ) (coded_option coded_refusal)))))
    (λ s. (s.served, (s.begun, (s.pending, (s.outgoing, s.refusal)))))
    (λ p. record { served = p.0; begun = p.1.0; pending = p.1.1.0; outgoing = p.1.1.1.0; refusal = p.1.1.1.1 }) (λ _. refl)

-- ---- feeding

-- What a piece leaves: the replies to the requests that are whole with it, in order, and what is behind them.
pub record Takes (before : Serving) (piece : List ℕ) (now : Serving) (why : Option ServeError) : Type 0 where
  pub served : now.served ≡ before.served
  pub begun : now.begun ≡ (asked_in before.served.hash before.begun (before.pending ++ piece)).begun
  pub pending : now.pending ≡ (asked_in before.served.hash before.begun (before.pending ++ piece)).rest
  pub outgoing : now.outgoing ≡ before.outgoing
      ++ replies_to before.served (asked_in before.served.hash before.begun (before.pending ++ piece)).whole
  pub trouble : (asked_in before.served.hash before.begun (before.pending ++ piece)).trouble ≡ why

-- a piece was refused: where memory ran out a front of it was taken
abbrev pub RefusesBy : Serving → List ℕ → Serving → Refusal → Type 0
RefusesBy before piece now (refusals.Malformed place) = Takes before piece now (Some (errors.Malformed place))
RefusesBy before piece now refusals.TooLong = Takes before piece now (Some (error_of refusals.TooLong))
RefusesBy before piece now refusals.NoMemory = (front : List ℕ) × IsFront front piece × Takes before front now None

-- the same for a server that goes on, and for one that refused before
abbrev pub FeedsBy : Option Refusal → Serving → List ℕ → Serving → Result (Unit {0}) ServeError → Type 0
FeedsBy (Some refusal) before piece now result = (result ≡ Err (error_of refusal)) × (now ≡ before)
FeedsBy None before piece now (Ok u) = (now.refusal ≡ None) × Takes before piece now None
FeedsBy None before piece now (Err e) = (refusal : Refusal) × (now.refusal ≡ Some refusal) × (e ≡ error_of refusal)
    × RefusesBy before piece now refusal
