-- How the references are listed and mapped, step by step.
use Rattle.std.specs.Prelude.{◌≡◌, false, List, [], ◌∷◌, Option, Some, None, Result, Ok, Err, ⊤}
use Rattle.fetch_specs.specs.declared.conflict.Conflict.{Conflict}
use Rattle.fetch_wire.specs.Parameters.{first_bad, texts_told, TellsUnsent}
use Rattle.fetch_lines.specs.Requests.{first_line}
use Rattle.fetch_wire.specs.SessionStates.{SessionState, opened}
use Rattle.fetch_lines.specs.Written.{first_too_long}
use Rattle.fetch_lines.specs.declared.error.WireError.{WireError}
use Rattle.fetch_lines.specs.declared.greetings.handshake.Handshake.{Handshake}
use Rattle.fetch_lines.specs.declared.lines.line.Line.{Line}
use Rattle.fetch_lines.specs.declared.listings.reference.Ref.{Ref}
use Rattle.fetch_conversation.specs.Errors.{is_free_listing}
use Rattle.fetch_conversation.specs.ListStage.{LsRefsValue, ListedValue, prefixes_asked, mapped, other_reply, shown, unsendable, is_nil}
use Rattle.fetch_conversation.specs.declared.listing.Listed.{Listed}
use Rattle.fetch_conversation.specs.declared.prepare.Error.{Error}
use Rattle.fetch_conversation.specs.declared.ref_map.Error.{Error as MapError}
use Rattle.fetch_conversation.specs.declared.ref_map.Error.TheVariants as ref_map

-- the first line of an query
abbrev pub first_of : LsRefsValue → Line
first_of q = first_line q.address q.options.handshake_parameters

-- Nothing of the query is refused before it is sent, and the session is its.
pub record IsOpened (q : LsRefsValue) (s : SessionState) : Type 0 where
  pub sendable : unsendable q ≡ None
  pub fits : first_too_long (first_of q ∷ []) ≡ None
  pub is : s ≡ opened q.options.max_reply_bytes q.agent (prefixes_asked q) (first_of q)

-- why the query can't be sent
abbrev pub TellsUnopened : LsRefsValue → WireError → Type 0
TellsUnopened q e = TellsUnsent (first_bad (texts_told q.address q.options.handshake_parameters q.agent))
    (first_too_long (first_of q ∷ [])) e

-- what is found, once greeting and references are there
abbrev pub found_in : LsRefsValue → Option Handshake → Option (List Ref) → Result ListedValue Error
found_in q None refs = Err other_reply
found_in q (Some h) None = Err other_reply
found_in q (Some h) (Some refs) = mapped q h refs

-- these conflicts are told, or out of memory
abbrev pub TellsConflicts : List Conflict → MapError → Type 0
TellsConflicts found (ref_map.Handshake e) = ⊥
TellsConflicts found ref_map.Transport = ⊥
TellsConflicts found ref_map.Interrupted = ⊥
TellsConflicts found (ref_map.InitRefMap conflicts) = (found ≡ conflicts) × (is_nil conflicts ≡ false)
TellsConflicts found ref_map.NoMemory = ⊤

-- What a session was told is mapped, or refused. It hands its references over.
abbrev pub Answers : LsRefsValue → SessionState → Result Listed Error → Type 0
Answers q s (Ok l) = (found_in q s.handshake s.refs ≡ Ok (shown l)) × (l.session ≡ record s { refs = None })
Answers q s (Err e) = is_free_listing e ≡ false → found_in q s.handshake s.refs ≡ Err e
