-- A session that is driven: what is to be sent is sent, and bytes are received while a reply is awaited.
use Rattle.std.specs.Prelude.{◌≡◌, ◌≢◌, ◌⊎◌, ℕ, Bool, false, List, [], ◌∷◌, ◌++◌, Option, Some, None, Result, Ok, Err, ⊤, ◌<◌, length}
use Rattle.std.specs.List.{AllByRecursion}
use Rattle.fetch_base.specs.Faults.{Faults}
use Rattle.fetch_wire.specs.SessionStates.{SessionState, IsAlike, IsAwaiting, fed, ended, turn_of}
use Rattle.fetch_lines.specs.Talks.{Talk, Talks, Receive, Makes, at_once, IsDrained, IsFront}
use Rattle.fetch_lines.specs.declared.error.WireError.{WireError}
use Rattle.fetch_lines.specs.declared.error.WireError.TheVariants as wire
use Rattle.fetch_wire.specs.declared.session.turn.Turn.TheVariants as turns
use Rattle.fetch_conversation.specs.Conversation.{AllButLastGave, AllGave}
use Rattle.fetch_conversation.specs.Errors.{is_failed, is_yes}
use Rattle.fetch_conversation.specs.Blame.{BlamesPeer, BlamesInterrupt, is_told}
use Rattle.fetch_conversation.specs.Receiving.{last_question}
use Rattle.fetch_conversation.specs.declared.drive.DriveError.{DriveError}
use Rattle.fetch_conversation.specs.declared.drive.DriveError.TheVariants as stops

-- All that it was fed was read as far as it goes, and no refusal was answered yet.
pub record IsDrivable (s : SessionState) : Type 0 where
  pub read : IsAlike s (fed s [])
  pub unrefused : s.refused ≡ false

-- A reply is awaited that isn't whole yet, and nothing is wrong.
pub record IsWaiting (s : SessionState) : Type 0 where
  pub well : s.trouble ≡ None
  pub short : IsAwaiting s

-- A receive was the session's turn: all that was to be sent so far had been heard, and a reply was awaited.
pub record IsItsTurn (s : SessionState) (receive : Receive) : Type 0 where
  pub heard : receive.heard ≡ (fed s receive.given).outgoing
  pub waits : IsWaiting (fed s receive.given)

-- Each receive that was made was the session's turn, and none came behind one that gave nothing.
pub record IsFed (old new : Option Talk) (s : SessionState) : Type 0 where
  pub receives : List Receive
  pub made : Makes old new receives
  pub turns : AllByRecursion (IsItsTurn s) receives
  pub gave : AllButLastGave receives

-- with these bytes before what is to be sent
abbrev pub with_heard : List ℕ → SessionState → SessionState
with_heard heard s = record s { outgoing = heard ++ s.outgoing }

-- From one session to another the peer heard and said these bytes, and the other is the first one that was fed them.
-- Each receive gave something.
pub record GoesOn (answers : Bool) (old new : Option Talk) (s now : SessionState) : Type 0 where
  pub heard : List ℕ
  pub said : List ℕ
  pub passed : Talks answers old new heard said
  pub awaited : IsFed old new s
  pub gave : AllGave said awaited.receives
  pub is : IsAlike (with_heard heard now) (fed s said)

-- It went on until nothing is to be sent and no reply is awaited.
pub record Finishes (answers : Bool) (old new : Option Talk) (s now : SessionState) : Type 0 where
  pub went : GoesOn answers old new s now
  pub idle : turn_of now ≡ turns.Idle

-- The refusal stands whatever is fed; or the peer has nothing more to say, and it is that of a reply that isn't whole.
abbrev pub Refuses : Option Talk → SessionState → WireError → Type 0
Refuses now s e = (s.trouble ≡ Some e) ⊎ (IsDrained now × (s.trouble ≡ None) × ((ended s).trouble ≡ Some e))

-- A refusal that isn't out of memory is that of the session, and all that is to be sent was heard. At a yes it is the
-- session's turn to receive.
abbrev pub Explains : Option Talk → List ℕ → SessionState → DriveError → Type 0
Explains now heard s (stops.Refused e) = e ≢ wire.NoMemory → (heard ≡ s.outgoing) × Refuses now s e
Explains now heard s stops.Failed = ⊤
Explains now heard s stops.Interrupted = (heard ≡ s.outgoing) × IsWaiting s

-- It broke off, and the peer heard a prefix of what is to be sent to one who says this.
pub record Stops (answers : Bool) (old new : Option Talk) (s : SessionState) (e : DriveError) : Type 0 where
  pub heard : List ℕ
  pub said : List ℕ
  pub passed : Talks answers old new heard said
  pub awaited : IsFed old new s
  pub front : IsFront heard (fed s said).outgoing
  pub why : Explains new heard (fed s said) e

-- What driving a session gives: it is idle, or where it stopped.
abbrev pub Drives : {T : Type 0} → Bool → Option Talk → Option Talk → SessionState → SessionState → Result T DriveError → Type 0
Drives answers old new s now (Ok x) = Finishes answers old new s now
Drives answers old new s now (Err e) = Stops answers old new s e

-- Where out of memory is told, the session refuses for it, or something is still to be sent, or nothing happened.
abbrev pub RunsOut : {T : Type 0} → SessionState → SessionState → Result T DriveError → Type 0
RunsOut s now (Ok x) = ⊤
RunsOut s now (Err (stops.Refused e)) = e ≡ wire.NoMemory → (now.trouble ≢ None) ⊎ ((now.outgoing ≢ []) ⊎ (now ≡ s))
RunsOut s now (Err stops.Failed) = ⊤
RunsOut s now (Err stops.Interrupted) = ⊤

-- The same, with the peer's count of faults and the interrupt's of yes answers: neither falls, each rose where its stop
-- is told, and no Ok follows a yes. The interrupt was asked once before each receive.
pub record IsDriven {T : Type 0} (answers : Bool) (old new : Option Talk) (s now : SessionState) (faults faults' yes yes' : Faults)
    (will will' : ℕ → Type 0) (result : Result T DriveError) : Type 0 where
  pub driven : Drives answers old new s now result
  pub memory : RunsOut s now result
  pub peer : BlamesPeer faults faults' (is_told is_failed result)
  pub interrupt : BlamesInterrupt yes yes' will will' old new (last_question is_yes result)

-- ---- one step

-- a fault of the peer, or out of memory
abbrev pub IsUnsent : DriveError → Type 0
IsUnsent (stops.Refused e) = e ≡ wire.NoMemory
IsUnsent stops.Failed = ⊤
IsUnsent stops.Interrupted = ⊥

-- A piece came that isn't empty, and was fed; or it is refused, or the end of the peer's bytes is.
abbrev pub Takes : {T : Type 0} → Option Talk → Option Talk → SessionState → SessionState → Result T DriveError → Type 0
Takes old new s now (Ok x) = (piece : List ℕ) × (0 < length piece) × Talks false old new [] piece × IsAlike now (fed s piece)
Takes old new s now (Err e) = (piece : List ℕ) × Talks false old new [] piece
    × (Explains new [] (fed s piece) e ⊎ ((piece ≡ []) × Explains new [] s e))

-- one receive is made, and none where the interrupt says yes
abbrev pub made_by : {T : Type 0} → Result T DriveError → List Receive
made_by (Ok x) = at_once ∷ []
made_by (Err (stops.Refused e)) = at_once ∷ []
made_by (Err stops.Failed) = at_once ∷ []
made_by (Err stops.Interrupted) = []
