-- A conversation: lines that are sent, what the reply tells, and how it goes on by that.
use Rattle.std.specs.Prelude.{◌≡◌, ◌≢◌, ◌⊎◌, ◌<◌, ⊤, ℕ, Bool, true, false, List, [], ◌∷◌, ◌++◌, length, Option, Some, None, Result, Ok, Err}
use Rattle.std.specs.List.{AllByRecursion}
use Rattle.fetch_replies.specs.Awaited.{told_at}
use Rattle.fetch_lines.specs.Talks.{Talk, Talks, Receive, Makes, IsDrained, IsFront}
use Rattle.fetch_lines.specs.Written.{lines_text, first_too_long}
use Rattle.fetch_replies.specs.declared.replies.reply.ReplyKind.{ReplyKind}
use Rattle.fetch_replies.specs.declared.replies.reply.ReplyError.{ReplyError}
use Rattle.fetch_replies.specs.declared.replies.reply.ReplyError.TheVariants as faults
use Rattle.fetch_replies.specs.declared.replies.reply.ParsedReply.{ParsedReply}
use Rattle.fetch_lines.specs.declared.lines.line.Line.{Line}

-- It ends with an answer, or it asks: it sends lines, awaits a reply, and goes on by what the reply tells. Where the
-- bytes of the peer hold no such reply, it ends with a refusal by what is wrong with them.
pub data Conversation (X E : Type 0) : Type 0 where
  ends : Result X E → Conversation X E
  asks : List Line → ReplyKind → (ReplyError → E) → (ParsedReply → Conversation X E) → Conversation X E

-- a question whose lines fit, or the refusal of the first one that is too long
abbrev pub asks_unless : {X E : Type 0} → Option ℕ → (ℕ → E) → Conversation X E → Conversation X E
asks_unless None long c = c
asks_unless (Some length) long c = ends (Err (long length))

-- asks these lines, unless one is too long
abbrev pub asking : {X E : Type 0} → (ℕ → E) → List Line → ReplyKind → (ReplyError → E) → (ParsedReply → Conversation X E)
    → Conversation X E
asking long lines awaited failed next = asks_unless (first_too_long lines) long (asks lines awaited failed next)

-- what follows a reply, or a fault in its place
abbrev pub after_reply : {A : Type 0} → (ReplyError → A) → (ParsedReply → List ℕ → A) → Result (ParsedReply × List ℕ) ReplyError → A
after_reply none go (Err fault) = none fault
after_reply none go (Ok x) = go x.0 x.1

-- the lines that are sent to a peer that says this
unfoldable pub sent_in : {X E : Type 0} → ℕ → Conversation X E → List ℕ → List Line
sent_in bound (ends answer) stream = []
sent_in bound (asks lines awaited failed next) stream =
    lines ++ after_reply (λ _. []) (λ told rest. sent_in bound (next told) rest) (told_at bound awaited stream)

-- an answer with what is left
abbrev pub beside : {X E : Type 0} → List ℕ → Result X E → Result (X × List ℕ) E
beside rest (Ok x) = Ok (x, rest)
beside rest (Err e) = Err e

-- how it ends with a peer that says this and nothing else, and what of that is left
unfoldable pub answer_in : {X E : Type 0} → ℕ → Conversation X E → List ℕ → Result (X × List ℕ) E
answer_in bound (ends answer) stream = beside stream answer
answer_in bound (asks lines awaited failed next) stream =
    after_reply (λ fault. Err (failed fault)) (λ told rest. answer_in bound (next told) rest) (told_at bound awaited stream)

-- Whether the bytes end in a reply, with nothing wrong in it, or go on after whole ones.
abbrev pub ends_in : (ParsedReply → List ℕ → Bool) → Result (ParsedReply × List ℕ) ReplyError → Bool
ends_in go (Ok x) = go x.0 x.1
ends_in go (Err (faults.Short place)) = true
ends_in go (Err (faults.Broken place)) = false
ends_in go (Err faults.TooLong) = false
ends_in go (Err (faults.Said text)) = false

-- whether a reply is awaited of a peer that said this: one that isn't whole yet, and of which nothing is wrong
unfoldable pub awaits_more : {X E : Type 0} → ℕ → Conversation X E → List ℕ → Bool
awaits_more bound (ends answer) stream = false
awaits_more bound (asks lines awaited failed next) stream =
    ends_in (λ told rest. awaits_more bound (next told) rest) (told_at bound awaited stream)

-- The peer's bytes are replies to the requests before one that it didn't hear whole: its reply is awaited, and nothing is
-- wrong with the bytes.
pub record IsUnheard {X E : Type 0} (bound : ℕ) (c : Conversation X E) (heard stream : List ℕ) : Type 0 where
  pub awaited : awaits_more bound c stream ≡ true
  pub unheard : heard ≢ lines_text (sent_in bound c stream)

-- A receive was due: all that was to be sent so far had been heard, and a reply was still awaited.
pub record IsDue {X E : Type 0} (bound : ℕ) (c : Conversation X E) (pending : List ℕ) (receive : Receive) : Type 0 where
  pub heard : receive.heard ≡ lines_text (sent_in bound c (pending ++ receive.given))
  pub awaited : awaits_more bound c (pending ++ receive.given) ≡ true

-- Each receive but the last gave something: more had been given before the next one.
abbrev pub AllButLastGave : List Receive → Type 0
AllButLastGave [] = ⊤
AllButLastGave (receive ∷ []) = ⊤
AllButLastGave (receive ∷ next ∷ receives) = (length receive.given < length next.given) × AllButLastGave (next ∷ receives)

-- Each receive gave something: before it less had been given than these bytes, which are all.
abbrev pub AllGave : List ℕ → List Receive → Type 0
AllGave given receives = AllByRecursion (λ receive. length receive.given < length given) receives

-- Each receive that was made was due, and none came behind one that gave nothing.
pub record IsAwaited {X E : Type 0} (bound : ℕ) (old new : Option Talk) (pending : List ℕ) (c : Conversation X E) : Type 0 where
  pub receives : List Receive
  pub made : Makes old new receives
  pub due : AllByRecursion (IsDue bound c pending) receives
  pub gave : AllButLastGave receives

-- one conversation after another
abbrev pub after_answer : {X Y E : Type 0} → (X → Conversation Y E) → Result X E → Conversation Y E
after_answer f (Ok x) = f x
after_answer f (Err e) = ends (Err e)

-- A second conversation goes on where the first ended well.
unfoldable pub and_then : {X Y E : Type 0} → Conversation X E → (X → Conversation Y E) → Conversation Y E
and_then (ends answer) f = after_answer f answer
and_then (asks lines awaited failed next) f = asks lines awaited failed (λ told. and_then (next told) f)

-- an answer whose refusal is told by another error
abbrev pub map_refusal : {X E F : Type 0} → (E → F) → Result X E → Result X F
map_refusal g (Ok x) = Ok x
map_refusal g (Err e) = Err (g e)

-- the same conversation, its refusals told in another type
unfoldable pub told_as : {X E F : Type 0} → (E → F) → Conversation X E → Conversation X F
told_as g (ends answer) = ends (map_refusal g answer)
told_as g (asks lines awaited failed next) = asks lines awaited (λ fault. g (failed fault)) (λ told. told_as g (next told))

-- The conversation was held to its end: the peer heard its lines, and this is its answer, whatever comes after. No
-- receive was made before all that was to be sent so far had been heard, and none after a reply that was whole. Each gave
-- something.
pub record Concludes {X E : Type 0} (answers : Bool) (bound : ℕ) (old new : Option Talk) (pending : List ℕ) (c : Conversation X E) (x : X)
    (rest : List ℕ) : Type 0 where
  pub said : List ℕ
  pub heard : List ℕ
  pub passed : Talks answers old new heard said
  pub needed : IsAwaited bound old new pending c
  pub gave : AllGave said needed.receives
  pub asked : (more : List ℕ) → lines_text (sent_in bound c (pending ++ (said ++ more))) ≡ heard
  pub answered : (more : List ℕ) → answer_in bound c (pending ++ (said ++ more)) ≡ Ok (x, rest ++ more)

-- A peer that says this and nothing else is refused so, and all that it heard are the lines for that.
pub record RefusesWith {X E : Type 0} (bound : ℕ) (c : Conversation X E) (stream heard : List ℕ) (e : E) : Type 0 where
  pub answer : answer_in bound c stream ≡ Err e
  pub asked : lines_text (sent_in bound c stream) ≡ heard

-- The refusal is that of what was said, whatever comes after; or nothing is to come, and it is that of all that was said.
abbrev pub IsRefusedBy : {X E : Type 0} → ℕ → Option Talk → Conversation X E → List ℕ → List ℕ → E → Type 0
IsRefusedBy bound now c stream heard e =
    ((more : List ℕ) → RefusesWith bound c (stream ++ more) heard e) ⊎ (IsDrained now × RefusesWith bound c stream heard e)

-- It broke off: the peer heard a prefix of its lines, and each receive was due. Unless the refusal is a free one, as want
-- of memory and a counted fault are, it is the one of this conversation with this peer, which heard all lines up to it.
-- Where it was stopped by a yes, a receive was due.
pub record Breaks {X E : Type 0} (free stopped : E → Bool) (answers : Bool) (bound : ℕ) (old new : Option Talk) (pending : List ℕ)
    (c : Conversation X E) (e : E) : Type 0 where
  pub said : List ℕ
  pub heard : List ℕ
  pub passed : Talks answers old new heard said
  pub needed : IsAwaited bound old new pending c
  pub front : IsFront heard (lines_text (sent_in bound c (pending ++ said)))
  pub why : free e ≡ false → IsRefusedBy bound new c (pending ++ said) heard e
  pub due : stopped e ≡ true → IsDue bound c pending (record { heard = heard; given = said })

-- What a conversation held gives: an answer, or where it broke off.
abbrev pub ConversesBy : {X E : Type 0} → (E → Bool) → (E → Bool) → Bool → ℕ → Option Talk → Option Talk → List ℕ → List ℕ
    → Conversation X E → Result X E → Type 0
ConversesBy free stopped answers bound old new pending rest c (Ok x) = Concludes answers bound old new pending c x rest
ConversesBy free stopped answers bound old new pending rest c (Err e) = Breaks free stopped answers bound old new pending c e

-- What a call leaves that holds the conversation. Pending is what was received and not read before it, and rest what
-- was received and not read after it.
pub record Converses {X E : Type 0} (free stopped : E → Bool) (answers : Bool) (bound : ℕ) (old new : Option Talk) (pending rest : List ℕ)
    (c : Conversation X E) (result : Result X E) : Type 0 where
  pub held : ConversesBy free stopped answers bound old new pending rest c result

-- In a call the peer heard this and gave this, and stands so at its end.
pub record HasExchanged (old new : Option Talk) (after : Talk) (heard said : List ℕ) : Type 0 where
  -- how it stood before the call
  pub before : Talk
  -- It tells how it stood.
  pub told_before : old ≡ Some before
  -- It tells how it stands at the end.
  pub told_after : new ≡ Some after
  -- It heard these bytes more, and no others.
  pub hears : after.heard ≡ before.heard ++ heard
  -- It gave these bytes more, and no others.
  pub gave : after.given ≡ before.given ++ said

-- What a peer gave in a call and has still to give are valid replies.
pub record HasValidReplies {X E : Type 0} (bound : ℕ) (old new : Option Talk) (c : Conversation X E) : Type 0 where
  -- how the peer stands at the end of the call
  pub after : Talk
  -- what it heard in the call
  pub heard : List ℕ
  -- what it gave in the call
  pub said : List ℕ
  -- These passed in the call.
  pub exchanged : HasExchanged old new after heard said
  -- They are replies to all requests of the conversation, or at least to each that was heard whole.
  pub valid : ((x : X × List ℕ) × (answer_in bound c (said ++ after.to_come) ≡ Ok x)) ⊎ IsUnheard bound c heard (said ++ after.to_come)
