-- A conversation with one who answers each request by itself.
use Rattle.std.specs.Prelude.{◌≡◌, ◌≢◌, ◌⊎◌, ℕ, Bool, List, [], ◌++◌, Option, Some, Result, Ok, Err, ⊤, IsTrue}
use Rattle.std.specs.List.{AllByRecursion, flat_map}
use Rattle.fetch_replies.specs.Awaited.{told_at}
use Rattle.fetch_lines.specs.Talks.{Talk, IsFront}
use Rattle.fetch_lines.specs.Written.{lines_text}
use Rattle.fetch_replies.specs.declared.replies.reply.ReplyError.{ReplyError}
use Rattle.fetch_replies.specs.declared.replies.reply.ReplyError.TheVariants.{Short}
use Rattle.fetch_replies.specs.declared.replies.reply.ParsedReply.{ParsedReply}
use Rattle.fetch_lines.specs.declared.lines.line.Line.{Line}
use Rattle.fetch_conversation.specs.Conversation.{Conversation, ends, asks, after_reply}

-- how a conversation goes with one who gives this reply to each request
unfoldable pub answer_with : {X E : Type 0} → ℕ → (List Line → List ℕ) → Conversation X E → Result X E
answer_with bound serve (ends answer) = answer
answer_with bound serve (asks lines awaited failed next) =
    after_reply (λ fault. Err (failed fault)) (λ told rest. answer_with bound serve (next told)) (told_at bound awaited (serve lines))

-- All that it asks are requests of this kind, whatever it is told.
unfoldable pub AsksOnly : {X E : Type 0} → (List Line → Bool) → Conversation X E → Type 0
AsksOnly is_request (ends answer) = ⊤
AsksOnly is_request (asks lines awaited failed next) = IsTrue (is_request lines) × ((told : ParsedReply) → AsksOnly is_request (next told))

-- requests, one after another
abbrev pub requests_text : List (List Line) → List ℕ
requests_text requests = flat_map lines_text requests

-- Each of these is a request.
abbrev pub AreRequests : (List Line → Bool) → List (List Line) → Type 0
AreRequests is_request requests = AllByRecursion (λ lines. IsTrue (is_request lines)) requests

-- A rule says what is given in all for what was heard in all. This one answers request by request: it begins with
-- nothing, takes nothing back, and adds the reply to each request that was heard whole.
pub record Serves (is_request : List Line → Bool) (rule : List ℕ → List ℕ) (serve : List Line → List ℕ) : Type 0 where
  pub begins : rule [] ≡ []
  pub grows : (a b : List ℕ) → IsFront (rule a) (rule (a ++ b))
  pub each : (before : List (List Line)) (lines : List Line) → AreRequests is_request before → IsTrue (is_request lines)
      → rule (requests_text before ++ lines_text lines) ≡ rule (requests_text before) ++ serve lines

-- no more is asked
abbrev pub IsOver : {X E : Type 0} → Conversation X E → Type 0
IsOver {X} c = (answer : Result X _) × (c ≡ ends answer)

-- A reply is read to its end, or it is read in part and no more is asked, or it breaks whatever comes after.
abbrev pub IsReadWhole : {X E : Type 0} → (ParsedReply → Type 0) → (ParsedReply → Conversation X E)
    → Result (ParsedReply × List ℕ) ReplyError → Type 0
IsReadWhole again next (Err fault) = (place : ℕ) → fault ≢ Short place
IsReadWhole again next (Ok x) = ((x.1 ≡ []) × again x.0) ⊎ IsOver (next x.0)

-- Each request of the conversation is answered by a whole reply.
unfoldable pub IsAnswered : {X E : Type 0} → ℕ → (List Line → List ℕ) → Conversation X E → Type 0
IsAnswered bound serve (ends answer) = ⊤
IsAnswered bound serve (asks lines awaited failed next) =
    IsReadWhole (λ told. IsAnswered bound serve (next told)) next (told_at bound awaited (serve lines))

-- the answer alone, without what is left of the bytes
abbrev pub without_rest : {X E : Type 0} → Result (X × List ℕ) E → Result X E
without_rest (Ok x) = Ok x.0
without_rest (Err e) = Err e

-- a peer with this rule that heard and gave nothing yet, and of which nothing was received
abbrev pub IsFresh : (List ℕ → List ℕ) → Option Talk → Type 0
IsFresh rule talk = talk ≡ Some (record { heard = []; given = []; to_come = []; receives = []; rule = Some rule })

-- what it gave and has still to give is what its rule says of what it heard
pub record Follows (rule : List ℕ → List ℕ) (talk : Talk) : Type 0 where
  pub followed : talk.given ++ talk.to_come ≡ rule talk.heard
