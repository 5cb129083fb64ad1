-- Both at once: each reply on the path is read along it, and this is the answer.
use Rattle.std.specs.Prelude.{◌≡◌, ◌⊎◌, ◌≢◌, ℕ, List, [], ◌++◌, Result, Ok, Err, ⊤}
use Rattle.fetch_mirror.specs.Along.{added, answer_along, sent_along, IsAlong}
use Rattle.fetch_replies.specs.Awaited.{told_at}
use Rattle.fetch_replies.specs.declared.replies.reply.ParsedReply.{ParsedReply}
use Rattle.fetch_conversation.specs.Conversation.{Conversation, ends, asks}
use Rattle.fetch_lines.specs.Written.{lines_text}
use Rattle.fetch_lines.specs.declared.lines.line.Line.{Line}
use Rattle.fetch_conversation.specs.Served.{IsOver}
use Rattle.fetch_replies.specs.declared.replies.reply.ReplyError.{ReplyError}
use Rattle.fetch_replies.specs.declared.replies.reply.ReplyError.TheVariants.{Short}

-- The conversation goes along the rule's replies, with these lines sent, to this answer.
pub record GoesAlong {X E : Type 0} (bound : ℕ) (rule : List ℕ → List ℕ) (before : List ℕ) (c : Conversation X E) (sent : List Line)
    (answer : Result X E) : Type 0 where
  pub so : IsAlong bound rule before c
  pub is : answer_along bound rule before c ≡ answer
  pub asked : sent_along bound rule before c ≡ sent

-- As IsAlong, with the four cases side by side: the last says of an empty reply that the server is dead.
unfoldable pub IsAlongByCases : {X E : Type 0} → ℕ → (List ℕ → List ℕ) → List ℕ → Conversation X E → Type 0
IsAlongByCases bound rule before (ends answer) = ⊤
IsAlongByCases bound rule before (asks lines awaited failed next) =
    ((told : ParsedReply) × (told_at bound awaited (added rule before (lines_text lines)) ≡ Ok (told, []))
    × IsAlongByCases bound rule (before ++ lines_text lines) (next told))
    ⊎ (((told : ParsedReply) × (rest : List ℕ) × (told_at bound awaited (added rule before (lines_text lines)) ≡ Ok (told, rest))
    × IsOver (next told))
    ⊎ (((fault : ReplyError) × (told_at bound awaited (added rule before (lines_text lines)) ≡ Err fault)
    × ((place : ℕ) → fault ≢ Short place))
    ⊎ ((added rule before (lines_text lines) ≡ []) × ((more : List ℕ) → rule (before ++ (lines_text lines ++ more)) ≡ rule before))))

-- Each reply on the path is whole, with these lines sent, up to this answer, and all this was heard before it.
unfoldable pub GoesTo : {X E : Type 0} → ℕ → (List ℕ → List ℕ) → List ℕ → List ℕ → Conversation X E → List Line → X → Type 0
GoesTo bound rule before after (ends answer) sent x = (answer ≡ Ok x) × (before ≡ after) × (sent ≡ [])
GoesTo bound rule before after (asks lines awaited failed next) sent x =
    (told : ParsedReply) × (told_at bound awaited (added rule before (lines_text lines)) ≡ Ok (told, [])) × (others : List Line)
    × (sent ≡ lines ++ others) × GoesTo bound rule (before ++ lines_text lines) after (next told) others x
