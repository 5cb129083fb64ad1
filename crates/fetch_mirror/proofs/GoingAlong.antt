-- How a conversation goes along a rule's replies, one after another.
use Rattle.std.proofs.Common.{◌≡◌, ℕ, List, [], ◌++◌, Result, Ok, Err, refl, sym, ap, subst, ◌∙◌, append_assoc, inl, inr}
use Rattle.std.specs.Prelude.{◌≢◌}
use Rattle.std.proofs.lemmas.List.{append-nil}
use Rattle.fetch_mirror.proofs.Along.{added-is}
use Rattle.fetch_mirror.specs.Along.{added, IsDead, answer_along, sent_along, IsReadAlong, IsAlong}
use Rattle.fetch_replies.specs.Awaited.{step_of, start_of, told_at}
use Rattle.fetch_replies.specs.declared.replies.reply.ReplyKind.{ReplyKind}
use Rattle.fetch_replies.specs.declared.replies.reply.ParsedReply.{ParsedReply}
use Rattle.fetch_conversation.specs.Conversation.{Conversation, ends, asks, after_reply}
use Rattle.fetch_lines.specs.Written.{lines_text}
use Rattle.fetch_lines.specs.declared.lines.line.Line.{Line}
use Rattle.fetch_replies.specs.declared.replies.reply.ReplyError.{ReplyError}
use Rattle.fetch_replies.specs.declared.replies.reply.ReplyError.TheVariants.{Short}
use Rattle.fetch_lines.specs.Lines.{line_at}
use Rattle.fetch_replies.specs.Stepping.{Step, read_within, read_by}
use Rattle.fetch_mirror.specs.GoingAlong.{GoesAlong, IsAlongByCases}

-- Of nothing a reading is short.
nothing_is_short : {S T : Type 0} (step : S → Line → Step S T) (bound place : ℕ) (s : S) → read_by step bound s place [] ≡ Err (Short place)
unfolding read_within line_at
nothing_is_short step bound place s = refl

abbrev Next : Type 0 → Type 0 → Type 0
Next X E = ParsedReply → Conversation X E

-- no more is asked
pub goes_end : {X E : Type 0} (bound : ℕ) (rule : List ℕ → List ℕ) (before : List ℕ) (answer : Result X E) → GoesAlong bound rule before (ends answer) [] answer
unfolding answer_along sent_along IsAlong
goes_end bound rule before answer = record { so = tt; is = refl; asked = refl }

-- what the reply to the first request tells
told_by : (bound : ℕ) (rule : List ℕ → List ℕ) (before : List ℕ) (lines : List Line) (awaited : ReplyKind) (reply : List ℕ) (reading : Result (ParsedReply × List ℕ) ReplyError) → rule (before ++ lines_text lines) ≡ rule before ++ reply
    → told_at bound awaited reply ≡ reading → told_at bound awaited (added rule before (lines_text lines)) ≡ reading
told_by bound rule before lines awaited reply reading adds is = ap (told_at bound awaited) (added-is rule before (lines_text lines) reply adds) ∙ is

-- by what the reply to the first request tells
pub goes_by : {X E : Type 0} (bound : ℕ) (rule : List ℕ → List ℕ) (before : List ℕ) (lines : List Line) (awaited : ReplyKind) (failed : ReplyError → E) (next : Next X E) (reading : Result (ParsedReply × List ℕ) ReplyError) (others : List Line) (answer : Result X E)
    → told_at bound awaited (added rule before (lines_text lines)) ≡ reading
    → IsReadAlong (λ told. IsAlong bound rule (before ++ lines_text lines) (next told)) next (IsDead rule (before ++ lines_text lines)) reading
    → after_reply (λ fault. Err (failed fault)) (λ told rest. answer_along bound rule (before ++ lines_text lines) (next told)) reading ≡ answer
    → after_reply (λ fault. []) (λ told rest. sent_along bound rule (before ++ lines_text lines) (next told)) reading ≡ others
    → GoesAlong bound rule before (asks lines awaited failed next) (lines ++ others) answer
unfolding answer_along sent_along IsAlong
goes_by bound rule before lines awaited failed next reading others answer is so to sends = record {
  so = subst (IsReadAlong (λ told. IsAlong bound rule (before ++ lines_text lines) (next told)) next (IsDead rule (before ++ lines_text lines))) (sym is) so;
  is = ap (after_reply (λ fault. Err (failed fault)) (λ told rest. answer_along bound rule (before ++ lines_text lines) (next told))) is ∙ to;
  asked = ap (λ (l : List Line). lines ++ l) (ap (after_reply (λ fault. []) (λ told rest. sent_along bound rule (before ++ lines_text lines) (next told))) is ∙ sends);
}

-- the reply is whole, and it goes on
pub goes_on : {X E : Type 0} (bound : ℕ) (rule : List ℕ → List ℕ) (before : List ℕ) (lines : List Line) (awaited : ReplyKind) (failed : ReplyError → E) (next : Next X E) (reply : List ℕ) (told : ParsedReply) (others : List Line) (answer : Result X E)
    → rule (before ++ lines_text lines) ≡ rule before ++ reply → told_at bound awaited reply ≡ Ok (told, []) → GoesAlong bound rule (before ++ lines_text lines) (next told) others answer
    → GoesAlong bound rule before (asks lines awaited failed next) (lines ++ others) answer
goes_on bound rule before lines awaited failed next reply told others answer adds is more =
    goes_by bound rule before lines awaited failed next (Ok (told, [])) others answer (told_by bound rule before lines awaited reply (Ok (told, [])) adds is) (inl (refl, more.so)) more.is more.asked

-- the reply is read in part, and no more is asked
pub goes_over : {X E : Type 0} (bound : ℕ) (rule : List ℕ → List ℕ) (before : List ℕ) (lines : List Line) (awaited : ReplyKind) (failed : ReplyError → E) (next : Next X E) (reply rest : List ℕ) (told : ParsedReply) (answer : Result X E)
    → rule (before ++ lines_text lines) ≡ rule before ++ reply → told_at bound awaited reply ≡ Ok (told, rest) → next told ≡ ends answer → GoesAlong bound rule before (asks lines awaited failed next) (lines ++ []) answer
unfolding answer_along sent_along
goes_over bound rule before lines awaited failed next reply rest told answer adds is no_more =
    goes_by bound rule before lines awaited failed next (Ok (told, rest)) [] answer (told_by bound rule before lines awaited reply (Ok (told, rest)) adds is) (inr (answer, no_more))
    (ap (answer_along bound rule (before ++ lines_text lines)) no_more) (ap (sent_along bound rule (before ++ lines_text lines)) no_more)

-- the reply breaks, whatever follows
pub goes_broken : {X E : Type 0} (bound : ℕ) (rule : List ℕ → List ℕ) (before : List ℕ) (lines : List Line) (awaited : ReplyKind) (failed : ReplyError → E) (next : Next X E) (reply : List ℕ) (fault : ReplyError)
    → rule (before ++ lines_text lines) ≡ rule before ++ reply → told_at bound awaited reply ≡ Err fault → ((place : ℕ) → fault ≢ Short place) → GoesAlong bound rule before (asks lines awaited failed next) (lines ++ []) (Err (failed fault))
goes_broken bound rule before lines awaited failed next reply fault adds is broken =
    goes_by bound rule before lines awaited failed next (Err fault) [] (Err (failed fault)) (told_by bound rule before lines awaited reply (Err fault) adds is) (inl broken) refl refl

-- The request isn't answered, and nothing is from there on.
pub goes_dead : {X E : Type 0} (bound : ℕ) (rule : List ℕ → List ℕ) (before : List ℕ) (lines : List Line) (awaited : ReplyKind) (failed : ReplyError → E) (next : Next X E)
    → rule (before ++ lines_text lines) ≡ rule before → IsDead rule (before ++ lines_text lines) → GoesAlong bound rule before (asks lines awaited failed next) (lines ++ []) (Err (failed (Short 0)))
goes_dead bound rule before lines awaited failed next adds dead =
    goes_by bound rule before lines awaited failed next (Err (Short 0)) [] (Err (failed (Short 0)))
    (told_by bound rule before lines awaited [] (Err (Short 0)) (adds ∙ sym (append-nil (rule before))) (nothing_is_short step_of bound 0 (start_of awaited))) (inr dead) refl refl

-- ---- the four cases side by side

dead_by : (rule : List ℕ → List ℕ) (before text : List ℕ) → ((more : List ℕ) → rule (before ++ (text ++ more)) ≡ rule before) → IsDead rule (before ++ text)
dead_by rule before text dead more =
    ap rule (append_assoc before text more) ∙ dead more ∙ sym (dead []) ∙ ap (λ (l : List ℕ). rule (before ++ l)) (append-nil text)

-- they say the same of each path, at least
pub by_cases : {X E : Type 0} (bound : ℕ) (rule : List ℕ → List ℕ) (before : List ℕ) (c : Conversation X E) → IsAlongByCases bound rule before c → IsAlong bound rule before c
unfolding IsAlong IsAlongByCases
by_cases bound rule before (ends answer) so = tt
by_cases bound rule before (asks lines awaited failed next) (inl (told, is, more)) =
    subst (IsReadAlong (λ told. IsAlong bound rule (before ++ lines_text lines) (next told)) next (IsDead rule (before ++ lines_text lines))) (sym is) (inl (refl, by_cases bound rule (before ++ lines_text lines) (next told) more))
by_cases bound rule before (asks lines awaited failed next) (inr (inl (told, rest, is, no_more))) =
    subst (IsReadAlong (λ told. IsAlong bound rule (before ++ lines_text lines) (next told)) next (IsDead rule (before ++ lines_text lines))) (sym is) (inr no_more)
by_cases bound rule before (asks lines awaited failed next) (inr (inr (inl (fault, is, broken)))) =
    subst (IsReadAlong (λ told. IsAlong bound rule (before ++ lines_text lines) (next told)) next (IsDead rule (before ++ lines_text lines))) (sym is) (inl broken)
by_cases bound rule before (asks lines awaited failed next) (inr (inr (inr (none, dead)))) =
    let is : told_at bound awaited (added rule before (lines_text lines)) ≡ Err (Short 0) = ap (told_at bound awaited) none ∙ nothing_is_short step_of bound 0 (start_of awaited) in
    subst (IsReadAlong (λ told. IsAlong bound rule (before ++ lines_text lines) (next told)) next (IsDead rule (before ++ lines_text lines))) (sym is) (inr (dead_by rule before (lines_text lines) dead))
