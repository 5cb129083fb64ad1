-- How two conversations, one after the other, go along a rule's replies, and one whose refusals are told in another type.
use Rattle.std.proofs.Common.{◌≡◌, ℕ, List, [], ◌++◌, Result, Ok, Err, refl, sym, ap, subst, ◌∙◌, append_assoc, inl, inr}
use Rattle.fetch_mirror.proofs.Along.{added-is}
use Rattle.fetch_mirror.proofs.GoingAlong.{goes_by, goes_end}
use Rattle.fetch_mirror.specs.Along.{added, IsDead, answer_along, sent_along, IsReadAlong, IsAlong}
use Rattle.fetch_replies.specs.Awaited.{told_at}
use Rattle.fetch_replies.specs.declared.replies.reply.ReplyKind.{ReplyKind}
use Rattle.fetch_replies.specs.declared.replies.reply.ParsedReply.{ParsedReply}
use Rattle.fetch_conversation.specs.Conversation.{Conversation, ends, asks, after_reply, after_answer, and_then, map_refusal, told_as}
use Rattle.fetch_lines.specs.Written.{lines_text}
use Rattle.fetch_lines.specs.declared.lines.line.Line.{Line}
use Rattle.fetch_conversation.specs.Served.{IsOver}
use Rattle.fetch_replies.specs.declared.replies.reply.ReplyError.{ReplyError}
use Rattle.fetch_mirror.specs.GoingAlong.{GoesAlong, GoesTo}

abbrev Next : Type 0 → Type 0 → Type 0
Next X E = ParsedReply → Conversation X E

-- ---- whole replies alone

-- an answer, with no request
pub to_end : {X E : Type 0} (bound : ℕ) (rule : List ℕ → List ℕ) (before : List ℕ) (answer : Result X E) (x : X) → answer ≡ Ok x → GoesTo bound rule before before (ends answer) [] x
unfolding GoesTo
to_end bound rule before answer x is = (is, refl, refl)

-- one more request, whose reply is whole
pub to_on : {X E : Type 0} (bound : ℕ) (rule : List ℕ → List ℕ) (before after : List ℕ) (lines : List Line) (awaited : ReplyKind) (failed : ReplyError → E) (next : Next X E) (reply : List ℕ) (told : ParsedReply) (others : List Line) (x : X)
    → rule (before ++ lines_text lines) ≡ rule before ++ reply → told_at bound awaited reply ≡ Ok (told, []) → GoesTo bound rule (before ++ lines_text lines) after (next told) others x → GoesTo bound rule before after (asks lines awaited failed next) (lines ++ others) x
unfolding GoesTo
to_on bound rule before after lines awaited failed next reply told others x adds is more = (told, ap (told_at bound awaited) (added-is rule before (lines_text lines) reply adds) ∙ is, others, refl, more)

-- the same lines, told otherwise
sent_as : {X E : Type 0} (bound : ℕ) (rule : List ℕ → List ℕ) (before : List ℕ) (c : Conversation X E) (sent sent' : List Line) (answer : Result X E) → sent ≡ sent' → GoesAlong bound rule before c sent answer → GoesAlong bound rule before c sent' answer
sent_as bound rule before c sent sent' answer same h = record { so = h.so; is = h.is; asked = h.asked ∙ same }

-- they go along
pub to_along : {X E : Type 0} (bound : ℕ) (rule : List ℕ → List ℕ) (before after : List ℕ) (c : Conversation X E) (sent : List Line) (x : X) → GoesTo bound rule before after c sent x → GoesAlong bound rule before c sent (Ok x)
unfolding GoesTo
to_along bound rule before after (ends answer) sent x (is, at, none) =
    sent_as bound rule before (ends answer) [] sent (Ok x) (sym none) (subst (GoesAlong bound rule before (ends answer) []) is (goes_end bound rule before answer))
to_along bound rule before after (asks lines awaited failed next) sent x (told, is, others, sends, more) =
    let along = to_along bound rule (before ++ lines_text lines) after (next told) others x more in
    sent_as bound rule before (asks lines awaited failed next) (lines ++ others) sent (Ok x) (sym sends)
    (goes_by bound rule before lines awaited failed next (Ok (told, [])) others (Ok x) is (inl (refl, along.so)) along.is along.asked)

-- ---- one conversation after another

-- The second goes on where the first has heard whole replies alone.
pub then_along : {X Y E : Type 0} (bound : ℕ) (rule : List ℕ → List ℕ) (before after : List ℕ) (c : Conversation X E) (f : X → Conversation Y E) (x : X) (sent sent' : List Line) (answer : Result Y E)
    → GoesTo bound rule before after c sent x → GoesAlong bound rule after (f x) sent' answer → GoesAlong bound rule before (and_then c f) (sent ++ sent') answer
unfolding GoesTo and_then
then_along bound rule before after (ends found) f x sent sent' answer (is, same, none) k =
    let k' : GoesAlong bound rule before (f x) sent' answer = subst (λ (l : List ℕ). GoesAlong bound rule l (f x) sent' answer) (sym same) k in
    let k'' : GoesAlong bound rule before (after_answer f found) sent' answer = subst (λ (a : Result _ _). GoesAlong bound rule before (after_answer f a) sent' answer) (sym is) k' in
    sent_as bound rule before (after_answer f found) sent' (sent ++ sent') answer (ap (λ (l : List Line). l ++ sent') (sym none)) k''
then_along bound rule before after (asks lines awaited failed next) f x sent sent' answer (told, is, others, sends, more) k =
    let along = then_along bound rule (before ++ lines_text lines) after (next told) f x others sent' answer more k in
    sent_as bound rule before (asks lines awaited failed (λ told. and_then (next told) f)) (lines ++ (others ++ sent')) (sent ++ sent') answer
    (sym (append_assoc lines others sent') ∙ ap (λ (l : List Line). l ++ sent') (sym sends))
    (goes_by bound rule before lines awaited failed (λ told. and_then (next told) f) (Ok (told, [])) (others ++ sent') answer is (inl (refl, along.so)) along.is along.asked)

-- and it may have heard whole replies alone, too
pub then_to : {X Y E : Type 0} (bound : ℕ) (rule : List ℕ → List ℕ) (before after last : List ℕ) (c : Conversation X E) (f : X → Conversation Y E) (x : X) (sent sent' : List Line) (y : Y)
    → GoesTo bound rule before after c sent x → GoesTo bound rule after last (f x) sent' y → GoesTo bound rule before last (and_then c f) (sent ++ sent') y
unfolding GoesTo and_then
then_to bound rule before after last (ends found) f x sent sent' y (is, same, none) k =
    let k' : GoesTo bound rule before last (f x) sent' y = subst (λ (l : List ℕ). GoesTo bound rule l last (f x) sent' y) (sym same) k in
    let k'' : GoesTo bound rule before last (after_answer f found) sent' y = subst (λ (a : Result _ _). GoesTo bound rule before last (after_answer f a) sent' y) (sym is) k' in
    subst (λ (l : List Line). GoesTo bound rule before last (after_answer f found) (l ++ sent') y) (sym none) k''
then_to bound rule before after last (asks lines awaited failed next) f x sent sent' y (told, is, others, sends, more) k =
    (told, is, others ++ sent', ap (λ (l : List Line). l ++ sent') sends ∙ append_assoc lines others sent', then_to bound rule (before ++ lines_text lines) after last (next told) f x others sent' y more k)

-- ---- a first one that is refused

-- what is over stays over where it is refused
over_then : {X Y E : Type 0} (bound : ℕ) (rule : List ℕ → List ℕ) (now : List ℕ) (c : Conversation X E) (f : X → Conversation Y E) (e : E) → IsOver c → answer_along bound rule now c ≡ Err e → and_then c f ≡ ends (Err e)
unfolding answer_along and_then
over_then bound rule now c f e (found, is) refused =
    let e' : found ≡ Err e = sym (ap (answer_along bound rule now) is) ∙ refused in
    ap (λ (l : Conversation _ _). and_then l f) is ∙ ap (after_answer f) e'

refused_is : {X E : Type 0} (found : Result X E) (e e' : E) → found ≡ Err e' → found ≡ Err e → e' ≡ e
refused_is found e e' is is' = cc

early_by : {X Y E : Type 0} (bound : ℕ) (rule : List ℕ → List ℕ) (before : List ℕ) (lines : List Line) (awaited : ReplyKind) (failed : ReplyError → E) (next : Next X E) (f : X → Conversation Y E) (e : E) (reading : Result (ParsedReply × List ℕ) ReplyError)
    → told_at bound awaited (added rule before (lines_text lines)) ≡ reading
    → IsReadAlong (λ told. IsAlong bound rule (before ++ lines_text lines) (next told)) next (IsDead rule (before ++ lines_text lines)) reading
    → after_reply (λ fault. Err (failed fault)) (λ told rest. answer_along bound rule (before ++ lines_text lines) (next told)) reading ≡ Err e
    → ((told : ParsedReply) → IsAlong bound rule (before ++ lines_text lines) (next told) → answer_along bound rule (before ++ lines_text lines) (next told) ≡ Err e
    → GoesAlong bound rule (before ++ lines_text lines) (and_then (next told) f) (sent_along bound rule (before ++ lines_text lines) (next told)) (Err e))
    → GoesAlong bound rule before (asks lines awaited failed (λ told. and_then (next told) f)) (lines ++ after_reply (λ fault. []) (λ told rest. sent_along bound rule (before ++ lines_text lines) (next told)) reading) (Err e)
unfolding answer_along sent_along
early_by bound rule before lines awaited failed next f e (Ok x) is (inl more) refused again =
    let along = again x.0 more.1 refused in
    goes_by bound rule before lines awaited failed (λ told. and_then (next told) f) (Ok x) _ (Err e) is (inl (more.0, along.so)) along.is along.asked
early_by bound rule before lines awaited failed next f e (Ok x) is (inr no_more) refused again =
    let over = over_then bound rule (before ++ lines_text lines) (next x.0) f e no_more refused in
    goes_by bound rule before lines awaited failed (λ told. and_then (next told) f) (Ok x) _ (Err e) is (inr (Err e, over)) (ap (answer_along bound rule (before ++ lines_text lines)) over)
    (ap (sent_along bound rule (before ++ lines_text lines)) over ∙ sym (ap (sent_along bound rule (before ++ lines_text lines)) no_more.1))
early_by bound rule before lines awaited failed next f e (Err fault) is (inl broken) refused again =
    goes_by bound rule before lines awaited failed (λ told. and_then (next told) f) (Err fault) [] (Err e) is (inl broken) (ap Err (refused_is _ e (failed fault) refl refused)) refl
early_by bound rule before lines awaited failed next f e (Err fault) is (inr dead) refused again =
    goes_by bound rule before lines awaited failed (λ told. and_then (next told) f) (Err fault) [] (Err e) is (inr dead) (ap Err (refused_is _ e (failed fault) refl refused)) refl

early_so : {X Y E : Type 0} (bound : ℕ) (rule : List ℕ → List ℕ) (c : Conversation X E) (f : X → Conversation Y E) (e : E) (before : List ℕ) → IsAlong bound rule before c → answer_along bound rule before c ≡ Err e
    → GoesAlong bound rule before (and_then c f) (sent_along bound rule before c) (Err e)
unfolding IsAlong answer_along sent_along and_then
early_so bound rule (ends found) f e before so is = subst (λ (a : Result _ _). GoesAlong bound rule before (after_answer f a) [] (Err e)) (sym is) (goes_end bound rule before (Err e))
early_so bound rule (asks lines awaited failed next) f e before so is =
    early_by bound rule before lines awaited failed next f e (told_at bound awaited (added rule before (lines_text lines))) refl so is
    (λ told more refused. early_so bound rule (next told) f e (before ++ lines_text lines) more refused)

-- Where the first is refused, both are.
pub early_along : {X Y E : Type 0} (bound : ℕ) (rule : List ℕ → List ℕ) (before : List ℕ) (c : Conversation X E) (f : X → Conversation Y E) (sent : List Line) (e : E) → GoesAlong bound rule before c sent (Err e) → GoesAlong bound rule before (and_then c f) sent (Err e)
early_along bound rule before c f sent e h = sent_as bound rule before (and_then c f) (sent_along bound rule before c) sent (Err e) h.asked (early_so bound rule c f e before h.so h.is)

-- ---- refusals told in another type

as_by : {X E F : Type 0} (bound : ℕ) (rule : List ℕ → List ℕ) (before : List ℕ) (lines : List Line) (awaited : ReplyKind) (failed : ReplyError → E) (next : Next X E) (g : E → F) (reading : Result (ParsedReply × List ℕ) ReplyError)
    → told_at bound awaited (added rule before (lines_text lines)) ≡ reading
    → IsReadAlong (λ told. IsAlong bound rule (before ++ lines_text lines) (next told)) next (IsDead rule (before ++ lines_text lines)) reading
    → ((told : ParsedReply) → IsAlong bound rule (before ++ lines_text lines) (next told)
    → GoesAlong bound rule (before ++ lines_text lines) (told_as g (next told)) (sent_along bound rule (before ++ lines_text lines) (next told)) (map_refusal g (answer_along bound rule (before ++ lines_text lines) (next told))))
    → GoesAlong bound rule before (asks lines awaited (λ fault. g (failed fault)) (λ told. told_as g (next told)))
    (lines ++ after_reply (λ fault. []) (λ told rest. sent_along bound rule (before ++ lines_text lines) (next told)) reading)
    (map_refusal g (after_reply (λ fault. Err (failed fault)) (λ told rest. answer_along bound rule (before ++ lines_text lines) (next told)) reading))
unfolding answer_along sent_along told_as
as_by bound rule before lines awaited failed next g (Ok x) is (inl more) again =
    let along = again x.0 more.1 in
    goes_by bound rule before lines awaited (λ fault. g (failed fault)) (λ told. told_as g (next told)) (Ok x) _ _ is (inl (more.0, along.so)) along.is along.asked
as_by bound rule before lines awaited failed next g (Ok x) is (inr no_more) again =
    let over = ap (told_as g) no_more.1 in
    goes_by bound rule before lines awaited (λ fault. g (failed fault)) (λ told. told_as g (next told)) (Ok x) _ _ is (inr (map_refusal g no_more.0, over))
    (ap (answer_along bound rule (before ++ lines_text lines)) over ∙ sym (ap (λ (c : Conversation _ _). map_refusal g (answer_along bound rule (before ++ lines_text lines) c)) no_more.1))
    (ap (sent_along bound rule (before ++ lines_text lines)) over ∙ sym (ap (sent_along bound rule (before ++ lines_text lines)) no_more.1))
as_by bound rule before lines awaited failed next g (Err fault) is (inl broken) again =
    goes_by bound rule before lines awaited (λ fault. g (failed fault)) (λ told. told_as g (next told)) (Err fault) [] _ is (inl broken) refl refl
as_by bound rule before lines awaited failed next g (Err fault) is (inr dead) again =
    goes_by bound rule before lines awaited (λ fault. g (failed fault)) (λ told. told_as g (next told)) (Err fault) [] _ is (inr dead) refl refl

as_so : {X E F : Type 0} (bound : ℕ) (rule : List ℕ → List ℕ) (g : E → F) (c : Conversation X E) (before : List ℕ) → IsAlong bound rule before c
    → GoesAlong bound rule before (told_as g c) (sent_along bound rule before c) (map_refusal g (answer_along bound rule before c))
unfolding IsAlong answer_along sent_along told_as
as_so bound rule g (ends found) before so = goes_end bound rule before (map_refusal g found)
as_so bound rule g (asks lines awaited failed next) before so =
    as_by bound rule before lines awaited failed next g (told_at bound awaited (added rule before (lines_text lines))) refl so (λ told more. as_so bound rule g (next told) (before ++ lines_text lines) more)

-- The same lines are sent, to the same answer, told so.
pub as_along : {X E F : Type 0} (bound : ℕ) (rule : List ℕ → List ℕ) (before : List ℕ) (g : E → F) (c : Conversation X E) (sent : List Line) (answer : Result X E)
    → GoesAlong bound rule before c sent answer → GoesAlong bound rule before (told_as g c) sent (map_refusal g answer)
as_along bound rule before g c sent answer h =
    let along = as_so bound rule g c before h.so in record { so = along.so; is = along.is ∙ ap (map_refusal g) h.is; asked = along.asked ∙ h.asked }

pub as_to : {X E F : Type 0} (bound : ℕ) (rule : List ℕ → List ℕ) (before after : List ℕ) (g : E → F) (c : Conversation X E) (sent : List Line) (x : X) → GoesTo bound rule before after c sent x → GoesTo bound rule before after (told_as g c) sent x
unfolding GoesTo told_as
as_to bound rule before after g (ends found) sent x (is, same, none) = (ap (map_refusal g) is, same, none)
as_to bound rule before after g (asks lines awaited failed next) sent x (told, is, others, sends, more) = (told, is, others, sends, as_to bound rule (before ++ lines_text lines) after g (next told) others x more)
