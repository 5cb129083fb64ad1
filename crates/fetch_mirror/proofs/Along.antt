-- A conversation along the replies that a server really gives.
use Rattle.std.proofs.Common.{◌≡◌, ℕ, Bool, false, List, [], ◌++◌, Option, Some, Result, Ok, Err, refl, sym, ap, subst, ◌∙◌, append_assoc, inl, inr}
use Rattle.std.specs.Prelude.{◌≢◌, length, drop}
use Rattle.std.proofs.lemmas.List.{append-nil, append_cancel_left}
use Rattle.std.proofs.lemmas.List.Concat.{flat_map-append}
use Rattle.std.proofs.Math.Seq.{drop-append_seam}
use Rattle.fetch_mirror.specs.Along.{added, Grows, IsDead, answer_along, IsReadAlong, IsAlong}
use Rattle.fetch_replies.specs.Awaited.{step_of, start_of, told_at}
use Rattle.fetch_replies.specs.declared.replies.reply.ReplyKind.{ReplyKind}
use Rattle.fetch_replies.specs.declared.replies.reply.ParsedReply.{ParsedReply}
use Rattle.fetch_conversation.specs.Conversation.{Conversation, ends, asks, sent_in, answer_in, after_reply, beside, RefusesWith, IsRefusedBy, Concludes, Breaks}
use Rattle.fetch_lines.specs.Written.{line_text, lines_text}
use Rattle.fetch_conversation.specs.Served.{IsOver, without_rest, IsFresh, Follows}
use Rattle.fetch_replies.specs.declared.replies.reply.ReplyError.{ReplyError}
use Rattle.fetch_replies.specs.declared.replies.reply.ReplyError.TheVariants.{Short}
use Rattle.fetch_replies.specs.StepLaws.{read_by-more, with_more, IsSettled}
use Rattle.fetch_lines.specs.Talks.{Talk, Talks, Passes}

at_end : {X E : Type 0} (stream : List ℕ) (answer : Result X E) → without_rest (beside stream answer) ≡ answer
at_end stream (Ok x) = refl
at_end stream (Err e) = refl

-- no more is asked
over : {X E : Type 0} (bound : ℕ) (rule : List ℕ → List ℕ) (before : List ℕ) (c : Conversation X E) (stream : List ℕ) → IsOver c → without_rest (answer_in bound c stream) ≡ answer_along bound rule before c
unfolding answer_in answer_along
over bound rule before c stream (answer, is) = rw is (at_end stream answer)

-- what a reply told, read alone, is told where more is after it
pub stays : (bound : ℕ) (awaited : ReplyKind) (reply tail : List ℕ) (reading : Result (ParsedReply × List ℕ) ReplyError) → told_at bound awaited reply ≡ reading → IsSettled reading → told_at bound awaited (reply ++ tail) ≡ with_more reading tail
stays bound awaited reply tail reading is settled =
    let h : IsSettled (told_at bound awaited reply) = subst IsSettled (sym is) settled in
    read_by-more step_of bound 0 (start_of awaited) reply tail h ∙ ap (λ (r : Result (ParsedReply × List ℕ) ReplyError). with_more r tail) is

pub settled_refusal : (fault : ReplyError) → ((place : ℕ) → fault ≢ Short place) → IsSettled {A = ParsedReply × List ℕ} (Err fault)
settled_refusal fault h place is = h place cc

pub settled_told : (x : ParsedReply × List ℕ) → IsSettled (Ok x)
settled_told x place is = absurd cc

-- ---- what a rule adds

-- what is given behind a text begins with what was given before it
pub added-is : (rule : List ℕ → List ℕ) (before text reply : List ℕ) → rule (before ++ text) ≡ rule before ++ reply → added rule before text ≡ reply
added-is rule before text reply is = ap (drop (length (rule before))) is ∙ drop-append_seam (rule before) reply

-- all that is given for a text is what was given before it, and what the rule adds
pub gives : (rule : List ℕ → List ℕ) → Grows rule → (before text : List ℕ) → rule (before ++ text) ≡ rule before ++ added rule before text
gives rule g before text =
    let front = g.grows before text in
    front.1 ∙ ap (λ (l : List ℕ). rule before ++ l) (sym (added-is rule before text front.0 front.1))

-- what is given for the requests after it
pub others_next : (rule : List ℕ → List ℕ) → Grows rule → (before text others stream : List ℕ) → rule (before ++ (text ++ others)) ≡ rule before ++ stream
    → (tail : List ℕ) × (stream ≡ added rule before text ++ tail) × (rule ((before ++ text) ++ others) ≡ rule (before ++ text) ++ tail)
others_next rule g before text others stream is =
    let front = g.grows (before ++ text) others in
    let same : rule before ++ stream ≡ rule before ++ (added rule before text ++ front.0) =
    sym is ∙ ap rule (sym (append_assoc before text others)) ∙ front.1 ∙ ap (λ (l : List ℕ). l ++ front.0) (gives rule g before text) ∙ append_assoc (rule before) (added rule before text) front.0 in
    (front.0, append_cancel_left (rule before) stream (added rule before text ++ front.0) same, front.1)

-- a dead server gives nothing for them
pub nothing_next : (rule : List ℕ → List ℕ) (heard others tail : List ℕ) → IsDead rule heard → rule (heard ++ others) ≡ rule heard ++ tail → tail ≡ []
nothing_next rule heard others tail dead is = append_cancel_left (rule heard) tail [] (sym is ∙ dead others ∙ sym (append-nil (rule heard)))

-- ---- one reply

abbrev Next : Type 0 → Type 0 → Type 0
Next X E = ParsedReply → Conversation X E

-- the rest of a conversation by the reply to its first request
by_reply : {X E : Type 0} (bound : ℕ) (rule : List ℕ → List ℕ) (now : List ℕ) (awaited : ReplyKind) (failed : ReplyError → E) (next : Next X E) (reply tail : List ℕ) (reading : Result (ParsedReply × List ℕ) ReplyError)
    → told_at bound awaited reply ≡ reading → (IsDead rule now → tail ≡ []) → IsReadAlong (λ told. IsAlong bound rule now (next told)) next (IsDead rule now) reading
    → ((told : ParsedReply) → told_at bound awaited (reply ++ tail) ≡ Ok (told, tail) → IsAlong bound rule now (next told) → without_rest (answer_in bound (next told) tail) ≡ answer_along bound rule now (next told))
    → without_rest (after_reply (λ fault. Err (failed fault)) (λ told rest. answer_in bound (next told) rest) (told_at bound awaited (reply ++ tail)))
    ≡ after_reply (λ fault. Err (failed fault)) (λ told rest. answer_along bound rule now (next told)) reading
by_reply bound rule now awaited failed next reply tail (Ok x) is none (inl more) again =
    let found : told_at bound awaited (reply ++ tail) ≡ Ok (x.0, tail) = stays bound awaited reply tail (Ok x) is (settled_told x) ∙ ap (λ (l : List ℕ). Ok (x.0, l ++ tail)) more.0 in
    rw found (again x.0 found more.1)
by_reply bound rule now awaited failed next reply tail (Ok x) is none (inr no_more) again =
    rw (stays bound awaited reply tail (Ok x) is (settled_told x)) (over bound rule now (next x.0) (x.1 ++ tail) no_more)
by_reply bound rule now awaited failed next reply tail (Err fault) is none (inl broken) again =
    rw (stays bound awaited reply tail (Err fault) is (settled_refusal fault broken)) refl
by_reply bound rule now awaited failed next reply tail (Err fault) is none (inr dead) again =
    let found : told_at bound awaited (reply ++ tail) ≡ Err fault = ap (λ (l : List ℕ). told_at bound awaited (reply ++ l)) (none dead) ∙ ap (told_at bound awaited) (append-nil reply) ∙ is in
    rw found refl

pub sent_more : {X E : Type 0} (bound : ℕ) (next : Next X E) (told : ParsedReply) (rest : List ℕ) (reading : Result (ParsedReply × List ℕ) ReplyError) → reading ≡ Ok (told, rest)
    → lines_text (after_reply (λ _. []) (λ told rest. sent_in bound (next told) rest) reading) ≡ lines_text (sent_in bound (next told) rest)
sent_more bound next told rest reading is = rw is refl

-- ---- the whole conversation

-- A conversation with one that heard this before, and gives by a rule.
pub along : {X E : Type 0} (bound : ℕ) (rule : List ℕ → List ℕ) → Grows rule → (c : Conversation X E) (before stream : List ℕ)
    → rule (before ++ lines_text (sent_in bound c stream)) ≡ rule before ++ stream → IsAlong bound rule before c → without_rest (answer_in bound c stream) ≡ answer_along bound rule before c
unfolding sent_in answer_in answer_along IsAlong
along bound rule g (ends answer) before stream is so = at_end stream answer
along bound rule g (asks lines awaited failed next) before stream is so =
    let others = lines_text (after_reply (λ _. []) (λ told rest. sent_in bound (next told) rest) (told_at bound awaited stream)) in
    let heard : rule (before ++ (lines_text lines ++ others)) ≡ rule before ++ stream = ap (λ (l : List ℕ). rule (before ++ l)) (sym (flat_map-append line_text lines _)) ∙ is in
    let split = others_next rule g before (lines_text lines) others stream heard in
    let reply = added rule before (lines_text lines) in
    let rest = by_reply bound rule (before ++ lines_text lines) awaited failed next reply split.0 (told_at bound awaited reply) refl
    (λ dead. nothing_next rule (before ++ lines_text lines) others split.0 dead split.2) so
    (λ told found more. along bound rule g (next told) (before ++ lines_text lines) split.0
    (ap (λ (l : List ℕ). rule ((before ++ lines_text lines) ++ l)) (sym (sent_more bound next told split.0 (told_at bound awaited stream) (ap (told_at bound awaited) split.1 ∙ found))) ∙ split.2) more) in
    ap (λ (l : List ℕ). without_rest (after_reply (λ fault. Err (failed fault)) (λ told rest. answer_in bound (next told) rest) (told_at bound awaited l))) split.1 ∙ rest

-- from the first request on
pub along_first : {X E : Type 0} (bound : ℕ) (rule : List ℕ → List ℕ) → Grows rule → rule [] ≡ [] → (c : Conversation X E) (stream : List ℕ)
    → rule (lines_text (sent_in bound c stream)) ≡ stream → IsAlong bound rule [] c → without_rest (answer_in bound c stream) ≡ answer_along bound rule [] c
along_first bound rule g begins c stream is so = along bound rule g c [] stream (is ∙ ap (λ (l : List ℕ). l ++ stream) (sym begins)) so

-- ---- with a peer

-- what a fresh peer gave and has still to give, by what it heard
pub given_by : (rule : List ℕ → List ℕ) (answers : Bool) (old : Option Talk) (new : Talk) (heard said : List ℕ) → IsFresh rule old → Follows rule new → Talks answers old (Some new) heard said → rule heard ≡ said ++ new.to_come
given_by rule answers old new heard said fresh follows passed =
    let p : Passes answers (record { heard = []; given = []; to_come = []; receives = []; rule = Some rule }) new heard said = rw fresh at passed in
    ap rule (sym p.heard_more) ∙ sym follows.followed ∙ ap (λ (l : List ℕ). l ++ new.to_come) p.gave_more

answer_is : {X E : Type 0} (bound : ℕ) (rule : List ℕ → List ℕ) (c : Conversation X E) (stream : List ℕ) (found : Result (X × List ℕ) E) → without_rest (answer_in bound c stream) ≡ answer_along bound rule [] c
    → answer_in bound c stream ≡ found → answer_along bound rule [] c ≡ without_rest found
answer_is bound rule c stream found is at = sym is ∙ ap without_rest at

-- a conversation whose requests and whose answer are these, whatever comes after
pub answered : {X E : Type 0} (rule : List ℕ → List ℕ) (answers : Bool) (bound : ℕ) (old : Option Talk) (new : Talk) (c : Conversation X E) (x : X) (heard said rest : List ℕ)
    → Grows rule → rule [] ≡ [] → IsAlong bound rule [] c → IsFresh rule old → Follows rule new → Talks answers old (Some new) heard said
    → ((more : List ℕ) → lines_text (sent_in bound c (said ++ more)) ≡ heard) → ((more : List ℕ) → answer_in bound c (said ++ more) ≡ Ok (x, rest ++ more)) → answer_along bound rule [] c ≡ Ok x
answered rule answers bound old new c x heard said rest g begins so fresh follows passed asked is =
    answer_is bound rule c (said ++ new.to_come) (Ok (x, rest ++ new.to_come))
    (along_first bound rule g begins c (said ++ new.to_come) (ap rule (asked new.to_come) ∙ given_by rule answers old new heard said fresh follows passed) so)
    (is new.to_come)

pub concluded : {X E : Type 0} (rule : List ℕ → List ℕ) (answers : Bool) (bound : ℕ) (old : Option Talk) (new : Talk) (c : Conversation X E) (x : X) (rest : List ℕ)
    → Grows rule → rule [] ≡ [] → IsAlong bound rule [] c → IsFresh rule old → Follows rule new → Concludes answers bound old (Some new) [] c x rest → answer_along bound rule [] c ≡ Ok x
concluded rule answers bound old new c x rest g begins so fresh follows h = answered rule answers bound old new c x h.heard h.said rest g begins so fresh follows h.passed h.asked h.answered

refused_with : {X E : Type 0} (rule : List ℕ → List ℕ) (bound : ℕ) (c : Conversation X E) (stream heard : List ℕ) (e : E)
    → Grows rule → rule [] ≡ [] → IsAlong bound rule [] c → rule heard ≡ stream → RefusesWith bound c stream heard e → answer_along bound rule [] c ≡ Err e
refused_with rule bound c stream heard e g begins so is h =
    answer_is bound rule c stream (Err e) (along_first bound rule g begins c stream (ap rule h.asked ∙ is) so) h.answer

refused_by : {X E : Type 0} (rule : List ℕ → List ℕ) (bound : ℕ) (new : Talk) (c : Conversation X E) (said heard : List ℕ) (e : E)
    → Grows rule → rule [] ≡ [] → IsAlong bound rule [] c → rule heard ≡ said ++ new.to_come → IsRefusedBy bound (Some new) c said heard e → answer_along bound rule [] c ≡ Err e
refused_by rule bound new c said heard e g begins so is (inl all) = refused_with rule bound c (said ++ new.to_come) heard e g begins so is (all new.to_come)
refused_by rule bound new c said heard e g begins so is (inr last) =
    refused_with rule bound c said heard e g begins so (is ∙ ap (λ (l : List ℕ). said ++ l) last.0 ∙ append-nil said) last.1

pub broken : {X E : Type 0} (rule : List ℕ → List ℕ) (answers : Bool) (bound : ℕ) (old : Option Talk) (new : Talk) (c : Conversation X E) (free stopped : E → Bool) (e : E)
    → Grows rule → rule [] ≡ [] → IsAlong bound rule [] c → IsFresh rule old → Follows rule new → Breaks free stopped answers bound old (Some new) [] c e → free e ≡ false → answer_along bound rule [] c ≡ Err e
broken rule answers bound old new c free stopped e g begins so fresh follows h bound_to =
    refused_by rule bound new c h.said h.heard e g begins so (given_by rule answers old new h.heard h.said fresh follows h.passed) (h.why bound_to)
