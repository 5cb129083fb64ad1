-- A conversation with one who answers request by request.
use Rattle.std.proofs.Common.{◌≡◌, ℕ, Bool, false, List, [], ◌∷◌, ◌++◌, Option, Some, Result, Ok, Err, refl, sym, ap, subst, ◌∙◌, append_assoc, inl, inr}
use Rattle.std.specs.Prelude.{◌≢◌, IsTrue}
use Rattle.std.proofs.lemmas.List.{append-nil, append_cancel_left}
use Rattle.std.proofs.lemmas.List.Concat.{flat_map-append}
use Rattle.fetch_replies.specs.Awaited.{step_of, start_of, told_at}
use Rattle.fetch_replies.specs.StepLaws.{read_by-more, with_more, IsSettled}
use Rattle.fetch_lines.specs.Talks.{Talk, Talks, Passes, IsFront}
use Rattle.fetch_replies.specs.declared.replies.reply.ReplyKind.{ReplyKind}
use Rattle.fetch_replies.specs.declared.replies.reply.ReplyError.{ReplyError}
use Rattle.fetch_replies.specs.declared.replies.reply.ReplyError.TheVariants.{Short}
use Rattle.fetch_replies.specs.declared.replies.reply.ParsedReply.{ParsedReply}
use Rattle.fetch_lines.specs.declared.lines.line.Line.{Line}
use Rattle.fetch_lines.specs.Written.{line_text, lines_text}
use Rattle.fetch_conversation.specs.Conversation.{Conversation, ends, asks, sent_in, answer_in, after_reply, beside, RefusesWith, IsRefusedBy, Concludes, Breaks}
use Rattle.fetch_conversation.specs.Served.{answer_with, AsksOnly, requests_text, AreRequests, Serves, IsReadWhole, IsAnswered, IsOver, without_rest, IsFresh, Follows}

at_end : {X E : Type 0} (stream : List ℕ) (answer : Result X E) → without_rest (beside stream answer) ≡ answer
at_end stream (Ok x) = refl
at_end stream (Err e) = refl

-- no more is asked
over : {X E : Type 0} (bound : ℕ) (serve : List Line → List ℕ) (c : Conversation X E) (stream : List ℕ) → IsOver c → without_rest (answer_in bound c stream) ≡ answer_with bound serve c
unfolding answer_in answer_with
over bound serve c stream (answer, is) = rw is (at_end stream answer)

all_and_one : (is_request : List Line → Bool) (before : List (List Line)) (lines : List Line) → AreRequests is_request before → IsTrue (is_request lines) → AreRequests is_request (before ++ lines ∷ [])
all_and_one is_request [] lines all one = (one, tt)
all_and_one is_request (first ∷ before) lines all one = (all.0, all_and_one is_request before lines all.1 one)

text_of_more : (before : List (List Line)) (lines : List Line) → requests_text (before ++ lines ∷ []) ≡ requests_text before ++ lines_text lines
text_of_more before lines = flat_map-append lines_text before (lines ∷ []) ∙ ap (λ (l : List ℕ). requests_text before ++ l) (append-nil (lines_text lines))

-- the reply to a request is a prefix of what is given
reply_first : (is_request : List Line → Bool) (rule : List ℕ → List ℕ) (serve : List Line → List ℕ) → Serves is_request rule serve → (before : List (List Line)) (lines : List Line) (others stream : List ℕ)
    → AreRequests is_request before → IsTrue (is_request lines) → rule (requests_text before ++ (lines_text lines ++ others)) ≡ rule (requests_text before) ++ stream → IsFront (serve lines) stream
reply_first is_request rule serve s before lines others stream all one is =
    let front = s.grows (requests_text before ++ lines_text lines) others in
    let same : rule (requests_text before) ++ stream ≡ rule (requests_text before) ++ (serve lines ++ front.0) =
    sym is ∙ ap rule (sym (append_assoc (requests_text before) (lines_text lines) others)) ∙ front.1 ∙ ap (λ (l : List ℕ). l ++ front.0) (s.each before lines all one) ∙ append_assoc (rule (requests_text before)) (serve lines) front.0 in
    (front.0, append_cancel_left (rule (requests_text before)) stream (serve lines ++ front.0) same)

-- what is given for the next requests
others_next : (is_request : List Line → Bool) (rule : List ℕ → List ℕ) (serve : List Line → List ℕ) → Serves is_request rule serve → (before : List (List Line)) (lines : List Line) (others tail : List ℕ)
    → AreRequests is_request before → IsTrue (is_request lines) → rule (requests_text before ++ (lines_text lines ++ others)) ≡ rule (requests_text before) ++ (serve lines ++ tail)
    → rule (requests_text (before ++ lines ∷ []) ++ others) ≡ rule (requests_text (before ++ lines ∷ [])) ++ tail
others_next is_request rule serve s before lines others tail all one is =
    let text = text_of_more before lines in
    ap (λ (l : List ℕ). rule (l ++ others)) text ∙ ap rule (append_assoc (requests_text before) (lines_text lines) others) ∙ is ∙ sym (append_assoc (rule (requests_text before)) (serve lines) tail)
    ∙ ap (λ (l : List ℕ). l ++ tail) (sym (s.each before lines all one)) ∙ ap (λ (l : List ℕ). rule l ++ tail) (sym text)

-- what a reply told, read alone, is told where more is after it
stays : (bound : ℕ) (awaited : ReplyKind) (reply tail : List ℕ) (reading : Result (ParsedReply × List ℕ) ReplyError) → told_at bound awaited reply ≡ reading → IsSettled reading → told_at bound awaited (reply ++ tail) ≡ with_more reading tail
stays bound awaited reply tail reading is settled =
    let h : IsSettled (told_at bound awaited reply) = subst IsSettled (sym is) settled in
    read_by-more step_of bound 0 (start_of awaited) reply tail h ∙ ap (λ (r : Result (ParsedReply × List ℕ) ReplyError). with_more r tail) is

settled_refusal : (fault : ReplyError) → ((place : ℕ) → fault ≢ Short place) → IsSettled {A = ParsedReply × List ℕ} (Err fault)
settled_refusal fault h place is = h place cc

settled_told : (x : ParsedReply × List ℕ) → IsSettled (Ok x)
settled_told x place is = absurd cc

abbrev Next : Type 0 → Type 0 → Type 0
Next X E = ParsedReply → Conversation X E

-- the rest of a conversation by the reply to its first request
by_reply : {X E : Type 0} (bound : ℕ) (serve : List Line → List ℕ) (awaited : ReplyKind) (failed : ReplyError → E) (next : Next X E) (reply tail : List ℕ) (reading : Result (ParsedReply × List ℕ) ReplyError)
    → told_at bound awaited reply ≡ reading → IsReadWhole (λ told. IsAnswered bound serve (next told)) next reading
    → ((told : ParsedReply) → told_at bound awaited (reply ++ tail) ≡ Ok (told, tail) → IsAnswered bound serve (next told) → without_rest (answer_in bound (next told) tail) ≡ answer_with bound serve (next told))
    → without_rest (after_reply (λ fault. Err (failed fault)) (λ told rest. answer_in bound (next told) rest) (told_at bound awaited (reply ++ tail)))
    ≡ after_reply (λ fault. Err (failed fault)) (λ told rest. answer_with bound serve (next told)) reading
by_reply bound serve awaited failed next reply tail (Err fault) is whole again = rw (stays bound awaited reply tail (Err fault) is (settled_refusal fault whole)) refl
by_reply bound serve awaited failed next reply tail (Ok x) is (inl more) again =
    let found : told_at bound awaited (reply ++ tail) ≡ Ok (x.0, tail) = stays bound awaited reply tail (Ok x) is (settled_told x) ∙ ap (λ (l : List ℕ). Ok (x.0, l ++ tail)) more.0 in
    rw found (again x.0 found more.1)
by_reply bound serve awaited failed next reply tail (Ok x) is (inr no_more) again =
    rw (stays bound awaited reply tail (Ok x) is (settled_told x)) (over bound serve (next x.0) (x.1 ++ tail) no_more)

sent_more : {X E : Type 0} (bound : ℕ) (next : Next X E) (told : ParsedReply) (rest : List ℕ) (reading : Result (ParsedReply × List ℕ) ReplyError) → reading ≡ Ok (told, rest)
    → lines_text (after_reply (λ _. []) (λ told rest. sent_in bound (next told) rest) reading) ≡ lines_text (sent_in bound (next told) rest)
sent_more bound next told rest reading is = rw is refl

-- A conversation with one whose rule serves it, after some requests.
pub served : {X E : Type 0} (bound : ℕ) (is_request : List Line → Bool) (rule : List ℕ → List ℕ) (serve : List Line → List ℕ) → Serves is_request rule serve → (c : Conversation X E) (before : List (List Line)) (stream : List ℕ)
    → AreRequests is_request before → AsksOnly is_request c → IsAnswered bound serve c → rule (requests_text before ++ lines_text (sent_in bound c stream)) ≡ rule (requests_text before) ++ stream
    → without_rest (answer_in bound c stream) ≡ answer_with bound serve c
unfolding sent_in answer_in answer_with AsksOnly IsAnswered
served bound is_request rule serve s (ends answer) before stream all only answered is = at_end stream answer
served bound is_request rule serve s (asks lines awaited failed next) before stream all only answered is =
    let others = lines_text (after_reply (λ _. []) (λ told rest. sent_in bound (next told) rest) (told_at bound awaited stream)) in
    let heard : rule (requests_text before ++ (lines_text lines ++ others)) ≡ rule (requests_text before) ++ stream = ap (λ (l : List ℕ). rule (requests_text before ++ l)) (sym (flat_map-append line_text lines _)) ∙ is in
    let front = reply_first is_request rule serve s before lines others stream all only.0 heard in
    let heard' : rule (requests_text before ++ (lines_text lines ++ others)) ≡ rule (requests_text before) ++ (serve lines ++ front.0) = heard ∙ ap (λ (l : List ℕ). rule (requests_text before) ++ l) front.1 in
    let rest = by_reply bound serve awaited failed next (serve lines) front.0 (told_at bound awaited (serve lines)) refl answered
    (λ told found more. served bound is_request rule serve s (next told) (before ++ lines ∷ []) front.0 (all_and_one is_request before lines all only.0) (only.1 told) more
    (ap (λ (l : List ℕ). rule (requests_text (before ++ lines ∷ []) ++ l)) (sym (sent_more bound next told front.0 (told_at bound awaited stream) (ap (told_at bound awaited) front.1 ∙ found)))
    ∙ others_next is_request rule serve s before lines others front.0 all only.0 heard')) in
    ap (λ (l : List ℕ). without_rest (after_reply (λ fault. Err (failed fault)) (λ told rest. answer_in bound (next told) rest) (told_at bound awaited l))) front.1 ∙ rest

-- from the first request on
pub served_at_first : {X E : Type 0} (bound : ℕ) (is_request : List Line → Bool) (rule : List ℕ → List ℕ) (serve : List Line → List ℕ) → Serves is_request rule serve → (c : Conversation X E) (stream : List ℕ)
    → AsksOnly is_request c → IsAnswered bound serve c → rule (lines_text (sent_in bound c stream)) ≡ stream → without_rest (answer_in bound c stream) ≡ answer_with bound serve c
served_at_first bound is_request rule serve s c stream only answered is = served bound is_request rule serve s c [] stream tt only answered (is ∙ ap (λ (l : List ℕ). l ++ stream) (sym s.begins))

-- what a fresh peer gave and has still to give, by what it heard
given_by : (rule : List ℕ → List ℕ) (answers : Bool) (old : Option Talk) (new : Talk) (heard said : List ℕ) → IsFresh rule old → Follows rule new → Talks answers old (Some new) heard said → rule heard ≡ said ++ new.to_come
given_by rule answers old new heard said fresh follows passed =
    let p : Passes answers (record { heard = []; given = []; to_come = []; receives = []; rule = Some rule }) new heard said = rw fresh at passed in
    ap rule (sym p.heard_more) ∙ sym follows.followed ∙ ap (λ (l : List ℕ). l ++ new.to_come) p.gave_more

answer_is : {X E : Type 0} (bound : ℕ) (serve : List Line → List ℕ) (c : Conversation X E) (stream : List ℕ) (found : Result (X × List ℕ) E) → without_rest (answer_in bound c stream) ≡ answer_with bound serve c
    → answer_in bound c stream ≡ found → answer_with bound serve c ≡ without_rest found
answer_is bound serve c stream found is at = sym is ∙ ap without_rest at

pub concluded : {X E : Type 0} (is_request : List Line → Bool) (rule : List ℕ → List ℕ) (serve : List Line → List ℕ) (answers : Bool) (bound : ℕ) (old : Option Talk) (new : Talk) (c : Conversation X E) (x : X) (rest : List ℕ)
    → Serves is_request rule serve → AsksOnly is_request c → IsAnswered bound serve c → IsFresh rule old → Follows rule new → Concludes answers bound old (Some new) [] c x rest → answer_with bound serve c ≡ Ok x
concluded is_request rule serve answers bound old new c x rest s only answered fresh follows h =
    answer_is bound serve c (h.said ++ new.to_come) (Ok (x, rest ++ new.to_come))
    (served_at_first bound is_request rule serve s c (h.said ++ new.to_come) only answered (ap rule (h.asked new.to_come) ∙ given_by rule answers old new h.heard h.said fresh follows h.passed))
    (h.answered new.to_come)

refused_with : {X E : Type 0} (is_request : List Line → Bool) (rule : List ℕ → List ℕ) (serve : List Line → List ℕ) (bound : ℕ) (c : Conversation X E) (stream heard : List ℕ) (e : E)
    → Serves is_request rule serve → AsksOnly is_request c → IsAnswered bound serve c → rule heard ≡ stream → RefusesWith bound c stream heard e → answer_with bound serve c ≡ Err e
refused_with is_request rule serve bound c stream heard e s only answered is h =
    answer_is bound serve c stream (Err e) (served_at_first bound is_request rule serve s c stream only answered (ap rule h.asked ∙ is)) h.answer

refused_by : {X E : Type 0} (is_request : List Line → Bool) (rule : List ℕ → List ℕ) (serve : List Line → List ℕ) (bound : ℕ) (new : Talk) (c : Conversation X E) (said heard : List ℕ) (e : E)
    → Serves is_request rule serve → AsksOnly is_request c → IsAnswered bound serve c → rule heard ≡ said ++ new.to_come → IsRefusedBy bound (Some new) c said heard e → answer_with bound serve c ≡ Err e
refused_by is_request rule serve bound new c said heard e s only answered is (inl all) = refused_with is_request rule serve bound c (said ++ new.to_come) heard e s only answered is (all new.to_come)
refused_by is_request rule serve bound new c said heard e s only answered is (inr last) =
    refused_with is_request rule serve bound c said heard e s only answered (is ∙ ap (λ (l : List ℕ). said ++ l) last.0 ∙ append-nil said) last.1

pub broken : {X E : Type 0} (is_request : List Line → Bool) (rule : List ℕ → List ℕ) (serve : List Line → List ℕ) (answers : Bool) (bound : ℕ) (old : Option Talk) (new : Talk) (c : Conversation X E) (free stopped : E → Bool) (e : E)
    → Serves is_request rule serve → AsksOnly is_request c → IsAnswered bound serve c → IsFresh rule old → Follows rule new → Breaks free stopped answers bound old (Some new) [] c e → free e ≡ false → answer_with bound serve c ≡ Err e
broken is_request rule serve answers bound old new c free stopped e s only answered fresh follows h bound_to =
    refused_by is_request rule serve bound new c h.said h.heard e s only answered (given_by rule answers old new h.heard h.said fresh follows h.passed) (h.why bound_to)
