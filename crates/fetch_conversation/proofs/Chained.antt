-- One conversation after another, and refusals told in another type.
use Rattle.std.proofs.Common.{◌≡◌, ℕ, Bool, true, false, List, [], ◌++◌, Option, Result, Ok, Err, refl, sym, ap, subst, ◌∙◌, append_assoc, inl, inr}
use Rattle.std.proofs.lemmas.List.{append-nil}
use Rattle.std.proofs.lemmas.List.Concat.{flat_map-append}
use Rattle.std.specs.Prelude.{map}
use Rattle.fetch_lines.specs.Talks.{Talk, Talks, Receive, behind, IsFront}
use Rattle.fetch_lines.specs.Talks.{Talks-then, Makes-then}
use Rattle.fetch_replies.specs.declared.replies.reply.ReplyError.{ReplyError}
use Rattle.fetch_replies.specs.declared.replies.reply.ReplyError.TheVariants as faults
use Rattle.fetch_replies.specs.declared.replies.reply.ParsedReply.{ParsedReply}
use Rattle.fetch_lines.specs.declared.lines.line.Line.{Line}
use Rattle.fetch_replies.specs.Awaited.{told_at}
use Rattle.fetch_lines.specs.Written.{line_text, lines_text}
use Rattle.fetch_conversation.specs.Conversation.{Conversation, ends, asks, sent_in, answer_in, ends_in, awaits_more, IsDue, AllGave, IsAwaited, after_reply, after_answer, and_then, map_refusal, told_as, beside, Concludes, RefusesWith, IsRefusedBy, Breaks}
use Rattle.fetch_conversation.proofs.Due.{all_both, all_as, all_behind, gave_then, all_gave_then}

abbrev pub sent_behind : {X Y E : Type 0} → ℕ → (X → Conversation Y E) → Result (X × List ℕ) E → List Line
sent_behind bound f (Ok x) = sent_in bound (f x.0) x.1
sent_behind bound f (Err e) = []

abbrev pub answer_behind : {X Y E : Type 0} → ℕ → (X → Conversation Y E) → Result (X × List ℕ) E → Result (Y × List ℕ) E
answer_behind bound f (Ok x) = answer_in bound (f x.0) x.1
answer_behind bound f (Err e) = Err e

-- what is sent by the second, after the first
sent_at_end : {X Y E : Type 0} (bound : ℕ) (f : X → Conversation Y E) (answer : Result X E) (stream : List ℕ) → sent_in bound (after_answer f answer) stream ≡ sent_behind bound f (beside stream answer)
unfolding sent_in
sent_at_end bound f (Ok x) stream = refl
sent_at_end bound f (Err e) stream = refl

answer_at_end : {X Y E : Type 0} (bound : ℕ) (f : X → Conversation Y E) (answer : Result X E) (stream : List ℕ) → answer_in bound (after_answer f answer) stream ≡ answer_behind bound f (beside stream answer)
unfolding answer_in
answer_at_end bound f (Ok x) stream = refl
answer_at_end bound f (Err e) stream = refl

sent_asking : {X Y E : Type 0} (bound : ℕ) (f : X → Conversation Y E) (lines : List Line) (failed : ReplyError → E) (next : ParsedReply → Conversation X E) (reading : Result (ParsedReply × List ℕ) ReplyError)
    → ((told : ParsedReply) (rest : List ℕ) → sent_in bound (and_then (next told) f) rest ≡ sent_in bound (next told) rest ++ sent_behind bound f (answer_in bound (next told) rest))
    → lines ++ after_reply (λ _. []) (λ told rest. sent_in bound (and_then (next told) f) rest) reading
    ≡ (lines ++ after_reply (λ _. []) (λ told rest. sent_in bound (next told) rest) reading) ++ sent_behind bound f (after_reply (λ fault. Err (failed fault)) (λ told rest. answer_in bound (next told) rest) reading)
sent_asking bound f lines failed next (Err fault) again = sym (append-nil (lines ++ []))
sent_asking bound f lines failed next (Ok x) again = ap (λ (l : List Line). lines ++ l) (again x.0 x.1) ∙ sym (append_assoc lines _ _)

pub sent_then : {X Y E : Type 0} (bound : ℕ) (c : Conversation X E) (f : X → Conversation Y E) (stream : List ℕ) → sent_in bound (and_then c f) stream ≡ sent_in bound c stream ++ sent_behind bound f (answer_in bound c stream)
unfolding sent_in answer_in and_then
sent_then bound (ends answer) f stream = sent_at_end bound f answer stream
sent_then bound (asks lines awaited failed next) f stream = sent_asking bound f lines failed next (told_at bound awaited stream) (λ told rest. sent_then bound (next told) f rest)

answer_asking : {X Y E : Type 0} (bound : ℕ) (f : X → Conversation Y E) (failed : ReplyError → E) (next : ParsedReply → Conversation X E) (reading : Result (ParsedReply × List ℕ) ReplyError)
    → ((told : ParsedReply) (rest : List ℕ) → answer_in bound (and_then (next told) f) rest ≡ answer_behind bound f (answer_in bound (next told) rest))
    → after_reply (λ fault. Err (failed fault)) (λ told rest. answer_in bound (and_then (next told) f) rest) reading ≡ answer_behind bound f (after_reply (λ fault. Err (failed fault)) (λ told rest. answer_in bound (next told) rest) reading)
answer_asking bound f failed next (Err fault) again = refl
answer_asking bound f failed next (Ok x) again = again x.0 x.1

pub answer_then : {X Y E : Type 0} (bound : ℕ) (c : Conversation X E) (f : X → Conversation Y E) (stream : List ℕ) → answer_in bound (and_then c f) stream ≡ answer_behind bound f (answer_in bound c stream)
unfolding answer_in and_then
answer_then bound (ends answer) f stream = answer_at_end bound f answer stream
answer_then bound (asks lines awaited failed next) f stream = answer_asking bound f failed next (told_at bound awaited stream) (λ told rest. answer_then bound (next told) f rest)

pub text_then : {X Y E : Type 0} (bound : ℕ) (c : Conversation X E) (f : X → Conversation Y E) (stream rest : List ℕ) (x : X) → answer_in bound c stream ≡ Ok (x, rest)
    → lines_text (sent_in bound (and_then c f) stream) ≡ lines_text (sent_in bound c stream) ++ lines_text (sent_in bound (f x) rest)
text_then bound c f stream rest x is = ap lines_text (sent_then bound c f stream ∙ ap (λ (a : _). sent_in bound c stream ++ sent_behind bound f a) is) ∙ flat_map-append line_text (sent_in bound c stream) (sent_in bound (f x) rest)

front_then : {X Y E : Type 0} (bound : ℕ) (c : Conversation X E) (f : X → Conversation Y E) (stream heard : List ℕ) → IsFront heard (lines_text (sent_in bound c stream)) → IsFront heard (lines_text (sent_in bound (and_then c f) stream))
front_then bound c f stream heard front =
    let behind = sent_behind bound f (answer_in bound c stream) in
    (front.0 ++ lines_text behind, ap lines_text (sent_then bound c f stream) ∙ flat_map-append line_text (sent_in bound c stream) behind ∙ ap (λ (l : List ℕ). l ++ lines_text behind) front.1 ∙ append_assoc heard front.0 (lines_text behind))

-- ---- what is awaited

-- by what the first is answered: where it isn't, it awaits, or the second does
abbrev pub awaits_behind : {X Y E : Type 0} → ℕ → (X → Conversation Y E) → Result (X × List ℕ) E → Bool
awaits_behind bound f (Ok x) = awaits_more bound (f x.0) x.1
awaits_behind bound f (Err e) = false

awaits_at_end : {X Y E : Type 0} (bound : ℕ) (f : X → Conversation Y E) (answer : Result X E) (stream : List ℕ) → awaits_more bound (after_answer f answer) stream ≡ awaits_behind bound f (beside stream answer)
unfolding awaits_more
awaits_at_end bound f (Ok x) stream = refl
awaits_at_end bound f (Err e) stream = refl

awaits_asking : {X Y E : Type 0} (bound : ℕ) (f : X → Conversation Y E) (failed : ReplyError → E) (next : ParsedReply → Conversation X E) (reading : Result (ParsedReply × List ℕ) ReplyError) (x : X) (rest : List ℕ)
    → ((told : ParsedReply) (left : List ℕ) → answer_in bound (next told) left ≡ Ok (x, rest) → awaits_more bound (and_then (next told) f) left ≡ awaits_more bound (f x) rest)
    → after_reply (λ fault. Err (failed fault)) (λ told left. answer_in bound (next told) left) reading ≡ Ok (x, rest) → ends_in (λ told left. awaits_more bound (and_then (next told) f) left) reading ≡ awaits_more bound (f x) rest
awaits_asking bound f failed next (Err fault) x rest again is = absurd (cc)
awaits_asking bound f failed next (Ok y) x rest again is = again y.0 y.1 is

-- after the first's end the second awaits
pub awaits_late : {X Y E : Type 0} (bound : ℕ) (c : Conversation X E) (f : X → Conversation Y E) (stream : List ℕ) (x : X) (rest : List ℕ) → answer_in bound c stream ≡ Ok (x, rest) → awaits_more bound (and_then c f) stream ≡ awaits_more bound (f x) rest
unfolding answer_in awaits_more and_then
awaits_late bound (ends answer) f stream x rest is = awaits_at_end bound f answer stream ∙ ap (awaits_behind bound f) is
awaits_late bound (asks lines awaited failed next) f stream x rest is =
    awaits_asking bound f failed next (told_at bound awaited stream) x rest (λ told left same. awaits_late bound (next told) f left x rest same) is

ends_asking : (go go' : ParsedReply → List ℕ → Bool) (reading : Result (ParsedReply × List ℕ) ReplyError) → ((told : ParsedReply) (left : List ℕ) → go told left ≡ true → go' told left ≡ true) → ends_in go reading ≡ true → ends_in go' reading ≡ true
ends_asking go go' (Ok x) again is = again x.0 x.1 is
ends_asking go go' (Err (faults.Short place)) again is = refl
ends_asking go go' (Err (faults.Broken place)) again is = is
ends_asking go go' (Err faults.TooLong) again is = is
ends_asking go go' (Err (faults.Said text)) again is = is

-- what the first awaits, both do
pub awaits_early : {X Y E : Type 0} (bound : ℕ) (c : Conversation X E) (f : X → Conversation Y E) (stream : List ℕ) → awaits_more bound c stream ≡ true → awaits_more bound (and_then c f) stream ≡ true
unfolding awaits_more and_then
awaits_early bound (ends answer) f stream is = absurd (cc)
awaits_early bound (asks lines awaited failed next) f stream is = ends_asking _ _ (told_at bound awaited stream) (λ told left more. awaits_early bound (next told) f left more) is

pub awaits_as : {X E F : Type 0} (bound : ℕ) (g : E → F) (c : Conversation X E) (stream : List ℕ) → awaits_more bound c stream ≡ true → awaits_more bound (told_as g c) stream ≡ true
unfolding awaits_more told_as
awaits_as bound g (ends answer) stream is = absurd (cc)
awaits_as bound g (asks lines awaited failed next) stream is = ends_asking _ _ (told_at bound awaited stream) (λ told left more. awaits_as bound g (next told) left more) is

-- while the first awaits, nothing of the second is sent
nothing_behind : {X Y E : Type 0} (bound : ℕ) (f : X → Conversation Y E) (failed : ReplyError → E) (next : ParsedReply → Conversation X E) (reading : Result (ParsedReply × List ℕ) ReplyError)
    → ((told : ParsedReply) (left : List ℕ) → awaits_more bound (next told) left ≡ true → sent_behind bound f (answer_in bound (next told) left) ≡ [])
    → ends_in (λ told left. awaits_more bound (next told) left) reading ≡ true → sent_behind bound f (after_reply (λ fault. Err (failed fault)) (λ told left. answer_in bound (next told) left) reading) ≡ []
nothing_behind bound f failed next (Ok x) again is = again x.0 x.1 is
nothing_behind bound f failed next (Err fault) again is = refl

not_answered : {X Y E : Type 0} (bound : ℕ) (c : Conversation X E) (f : X → Conversation Y E) (stream : List ℕ) → awaits_more bound c stream ≡ true → sent_behind bound f (answer_in bound c stream) ≡ []
unfolding answer_in awaits_more
not_answered bound (ends answer) f stream is = absurd (cc)
not_answered bound (asks lines awaited failed next) f stream is = nothing_behind bound f failed next (told_at bound awaited stream) (λ told left more. not_answered bound (next told) f left more) is

sent_early : {X Y E : Type 0} (bound : ℕ) (c : Conversation X E) (f : X → Conversation Y E) (stream : List ℕ) → awaits_more bound c stream ≡ true → sent_in bound (and_then c f) stream ≡ sent_in bound c stream
sent_early bound c f stream is = sent_then bound c f stream ∙ ap (λ (l : List Line). sent_in bound c stream ++ l) (not_answered bound c f stream is) ∙ append-nil (sent_in bound c stream)

pub due_early : {X Y E : Type 0} (bound : ℕ) (c : Conversation X E) (f : X → Conversation Y E) (pending : List ℕ) (r : Receive) → IsDue bound c pending r → IsDue bound (and_then c f) pending r
due_early bound c f pending r h = record {
  heard = h.heard ∙ ap lines_text (sym (sent_early bound c f (pending ++ r.given) h.awaited));
  awaited = awaits_early bound c f (pending ++ r.given) h.awaited;
}

pub awaited_early : {X Y E : Type 0} (bound : ℕ) (old new : Option Talk) (pending : List ℕ) (c : Conversation X E) (f : X → Conversation Y E) → IsAwaited bound old new pending c → IsAwaited bound old new pending (and_then c f)
awaited_early bound old new pending c f h = record { receives = h.receives; made = h.made; due = all_as (IsDue bound c pending) (IsDue bound (and_then c f) pending) h.receives (due_early bound c f pending) h.due; gave = h.gave }

-- A receive of the second comes after all that the first was said and heard.
pub due_late : {X Y E : Type 0} (bound : ℕ) (pending rest said heard : List ℕ) (c : Conversation X E) (f : X → Conversation Y E) (x : X) → ((more : List ℕ) → lines_text (sent_in bound c (pending ++ (said ++ more))) ≡ heard)
    → ((more : List ℕ) → answer_in bound c (pending ++ (said ++ more)) ≡ Ok (x, rest ++ more)) → (r : Receive) → IsDue bound (f x) rest r → IsDue bound (and_then c f) pending (behind heard said r)
due_late bound pending rest said heard c f x asked answered r h = record {
  heard = ap (λ (l : List ℕ). l ++ r.heard) (sym (asked r.given)) ∙ ap (λ (l : List ℕ). lines_text (sent_in bound c (pending ++ (said ++ r.given))) ++ l) h.heard ∙ sym (text_then bound c f (pending ++ (said ++ r.given)) (rest ++ r.given) x (answered r.given));
  awaited = awaits_late bound c f (pending ++ (said ++ r.given)) x (rest ++ r.given) (answered r.given) ∙ h.awaited;
}

abbrev pub awaited_then : {X Y E : Type 0} (answers : Bool) (bound : ℕ) (old mid new : Option Talk) (pending rest said heard : List ℕ) (c : Conversation X E) (f : X → Conversation Y E) (x : X) → Talks answers old mid heard said
    → ((more : List ℕ) → lines_text (sent_in bound c (pending ++ (said ++ more))) ≡ heard) → ((more : List ℕ) → answer_in bound c (pending ++ (said ++ more)) ≡ Ok (x, rest ++ more))
    → (h : IsAwaited bound old mid pending c) → AllGave said h.receives → IsAwaited bound mid new rest (f x) → IsAwaited bound old new pending (and_then c f)
awaited_then answers bound old mid new pending rest said heard c f x passed asked answered h gave k = record {
  receives = h.receives ++ map (behind heard said) k.receives;
  made = Makes-then answers old mid new heard said h.receives k.receives passed h.made k.made;
  due = all_both (IsDue bound (and_then c f) pending) h.receives (map (behind heard said) k.receives) (all_as (IsDue bound c pending) (IsDue bound (and_then c f) pending) h.receives (due_early bound c f pending) h.due)
      (all_behind (IsDue bound (f x) rest) (IsDue bound (and_then c f) pending) heard said k.receives (due_late bound pending rest said heard c f x asked answered) k.due);
  gave = gave_then heard said h.receives k.receives h.gave gave k.gave;
}

-- both to their ends
pub concludes_then : {X Y E : Type 0} (answers : Bool) (bound : ℕ) (old mid new : Option Talk) (pending rest left : List ℕ) (c : Conversation X E) (f : X → Conversation Y E) (x : X) (y : Y)
    → Concludes answers bound old mid pending c x rest → Concludes answers bound mid new rest (f x) y left → Concludes answers bound old new pending (and_then c f) y left
concludes_then answers bound old mid new pending rest left c f x y h k = record {
  said = h.said ++ k.said;
  heard = h.heard ++ k.heard;
  passed = Talks-then answers old mid new h.heard h.said k.heard k.said h.passed k.passed;
  needed = awaited_then answers bound old mid new pending rest h.said h.heard c f x h.passed h.asked h.answered h.needed h.gave k.needed;
  gave = all_gave_then h.heard h.said k.said h.needed.receives k.needed.receives h.gave k.gave;
  asked = λ more. rw append_assoc (text_then bound c f _ _ x (h.answered (k.said ++ more)) ∙ ap (λ (l : List ℕ). l ++ _) (h.asked (k.said ++ more)) ∙ ap (λ (l : List ℕ). h.heard ++ l) (k.asked more));
  answered = λ more. rw append_assoc (answer_then bound c f _ ∙ ap (answer_behind bound f) (h.answered (k.said ++ more)) ∙ k.answered more);
}

late_with : {X Y E : Type 0} (bound : ℕ) (pending rest said heard tail heard' : List ℕ) (c : Conversation X E) (f : X → Conversation Y E) (x : X) (e : E)
    → ((more : List ℕ) → lines_text (sent_in bound c (pending ++ (said ++ more))) ≡ heard) → ((more : List ℕ) → answer_in bound c (pending ++ (said ++ more)) ≡ Ok (x, rest ++ more))
    → RefusesWith bound (f x) (rest ++ tail) heard' e → RefusesWith bound (and_then c f) (pending ++ (said ++ tail)) (heard ++ heard') e
late_with bound pending rest said heard tail heard' c f x e asked answered k = record {
  answer = answer_then bound c f _ ∙ ap (answer_behind bound f) (answered tail) ∙ k.answer;
  asked = text_then bound c f _ _ x (answered tail) ∙ ap (λ (l : List ℕ). l ++ lines_text (sent_in bound (f x) (rest ++ tail))) (asked tail) ∙ ap (λ (l : List ℕ). heard ++ l) k.asked;
}

late_by : {X Y E : Type 0} (bound : ℕ) (now : Option Talk) (pending rest said heard said' heard' : List ℕ) (c : Conversation X E) (f : X → Conversation Y E) (x : X) (e : E)
    → ((more : List ℕ) → lines_text (sent_in bound c (pending ++ (said ++ more))) ≡ heard) → ((more : List ℕ) → answer_in bound c (pending ++ (said ++ more)) ≡ Ok (x, rest ++ more))
    → IsRefusedBy bound now (f x) (rest ++ said') heard' e → IsRefusedBy bound now (and_then c f) (pending ++ (said ++ said')) (heard ++ heard') e
late_by bound now pending rest said heard said' heard' c f x e asked answered (inl all) = inl (λ more.
    let g : (pending ++ (said ++ said')) ++ more ≡ pending ++ (said ++ (said' ++ more)) = simp append_assoc in
    let k : RefusesWith bound (f x) (rest ++ (said' ++ more)) heard' e = subst (λ (l : List ℕ). RefusesWith bound (f x) l heard' e) (append_assoc rest said' more) (all more) in
    subst (λ (l : List ℕ). RefusesWith bound (and_then c f) l (heard ++ heard') e) (sym g) (late_with bound pending rest said heard (said' ++ more) heard' c f x e asked answered k))
late_by bound now pending rest said heard said' heard' c f x e asked answered (inr last) = inr (last.0, late_with bound pending rest said heard said' heard' c f x e asked answered last.1)

-- the first to its end, and the second broken off
pub breaks_late : {X Y E : Type 0} (free stopped : E → Bool) (answers : Bool) (bound : ℕ) (old mid new : Option Talk) (pending rest : List ℕ) (c : Conversation X E) (f : X → Conversation Y E) (x : X) (e : E)
    → Concludes answers bound old mid pending c x rest → Breaks free stopped answers bound mid new rest (f x) e → Breaks free stopped answers bound old new pending (and_then c f) e
breaks_late free stopped answers bound old mid new pending rest c f x e h k = record {
  said = h.said ++ k.said;
  heard = h.heard ++ k.heard;
  passed = Talks-then answers old mid new h.heard h.said k.heard k.said h.passed k.passed;
  needed = awaited_then answers bound old mid new pending rest h.said h.heard c f x h.passed h.asked h.answered h.needed h.gave k.needed;
  front = (k.front.0, text_then bound c f _ _ x (h.answered k.said) ∙ ap (λ (l : List ℕ). l ++ _) (h.asked k.said) ∙ ap (λ (l : List ℕ). h.heard ++ l) k.front.1 ∙ sym (append_assoc h.heard k.heard k.front.0));
  why = λ bound_to. late_by bound new pending rest h.said h.heard k.said k.heard c f x e h.asked h.answered (k.why bound_to);
  due = λ is. due_late bound pending rest h.said h.heard c f x h.asked h.answered (record { heard = k.heard; given = k.said }) (k.due is);
}

early_with : {X Y E : Type 0} (bound : ℕ) (stream heard : List ℕ) (c : Conversation X E) (f : X → Conversation Y E) (e : E) → RefusesWith bound c stream heard e → RefusesWith bound (and_then c f) stream heard e
early_with bound stream heard c f e h = record {
  answer = answer_then bound c f _ ∙ ap (answer_behind bound f) h.answer;
  asked = ap lines_text (sent_then bound c f stream ∙ ap (λ (a : _). sent_in bound c stream ++ sent_behind bound f a) h.answer ∙ append-nil _) ∙ h.asked;
}

early_by : {X Y E : Type 0} (bound : ℕ) (now : Option Talk) (stream heard : List ℕ) (c : Conversation X E) (f : X → Conversation Y E) (e : E) → IsRefusedBy bound now c stream heard e → IsRefusedBy bound now (and_then c f) stream heard e
early_by bound now stream heard c f e (inl all) = inl (λ more. early_with bound (stream ++ more) heard c f e (all more))
early_by bound now stream heard c f e (inr last) = inr (last.0, early_with bound stream heard c f e last.1)

-- the first broken off
pub breaks_early : {X Y E : Type 0} (free stopped : E → Bool) (answers : Bool) (bound : ℕ) (old new : Option Talk) (pending : List ℕ) (c : Conversation X E) (f : X → Conversation Y E) (e : E)
    → Breaks free stopped answers bound old new pending c e → Breaks free stopped answers bound old new pending (and_then c f) e
breaks_early free stopped answers bound old new pending c f e h = record {
  said = h.said;
  heard = h.heard;
  passed = h.passed;
  needed = awaited_early bound old new pending c f h.needed;
  front = front_then bound c f _ h.heard h.front;
  why = λ bound_to. early_by bound new _ h.heard c f e (h.why bound_to);
  due = λ is. due_early bound c f pending (record { heard = h.heard; given = h.said }) (h.due is);
}

sent_asking_as : {X E F : Type 0} (bound : ℕ) (g : E → F) (next : ParsedReply → Conversation X E) (reading : Result (ParsedReply × List ℕ) ReplyError)
    → ((told : ParsedReply) (rest : List ℕ) → sent_in bound (told_as g (next told)) rest ≡ sent_in bound (next told) rest)
    → after_reply (λ _. []) (λ told rest. sent_in bound (told_as g (next told)) rest) reading ≡ after_reply (λ _. []) (λ told rest. sent_in bound (next told) rest) reading
sent_asking_as bound g next (Err fault) again = refl
sent_asking_as bound g next (Ok x) again = again x.0 x.1

pub sent_as : {X E F : Type 0} (bound : ℕ) (g : E → F) (c : Conversation X E) (stream : List ℕ) → sent_in bound (told_as g c) stream ≡ sent_in bound c stream
unfolding sent_in told_as
sent_as bound g (ends answer) stream = refl
sent_as bound g (asks lines awaited failed next) stream = ap (λ (l : List Line). lines ++ l) (sent_asking_as bound g next (told_at bound awaited stream) (λ told rest. sent_as bound g (next told) rest))

pub due_as : {X E F : Type 0} (bound : ℕ) (g : E → F) (c : Conversation X E) (pending : List ℕ) (r : Receive) → IsDue bound c pending r → IsDue bound (told_as g c) pending r
due_as bound g c pending r h = record { heard = h.heard ∙ ap lines_text (sym (sent_as bound g c (pending ++ r.given))); awaited = awaits_as bound g c (pending ++ r.given) h.awaited }

abbrev pub awaited_as : {X E F : Type 0} (bound : ℕ) (old new : Option Talk) (pending : List ℕ) (g : E → F) (c : Conversation X E) → IsAwaited bound old new pending c → IsAwaited bound old new pending (told_as g c)
awaited_as bound old new pending g c h = record { receives = h.receives; made = h.made; due = all_as (IsDue bound c pending) (IsDue bound (told_as g c) pending) h.receives (due_as bound g c pending) h.due; gave = h.gave }

end_as : {X E F : Type 0} (g : E → F) (answer : Result X E) (stream : List ℕ) → beside stream (map_refusal g answer) ≡ map_refusal g (beside stream answer)
end_as g (Ok x) stream = refl
end_as g (Err e) stream = refl

answer_asking_as : {X E F : Type 0} (bound : ℕ) (g : E → F) (failed : ReplyError → E) (next : ParsedReply → Conversation X E) (reading : Result (ParsedReply × List ℕ) ReplyError)
    → ((told : ParsedReply) (rest : List ℕ) → answer_in bound (told_as g (next told)) rest ≡ map_refusal g (answer_in bound (next told) rest))
    → after_reply (λ fault. Err (g (failed fault))) (λ told rest. answer_in bound (told_as g (next told)) rest) reading ≡ map_refusal g (after_reply (λ fault. Err (failed fault)) (λ told rest. answer_in bound (next told) rest) reading)
answer_asking_as bound g failed next (Err fault) again = refl
answer_asking_as bound g failed next (Ok x) again = again x.0 x.1

pub answer_as : {X E F : Type 0} (bound : ℕ) (g : E → F) (c : Conversation X E) (stream : List ℕ) → answer_in bound (told_as g c) stream ≡ map_refusal g (answer_in bound c stream)
unfolding answer_in told_as
answer_as bound g (ends answer) stream = end_as g answer stream
answer_as bound g (asks lines awaited failed next) stream = answer_asking_as bound g failed next (told_at bound awaited stream) (λ told rest. answer_as bound g (next told) rest)

pub concludes_as : {X E F : Type 0} (answers : Bool) (bound : ℕ) (old new : Option Talk) (pending rest : List ℕ) (g : E → F) (c : Conversation X E) (x : X)
    → Concludes answers bound old new pending c x rest → Concludes answers bound old new pending (told_as g c) x rest
concludes_as answers bound old new pending rest g c x h = record {
  said = h.said;
  heard = h.heard;
  passed = h.passed;
  needed = awaited_as bound old new pending g c h.needed;
  gave = h.gave;
  asked = λ more. ap lines_text (sent_as bound g c _) ∙ h.asked more;
  answered = λ more. answer_as bound g c _ ∙ ap (map_refusal g) (h.answered more);
}

as_with : {X E F : Type 0} (bound : ℕ) (stream heard : List ℕ) (g : E → F) (c : Conversation X E) (e : E) → RefusesWith bound c stream heard e → RefusesWith bound (told_as g c) stream heard (g e)
as_with bound stream heard g c e h = record {
  answer = answer_as bound g c _ ∙ ap (map_refusal g) h.answer;
  asked = ap lines_text (sent_as bound g c _) ∙ h.asked;
}

as_by : {X E F : Type 0} (bound : ℕ) (now : Option Talk) (stream heard : List ℕ) (g : E → F) (c : Conversation X E) (e : E) → IsRefusedBy bound now c stream heard e → IsRefusedBy bound now (told_as g c) stream heard (g e)
as_by bound now stream heard g c e (inl all) = inl (λ more. as_with bound (stream ++ more) heard g c e (all more))
as_by bound now stream heard g c e (inr last) = inr (last.0, as_with bound stream heard g c e last.1)

pub breaks_as : {X E F : Type 0} (free stopped : E → Bool) (free' stopped' : F → Bool) (answers : Bool) (bound : ℕ) (old new : Option Talk) (pending : List ℕ) (g : E → F) (c : Conversation X E) (e : E)
    → (free' (g e) ≡ false → free e ≡ false) → (stopped' (g e) ≡ true → stopped e ≡ true) → Breaks free stopped answers bound old new pending c e → Breaks free' stopped' answers bound old new pending (told_as g c) (g e)
breaks_as free stopped free' stopped' answers bound old new pending g c e same stops h = record {
  said = h.said;
  heard = h.heard;
  passed = h.passed;
  needed = awaited_as bound old new pending g c h.needed;
  front = (h.front.0, ap lines_text (sent_as bound g c _) ∙ h.front.1);
  why = λ bound_to. as_by bound new _ h.heard g c e (h.why (same bound_to));
  due = λ is. due_as bound g c pending (record { heard = h.heard; given = h.said }) (h.due (stops is));
}
