-- What a server heard of a conversation, also of one that broke off, is a front of what is sent along its replies.
use Rattle.std.proofs.Common.{◌≡◌, ℕ, Bool, false, List, [], ◌∷◌, ◌++◌, Option, Some, Result, Ok, Err, refl, sym, ap, subst, ◌∙◌, append_assoc, inl, inr}
use Rattle.std.specs.Prelude.{◌⊎◌}
use Rattle.std.proofs.lemmas.List.{append-nil}
use Rattle.std.proofs.lemmas.List.Concat.{flat_map-append}
use Rattle.fetch_mirror.proofs.Along.{given_by, sent_more, others_next, nothing_next, stays, settled_refusal, settled_told}
use Rattle.fetch_mirror.specs.Along.{added, Grows, IsDead, IsReadAlong, IsAlong, sent_along}
use Rattle.fetch_replies.specs.Awaited.{told_at}
use Rattle.fetch_replies.specs.declared.replies.reply.ReplyKind.{ReplyKind}
use Rattle.fetch_replies.specs.declared.replies.reply.ParsedReply.{ParsedReply}
use Rattle.fetch_conversation.specs.Conversation.{Conversation, ends, asks, sent_in, after_reply, IsRefusedBy, Concludes, Breaks}
use Rattle.fetch_lines.specs.Written.{line_text, lines_text}
use Rattle.fetch_lines.specs.declared.lines.line.Line.{Line}
use Rattle.fetch_conversation.specs.Served.{IsOver, IsFresh, Follows}
use Rattle.fetch_replies.specs.declared.replies.reply.ReplyError.{ReplyError}
use Rattle.fetch_lines.specs.Talks.{Talk, Talks, Passes, IsFront}

-- ---- fronts

one_longer : (a b : ℕ) (heard text others : List ℕ) → b ≡ a → IsFront heard text ⊎ ((later : List ℕ) × (heard ≡ text ++ later) × IsFront later others)
    → IsFront (a ∷ heard) (b ∷ text) ⊎ ((later : List ℕ) × (a ∷ heard ≡ b ∷ (text ++ later)) × IsFront later others)
one_longer a b heard text others same (inl front) = let is = front.1 in inl (front.0, cc)
one_longer a b heard text others same (inr behind) = let is = behind.1 in inr (behind.0, cc, behind.2)

-- a front of two texts ends in the first, or goes on into the second
front_cases : (heard text others : List ℕ) → IsFront heard (text ++ others) → IsFront heard text ⊎ ((later : List ℕ) × (heard ≡ text ++ later) × IsFront later others)
front_cases heard [] others front = inr (heard, refl, front)
front_cases [] (b ∷ text) others front = inl (b ∷ text, refl)
front_cases (a ∷ heard) (b ∷ text) others (rest, is) =
    let same : b ≡ a = cc in
    let more : text ++ others ≡ heard ++ rest = cc in
    one_longer a b heard text others same (front_cases heard text others (rest, more))

front_early : (heard text others : List ℕ) → IsFront heard text → IsFront heard (text ++ others)
front_early heard text others front = (front.0 ++ others, ap (λ (l : List ℕ). l ++ others) front.1 ∙ append_assoc heard front.0 others)

front_late : (text later others : List ℕ) → IsFront later others → IsFront (text ++ later) (text ++ others)
front_late text later others front = (front.0, ap (λ (l : List ℕ). text ++ l) front.1 ∙ sym (append_assoc text later front.0))

nothing_front : (later others : List ℕ) → IsFront later [] → IsFront later others
nothing_front [] others front = (others, refl)
nothing_front (byte ∷ later) others front = let is = front.1 in absurd cc

-- ---- behind one reply

abbrev Next : Type 0 → Type 0 → Type 0
Next X E = ParsedReply → Conversation X E

over_front : {X E : Type 0} (bound : ℕ) (c : Conversation X E) (rest later others : List ℕ) → IsOver c → IsFront later (lines_text (sent_in bound c rest)) → IsFront later others
unfolding sent_in
over_front bound c rest later others (answer, is) front =
    let front' : IsFront later [] = subst (λ (l : _). IsFront later (lines_text (sent_in bound l rest))) is front in nothing_front later others front'

ok_parts : (a b : ParsedReply × List ℕ) (found : Result (ParsedReply × List ℕ) ReplyError) → found ≡ Ok a → found ≡ Ok b → a ≡ b
ok_parts a b found is is' = cc

-- what was told of a part is told of the whole
same_told : (bound : ℕ) (awaited : ReplyKind) (said to_come reply tail rest : List ℕ) (told : ParsedReply) (x : ParsedReply × List ℕ) → told_at bound awaited said ≡ Ok (told, rest) → told_at bound awaited reply ≡ Ok x → said ++ to_come ≡ reply ++ tail
    → (told ≡ x.0) × (rest ++ to_come ≡ x.1 ++ tail)
same_told bound awaited said to_come reply tail rest told x is is' same =
    let a : told_at bound awaited (said ++ to_come) ≡ Ok (told, rest ++ to_come) = stays bound awaited said to_come (Ok (told, rest)) is (settled_told (told, rest)) in
    let b : told_at bound awaited (reply ++ tail) ≡ Ok (x.0, x.1 ++ tail) = stays bound awaited reply tail (Ok x) is' (settled_told x) in
    let e = ok_parts (told, rest ++ to_come) (x.0, x.1 ++ tail) (told_at bound awaited (said ++ to_come)) a (ap (told_at bound awaited) same ∙ b) in
    (ap (λ (y : ParsedReply × List ℕ). y.0) e, ap (λ (y : ParsedReply × List ℕ). y.1) e)

-- what was told of a part isn't refused of the whole
not_refused : (bound : ℕ) (awaited : ReplyKind) (said to_come rest : List ℕ) (told : ParsedReply) (fault : ReplyError) → told_at bound awaited said ≡ Ok (told, rest) → told_at bound awaited (said ++ to_come) ≡ Err fault → ⊥
not_refused bound awaited said to_come rest told fault is is' =
    let a : told_at bound awaited (said ++ to_come) ≡ Ok (told, rest ++ to_come) = stays bound awaited said to_come (Ok (told, rest)) is (settled_told (told, rest)) in cc

-- by the reply to the first request, where what was said tells something
behind_reply : {X E : Type 0} (bound : ℕ) (rule : List ℕ → List ℕ) (now : List ℕ) (awaited : ReplyKind) (next : Next X E) (said to_come reply tail later rest : List ℕ) (told : ParsedReply) (reading : Result (ParsedReply × List ℕ) ReplyError)
    → told_at bound awaited said ≡ Ok (told, rest) → told_at bound awaited reply ≡ reading → said ++ to_come ≡ reply ++ tail → (IsDead rule now → tail ≡ [])
    → IsReadAlong (λ told. IsAlong bound rule now (next told)) next (IsDead rule now) reading → IsFront later (lines_text (sent_in bound (next told) rest))
    → (rest ++ to_come ≡ tail → IsAlong bound rule now (next told) → IsFront later (lines_text (sent_along bound rule now (next told))))
    → IsFront later (lines_text (after_reply (λ _. []) (λ told rest. sent_along bound rule now (next told)) reading))
behind_reply bound rule now awaited next said to_come reply tail later rest told (Ok x) is is' same none (inl more) front again =
    let p = same_told bound awaited said to_come reply tail rest told x is is' same in
    let whole : rest ++ to_come ≡ tail = p.1 ∙ ap (λ (l : List ℕ). l ++ tail) more.0 in
    subst (λ (t : ParsedReply). IsFront later (lines_text (sent_along bound rule now (next t)))) p.0 (again whole (subst (λ (t : ParsedReply). IsAlong bound rule now (next t)) (sym p.0) more.1))
behind_reply bound rule now awaited next said to_come reply tail later rest told (Ok x) is is' same none (inr no_more) front again =
    let p = same_told bound awaited said to_come reply tail rest told x is is' same in
    over_front bound (next x.0) rest later _ no_more (subst (λ (t : ParsedReply). IsFront later (lines_text (sent_in bound (next t) rest))) p.0 front)
behind_reply bound rule now awaited next said to_come reply tail later rest told (Err fault) is is' same none (inl broken) front again =
    absurd (not_refused bound awaited said to_come rest told fault is (ap (told_at bound awaited) same ∙ stays bound awaited reply tail (Err fault) is' (settled_refusal fault broken)))
behind_reply bound rule now awaited next said to_come reply tail later rest told (Err fault) is is' same none (inr dead) front again =
    absurd (not_refused bound awaited said to_come rest told fault is
    (ap (told_at bound awaited) (same ∙ ap (λ (l : List ℕ). reply ++ l) (none dead) ∙ append-nil reply) ∙ is'))

-- by what was said
behind_said : {X E : Type 0} (bound : ℕ) (next : Next X E) (later others : List ℕ) (reading : Result (ParsedReply × List ℕ) ReplyError) → IsFront later (lines_text (after_reply (λ _. []) (λ told rest. sent_in bound (next told) rest) reading))
    → ((told : ParsedReply) (rest : List ℕ) → reading ≡ Ok (told, rest) → IsFront later (lines_text (sent_in bound (next told) rest)) → IsFront later others) → IsFront later others
behind_said bound next later others (Ok x) front again = again x.0 x.1 refl front
behind_said bound next later others (Err fault) front again = nothing_front later others front

-- A server that heard a front of the lines for what was said, and gave that and more: it heard a front of the lines that
-- are sent along its replies.
pub heard_along : {X E : Type 0} (bound : ℕ) (rule : List ℕ → List ℕ) → Grows rule → (c : Conversation X E) (before heard said to_come : List ℕ)
    → rule (before ++ heard) ≡ rule before ++ (said ++ to_come) → IsFront heard (lines_text (sent_in bound c said)) → IsAlong bound rule before c → IsFront heard (lines_text (sent_along bound rule before c))
unfolding sent_in sent_along IsAlong
heard_along bound rule g (ends answer) before heard said to_come is front so = front
heard_along bound rule g (asks lines awaited failed next) before heard said to_come is front so =
    let text = lines_text lines in
    let reply = added rule before text in
    let others = after_reply (λ _. []) (λ told rest. sent_in bound (next told) rest) (told_at bound awaited said) in
    let along = after_reply (λ _. []) (λ told rest. sent_along bound rule (before ++ text) (next told)) (told_at bound awaited reply) in
    let front' : IsFront heard (text ++ lines_text others) = subst (IsFront heard) (flat_map-append line_text lines others) front in
    let goal : IsFront heard (text ++ lines_text along) = elim (front_cases heard text (lines_text others) front') [
      | inl early ↦ front_early heard text (lines_text along) early
      | inr behind ↦
          let later = behind.0 in
          let split = others_next rule g before text later (said ++ to_come) (ap (λ (l : List ℕ). rule (before ++ l)) (sym behind.1) ∙ is) in
          let late : IsFront later (lines_text along) = behind_said bound next later (lines_text along) (told_at bound awaited said) behind.2
          (λ told rest found front''. behind_reply bound rule (before ++ text) awaited next said to_come reply split.0 later rest told (told_at bound awaited reply) found refl split.1
          (λ dead. nothing_next rule (before ++ text) later split.0 dead split.2) so front''
          (λ whole more. heard_along bound rule g (next told) (before ++ text) later rest to_come (split.2 ∙ ap (λ (l : List ℕ). rule (before ++ text) ++ l) (sym whole)) front'' more)) in
          subst (λ (l : List ℕ). IsFront l (text ++ lines_text along)) (sym behind.1) (front_late text later (lines_text along) late)
    ] in
    subst (IsFront heard) (sym (flat_map-append line_text lines along)) goal

-- of a peer that broke off
pub broken_heard : {X E : Type 0} (rule : List ℕ → List ℕ) (answers : Bool) (bound : ℕ) (old : Option Talk) (new : Talk) (c : Conversation X E) (free stopped : E → Bool) (e : E)
    → Grows rule → rule [] ≡ [] → IsAlong bound rule [] c → IsFresh rule old → Follows rule new → (h : Breaks free stopped answers bound old (Some new) [] c e) → IsFront h.heard (lines_text (sent_along bound rule [] c))
broken_heard rule answers bound old new c free stopped e g begins so fresh follows h =
    heard_along bound rule g c [] h.heard h.said new.to_come (given_by rule answers old new h.heard h.said fresh follows h.passed ∙ ap (λ (l : List ℕ). l ++ (h.said ++ new.to_come)) (sym begins)) h.front so

-- of one that didn't
pub concluded_heard : {X E : Type 0} (rule : List ℕ → List ℕ) (answers : Bool) (bound : ℕ) (old : Option Talk) (new : Talk) (c : Conversation X E) (x : X) (rest : List ℕ)
    → Grows rule → rule [] ≡ [] → IsAlong bound rule [] c → IsFresh rule old → Follows rule new → (h : Concludes answers bound old (Some new) [] c x rest) → IsFront h.heard (lines_text (sent_along bound rule [] c))
concluded_heard rule answers bound old new c x rest g begins so fresh follows h =
    heard_along bound rule g c [] h.heard (h.said ++ []) new.to_come
    (given_by rule answers old new h.heard h.said fresh follows h.passed ∙ ap (λ (l : List ℕ). l ++ (h.said ++ new.to_come)) (sym begins) ∙ ap (λ (l : List ℕ). rule [] ++ (l ++ new.to_come)) (sym (append-nil h.said)))
    ([], h.asked [] ∙ sym (append-nil h.heard)) so

-- ---- a conversation that was answered

over_sends : {X E : Type 0} (bound : ℕ) (rule : List ℕ → List ℕ) (now : List ℕ) (c : Conversation X E) (rest : List ℕ) → IsOver c → sent_in bound c rest ≡ sent_along bound rule now c
unfolding sent_in sent_along
over_sends bound rule now c rest (answer, is) = rw is refl

-- what is sent behind the first request, by the reply to it
sends_by : {X E : Type 0} (bound : ℕ) (rule : List ℕ → List ℕ) (now : List ℕ) (awaited : ReplyKind) (next : Next X E) (reply tail : List ℕ) (reading : Result (ParsedReply × List ℕ) ReplyError)
    → told_at bound awaited reply ≡ reading → (IsDead rule now → tail ≡ []) → IsReadAlong (λ told. IsAlong bound rule now (next told)) next (IsDead rule now) reading
    → ((told : ParsedReply) → told_at bound awaited (reply ++ tail) ≡ Ok (told, tail) → IsAlong bound rule now (next told) → sent_in bound (next told) tail ≡ sent_along bound rule now (next told))
    → after_reply (λ _. []) (λ told rest. sent_in bound (next told) rest) (told_at bound awaited (reply ++ tail)) ≡ after_reply (λ _. []) (λ told rest. sent_along bound rule now (next told)) reading
sends_by bound rule now awaited next reply tail (Ok x) is none (inl more) again =
    let found : told_at bound awaited (reply ++ tail) ≡ Ok (x.0, tail) = stays bound awaited reply tail (Ok x) is (settled_told x) ∙ ap (λ (l : List ℕ). Ok (x.0, l ++ tail)) more.0 in
    rw found (again x.0 found more.1)
sends_by bound rule now awaited next reply tail (Ok x) is none (inr no_more) again =
    rw (stays bound awaited reply tail (Ok x) is (settled_told x)) (over_sends bound rule now (next x.0) (x.1 ++ tail) no_more)
sends_by bound rule now awaited next reply tail (Err fault) is none (inl broken) again =
    rw (stays bound awaited reply tail (Err fault) is (settled_refusal fault broken)) refl
sends_by bound rule now awaited next reply tail (Err fault) is none (inr dead) again =
    let found : told_at bound awaited (reply ++ tail) ≡ Err fault = ap (λ (l : List ℕ). told_at bound awaited (reply ++ l)) (none dead) ∙ ap (told_at bound awaited) (append-nil reply) ∙ is in
    rw found refl

-- What is sent to one who gives by a rule is what is sent along its replies.
pub sends_along : {X E : Type 0} (bound : ℕ) (rule : List ℕ → List ℕ) → Grows rule → (c : Conversation X E) (before stream : List ℕ)
    → rule (before ++ lines_text (sent_in bound c stream)) ≡ rule before ++ stream → IsAlong bound rule before c → sent_in bound c stream ≡ sent_along bound rule before c
unfolding sent_in sent_along IsAlong
sends_along bound rule g (ends answer) before stream is so = refl
sends_along bound rule g (asks lines awaited failed next) before stream is so =
    let text = lines_text lines in
    let reply = added rule before text in
    let others = after_reply (λ _. []) (λ told rest. sent_in bound (next told) rest) (told_at bound awaited stream) in
    let heard : rule (before ++ (text ++ lines_text others)) ≡ rule before ++ stream = ap (λ (l : List ℕ). rule (before ++ l)) (sym (flat_map-append line_text lines others)) ∙ is in
    let split = others_next rule g before text (lines_text others) stream heard in
    let rest = sends_by bound rule (before ++ text) awaited next reply split.0 (told_at bound awaited reply) refl
    (λ dead. nothing_next rule (before ++ text) (lines_text others) split.0 dead split.2) so
    (λ told found more. sends_along bound rule g (next told) (before ++ text) split.0
    (ap (λ (l : List ℕ). rule ((before ++ text) ++ l)) (sym (sent_more bound next told split.0 (told_at bound awaited stream) (ap (told_at bound awaited) split.1 ∙ found))) ∙ split.2) more) in
    ap (λ (l : List Line). lines ++ l) (ap (λ (l : List ℕ). after_reply (λ _. []) (λ told rest. sent_in bound (next told) rest) (told_at bound awaited l)) split.1 ∙ rest)

sends_first : {X E : Type 0} (bound : ℕ) (rule : List ℕ → List ℕ) → Grows rule → rule [] ≡ [] → (c : Conversation X E) (stream heard : List ℕ)
    → lines_text (sent_in bound c stream) ≡ heard → rule heard ≡ stream → IsAlong bound rule [] c → heard ≡ lines_text (sent_along bound rule [] c)
sends_first bound rule g begins c stream heard asked is so =
    sym asked ∙ ap lines_text (sends_along bound rule g c [] stream (ap rule asked ∙ is ∙ ap (λ (l : List ℕ). l ++ stream) (sym begins)) so)

-- A peer that was asked to the end heard all that is sent along.
pub concluded_sent : {X E : Type 0} (rule : List ℕ → List ℕ) (answers : Bool) (bound : ℕ) (old : Option Talk) (new : Talk) (c : Conversation X E) (x : X) (rest : List ℕ)
    → Grows rule → rule [] ≡ [] → IsAlong bound rule [] c → IsFresh rule old → Follows rule new → (h : Concludes answers bound old (Some new) [] c x rest) → h.heard ≡ lines_text (sent_along bound rule [] c)
concluded_sent rule answers bound old new c x rest g begins so fresh follows h =
    sends_first bound rule g begins c (h.said ++ new.to_come) h.heard (h.asked new.to_come) (given_by rule answers old new h.heard h.said fresh follows h.passed) so

sent_by : {X E : Type 0} (rule : List ℕ → List ℕ) (bound : ℕ) (new : Talk) (c : Conversation X E) (said heard : List ℕ) (e : E) → Grows rule → rule [] ≡ [] → IsAlong bound rule [] c → rule heard ≡ said ++ new.to_come
    → IsRefusedBy bound (Some new) c said heard e → heard ≡ lines_text (sent_along bound rule [] c)
sent_by rule bound new c said heard e g begins so is (inl all) = sends_first bound rule g begins c (said ++ new.to_come) heard (all new.to_come).asked is so
sent_by rule bound new c said heard e g begins so is (inr last) = sends_first bound rule g begins c said heard last.1.asked (is ∙ ap (λ (l : List ℕ). said ++ l) last.0 ∙ append-nil said) so

-- So did one that broke off, unless freely.
pub broken_sent : {X E : Type 0} (rule : List ℕ → List ℕ) (answers : Bool) (bound : ℕ) (old : Option Talk) (new : Talk) (c : Conversation X E) (free stopped : E → Bool) (e : E)
    → Grows rule → rule [] ≡ [] → IsAlong bound rule [] c → IsFresh rule old → Follows rule new → (h : Breaks free stopped answers bound old (Some new) [] c e) → free e ≡ false → h.heard ≡ lines_text (sent_along bound rule [] c)
broken_sent rule answers bound old new c free stopped e g begins so fresh follows h bound_to =
    sent_by rule bound new c h.said h.heard e g begins so (given_by rule answers old new h.heard h.said fresh follows h.passed) (h.why bound_to)

-- ---- the rule that a peer keeps

one_rule : (rule : Option (List ℕ → List ℕ)) (a b : List ℕ → List ℕ) → rule ≡ Some a → rule ≡ Some b → a ≡ b
one_rule rule a b is is' = cc

-- A peer that follows the rule that it has after the calls follows the one that it had before them.
pub follows_old : (rule kept : List ℕ → List ℕ) (answers : Bool) (old : Option Talk) (new : Talk) (heard said : List ℕ) → IsFresh rule old → Talks answers old (Some new) heard said → new.rule ≡ Some kept → Follows kept new → Follows rule new
follows_old rule kept answers old new heard said fresh passed has follows =
    let p : Passes answers (record { heard = []; given = []; to_come = []; receives = []; rule = Some rule }) new heard said = rw fresh at passed in
    let same : kept ≡ rule = one_rule new.rule kept rule has p.same_rule in
    subst (λ (r : List ℕ → List ℕ). Follows r new) same follows

-- a fresh peer has heard what passed, and nothing else
pub heard_now : (rule : List ℕ → List ℕ) (answers : Bool) (old : Option Talk) (new : Talk) (heard said : List ℕ) → IsFresh rule old → Talks answers old (Some new) heard said → new.heard ≡ heard
heard_now rule answers old new heard said fresh passed =
    let p : Passes answers (record { heard = []; given = []; to_come = []; receives = []; rule = Some rule }) new heard said = rw fresh at passed in p.heard_more
