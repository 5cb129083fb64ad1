-- A peer with valid replies is never refused.
use Rattle.std.proofs.Common.{◌≡◌, ℕ, Bool, true, false, List, [], ◌++◌, Option, Some, Result, Ok, Err, refl, sym, ap, ◌∙◌, subst, inl, inr}
use Rattle.std.specs.Prelude.{◌⊎◌}
use Rattle.std.proofs.lemmas.List.{append-nil, append_cancel_left}
use Rattle.fetch_lines.specs.Talks.{Talk, Talks}
use Rattle.fetch_lines.specs.Written.{lines_text}
use Rattle.fetch_conversation.specs.Conversation.{Conversation, sent_in, answer_in, IsUnheard, IsRefusedBy, Breaks, HasValidReplies}

not_ok : {X E : Type 0} (r : Result X E) (e : E) (x : X) → r ≡ Err e → r ≡ Ok x → ⊥
not_ok r e x p q = absurd (cc (p, q))

refused_no : {X E : Type 0} (bound : ℕ) (now : Talk) (c : Conversation X E) (said heard : List ℕ) (e : E) → IsRefusedBy bound (Some now) c said heard e → (x : X × List ℕ) → answer_in bound c (said ++ now.to_come) ≡ Ok x → ⊥
refused_no bound now c said heard e (inl all) x is = not_ok (answer_in bound c (said ++ now.to_come)) e x (all now.to_come).answer is
refused_no bound now c said heard e (inr last) x is =
    not_ok (answer_in bound c said) e x last.1.answer (ap (λ (l : List ℕ). answer_in bound c l) (sym (append-nil said) ∙ ap (λ (l : List ℕ). said ++ l) (sym last.0)) ∙ is)

-- what is refused was heard whole
refused_heard : {X E : Type 0} (bound : ℕ) (now : Talk) (c : Conversation X E) (said heard : List ℕ) (e : E) → IsRefusedBy bound (Some now) c said heard e → lines_text (sent_in bound c (said ++ now.to_come)) ≡ heard
refused_heard bound now c said heard e (inl all) = (all now.to_come).asked
refused_heard bound now c said heard e (inr last) = ap (λ (l : List ℕ). lines_text (sent_in bound c l)) (ap (λ (l : List ℕ). said ++ l) last.0 ∙ append-nil said) ∙ last.1.asked

refused_none : {X E : Type 0} (bound : ℕ) (now : Talk) (c : Conversation X E) (said heard : List ℕ) (e : E) → IsRefusedBy bound (Some now) c said heard e
    → ((x : X × List ℕ) × (answer_in bound c (said ++ now.to_come) ≡ Ok x)) ⊎ IsUnheard bound c heard (said ++ now.to_come) → ⊥
refused_none bound now c said heard e h (inl x) = refused_no bound now c said heard e h x.0 x.1
refused_none bound now c said heard e h (inr u) = u.unheard (sym (refused_heard bound now c said heard e h))

pub never_refused : {X E : Type 0} (free stopped : E → Bool) (answers : Bool) (bound : ℕ) (old new : Option Talk) (c : Conversation X E) (e : E) → Breaks free stopped answers bound old new [] c e → HasValidReplies bound old new c → free e ≡ true
never_refused {X} {E} free stopped answers bound old new c e h v = by (free e) refl
  where
    passed : Talks answers (Some v.exchanged.before) (Some v.after) h.heard h.said
    passed = subst (λ (t : Option Talk). Talks answers t (Some v.after) h.heard h.said) v.exchanged.told_before (subst (λ (t : Option Talk). Talks answers old t h.heard h.said) v.exchanged.told_after h.passed)

    same_said : h.said ≡ v.said
    same_said = append_cancel_left v.exchanged.before.given h.said v.said (sym passed.gave_more ∙ v.exchanged.gave)

    same_heard : h.heard ≡ v.heard
    same_heard = append_cancel_left v.exchanged.before.heard h.heard v.heard (sym passed.heard_more ∙ v.exchanged.hears)

    at : free e ≡ false → IsRefusedBy bound (Some v.after) c v.said v.heard e
    at sure =
        let why : IsRefusedBy bound (Some v.after) c h.said h.heard e = subst (λ (t : Option Talk). IsRefusedBy bound t c h.said h.heard e) v.exchanged.told_after (h.why sure) in
        subst (λ (l : List ℕ). IsRefusedBy bound (Some v.after) c v.said l e) same_heard (subst (λ (l : List ℕ). IsRefusedBy bound (Some v.after) c l h.heard e) same_said why)

    by : (b : Bool) → free e ≡ b → b ≡ true
    by true sure = refl
    by false sure = absurd (refused_none bound v.after c v.said v.heard e (at sure) v.valid)
