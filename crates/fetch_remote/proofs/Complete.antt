-- Valid input is fetched, unless a refusal comes that has a count or nothing in place of a cause.
use Rattle.std.proofs.Common.{◌≡◌, ℕ, Bool, true, false, List, [], ◌∷◌, ◌++◌, Option, Some, None, Result, Ok, Err, refl, sym, ap, subst, ◌∙◌, inl, inr, Contains}
use Rattle.std.specs.Prelude.{◌⊎◌, IfSome}
use Rattle.std.proofs.lemmas.List.{append-nil, append_cancel_left}
use Rattle.fetch_base.specs.declared.id.ObjectId.{ObjectId}
use Rattle.fetch_update.specs.Outcomes.{outcome_of}
use Rattle.fetch_update.specs.Policy.{Policy}
use Rattle.fetch_update.specs.declared.update.Error.{Error as UpdateError}
use Rattle.fetch_update.specs.declared.update.Outcome.{Outcome as Updates}
use Rattle.fetch_update.specs.declared.worktrees.Worktree.{Worktree}
use Rattle.fetch_update.proofs.Refused.{refused_with}
use Rattle.fetch_lines.specs.Talks.{Talk, Talks}
use Rattle.fetch_lines.specs.Written.{lines_text}
use Rattle.fetch_map.specs.declared.mapping.Mapping.{Mapping}
use Rattle.fetch_map.specs.declared.mapping.RefMap.{RefMap}
use Rattle.fetch_conversation.specs.declared.conversing.Received.{Received}
use Rattle.fetch_conversation.specs.Conversation.{map_refusal, sent_in, IsUnheard}
use Rattle.fetch_remote.specs.Errors.{is_free, receiving}
use Rattle.fetch_remote.specs.Fetching.{apply_options_in, taken_in, fetched_in}
use Rattle.fetch_remote.specs.Form.{Given}
use Rattle.fetch_remote.specs.Judging.{judged_of}
use Rattle.fetch_remote.specs.Refused.{IsRefusedBy, IsRefused}
use Rattle.fetch_remote.specs.Repositories.{State}
use Rattle.fetch_remote.specs.Applying.{to_take, taken, pack_of, after_take, policy_in, done}
use Rattle.fetch_remote.specs.Stages.{Told, bound_of, wants_in, conversation}
use Rattle.fetch_remote.specs.Valid.{IsTakeable, AreJudgeable, policy_with, IsValidInput, HasValidInput}
use Rattle.fetch_remote.specs.declared.fetching.fetch_error.FetchError.{FetchError}
use Rattle.fetch_remote.specs.declared.fetching.outcome.Outcome.{Outcome}
use Rattle.fetch_files.specs.Trees.{Tree}
use Rattle.fetch_remote.proofs.Fetched.{fetched_is, in_form, applied_from}
use Rattle.fetch_remote.proofs.Judged.{judged_yes}
use Rattle.fetch_remote.proofs.Wanted.{first_in, later_in}

-- ---- taking and judging

-- the state with what was received
abbrev state_with : State → Option Received → State
state_with s None = s
state_with s (Some r) = after_take s (pack_of r)

takes_it : (s : State) (wants : List ObjectId) (r : Option Received) → IfSome r (IsTakeable s wants) → taken s wants r ≡ Ok (state_with s r)
takes_it s wants None h = refl
takes_it s wants (Some r) h = rw (h.one_object, h.linked) refl

same_policy : (g : Given) (trees : List Worktree) (s : State) (told : Told) (r : Option Received) → to_take g.options.dry_run told.received ≡ r → policy_with g trees s told ≡ policy_in (state_with s r) (apply_options_in g) trees
same_policy g trees s told None is = rw is refl
same_policy g trees s told (Some r) is = rw is refl

among : (before after : List Mapping) (m : Mapping) → Contains (before ++ m ∷ after) m
among [] after m = first_in m after
among (a ∷ before) after m = later_in m a (before ++ m ∷ after) (among before after m)

pub judges_it : (p : Policy) (m : RefMap) → AreJudgeable p m → (u : Updates) × (judged_of p m ≡ Ok u)
judges_it p m h = by (outcome_of p m.refspecs m.extra_refspecs m.mappings) refl
  where
    by : (o : Result Updates UpdateError) → outcome_of p m.refspecs m.extra_refspecs m.mappings ≡ o → (u : Updates) × (judged_of p m ≡ Ok u)
    by (Ok u) is = (u, judged_yes p m u is)
    by (Err e) is =
        let r = refused_with p m.refspecs m.extra_refspecs m.mappings e is in
        absurd (h.each r.mapping e (subst (λ (ms : List Mapping). Contains ms r.mapping) (sym r.whole) (among r.before r.after r.mapping)) r.refuses)

-- ---- the fetch

pub fetches_it : (g : Given) (trees : List Worktree) (s : State) (stream : List ℕ) → IsValidInput g trees s stream → (x : Outcome × State) × (fetched_in g trees s stream ≡ Ok x)
fetches_it g trees s stream v =
    let r = to_take g.options.dry_run v.told.received in
    let state = state_with s r in
    let took : taken_in g s v.told ≡ Ok state = takes_it s (wants_in g s v.told.listed.ref_map) r v.pack in
    let j = judges_it (policy_in state (apply_options_in g) trees) v.told.listed.ref_map (subst (λ (p : Policy). AreJudgeable p v.told.listed.ref_map) (same_policy g trees s v.told r refl) v.mappings) in
    let is = applied_from g trees s v.told.listed v.told.received state j.0 took j.1 in
    let x : Outcome × State = done g.setup (apply_options_in g) v.told.listed v.told.received state j.0 in
    (x, fetched_is g trees s stream (Ok (v.told, v.behind)) (Ok x) v.replies (ap (map_refusal receiving) is))

refused_no : (now : Talk) (g : Given) (trees : List Worktree) (before after : State) (files left : Option Tree) (said heard : List ℕ) (e : FetchError) → IsRefusedBy (Some now) g trees before after files left said heard e
    → (x : Outcome × State) → fetched_in g trees before (said ++ now.to_come) ≡ Ok x → ⊥
refused_no now g trees before after files left said heard e (inl all) x is = let k = (all now.to_come).refused in absurd (cc)
refused_no now g trees before after files left said heard e (inr last) x is =
    let same : fetched_in g trees before said ≡ Ok x = ap (λ (l : List ℕ). fetched_in g trees before l) (sym (append-nil said) ∙ ap (λ (l : List ℕ). said ++ l) (sym last.0)) ∙ is in
    let k = last.1.refused in
    absurd (cc)

-- what is refused was heard whole
refused_heard : (now : Talk) (g : Given) (trees : List Worktree) (before after : State) (files left : Option Tree) (said heard : List ℕ) (e : FetchError) → IsRefusedBy (Some now) g trees before after files left said heard e
    → lines_text (sent_in (bound_of g) (conversation g before) (said ++ now.to_come)) ≡ heard
refused_heard now g trees before after files left said heard e (inl all) = ap lines_text (sym (in_form g before (said ++ now.to_come))) ∙ (all now.to_come).requests
refused_heard now g trees before after files left said heard e (inr last) =
    ap (λ (l : List ℕ). lines_text (sent_in (bound_of g) (conversation g before) l)) (ap (λ (l : List ℕ). said ++ l) last.0 ∙ append-nil said) ∙ ap lines_text (sym (in_form g before said)) ∙ last.1.requests

pub complete : (answers : Bool) (old new : Option Talk) (known : Option (List Worktree)) (files left : Option Tree) (g : Given) (before after : State) (e : FetchError) → IsRefused answers old new known files left g before after e → HasValidInput old new known g before
    → is_free e ≡ true
complete answers old new known files left g before after e h v = by (is_free e) refl
  where
    passed : Talks answers (Some v.exchanged.before) (Some v.after) h.heard h.said
    passed = subst (λ (t : Option Talk). Talks answers t (Some v.after) h.heard h.said) v.exchanged.told_before (subst (λ (t : Option Talk). Talks answers old t h.heard h.said) v.exchanged.told_after h.exchanged.passed)

    same_said : h.said ≡ v.said
    same_said = append_cancel_left v.exchanged.before.given h.said v.said (sym passed.gave_more ∙ v.exchanged.gave)

    same_heard : h.heard ≡ v.heard
    same_heard = append_cancel_left v.exchanged.before.heard h.heard v.heard (sym passed.heard_more ∙ v.exchanged.hears)

    why : is_free e ≡ false → IsRefusedBy (Some v.after) g h.trees before after files left v.said v.heard e
    why sure =
        let k : IsRefusedBy (Some v.after) g h.trees before after files left h.said h.heard e = subst (λ (t : Option Talk). IsRefusedBy t g h.trees before after files left h.said h.heard e) v.exchanged.told_after (h.why sure) in
        subst (λ (l : List ℕ). IsRefusedBy (Some v.after) g h.trees before after files left v.said l e) same_heard (subst (λ (l : List ℕ). IsRefusedBy (Some v.after) g h.trees before after files left l h.heard e) same_said k)

    no : is_free e ≡ false → IsValidInput g h.trees before (v.said ++ v.after.to_come) ⊎ IsUnheard (bound_of g) (conversation g before) v.heard (v.said ++ v.after.to_come) → ⊥
    no sure (inl valid) =
        let f = fetches_it g h.trees before (v.said ++ v.after.to_come) valid in
        refused_no v.after g h.trees before after files left v.said v.heard e (why sure) f.0 f.1
    no sure (inr u) = u.unheard (sym (refused_heard v.after g h.trees before after files left v.said v.heard e (why sure)))

    by : (b : Bool) → is_free e ≡ b → b ≡ true
    by true is = refl
    by false is = absurd (no is (v.valid h.trees h.listed_trees))
