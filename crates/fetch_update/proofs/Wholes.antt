-- What an outcome says of each mapping.
use Rattle.std.proofs.Common.{◌≡◌, ◌≢◌, ℕ, Bool, true, false, List, [], ◌∷◌, Option, Some, None, Result, Ok, Err, Contains, refl, sym, ap, ◌∙◌, subst, inl, inr, IfOk, arith}
use Rattle.std.specs.Prelude.{cond, not, ◌+◌, IsTrue, IfSome, position}
use Rattle.std.specs.FinMap as finmap
use Rattle.std.specs.List.{AllByRecursion, cons_option, position_from, slice_get}
use Rattle.std.specs.Option.{option_map}
use Rattle.std.proofs.lemmas.Iterator.Adapters.{position_from-zero}
use Rattle.std.proofs.lemmas.Slice.Eq.{bytes_eq-Decides}
use Rattle.fetch_base.specs.declared.id.ObjectId.{ObjectId}
use Rattle.fetch_specs.specs.Specs.{Spec}
use Rattle.fetch_refs.specs.Expectations.{expected_of, holds as expectation_holds, fails, refusal_of, found_by}
use Rattle.fetch_refs.specs.Names.{Names}
use Rattle.fetch_refs.specs.declared.edit.PreviousValue.{PreviousValue}
use Rattle.fetch_refs.specs.declared.edit.RefEdit.{RefEdit}
use Rattle.fetch_refs.specs.declared.error.RefError.TheVariants.{Expectation}
use Rattle.fetch_refs.specs.declared.target.Target.{Target}
use Rattle.fetch_refs.specs.declared.target.Target.TheVariants.{Object, Symbolic}
use Rattle.fetch_map.specs.Mappings.{spec_at}
use Rattle.fetch_map.specs.declared.mapping.Mapping.{Mapping}
use Rattle.fetch_update.specs.declared.mode.TypeChange.{TypeChange}
use Rattle.fetch_update.specs.declared.update.Error.{Error}
use Rattle.fetch_update.specs.declared.update.Outcome.{Outcome}
use Rattle.fetch_update.specs.declared.update.Update.{Update}
use Rattle.fetch_update.specs.declared.verdict.Verdict.{Verdict}
use Rattle.fetch_update.specs.Accepting.{is_accepting, IsSent, IsAccepted, IsAcceptedDry, Accepts, HasDryRow}
use Rattle.fetch_update.specs.Accepted.{IsAbout, AcceptsExactly, GuessesExactly, RejectsExactly, HasOneEach, CarriesOut, EditsCarryOut, edit_for}
use Rattle.fetch_update.specs.Outcomes.{Verdicts, verdicts_from, edits_of, updates_from, adjusted_verdicts, adjusted, outcome_in, outcome_of}
use Rattle.fetch_update.specs.Policy.{Policy, is_stored, verdict_of, value_of}
use Rattle.fetch_update.specs.Rejecting.{IsRejected, Rejects}
use Rattle.fetch_update.specs.Telling.{EditsSay, TellsTypeChanges}
use Rattle.fetch_update.specs.Writes.{gives, expectation}
use Rattle.fetch_update.proofs.Adjustments.{told, holds, told_dry, holds_dry, rejected, rejects, carries, named, turns, says, says_no_op}
use Rattle.fetch_update.proofs.Fitting.{FitsOk, Turns, fits, sent, some_one, tied}
use Rattle.fetch_update.proofs.Seen.{Contains-none, Contains-cases}
use Rattle.fetch_update.proofs.Updates.{IsFor, all_for, indices, IsOfOne, all_updates, update_indices, update_edits, is_written, same_names, adjusted_indices, IsAdjusted, all_adjusted, outcome_ok}

pub among : {X : Type 0} (P : X → Type 0) (xs : List X) (x : X) → AllByRecursion P xs → Contains xs x → P x
among P [] x all is = absurd (Contains-none x is)
among P (y ∷ ys) x (here, all) is = elim (Contains-cases y ys x is) [
  | inl one ↦ subst P one here
  | inr later ↦ among P ys x all later
]

-- ---- edits

if_some : {X : Type 0} (P : X → Type 0) (o : Option X) → ((x : X) → o ≡ Some x → P x) → IfSome o P
if_some P None h = tt
if_some P (Some x) h = h x refl

all_with : {X : Type 0} (P Q : X → Type 0) → ((x : X) → P x → Q x) → (xs : List X) → AllByRecursion P xs → AllByRecursion Q xs
all_with P Q h [] all = tt
all_with P Q h (x ∷ xs) (is, all) = (h x is, all_with P Q h xs all)

all_edits : (P : RefEdit → Type 0) (vs : Verdicts) → AllByRecursion (λ v. IfSome v.1.edit P) vs → AllByRecursion P (edits_of vs)
all_edits P [] all = tt
all_edits P (v ∷ vs) (is, all) = one v.1.edit is (all_edits P vs all)
  where
    one : (o : Option RefEdit) → IfSome o P → AllByRecursion P (edits_of vs) → AllByRecursion P (cons_option o (edits_of vs))
    one None i others = others
    one (Some e) i others = (i, others)

-- an edit that expects what was found finds it
meets : (o : Option Target) (value : Target) → expectation_holds (expectation o value) o ≡ true
meets None value = refl
meets (Some (Object id)) value = tied id id refl
meets (Some (Symbolic name)) value = (bytes_eq-Decides name name).1 refl

abbrev Meets : Names → RefEdit → Type 0
Meets names e = expectation_holds (expected_of e.change) (finmap.get names e.name) ≡ true

passes_none : (test : RefEdit → Bool) (es : List RefEdit) (i : ℕ) → AllByRecursion (λ e. test e ≡ false) es → position_from test i es ≡ None
passes_none test [] i all = refl
passes_none test (e ∷ es) i (is, all) = ap (λ (b : Bool). cond b (Some i) (position_from test (i + 1) es)) is ∙ passes_none test es (i + 1) all

none_fails : (names : Names) (es : List RefEdit) → AllByRecursion (Meets names) es → position (fails names) es ≡ None
unfolding fails
none_fails names es all =
    position_from-zero (fails names) es
    ∙ passes_none (fails names) es 0 (all_with (Meets names) (λ e. fails names e ≡ false) (λ e is. ap not is) es all)

-- An id that an edit newly gives is stored.
abbrev IsOld : Policy → RefEdit → Type 0
IsOld p e = (id : ObjectId) → gives e ≡ Some (Object id) → finmap.get p.names e.name ≢ Some (Object id) → is_stored p.graph id ≡ true

-- ---- all mappings

module _ (p : Policy) (specs extra : List Spec) (ms : List Mapping) (vs : Verdicts) (judged : verdicts_from p specs extra 0 ms ≡ Ok vs) where
  -- the edits before the adjustment, and after it
  abbrev first : List RefEdit
  first = edits_of vs

  abbrev last : List RefEdit
  last = edits_of (adjusted_verdicts p.names vs)

  -- what an update comes of
  record ComesOf (u : Update) : Type 0 where
    verdict : Verdict
    mapping : Mapping
    refspec : Spec
    at : slice_get ms u.mapping_index ≡ Some mapping
    by : spec_at mapping.spec_index specs extra ≡ Some refspec
    decided : verdict_of p refspec mapping ≡ Ok verdict
    mode : u.mode ≡ (adjusted p.names first verdict verdict.edit).mode
    change : u.type_change ≡ (adjusted p.names first verdict verdict.edit).type_change
    edit : edit_for last u ≡ (adjusted p.names first verdict verdict.edit).edit

  comes : (u : Update) → IsOfOne (IsAdjusted p.names first (IsFor p specs extra 0 ms)) last u → ComesOf u
  comes u (w, (v, is, same), tells) = record {
    verdict = v.1;
    mapping = is.mapping;
    refspec = is.refspec;
    at = ap (slice_get ms) (tells.index ∙ ap (λ (x : ℕ × Verdict). x.0) same ∙ is.index ∙ omega arith) ∙ is.at;
    by = is.by;
    decided = is.judged;
    mode = tells.mode ∙ ap (λ (x : ℕ × Verdict). x.1.mode) same;
    change = tells.change ∙ ap (λ (x : ℕ × Verdict). x.1.type_change) same;
    edit = tells.edit ∙ ap (λ (x : ℕ × Verdict). x.1.edit) same;
  }

  source : (u : Update) → Contains (updates_from 0 (adjusted_verdicts p.names vs)) u → ComesOf u
  source u is =
      comes u
      (among (IsOfOne (IsAdjusted p.names first (IsFor p specs extra 0 ms)) last) (updates_from 0 (adjusted_verdicts p.names vs)) u
      (all_updates (IsAdjusted p.names first (IsFor p specs extra 0 ms)) [] (adjusted_verdicts p.names vs) (all_adjusted p.names first (IsFor p specs extra 0 ms) vs (all_for p specs extra 0 ms vs judged))) is)

  one_mapping : (u : Update) (m : Mapping) (c : ComesOf u) → slice_get ms u.mapping_index ≡ Some m → c.mapping ≡ m
  one_mapping u m c is = some_one c.mapping m (sym c.at ∙ is)

  one_refspec : (u : Update) (m : Mapping) (s : Spec) (c : ComesOf u) → IsAbout specs extra ms u m s → c.refspec ≡ s
  one_refspec u m s c is = some_one c.refspec s (sym c.by ∙ ap (λ (x : Mapping). spec_at x.spec_index specs extra) (one_mapping u m c is.mapping) ∙ is.refspec)

  judged_at : (u : Update) (m : Mapping) (c : ComesOf u) → slice_get ms u.mapping_index ≡ Some m → verdict_of p c.refspec m ≡ Ok c.verdict
  judged_at u m c is = ap (verdict_of p c.refspec) (sym (one_mapping u m c is)) ∙ c.decided

  judged_by : (u : Update) (m : Mapping) (s : Spec) (c : ComesOf u) → IsAbout specs extra ms u m s → verdict_of p s m ≡ Ok c.verdict
  judged_by u m s c is = ap (λ (x : Spec). verdict_of p x m) (sym (one_refspec u m s c is)) ∙ judged_at u m c is.mapping

  names_same : (name : List ℕ) → is_written name last ≡ is_written name first
  names_same name = same_names p.names first name vs

  accepts_in : p.dry_run ≡ false → AcceptsExactly p specs extra ms (outcome_in (adjusted_verdicts p.names vs))
  accepts_in wet = record {
    told = λ u m s is about accepting.
        let c = source u is in
        subst (IsAccepted p last s m) (sym c.mode)
        (told p s m c.verdict (judged_by u m s c about) first last names_same wet c.verdict.edit refl (sym (ap is_accepting c.mode) ∙ accepting));
    holds = λ u m s mode is about a.
        let c = source u is in
        c.mode ∙ holds p s m c.verdict (judged_by u m s c about) first last names_same wet c.verdict.edit refl mode a;
  }

  guesses_in : p.dry_run ≡ true → GuessesExactly p specs extra ms (outcome_in (adjusted_verdicts p.names vs))
  guesses_in dry = record {
    told = λ u m s is about accepting.
        let c = source u is in
        subst (IsAcceptedDry p last s m) (sym c.mode)
        (told_dry p s m c.verdict (judged_by u m s c about) first last names_same dry c.verdict.edit refl (sym (ap is_accepting c.mode) ∙ accepting));
    holds = λ u m s mode is about a.
        let c = source u is in
        c.mode ∙ holds_dry p s m c.verdict (judged_by u m s c about) first last names_same dry c.verdict.edit refl mode a;
  }

  rejects_in : RejectsExactly p specs extra ms (outcome_in (adjusted_verdicts p.names vs))
  rejects_in = record {
    told = λ u m s is about rejecting.
        let c = source u is in
        subst (IsRejected p last s m) (sym c.mode)
        (rejected p s m c.verdict (judged_by u m s c about) first last names_same c.verdict.edit refl (sym (ap is_accepting c.mode) ∙ rejecting));
    holds = λ u m s mode is about r.
        let c = source u is in
        c.mode ∙ rejects p s m c.verdict (judged_by u m s c about) first last names_same c.verdict.edit refl mode r;
  }

  one_each_in : HasOneEach specs extra ms (outcome_in (adjusted_verdicts p.names vs))
  one_each_in = update_indices 0 (adjusted_verdicts p.names vs) ∙ adjusted_indices p.names first vs ∙ indices p specs extra ms vs judged

  edits_in : EditsCarryOut p ms (outcome_in (adjusted_verdicts p.names vs))
  edits_in = record {
    one_each = update_edits 0 (adjusted_verdicts p.names vs);
    each = λ u m e is at edit.
        let c = source u is in
        carries p c.refspec m c.verdict (judged_at u m c at) first last names_same c.verdict.edit refl u e c.mode (sym c.edit ∙ edit);
    accepted = λ u m is at accepting.
        let c = source u is in
        ap (option_map (λ (x : RefEdit). x.name)) c.edit
        ∙ named p c.refspec m c.verdict (judged_at u m c at) first last names_same c.verdict.edit (sym (ap is_accepting c.mode) ∙ accepting);
  }

  says_in : EditsSay p specs extra ms (outcome_in (adjusted_verdicts p.names vs))
  says_in = record {
    rows = λ u m s e is about edit other.
        let c = source u is in
        says p s m c.verdict (judged_by u m s c about) first last names_same c.verdict.edit refl e (sym c.edit ∙ edit) other;
    kept = λ u m s e is about edit k.
        let c = source u is in
        says_no_op p s m c.verdict (judged_by u m s c about) first last names_same c.verdict.edit refl e (sym c.edit ∙ edit) k;
  }

  turned : (u : Update) → Contains (updates_from 0 (adjusted_verdicts p.names vs)) u → Turns p u.type_change (edit_for last u)
  turned u is =
      let c = source u is in
      subst (λ (change : Option TypeChange). Turns p change (edit_for last u)) (sym c.change)
      (subst (Turns p (adjusted p.names first c.verdict c.verdict.edit).type_change) (sym c.edit) (turns p c.refspec c.mapping c.verdict c.decided first last names_same c.verdict.edit refl))

  changes_in : TellsTypeChanges p (outcome_in (adjusted_verdicts p.names vs))
  changes_in = record { told = λ u is change. (turned u is).told change; holds = λ u e is edit t. (turned u is).holds e edit t; never = λ u is. (turned u is).never }

  -- what holds of each edit of a mapping holds of all
  each_edit : (P : RefEdit → Type 0)
      → ((m : Mapping) (u : Update) (e : RefEdit) (s : Spec) (v : Verdict) → verdict_of p s m ≡ Ok v → u.mode ≡ (adjusted p.names first v v.edit).mode → CarriesOut p m u e → P e)
      → AllByRecursion P last
  each_edit P h =
      all_edits P (adjusted_verdicts p.names vs)
      (all_with (IsAdjusted p.names first (IsFor p specs extra 0 ms)) (λ w. IfSome w.1.edit P)
      (λ w (v, is, same).
      if_some P w.1.edit
      (λ e at.
      let u : Update = record { mode = (adjusted p.names first v.1 v.1.edit).mode; type_change = None; edit_index = None; mapping_index = 0 } in
      h is.mapping u e is.refspec v.1 is.judged refl
      (carries p is.refspec is.mapping v.1 is.judged first last names_same v.1.edit refl u e refl (sym (ap (λ (x : ℕ × Verdict). x.1.edit) same) ∙ at))))
      (adjusted_verdicts p.names vs) (all_adjusted p.names first (IsFor p specs extra 0 ms) vs (all_for p specs extra 0 ms vs judged)))

  meets_in : AllByRecursion (Meets p.names) last
  meets_in = each_edit (Meets p.names) (λ m u e s v decided mode c. ap (λ (x : PreviousValue). expectation_holds x (finmap.get p.names e.name)) c.expects ∙ meets (finmap.get p.names e.name) (value_of m.remote))

  stored_in : p.dry_run ≡ false → AllByRecursion (IsOld p) last
  stored_in wet = each_edit (IsOld p) (λ m u e s v decided mode c id gives_it other. by m u e s v decided mode c id gives_it other (is_accepting u.mode) refl)
    where
      one : (id : ObjectId) (value : Target) → Some value ≡ Some (Object id) → value ≡ Object id
      one id value is = some_one value (Object id) is

      by : (m : Mapping) (u : Update) (e : RefEdit) (s : Spec) (v : Verdict) → verdict_of p s m ≡ Ok v → u.mode ≡ (adjusted p.names first v v.edit).mode → CarriesOut p m u e
          → (id : ObjectId) → gives e ≡ Some (Object id) → finmap.get p.names e.name ≢ Some (Object id) → (b : Bool) → is_accepting u.mode ≡ b → is_stored p.graph id ≡ true
      by m u e s v decided mode c id gives_it other true accepting =
          let a = told p s m v decided first last names_same wet v.edit refl (sym (ap is_accepting mode) ∙ accepting) in
          subst (IsSent p.graph) (one id (value_of m.remote) (sym (c.accepted accepting) ∙ gives_it)) a.accepts.sent
      by m u e s v decided mode c id gives_it other false rejecting = absurd (other (sym (c.kept rejecting) ∙ gives_it))

module _ (p : Policy) (specs extra : List Spec) (ms : List Mapping) (o : Outcome) (is : outcome_of p specs extra ms ≡ Ok o) where
  pub accepts_exactly : p.dry_run ≡ false → AcceptsExactly p specs extra ms o
  unfolding outcome_of
  accepts_exactly wet = let r = outcome_ok p.names (verdicts_from p specs extra 0 ms) o is in subst (AcceptsExactly p specs extra ms) (sym r.whole) (accepts_in p specs extra ms r.verdicts r.judged wet)

  pub one_each : HasOneEach specs extra ms o
  unfolding outcome_of
  one_each = let r = outcome_ok p.names (verdicts_from p specs extra 0 ms) o is in subst (HasOneEach specs extra ms) (sym r.whole) (one_each_in p specs extra ms r.verdicts r.judged)

  pub edits_carry_out : EditsCarryOut p ms o
  unfolding outcome_of
  edits_carry_out = let r = outcome_ok p.names (verdicts_from p specs extra 0 ms) o is in subst (EditsCarryOut p ms) (sym r.whole) (edits_in p specs extra ms r.verdicts r.judged)

  pub guesses_exactly : p.dry_run ≡ true → GuessesExactly p specs extra ms o
  unfolding outcome_of
  guesses_exactly dry = let r = outcome_ok p.names (verdicts_from p specs extra 0 ms) o is in subst (GuessesExactly p specs extra ms) (sym r.whole) (guesses_in p specs extra ms r.verdicts r.judged dry)

  pub rejects_exactly : RejectsExactly p specs extra ms o
  unfolding outcome_of
  rejects_exactly = let r = outcome_ok p.names (verdicts_from p specs extra 0 ms) o is in subst (RejectsExactly p specs extra ms) (sym r.whole) (rejects_in p specs extra ms r.verdicts r.judged)

  pub edits_say : EditsSay p specs extra ms o
  unfolding outcome_of
  edits_say = let r = outcome_ok p.names (verdicts_from p specs extra 0 ms) o is in subst (EditsSay p specs extra ms) (sym r.whole) (says_in p specs extra ms r.verdicts r.judged)

  pub tells_type_changes : TellsTypeChanges p o
  unfolding outcome_of
  tells_type_changes = let r = outcome_ok p.names (verdicts_from p specs extra 0 ms) o is in subst (TellsTypeChanges p) (sym r.whole) (changes_in p specs extra ms r.verdicts r.judged)

  pub none_refused : refusal_of p.names o.edits ≡ None
  unfolding outcome_of
  none_refused =
      let r = outcome_ok p.names (verdicts_from p specs extra 0 ms) o is in
      ap (λ (x : Outcome). refusal_of p.names x.edits) r.whole
      ∙ ap (option_map (λ (i : ℕ). Expectation i (found_by p.names (slice_get (edits_of (adjusted_verdicts p.names r.verdicts)) i))))
      (none_fails p.names (edits_of (adjusted_verdicts p.names r.verdicts)) (meets_in p specs extra ms r.verdicts r.judged))

  pub new_ids_stored : p.dry_run ≡ false → (e : RefEdit) (id : ObjectId) → Contains o.edits e → gives e ≡ Some (Object id) → finmap.get p.names e.name ≢ Some (Object id) → is_stored p.graph id ≡ true
  unfolding outcome_of
  new_ids_stored wet e id in_edits =
      let r = outcome_ok p.names (verdicts_from p specs extra 0 ms) o is in
      among (IsOld p) o.edits e (subst (λ (x : Outcome). AllByRecursion (IsOld p) x.edits) (sym r.whole) (stored_in p specs extra ms r.verdicts r.judged wet)) in_edits id

-- ---- one mapping by itself

module _ (p : Policy) (s : Spec) (m : Mapping) where
  pub accepts_verdict : p.dry_run ≡ false → IfOk (verdict_of p s m) (λ v. IsTrue (is_accepting v.mode) → Accepts p s m v.mode)
  accepts_verdict wet = both (verdict_of p s m) (fits p s m []) (sent p s m [] wet)
    where
      both : (r : Result Verdict Error) → FitsOk p s m [] r → IfOk r (λ v. IsTrue (is_accepting v.mode) → IsSent p.graph (value_of m.remote)) → IfOk r (λ v. IsTrue (is_accepting v.mode) → Accepts p s m v.mode)
      both (Ok v) f t = λ accepting. record { sent = t accepting; row = f.row wet accepting }
      both (Err e) f t = tt

  pub guesses_verdict : p.dry_run ≡ true → IfOk (verdict_of p s m) (λ v. IsTrue (is_accepting v.mode) → HasDryRow p s m v.mode)
  guesses_verdict dry = by (verdict_of p s m) (fits p s m [])
    where
      by : (r : Result Verdict Error) → FitsOk p s m [] r → IfOk r (λ v. IsTrue (is_accepting v.mode) → HasDryRow p s m v.mode)
      by (Ok v) f = f.dry_row dry
      by (Err e) f = tt

  pub rejects_verdict : IfOk (verdict_of p s m) (λ v. is_accepting v.mode ≡ false → Rejects p s m v.mode)
  rejects_verdict = by (verdict_of p s m) (fits p s m [])
    where
      by : (r : Result Verdict Error) → FitsOk p s m [] r → IfOk r (λ v. is_accepting v.mode ≡ false → Rejects p s m v.mode)
      by (Ok v) f = f.rejected
      by (Err e) f = tt
