-- What an update tells of one mapping, once all edits are known.
use Rattle.std.proofs.Common.{◌≡◌, ◌≢◌, ℕ, Bool, true, false, List, Option, Some, None, Result, Ok, Err, refl, sym, ap, ◌∙◌, subst, inl, inr, IfOk}
use Rattle.std.specs.Prelude.{if◌then◌else◌, ◌&&◌, not, IsTrue, IfSome}
use Rattle.std.specs.FinMap as finmap
use Rattle.std.specs.Option.{option_flatten, option_map}
use Rattle.std.specs.Str.{bytes_eq}
use Rattle.std.proofs.lemmas.Slice.Eq.{bytes_eq-Decides}
use Rattle.fetch_specs.specs.Names.{is_full_name}
use Rattle.fetch_specs.specs.Specs.{Spec}
use Rattle.fetch_refs.specs.Edits as edits
use Rattle.fetch_refs.specs.Expectations.{expected_of}
use Rattle.fetch_refs.specs.Names.{Names}
use Rattle.fetch_refs.specs.declared.edit.Change.{Change}
use Rattle.fetch_refs.specs.declared.edit.Change.TheVariants.{Update as Writes, Delete}
use Rattle.fetch_refs.specs.declared.edit.LogChange.{LogChange}
use Rattle.fetch_refs.specs.declared.edit.PreviousValue.TheVariants.{MustExistAndMatch, ExistingMustMatch}
use Rattle.fetch_refs.specs.declared.edit.RefEdit.{RefEdit}
use Rattle.fetch_refs.specs.declared.edit.RefLog.{RefLog}
use Rattle.fetch_refs.specs.declared.edit.RefLog.TheVariants.{AndReference, Only}
use Rattle.fetch_refs.specs.declared.target.Target.{Target}
use Rattle.fetch_refs.specs.declared.target.Target.TheVariants.{Object, Symbolic}
use Rattle.fetch_lines.specs.References.{source_target}
use Rattle.fetch_map.specs.declared.mapping.Mapping.{Mapping}
use Rattle.fetch_update.specs.declared.mode.Mode.{Mode}
use Rattle.fetch_update.specs.declared.mode.Mode.TheVariants as modes
use Rattle.fetch_update.specs.declared.update.Error.{Error}
use Rattle.fetch_update.specs.declared.update.Error.TheVariants as errors
use Rattle.fetch_update.specs.declared.update.Update.{Update}
use Rattle.fetch_update.specs.declared.verdict.Verdict.{Verdict}
use Rattle.fetch_update.specs.Accepting.{is_accepting, IsSent, IsTaken, IsAccepted, IsAcceptedDry, HasDryRow, IsUnborn, Accepts, KeepsTarget}
use Rattle.fetch_update.specs.Accepted.{CarriesOut}
use Rattle.fetch_update.specs.Outcomes.{adjusted, is_kept, is_kept_at, no_op, no_op_change, kept}
use Rattle.fetch_update.specs.Policy.{Policy, place_of, verdict_of, value_of, if_valid, nothing, written, created, edit_of, unborn_mode, message_text, storing, change_unborn, no_update, updating_tag, guessed, fast_forward, forced_update, after_check}
use Rattle.fetch_update.specs.Rejecting.{IsRejected}
use Rattle.fetch_update.specs.Telling.{log_of, Says, SaysByRow}
use Rattle.fetch_update.specs.Writes.{expectation}
use Rattle.fetch_update.proofs.Fitting.{never, join, Fits, FitsOk, IsEdit, Turns, turns_kept, fits, sent, some_one, none_some}
use Rattle.fetch_update.proofs.Rows.{taken_at, unborn_at, accepted_told, guessed_told, rejected_told, absent_is, one_is, tag_is, guessed_is, forward_is, replaced_is}
use Rattle.fetch_update.proofs.Updates.{is_written}

pub ok_one : (x y : Verdict) → ◌≡◌ {A = Result Verdict Error} (Ok x) (Ok y) → x ≡ y
ok_one x y e = cc

negated : (b : Bool) → b ≡ false → not b ≡ true
negated true e = never (sym e)
negated false e = refl

unlike : (a b : List ℕ) → a ≢ b → bytes_eq a b ≡ false
unlike a b differ = by (bytes_eq a b) refl
  where
    by : (t : Bool) → bytes_eq a b ≡ t → bytes_eq a b ≡ false
    by true e = absurd (differ ((bytes_eq-Decides a b).0 e))
    by false e = e

-- ---- an edit that keeps what was found

kept_change : (names : Names) (all : List RefEdit) (c : Change) (o : Option Target) (value : Target) → is_kept names all c ≡ true → expected_of c ≡ expectation o value → option_flatten (edits.written c) ≡ Some value
    → (expected_of (no_op_change c) ≡ expected_of c) × (option_flatten (edits.written (no_op_change c)) ≡ o)
kept_change names all (Writes log (MustExistAndMatch (Symbolic found)) (Symbolic wanted)) o value k e g = (refl, mode log.mode g ∙ sym (there o e))
  where
    mode : (r : RefLog) → option_flatten (edits.written_in r (Some (Symbolic wanted))) ≡ Some value → option_flatten (edits.written_in r (Some (Symbolic found))) ≡ Some (Symbolic found)
    mode AndReference is = refl
    mode Only is = absurd (none_some value is)

    one : (t : Target) → MustExistAndMatch (Symbolic found) ≡ MustExistAndMatch t → Some t ≡ Some (Symbolic found)
    one t is = cc

    apart : MustExistAndMatch (Symbolic found) ≡ ExistingMustMatch value → ⊥
    apart is = absurd cc

    there : (r : Option Target) → MustExistAndMatch (Symbolic found) ≡ expectation r value → r ≡ Some (Symbolic found)
    there None is = absurd (apart is)
    there (Some t) is = one t is
kept_change names all (Writes log expected new) o value k e g = never k
kept_change names all (Delete expected log) o value k e g = never k

-- an edit that keeps its target says so
kept_says : (names : Names) (all : List RefEdit) (c : Change) (message : List ℕ) → is_kept names all c ≡ true → log_of c ≡ Some (record { mode = AndReference; force_create_reflog = false; message = message })
    → log_of (no_op_change c) ≡ Some (record { mode = AndReference; force_create_reflog = false; message = no_op })
kept_says names all (Writes log (MustExistAndMatch (Symbolic found)) (Symbolic wanted)) message k says =
    ap (λ (l : LogChange). Some (record l { message = no_op })) (some_one log (record { mode = AndReference; force_create_reflog = false; message = message }) says)
kept_says names all (Writes log expected new) message k says = never k
kept_says names all (Delete expected log) message k says = never k

-- ---- one mapping

valid_one : (value : Target) (v w : Verdict) → if_valid value w ≡ Ok v → v ≡ w
valid_one (Object id) v w e = sym (ok_one w v e)
valid_one (Symbolic name) v w e = by (is_full_name name) e
  where
    apart : ◌≡◌ {A = Result Verdict Error} (Err (errors.InvalidRefName name)) (Ok v) → ⊥
    apart is = absurd cc

    by : (b : Bool) → after_check (if b then Ok (Symbolic name) else Err (errors.InvalidRefName name)) w ≡ Ok v → v ≡ w
    by true is = sym (ok_one w v is)
    by false is = absurd (apart is)

module _ (p : Policy) (s : Spec) (m : Mapping) (v : Verdict) (judged : verdict_of p s m ≡ Ok v) (before after : List RefEdit) (same : (name : List ℕ) → is_written name after ≡ is_written name before) where
  it_fits : Fits p s m after v
  it_fits = subst (FitsOk p s m after) judged (fits p s m after)

  kept_same : (c : Change) → is_kept p.names before c ≡ is_kept p.names after c
  kept_same (Writes log (MustExistAndMatch (Symbolic found)) (Symbolic wanted)) =
      ap (λ (b : Bool). not (bytes_eq found wanted) && finmap.contains_key p.names found && not (finmap.contains_key p.names wanted) && not b) (sym (same wanted))
  kept_same (Writes log expected new) = refl
  kept_same (Delete expected log) = refl

  -- its verdict is this one
  v_is : (w : Verdict) → verdict_of p s m ≡ Ok w → v ≡ w
  v_is w e = ok_one v w (sym judged ∙ e)

  -- a verdict on an unborn reference
  unborn_verdict : IsTaken p (value_of m.remote) → (name target : List ℕ) → IsUnborn p m name target
      → v ≡ written p.message (place_of s m name (Symbolic target)) (unborn_mode (Symbolic target) (source_target m.remote)) change_unborn
  unborn_verdict taken name target unborn = valid_one (value_of m.remote) v _ (sym (taken_at p s m taken ∙ unborn_at p s m name target unborn) ∙ judged)

  -- an edit that keeps its target
  record Keeps : Type 0 where
    edit : RefEdit
    is : v.edit ≡ Some edit
    keeps : is_kept p.names after edit.change ≡ true
    says : Says edit (message_text p.message change_unborn)

  keeps_it : KeepsTarget p after m → Keeps
  keeps_it k =
      let there : IsSent p.graph (value_of m.remote) = subst (IsSent p.graph) (sym k.remote) tt in
      record {
        edit = edit_of p.message k.name (MustExistAndMatch (Symbolic k.target)) (value_of m.remote) change_unborn;
        is = ap (λ (x : Verdict). x.edit) (unborn_verdict (inr there) k.name k.target k.unborn);
        keeps =
            ap (λ (t : Target). is_kept_at p.names after (MustExistAndMatch (Symbolic k.target)) t) k.remote
            ∙ join _ _ (join _ _ (join _ _ (negated _ (unlike k.target k.wanted k.other)) k.stands) (negated _ k.absent)) (negated _ k.unwritten);
        says = refl;
      }

  never_kept : v.edit ≡ None → KeepsTarget p after m → ⊥
  never_kept none k = let e = keeps_it k in none_some e.edit (sym none ∙ e.is)

  not_kept : (e : RefEdit) → v.edit ≡ Some e → is_kept p.names before e.change ≡ false → KeepsTarget p after m → ⊥
  not_kept e is other k =
      let f = keeps_it k in
      never (sym other ∙ kept_same e.change ∙ ap (λ (x : RefEdit). is_kept p.names after x.change) (some_one e f.edit (sym is ∙ f.is)) ∙ f.keeps)

  is_kept_so : (e : RefEdit) → v.edit ≡ Some e → is_kept p.names before e.change ≡ true → KeepsTarget p after m
  is_kept_so e is this = (subst (λ (o : Option RefEdit). IfSome o (λ x. is_kept p.names after x.change ≡ true → KeepsTarget p after m)) is it_fits.kept) (sym (kept_same e.change) ∙ this)

  edit_is : (e : RefEdit) → v.edit ≡ Some e → IsEdit p m e
  edit_is e is = subst (λ (o : Option RefEdit). IfSome o (IsEdit p m)) is it_fits.edit

  accepts_edit : (e : RefEdit) → v.edit ≡ Some e → IsTrue (is_accepting v.mode)
  accepts_edit e is = subst (λ (o : Option RefEdit). IfSome o (λ _. IsTrue (is_accepting v.mode))) is it_fits.accepting

  taken_edit : (e : RefEdit) → v.edit ≡ Some e → IsTaken p (value_of m.remote)
  taken_edit e is = subst (λ (o : Option RefEdit). IfSome o (λ _. IsTaken p (value_of m.remote))) is it_fits.taken

  -- ---- what is accepted

  module _ (wet : p.dry_run ≡ false) where
    told_one : (KeepsTarget p after m → ⊥) → IsTrue (is_accepting v.mode) → IsAccepted p after s m v.mode
    told_one changes is = record {
      accepts = record { sent = (subst (λ (r : Result Verdict Error). IfOk r (λ x. IsTrue (is_accepting x.mode) → IsSent p.graph (value_of m.remote))) judged (sent p s m after wet)) is; row = it_fits.row wet is };
      changes = changes;
    }

    told_by : (e : RefEdit) → v.edit ≡ Some e → (b : Bool) → is_kept p.names before e.change ≡ b → IsTrue (is_accepting (if b then kept e else v).mode) → IsAccepted p after s m (if b then kept e else v).mode
    told_by e is true this accepting = never accepting
    told_by e is false other accepting = told_one (not_kept e is other) accepting

    pub told : (o : Option RefEdit) → v.edit ≡ o → IsTrue (is_accepting (adjusted p.names before v o).mode) → IsAccepted p after s m (adjusted p.names before v o).mode
    told None none accepting = told_one (never_kept none) accepting
    told (Some e) is accepting = told_by e is (is_kept p.names before e.change) refl accepting

    holds_one : (mode : Mode) → Accepts p s m mode → v.mode ≡ mode
    holds_one mode a = let t = accepted_told p s m wet mode a in ap (λ (x : Verdict). x.mode) (v_is t.0 t.1) ∙ t.2.told

    holds_by : (e : RefEdit) → v.edit ≡ Some e → (b : Bool) → is_kept p.names before e.change ≡ b → (mode : Mode) → IsAccepted p after s m mode → (if b then kept e else v).mode ≡ mode
    holds_by e is true this mode a = absurd (a.changes (is_kept_so e is this))
    holds_by e is false other mode a = holds_one mode a.accepts

    pub holds : (o : Option RefEdit) → v.edit ≡ o → (mode : Mode) → IsAccepted p after s m mode → (adjusted p.names before v o).mode ≡ mode
    holds None none mode a = holds_one mode a.accepts
    holds (Some e) is mode a = holds_by e is (is_kept p.names before e.change) refl mode a

  -- ---- what is accepted in a dry run

  module _ (dry : p.dry_run ≡ true) where
    guessed_one : (KeepsTarget p after m → ⊥) → IsTrue (is_accepting v.mode) → IsAcceptedDry p after s m v.mode
    guessed_one changes is = record { row = it_fits.dry_row dry is; changes = changes }

    guessed_by : (e : RefEdit) → v.edit ≡ Some e → (b : Bool) → is_kept p.names before e.change ≡ b → IsTrue (is_accepting (if b then kept e else v).mode) → IsAcceptedDry p after s m (if b then kept e else v).mode
    guessed_by e is true this accepting = never accepting
    guessed_by e is false other accepting = guessed_one (not_kept e is other) accepting

    pub told_dry : (o : Option RefEdit) → v.edit ≡ o → IsTrue (is_accepting (adjusted p.names before v o).mode) → IsAcceptedDry p after s m (adjusted p.names before v o).mode
    told_dry None none accepting = guessed_one (never_kept none) accepting
    told_dry (Some e) is accepting = guessed_by e is (is_kept p.names before e.change) refl accepting

    dry_one : (mode : Mode) → HasDryRow p s m mode → v.mode ≡ mode
    dry_one mode r = let t = guessed_told p s m dry mode r in ap (λ (x : Verdict). x.mode) (v_is t.0 t.1) ∙ t.2.told

    dry_by : (e : RefEdit) → v.edit ≡ Some e → (b : Bool) → is_kept p.names before e.change ≡ b → (mode : Mode) → IsAcceptedDry p after s m mode → (if b then kept e else v).mode ≡ mode
    dry_by e is true this mode a = absurd (a.changes (is_kept_so e is this))
    dry_by e is false other mode a = dry_one mode a.row

    pub holds_dry : (o : Option RefEdit) → v.edit ≡ o → (mode : Mode) → IsAcceptedDry p after s m mode → (adjusted p.names before v o).mode ≡ mode
    holds_dry None none mode a = dry_one mode a.row
    holds_dry (Some e) is mode a = dry_by e is (is_kept p.names before e.change) refl mode a

  -- ---- what is rejected

  rejected_by : (e : RefEdit) → v.edit ≡ Some e → (b : Bool) → is_kept p.names before e.change ≡ b → is_accepting (if b then kept e else v).mode ≡ false → IsRejected p after s m (if b then kept e else v).mode
  rejected_by e is true this rejecting = inr (refl, is_kept_so e is this)
  rejected_by e is false other rejecting = never (sym rejecting ∙ accepts_edit e is)

  pub rejected : (o : Option RefEdit) → v.edit ≡ o → is_accepting (adjusted p.names before v o).mode ≡ false → IsRejected p after s m (adjusted p.names before v o).mode
  rejected None none rejecting = inl (it_fits.rejected rejecting)
  rejected (Some e) is rejecting = rejected_by e is (is_kept p.names before e.change) refl rejecting

  rejects_one : (o : Option RefEdit) → v.edit ≡ o → (mode : Mode) → v ≡ nothing mode → (adjusted p.names before v o).mode ≡ mode
  rejects_one None none mode is = ap (λ (x : Verdict). x.mode) is
  rejects_one (Some e) some mode is = absurd (none_some e (sym (ap (λ (x : Verdict). x.edit) is) ∙ some))

  keeps_mode : (e : RefEdit) (b : Bool) → b ≡ true → (if b then kept e else v).mode ≡ modes.RejectedToReplaceWithUnborn
  keeps_mode e true is = refl
  keeps_mode e false is = never is

  keeps_one : (o : Option RefEdit) → v.edit ≡ o → KeepsTarget p after m → (adjusted p.names before v o).mode ≡ modes.RejectedToReplaceWithUnborn
  keeps_one None none k = absurd (never_kept none k)
  keeps_one (Some e) is k =
      let f = keeps_it k in
      keeps_mode e (is_kept p.names before e.change) (kept_same e.change ∙ ap (λ (x : RefEdit). is_kept p.names after x.change) (some_one e f.edit (sym is ∙ f.is)) ∙ f.keeps)

  pub rejects : (o : Option RefEdit) → v.edit ≡ o → (mode : Mode) → IsRejected p after s m mode → (adjusted p.names before v o).mode ≡ mode
  rejects o is mode (inl r) = rejects_one o is mode (v_is (nothing mode) (rejected_told p s m mode r))
  rejects o is mode (inr (one, k)) = keeps_one o is k ∙ sym one

  -- ---- its edit

  carries_by : (e : RefEdit) → v.edit ≡ Some e → (b : Bool) → is_kept p.names before e.change ≡ b → (u : Update) (x : RefEdit) → u.mode ≡ (if b then kept e else v).mode → (if b then kept e else v).edit ≡ Some x → CarriesOut p m u x
  carries_by e is true this u x mode at =
      let i = edit_is e is in
      let c = kept_change p.names before e.change (finmap.get p.names e.name) (value_of m.remote) this i.expects i.value in
      subst (CarriesOut p m u) (some_one (record { change = no_op_change e.change; name = e.name }) x at)
      (record { destination = i.destination; expects = c.0 ∙ i.expects; accepted = λ a. never (sym (ap is_accepting mode) ∙ a); kept = λ _. c.1 })
  carries_by e is false other u x mode at =
      let i = edit_is e is in
      subst (CarriesOut p m u) (some_one e x (sym is ∙ at))
      (record { destination = i.destination; expects = i.expects; accepted = λ _. i.value; kept = λ r. never (sym r ∙ ap is_accepting mode ∙ accepts_edit e is) })

  pub carries : (o : Option RefEdit) → v.edit ≡ o → (u : Update) (x : RefEdit) → u.mode ≡ (adjusted p.names before v o).mode → (adjusted p.names before v o).edit ≡ Some x → CarriesOut p m u x
  carries None none u x mode at = absurd (none_some x (sym none ∙ at))
  carries (Some e) is u x mode at = carries_by e is (is_kept p.names before e.change) refl u x mode at

  named_by : (e : RefEdit) (b : Bool) → IsTrue (is_accepting (if b then kept e else v).mode) → option_map (λ x. x.name) ((if b then kept e else v).edit) ≡ m.local
  named_by e true accepting = never accepting
  named_by e false accepting = it_fits.named accepting

  pub named : (o : Option RefEdit) → IsTrue (is_accepting (adjusted p.names before v o).mode) → option_map (λ x. x.name) ((adjusted p.names before v o).edit) ≡ m.local
  named None accepting = it_fits.named accepting
  named (Some e) accepting = named_by e (is_kept p.names before e.change) accepting

  -- ---- how its kind changes

  turns_by : (e : RefEdit) → v.edit ≡ Some e → (b : Bool) → is_kept p.names before e.change ≡ b → Turns p (if b then kept e else v).type_change (if b then kept e else v).edit
  turns_by e is true this =
      let i = edit_is e is in
      turns_kept p (record { change = no_op_change e.change; name = e.name }) ((kept_change p.names before e.change (finmap.get p.names e.name) (value_of m.remote) this i.expects i.value).1)
  turns_by e is false other = it_fits.turns

  pub turns : (o : Option RefEdit) → v.edit ≡ o → Turns p (adjusted p.names before v o).type_change (adjusted p.names before v o).edit
  turns None none = it_fits.turns
  turns (Some e) is = turns_by e is (is_kept p.names before e.change) refl

  -- ---- what its reflog says

  says_written : (e : RefEdit) → v.edit ≡ Some e → (mode : Mode) (name : List ℕ) (found : Target) (happened : List ℕ) → v ≡ written p.message (place_of s m name found) mode happened → Says e (message_text p.message happened)
  says_written e is mode name found happened this =
      subst (λ (x : RefEdit). Says x (message_text p.message happened)) (some_one (edit_of p.message name (MustExistAndMatch found) (value_of m.remote) happened) e (sym (ap (λ (x : Verdict). x.edit) this) ∙ is)) refl

  says_created : (e : RefEdit) → v.edit ≡ Some e → (name : List ℕ) → v ≡ created p.message name (value_of m.remote) → Says e (message_text p.message (storing e.name))
  says_created e is name this =
      subst (λ (x : RefEdit). Says x (message_text p.message (storing x.name))) (some_one (edit_of p.message name (ExistingMustMatch (value_of m.remote)) (value_of m.remote) (storing name)) e (sym (ap (λ (x : Verdict). x.edit) this) ∙ is)) refl

  says_row : (e : RefEdit) → v.edit ≡ Some e → SaysByRow p s m e
  says_row e is =
      let taken = taken_edit e is in
      record {
        absent = λ r. says_created e is r.name (v_is _ (absent_is p s m taken r));
        unborn = λ name target r. says_written e is _ name (Symbolic target) change_unborn (unborn_verdict taken name target r);
        one_id = λ r. says_written e is modes.NoChangeNeeded r.name r.ids.found no_update (v_is _ (one_is p s m taken r));
        tag = λ r. says_written e is modes.Forced r.name r.ids.found updating_tag (v_is _ (tag_is p s m taken r));
        guessed = λ dry r. says_written e is modes.FastForward r.name r.ids.found guessed (v_is _ (guessed_is p s m dry r));
        forward = λ wet r. says_written e is modes.FastForward r.name r.ids.found fast_forward (v_is _ (forward_is p s m wet taken r));
        replaced = λ wet r. says_written e is modes.Forced r.name r.ids.found forced_update (v_is _ (replaced_is p s m wet taken r));
      }

  says_by : (e : RefEdit) → v.edit ≡ Some e → (b : Bool) → is_kept p.names before e.change ≡ b → (x : RefEdit) → (if b then kept e else v).edit ≡ Some x → (KeepsTarget p after m → ⊥) → SaysByRow p s m x
  says_by e is true this x at other = absurd (other (is_kept_so e is this))
  says_by e is false that x at other = says_row x at

  pub says : (o : Option RefEdit) → v.edit ≡ o → (x : RefEdit) → (adjusted p.names before v o).edit ≡ Some x → (KeepsTarget p after m → ⊥) → SaysByRow p s m x
  says None none x at other = absurd (none_some x (sym none ∙ at))
  says (Some e) is x at other = says_by e is (is_kept p.names before e.change) refl x at other

  says_no_op_by : (e : RefEdit) → v.edit ≡ Some e → (b : Bool) → is_kept p.names before e.change ≡ b → (x : RefEdit) → (if b then kept e else v).edit ≡ Some x → KeepsTarget p after m → Says x no_op
  says_no_op_by e is true this x at k =
      let f = keeps_it k in
      subst (λ (y : RefEdit). Says y no_op) (some_one (record { change = no_op_change e.change; name = e.name }) x at)
      (kept_says p.names before e.change (message_text p.message change_unborn) this (subst (λ (y : RefEdit). Says y (message_text p.message change_unborn)) (some_one f.edit e (sym f.is ∙ is)) f.says))
  says_no_op_by e is false that x at k = absurd (not_kept e is that k)

  pub says_no_op : (o : Option RefEdit) → v.edit ≡ o → (x : RefEdit) → (adjusted p.names before v o).edit ≡ Some x → KeepsTarget p after m → Says x no_op
  says_no_op None none x at k = absurd (none_some x (sym none ∙ at))
  says_no_op (Some e) is x at k = says_no_op_by e is (is_kept p.names before e.change) refl x at k
