-- Edits and journals as data that a model may keep.
use Rattle.std.specs.Prelude.{◌≡◌, ℕ, zero, suc, Bool, true, false, ◌⊎◌, List, refl}
use Rattle.std.proofs.Common.{inl, inr}
use Rattle.std.specs.Coded.{Coded, code_by, coded_ℕ, coded_bool, coded_list, coded×, coded⊎}
use Rattle.fetch_base.specs.declared.id.ObjectId.{ObjectId}
use Rattle.fetch_objects.specs.Codes.{coded_id}
use Rattle.fetch_refs.specs.declared.edit.Change.{Change}
use Rattle.fetch_refs.specs.declared.edit.Change.TheVariants.{Update, Delete}
use Rattle.fetch_refs.specs.declared.edit.LogChange.{LogChange}
use Rattle.fetch_refs.specs.declared.edit.PreviousValue.{PreviousValue}
use Rattle.fetch_refs.specs.declared.edit.PreviousValue.TheVariants.{Any, MustExist, MustNotExist, MustExistAndMatch, ExistingMustMatch}
use Rattle.fetch_refs.specs.declared.edit.RefEdit.{RefEdit}
use Rattle.fetch_refs.specs.declared.edit.RefLog.{RefLog}
use Rattle.fetch_refs.specs.declared.edit.RefLog.TheVariants.{AndReference, Only}
use Rattle.fetch_refs.specs.declared.log.Signature.{Signature}
use Rattle.fetch_refs.specs.declared.target.Target.{Target}
use Rattle.fetch_refs.specs.Codes.{coded_target, coded_signature}
use Rattle.fetch_remote.specs.Codes.{coded_repository}
use Rattle.fetch_remote.specs.RepositoryValues.{RepositoryValue}
use Rattle.fetch_journal.specs.declared.entry.Entry.{Entry}
use Rattle.fetch_journal.specs.declared.entry.Entry.TheVariants as entries
use Rattle.fetch_journal.specs.Shared.{SharedValue}

abbrev coded_text : Coded (List ℕ)
coded_text = coded_list coded_ℕ

-- ---- edits

abbrev touches_reference : RefLog → Bool
touches_reference AndReference = true
touches_reference Only = false

abbrev mode_from : Bool → RefLog
mode_from true = AndReference
mode_from false = Only

-- a mode is the one that its bit names
pub mode_back : (m : RefLog) → mode_from (touches_reference m) ≡ m
mode_back AndReference = refl
mode_back Only = refl

-- a mode, coded
abbrev pub coded_mode : Coded RefLog
coded_mode = code_by Bool coded_bool touches_reference mode_from mode_back

-- how a change is logged, coded
abbrev pub coded_log : Coded LogChange
coded_log =
    code_by (RefLog × (Bool × List ℕ)) (coded× coded_mode (coded× coded_bool coded_text))
    (λ l. (l.mode, (l.force_create_reflog, l.message)))
    (λ p. record { mode = p.0; force_create_reflog = p.1.0; message = p.1.1 }) (λ _. refl)

-- a number for what names no value; else whether one has to stand there, and which
abbrev split_expected : PreviousValue → ℕ ⊎ (Bool × Target)
split_expected Any = inl 0
split_expected MustExist = inl 1
split_expected MustNotExist = inl 2
split_expected (MustExistAndMatch target) = inr (true, target)
split_expected (ExistingMustMatch target) = inr (false, target)

abbrev numbered : ℕ → PreviousValue
numbered zero = Any
numbered (suc zero) = MustExist
numbered (suc (suc n)) = MustNotExist

abbrev matching : Bool → Target → PreviousValue
matching true target = MustExistAndMatch target
matching false target = ExistingMustMatch target

abbrev join_expected : ℕ ⊎ (Bool × Target) → PreviousValue
join_expected (inl n) = numbered n
join_expected (inr p) = matching p.0 p.1

-- an expectation is put together as it was taken apart
pub expected_back : (e : PreviousValue) → join_expected (split_expected e) ≡ e
expected_back Any = refl
expected_back MustExist = refl
expected_back MustNotExist = refl
expected_back (MustExistAndMatch target) = refl
expected_back (ExistingMustMatch target) = refl

-- an expectation, coded
abbrev pub coded_expected : Coded PreviousValue
coded_expected = code_by (ℕ ⊎ (Bool × Target)) (coded⊎ coded_ℕ (coded× coded_bool coded_target)) split_expected join_expected expected_back

abbrev split_change : Change → (LogChange × (PreviousValue × Target)) ⊎ (PreviousValue × RefLog)
split_change (Update log expected new) = inl (log, (expected, new))
split_change (Delete expected log) = inr (expected, log)

abbrev join_change : (LogChange × (PreviousValue × Target)) ⊎ (PreviousValue × RefLog) → Change
join_change (inl p) = Update p.0 p.1.0 p.1.1
join_change (inr p) = Delete p.0 p.1

-- a change is put together as it was taken apart
pub change_back : (c : Change) → join_change (split_change c) ≡ c
change_back (Update log expected new) = refl
change_back (Delete expected log) = refl

-- a change, coded
abbrev pub coded_change : Coded Change
coded_change =
    code_by ((LogChange × (PreviousValue × Target)) ⊎ (PreviousValue × RefLog))
    (coded⊎ (coded× coded_log (coded× coded_expected coded_target)) (coded× coded_expected coded_mode))
    split_change join_change change_back

-- an edit, coded
abbrev pub coded_edit : Coded RefEdit
coded_edit = code_by (Change × List ℕ) (coded× coded_change coded_text) (λ e. (e.change, e.name))
    (λ p. record { change = p.0; name = p.1 }) (λ _. refl)

-- ---- journals

abbrev Taking : Type 0
Taking = ℕ × (List ObjectId × (List ObjectId × List ObjectId))

abbrev Committing : Type 0
Committing = ℕ × (List RefEdit × Signature)

abbrev Deleting : Type 0
Deleting = ℕ × List (List ℕ)

abbrev split_entry : Entry → Taking ⊎ (Committing ⊎ Deleting)
split_entry (entries.Take pass ids shallow unshallow) = inl (pass, (ids, (shallow, unshallow)))
split_entry (entries.Commit pass edits committer) = inr (inl (pass, (edits, committer)))
split_entry (entries.Delete pass names) = inr (inr (pass, names))

abbrev join_entry : Taking ⊎ (Committing ⊎ Deleting) → Entry
join_entry (inl p) = entries.Take p.0 p.1.0 p.1.1.0 p.1.1.1
join_entry (inr (inl p)) = entries.Commit p.0 p.1.0 p.1.1
join_entry (inr (inr p)) = entries.Delete p.0 p.1

-- an entry is put together as it was taken apart
pub entry_back : (e : Entry) → join_entry (split_entry e) ≡ e
entry_back (entries.Take pass ids shallow unshallow) = refl
entry_back (entries.Commit pass edits committer) = refl
entry_back (entries.Delete pass names) = refl

-- an entry, coded
abbrev pub coded_entry : Coded Entry
coded_entry =
    code_by (Taking ⊎ (Committing ⊎ Deleting))
    (coded⊎ (coded× coded_ℕ (coded× (coded_list coded_id) (coded× (coded_list coded_id) (coded_list coded_id))))
    (coded⊎ (coded× coded_ℕ (coded× (coded_list coded_edit) coded_signature)) (coded× coded_ℕ (coded_list coded_text))))
    split_entry join_entry entry_back

-- a shared state, coded
abbrev pub coded_shared : Coded SharedValue
coded_shared =
    code_by (RepositoryValue × (RepositoryValue × List Entry)) (coded× coded_repository (coded× coded_repository (coded_list coded_entry)))
    (λ v. (v.opening, (v.repository, v.journal))) (λ p. record { opening = p.0; repository = p.1.0; journal = p.1.1 }) (λ _. refl)
