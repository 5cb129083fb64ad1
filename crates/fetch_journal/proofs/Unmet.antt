-- Edits that are refused as they are made ready.
use Rattle.std.proofs.Common.{◌≡◌, ℕ, List, Option, None, Some, option_map, ⊎_elim, refl, sym, ap, subst, ◌∙◌}
use Rattle.std.specs.Prelude.{position, slice_get, MatchOption, Err}
use Rattle.std.specs.FinMap as fin
use Rattle.fetch_base.specs.Answers.{RefusesUnless}
use Rattle.fetch_refs.specs.declared.edit.RefEdit.{RefEdit}
use Rattle.fetch_refs.specs.declared.error.RefError.{RefError}
use Rattle.fetch_refs.specs.declared.error.RefError.TheVariants as causes
use Rattle.fetch_refs.specs.declared.target.Target.{Target}
use Rattle.fetch_refs.specs.Answers.{IsUnlessMemory}
use Rattle.fetch_refs.specs.Expectations.{fails, found_by, refusal_of}
use Rattle.fetch_refs.specs.Names.{Names}
use Rattle.fetch_journal.specs.declared.error.SharedError.{SharedError}
use Rattle.fetch_journal.specs.declared.error.SharedError.TheVariants.{EditReferences, NoMemory}
use Rattle.fetch_journal.specs.declared.error.SharedError.TheVariants as errors
use Rattle.fetch_journal.specs.Machine.{commit_refusal}
use Rattle.fetch_journal.specs.Shared.{is_memory}
use Rattle.fetch_journal.specs.Unmet.{IsTold}
use Rattle.fetch_journal.proofs.Refusals.{met_commit, find_at_place}

-- what was made ready wasn't refused
pub made : (names : Names) (edits : List RefEdit) (A : Type 0) → MatchOption (refusal_of names edits) A (λ e. ⊥) → commit_refusal names edits ≡ None
made names edits A is = met_commit names edits (none (refusal_of names edits) is)
  where
    none : (o : Option RefError) → MatchOption o A (λ e. ⊥) → o ≡ None
    none None m = refl
    none (Some e) m = absurd m

-- the place that is told
placed : (names : Names) (edits : List RefEdit) (i : ℕ) (found : Option Target) → refusal_of names edits ≡ Some (causes.Expectation i found) → (position (fails names) edits ≡ Some i) × (found ≡ found_by names (slice_get edits i))
placed names edits i found is = at_place (position (fails names) edits) is
  where
    at_place : (o : Option ℕ) → option_map (λ k. causes.Expectation k (found_by names (slice_get edits k))) o ≡ Some (causes.Expectation i found) → (o ≡ Some i) × (found ≡ found_by names (slice_get edits i))
    at_place None h = absurd cc
    at_place (Some k) h =
        let same : k ≡ i = cc in
        let f : found_by names (slice_get edits k) ≡ found = cc in
        (ap (λ (n : ℕ). Some n) same, sym f ∙ ap (λ n. found_by names (slice_get edits n)) same)

-- a cause that is told is the refusal
caused : (names : Names) (edits : List RefEdit) (i : ℕ) (found : Option Target) → MatchOption (refusal_of names edits) (causes.Expectation i found ≡ causes.NoMemory) (λ e. IsUnlessMemory e (causes.Expectation i found))
    → refusal_of names edits ≡ Some (causes.Expectation i found)
caused names edits i found is = by_value (refusal_of names edits) is
  where
    by_value : (o : Option RefError) → MatchOption o (causes.Expectation i found ≡ causes.NoMemory) (λ e. IsUnlessMemory e (causes.Expectation i found)) → o ≡ Some (causes.Expectation i found)
    by_value None m = absurd cc
    by_value (Some e) m = ap (λ (x : RefError). Some x) (sym m)

abbrev IsCause : Names → List RefEdit → RefError → Type 0
IsCause names edits cause = MatchOption (refusal_of names edits) (cause ≡ causes.NoMemory) (λ e. IsUnlessMemory e cause)

named : (names : Names) (o : Option RefEdit) (found : Option Target) → found ≡ found_by names o → option_map (λ (e : RefEdit). EditReferences e.name (fin.get names e.name)) o ≡ option_map (λ (e : RefEdit). EditReferences e.name found) o
named names None found is = refl
named names (Some e) found is = ap (λ f. Some (EditReferences e.name f)) (sym is)

no_memory : (cause : Option SharedError) (e : SharedError) → e ≡ NoMemory → RefusesUnless {X = Unit {0}} is_memory cause (Err e)
no_memory cause e is = subst (λ x. RefusesUnless {X = Unit {0}} is_memory cause (Err x)) (sym is) tt

refused : (cause : Option SharedError) (e : SharedError) → cause ≡ Some e → RefusesUnless {X = Unit {0}} is_memory cause (Err e)
refused cause (errors.NotClosed link) is = is
refused cause (errors.Disconnected link) is = is
refused cause (errors.Collision id) is = is
refused cause (errors.EditReferences name found) is = is
refused cause (errors.Fetch e) is = is
refused cause (errors.Delete e) is = is
refused cause errors.NoMemory is = tt

pub answered : (names : Names) (edits : List RefEdit) (cause : RefError) (e : SharedError) → IsCause names edits cause → IsTold edits cause e → RefusesUnless {X = Unit {0}} is_memory (commit_refusal names edits) (Err e)
answered names edits (causes.Expectation i found) e is told =
    ⊎_elim (λ none. no_memory (commit_refusal names edits) e none)
    (λ tells.
    let both = placed names edits i found (caused names edits i found is) in
    refused (commit_refusal names edits) e
    (ap (option_map (λ (x : RefEdit). EditReferences x.name (fin.get names x.name))) (find_at_place (fails names) edits i both.0) ∙ named names (slice_get edits i) found both.1 ∙ tells))
    told
answered names edits (causes.Cycle name) e is told = no_memory (commit_refusal names edits) e told
answered names edits (causes.Depth name) e is told = no_memory (commit_refusal names edits) e told
answered names edits (causes.Unborn name) e is told = no_memory (commit_refusal names edits) e told
answered names edits (causes.MissingObject id) e is told = no_memory (commit_refusal names edits) e told
answered names edits (causes.TagCycle id) e is told = no_memory (commit_refusal names edits) e told
answered names edits causes.NoMemory e is told = no_memory (commit_refusal names edits) e told
