-- The updates and edits of an outcome, and the verdicts that they come from.
use Rattle.std.proofs.Common.{◌≡◌, ℕ, zero, suc, ◌+◌, Bool, true, false, List, [], ◌∷◌, ◌++◌, map, length, Option, Some, None, Result, Ok, Err, refl, sym, ap, ◌∙◌, subst, append_assoc, arith}
use Rattle.std.specs.Prelude.{if◌then◌else◌, filter, ◌||◌, is_some, option_to_list}
use Rattle.std.specs.List.{AllByRecursion, cons_option, filter_map, range_with_len, slice_get, list_any}
use Rattle.std.specs.Option.{option_and_then, option_map}
use Rattle.std.specs.Str.{bytes_eq}
use Rattle.fetch_specs.specs.Specs.{Spec}
use Rattle.fetch_refs.specs.Names.{Names}
use Rattle.fetch_refs.specs.declared.edit.RefEdit.{RefEdit}
use Rattle.fetch_map.specs.Mappings.{spec_at}
use Rattle.fetch_map.specs.declared.mapping.Mapping.{Mapping}
use Rattle.fetch_update.specs.declared.update.Error.{Error}
use Rattle.fetch_update.specs.declared.update.Outcome.{Outcome}
use Rattle.fetch_update.specs.declared.update.Update.{Update}
use Rattle.fetch_update.specs.declared.verdict.Verdict.{Verdict}
use Rattle.fetch_update.specs.Accepted.{edit_for, is_found}
use Rattle.fetch_update.specs.Outcomes.{Verdicts, before, judged, verdicts_from, edits_of, updates_from, adjusted_verdicts, adjusted, is_kept, kept, outcome_in, outcome_from}
use Rattle.fetch_update.specs.Policy.{Policy, verdict_of}

-- ---- what a refusal isn't

pub record IsBefore (i : ℕ) (r : Result Verdict Error) (rest : Result Verdicts Error) (vs : Verdicts) : Type 0 where
  pub verdict : Verdict
  pub others : Verdicts
  pub first : r ≡ Ok verdict
  pub later : rest ≡ Ok others
  pub whole : vs ≡ (i, verdict) ∷ others

before_ok : (i : ℕ) (r : Result Verdict Error) (rest : Result Verdicts Error) (vs : Verdicts) → before i r rest ≡ Ok vs → IsBefore i r rest vs
before_ok i (Err e) rest vs is = absurd cc
before_ok i (Ok v) (Err e) vs is = absurd cc
before_ok i (Ok v) (Ok others) vs is = record { verdict = v; others = others; first = refl; later = refl; whole = one is }
  where
    one : ◌≡◌ {A = Result Verdicts Error} (Ok ((i, v) ∷ others)) (Ok vs) → vs ≡ (i, v) ∷ others
    one e = cc

-- ---- the mapping of each verdict

-- A verdict is that of the mapping at its index, counted from the first of these.
pub record IsFor (p : Policy) (specs extra : List Spec) (first : ℕ) (ms : List Mapping) (v : ℕ × Verdict) : Type 0 where
  pub place : ℕ
  pub index : v.0 ≡ first + place
  pub mapping : Mapping
  pub at : slice_get ms place ≡ Some mapping
  pub refspec : Spec
  pub by : spec_at mapping.spec_index specs extra ≡ Some refspec
  pub judged : verdict_of p refspec mapping ≡ Ok v.1

module _ (p : Policy) (specs extra : List Spec) where
  later_for : (i : ℕ) (m : Mapping) (ms : List Mapping) (vs : Verdicts) → AllByRecursion (IsFor p specs extra (i + 1) ms) vs → AllByRecursion (IsFor p specs extra i (m ∷ ms)) vs
  later_for i m ms [] all = tt
  later_for i m ms (v ∷ vs) (is, all) = (
    record { place = suc is.place; index = is.index ∙ omega arith; mapping = is.mapping; at = is.at; refspec = is.refspec; by = is.by; judged = is.judged },
    later_for i m ms vs all,
  )

  for_found : (i : ℕ) (m : Mapping) (ms : List Mapping) (vs : Verdicts) → ((others : Verdicts) → verdicts_from p specs extra (i + 1) ms ≡ Ok others → AllByRecursion (IsFor p specs extra (i + 1) ms) others)
      → (o : Option Spec) → spec_at m.spec_index specs extra ≡ o → judged p i m o (verdicts_from p specs extra (i + 1) ms) ≡ Ok vs → AllByRecursion (IsFor p specs extra i (m ∷ ms)) vs
  for_found i m ms vs more None none e = later_for i m ms vs (more vs e)
  for_found i m ms vs more (Some s) some e =
      let b = before_ok i (verdict_of p s m) (verdicts_from p specs extra (i + 1) ms) vs e in
      subst (λ (xs : Verdicts). AllByRecursion (IsFor p specs extra i (m ∷ ms)) xs) (sym b.whole)
      (record { place = zero; index = omega arith; mapping = m; at = refl; refspec = s; by = some; judged = b.first }, later_for i m ms b.others (more b.others b.later))

  pub all_for : (i : ℕ) (ms : List Mapping) (vs : Verdicts) → verdicts_from p specs extra i ms ≡ Ok vs → AllByRecursion (IsFor p specs extra i ms) vs
  all_for i [] vs is = subst (λ (xs : Verdicts). AllByRecursion (IsFor p specs extra i []) xs) (nothing is) tt
    where
      nothing : ◌≡◌ {A = Result Verdicts Error} (Ok []) (Ok vs) → [] ≡ vs
      nothing e = cc
  all_for i (m ∷ ms) vs is = for_found i m ms vs (λ others e. all_for (i + 1) ms others e) (spec_at m.spec_index specs extra) refl is

  -- ---- one verdict for each mapping whose refspec is found

  placed : (xs : List Mapping) (m : Mapping) (ys : List Mapping) → slice_get (xs ++ m ∷ ys) (length xs) ≡ Some m
  placed [] m ys = refl
  placed (x ∷ xs) m ys = placed xs m ys

  length_more : (xs : List Mapping) (m : Mapping) → length (xs ++ m ∷ []) ≡ length xs + 1
  length_more [] m = refl
  length_more (x ∷ xs) m = omega (arith, length_more xs m)

  -- the indices of what is found from here on
  abbrev found_at : List Mapping → ℕ → ℕ → List ℕ
  found_at all i n = filter (is_found specs extra all) (range_with_len i n)

  indices_found : (all : List Mapping) (i : ℕ) (m : Mapping) (ms : List Mapping) (vs : Verdicts) → is_found specs extra all i ≡ is_some (spec_at m.spec_index specs extra)
      → ((others : Verdicts) → verdicts_from p specs extra (i + 1) ms ≡ Ok others → map (λ v. v.0) others ≡ found_at all (i + 1) (length ms))
      → (o : Option Spec) → spec_at m.spec_index specs extra ≡ o → judged p i m o (verdicts_from p specs extra (i + 1) ms) ≡ Ok vs → map (λ v. v.0) vs ≡ found_at all i (length (m ∷ ms))
  indices_found all i m ms vs here more None none e =
      more vs e ∙ sym (ap (λ (t : Bool). if t then i ∷ found_at all (i + 1) (length ms) else found_at all (i + 1) (length ms)) (here ∙ ap is_some none))
  indices_found all i m ms vs here more (Some s) some e =
      let b = before_ok i (verdict_of p s m) (verdicts_from p specs extra (i + 1) ms) vs e in
      ap (map (λ (v : ℕ × Verdict). v.0)) b.whole ∙ ap (λ (is : List ℕ). i ∷ is) (more b.others b.later)
      ∙ sym (ap (λ (t : Bool). if t then i ∷ found_at all (i + 1) (length ms) else found_at all (i + 1) (length ms)) (here ∙ ap is_some some))

  indices_at : (done ms : List Mapping) (i : ℕ) (vs : Verdicts) → length done ≡ i → verdicts_from p specs extra i ms ≡ Ok vs → map (λ v. v.0) vs ≡ found_at (done ++ ms) i (length ms)
  indices_at done [] i vs len is = ap (map (λ (v : ℕ × Verdict). v.0)) (nothing is)
    where
      nothing : ◌≡◌ {A = Result Verdicts Error} (Ok []) (Ok vs) → vs ≡ []
      nothing e = cc
  indices_at done (m ∷ ms) i vs len is =
      indices_found (done ++ m ∷ ms) i m ms vs
      (ap (λ (o : Option Mapping). is_some (option_and_then (λ (x : Mapping). spec_at x.spec_index specs extra) o)) (ap (slice_get (done ++ m ∷ ms)) (sym len) ∙ placed done m ms))
      (λ others e.
      indices_at (done ++ m ∷ []) ms (i + 1) others (length_more done m ∙ ap (λ (n : ℕ). n + 1) len) e
      ∙ ap (λ (all : List Mapping). found_at all (i + 1) (length ms)) (append_assoc done (m ∷ []) ms))
      (spec_at m.spec_index specs extra) refl is

  pub indices : (ms : List Mapping) (vs : Verdicts) → verdicts_from p specs extra 0 ms ≡ Ok vs → map (λ v. v.0) vs ≡ filter (is_found specs extra ms) (range_with_len 0 (length ms))
  indices ms vs is = indices_at [] ms 0 vs refl is

-- ---- updates

-- An update tells what a verdict tells, and is carried out by its edit.
pub record IsUpdate (edits : List RefEdit) (v : ℕ × Verdict) (u : Update) : Type 0 where
  pub mode : u.mode ≡ v.1.mode
  pub change : u.type_change ≡ v.1.type_change
  pub index : u.mapping_index ≡ v.0
  pub edit : edit_for edits u ≡ v.1.edit

-- an update of one of these verdicts
abbrev pub IsOfOne : (ℕ × Verdict → Type 0) → List RefEdit → Update → Type 0
IsOfOne P edits u = (v : ℕ × Verdict) × P v × IsUpdate edits v u

edit_placed : (es : List RefEdit) (e : RefEdit) (more : List RefEdit) → slice_get (es ++ e ∷ more) (length es) ≡ Some e
edit_placed [] e more = refl
edit_placed (x ∷ es) e more = edit_placed es e more

edit_at : (es more : List RefEdit) (o : Option RefEdit) → option_and_then (λ i. slice_get (es ++ cons_option o more) i) (option_map (λ _. length es) o) ≡ o
edit_at es more None = refl
edit_at es more (Some e) = edit_placed es e more

more_edits : (es more : List RefEdit) (o : Option RefEdit) → (es ++ option_to_list o) ++ more ≡ es ++ cons_option o more
more_edits es more None = append_assoc es [] more
more_edits es more (Some e) = append_assoc es (e ∷ []) more

length_one : (es : List RefEdit) (e : RefEdit) → length (es ++ e ∷ []) ≡ length es + 1
length_one [] e = refl
length_one (x ∷ es) e = omega (arith, length_one es e)

length_none : (es : List RefEdit) → length (es ++ []) ≡ length es
length_none [] = refl
length_none (x ∷ es) = ap suc (length_none es)

length_edits : (es : List RefEdit) (o : Option RefEdit) → length (es ++ option_to_list o) ≡ (if is_some o then length es + 1 else length es)
length_edits es None = length_none es
length_edits es (Some e) = length_one es e

pub all_updates : (P : ℕ × Verdict → Type 0) (es : List RefEdit) (vs : Verdicts) → AllByRecursion P vs → AllByRecursion (IsOfOne P (es ++ edits_of vs)) (updates_from (length es) vs)
all_updates P es [] all = tt
all_updates P es (v ∷ vs) (is, all) = (
  (v, is, record { mode = refl; change = refl; index = refl; edit = edit_at es (edits_of vs) v.1.edit }),
  subst (λ (n : ℕ). AllByRecursion (IsOfOne P (es ++ edits_of (v ∷ vs))) (updates_from n vs)) (length_edits es v.1.edit)
      (subst (λ (edits : List RefEdit). AllByRecursion (IsOfOne P edits) (updates_from (length (es ++ option_to_list v.1.edit)) vs)) (more_edits es (edits_of vs) v.1.edit)
      (all_updates P (es ++ option_to_list v.1.edit) vs all)),
)

pub update_indices : (n : ℕ) (vs : Verdicts) → map (λ u. u.mapping_index) (updates_from n vs) ≡ map (λ v. v.0) vs
update_indices n [] = refl
update_indices n (v ∷ vs) = ap (λ (is : List ℕ). v.0 ∷ is) (update_indices (if is_some v.1.edit then n + 1 else n) vs)

abbrev edit_indices : List Update → List ℕ
edit_indices us = filter_map (λ u. u.edit_index) us

numbered : (n : ℕ) (o : Option RefEdit) (vs : Verdicts) → ((k : ℕ) → edit_indices (updates_from k vs) ≡ range_with_len k (length (edits_of vs)))
    → cons_option (option_map (λ _. n) o) (edit_indices (updates_from (if is_some o then n + 1 else n) vs)) ≡ range_with_len n (length (cons_option o (edits_of vs)))
numbered n None vs so_far = so_far n
numbered n (Some e) vs so_far = ap (λ (is : List ℕ). n ∷ is) (so_far (n + 1))

pub update_edits : (n : ℕ) (vs : Verdicts) → edit_indices (updates_from n vs) ≡ range_with_len n (length (edits_of vs))
update_edits n [] = refl
update_edits n (v ∷ vs) = numbered n v.1.edit vs (λ k. update_edits k vs)

-- ---- the adjustment

-- whether an edit of this name is among these
abbrev pub is_written : List ℕ → List RefEdit → Bool
is_written name edits = list_any (λ e. bytes_eq e.name name) edits

module _ (names : Names) (all : List RefEdit) where
  abbrev adjust : ℕ × Verdict → ℕ × Verdict
  adjust v = (v.0, adjusted names all v.1 v.1.edit)

  abbrev pub edit_name : Option RefEdit → Option (List ℕ)
  edit_name o = option_map (λ e. e.name) o

  one_name : (v : Verdict) (e : RefEdit) (b : Bool) → v.edit ≡ Some e → edit_name ((if b then kept e else v).edit) ≡ edit_name v.edit
  one_name v e true is = ap edit_name (sym is)
  one_name v e false is = refl

  same_name : (v : Verdict) (o : Option RefEdit) → v.edit ≡ o → edit_name ((adjusted names all v o).edit) ≡ edit_name v.edit
  same_name v None is = refl
  same_name v (Some e) is = one_name v e (is_kept names all e.change) is

  by_name : (name : List ℕ) (a b : Option RefEdit) (xs ys : List RefEdit) → edit_name a ≡ edit_name b → is_written name xs ≡ is_written name ys → is_written name (cons_option a xs) ≡ is_written name (cons_option b ys)
  by_name name None None xs ys e so_far = so_far
  by_name name None (Some b) xs ys e so_far = absurd (apart e)
    where
      apart : None ≡ Some b.name → ⊥
      apart x = absurd cc
  by_name name (Some a) None xs ys e so_far = absurd (apart e)
    where
      apart : Some a.name ≡ None → ⊥
      apart x = absurd cc
  by_name name (Some a) (Some b) xs ys e so_far = ap (λ (t : Bool). bytes_eq a.name name || t) so_far ∙ ap (λ (n : List ℕ). bytes_eq n name || is_written name ys) (one e)
    where
      one : Some a.name ≡ Some b.name → a.name ≡ b.name
      one x = cc

  pub same_names : (name : List ℕ) (vs : Verdicts) → is_written name (edits_of (map adjust vs)) ≡ is_written name (edits_of vs)
  same_names name [] = refl
  same_names name (v ∷ vs) = by_name name (adjusted names all v.1 v.1.edit).edit v.1.edit (edits_of (map adjust vs)) (edits_of vs) (same_name v.1 v.1.edit refl) (same_names name vs)

  pub adjusted_indices : (vs : Verdicts) → map (λ v. v.0) (map adjust vs) ≡ map (λ v. v.0) vs
  adjusted_indices [] = refl
  adjusted_indices (v ∷ vs) = ap (λ (is : List ℕ). v.0 ∷ is) (adjusted_indices vs)

  -- a verdict that was adjusted
  abbrev pub IsAdjusted : (ℕ × Verdict → Type 0) → ℕ × Verdict → Type 0
  IsAdjusted P w = (v : ℕ × Verdict) × P v × (w ≡ adjust v)

  pub all_adjusted : (P : ℕ × Verdict → Type 0) (vs : Verdicts) → AllByRecursion P vs → AllByRecursion (IsAdjusted P) (map adjust vs)
  all_adjusted P [] h = tt
  all_adjusted P (v ∷ vs) (is, h) = ((v, is, refl), all_adjusted P vs h)

-- ---- outcomes

-- An outcome comes of verdicts.
pub record IsAdjustedOutcome (names : Names) (r : Result Verdicts Error) (o : Outcome) : Type 0 where
  pub verdicts : Verdicts
  pub judged : r ≡ Ok verdicts
  pub whole : o ≡ outcome_in (adjusted_verdicts names verdicts)

pub outcome_ok : (names : Names) (r : Result Verdicts Error) (o : Outcome) → outcome_from names r ≡ Ok o → IsAdjustedOutcome names r o
outcome_ok names (Err e) o is = absurd cc
outcome_ok names (Ok vs) o is = record { verdicts = vs; judged = refl; whole = one is }
  where
    one : ◌≡◌ {A = Result Outcome Error} (Ok (outcome_in (adjusted_verdicts names vs))) (Ok o) → o ≡ outcome_in (adjusted_verdicts names vs)
    one e = cc

pub outcome_err : (names : Names) (r : Result Verdicts Error) (e : Error) → outcome_from names r ≡ Err e → r ≡ Err e
outcome_err names (Err x) e is = one is
  where
    one : ◌≡◌ {A = Result Outcome Error} (Err x) (Err e) → ◌≡◌ {A = Result Verdicts Error} (Err x) (Err e)
    one i = cc
outcome_err names (Ok vs) e is = absurd cc
