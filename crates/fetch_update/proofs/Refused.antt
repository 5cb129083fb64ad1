-- The first mapping that is decided by a refusal.
use Rattle.std.proofs.Common.{◌≡◌, ℕ, ◌+◌, List, [], ◌∷◌, ◌++◌, Option, Some, None, Result, Ok, Err, Contains, refl, sym, ap, ◌∙◌, subst, inl, inr}
use Rattle.fetch_specs.specs.Specs.{Spec}
use Rattle.fetch_map.specs.Mappings.{spec_at}
use Rattle.fetch_map.specs.declared.mapping.Mapping.{Mapping}
use Rattle.fetch_update.specs.declared.update.Error.{Error}
use Rattle.fetch_update.specs.declared.verdict.Verdict.{Verdict}
use Rattle.fetch_update.specs.Outcomes.{Verdicts, before, judged, verdicts_from, outcome_from, outcome_of}
use Rattle.fetch_update.specs.Policy.{Policy, verdict_of}
use Rattle.fetch_update.specs.Refusing.{Refuses, HasSpec, IsRefusedWith}
use Rattle.fetch_update.proofs.Fitting.{FitsOk, fits, some_one, none_some}
use Rattle.fetch_update.proofs.Rows.{refused_told}
use Rattle.fetch_update.proofs.Seen.{Contains-none, Contains-cases, Contains-first, Contains-later}
use Rattle.fetch_update.proofs.Updates.{outcome_err}

ok_err : (v : Verdict) (e : Error) → ◌≡◌ {A = Result Verdict Error} (Ok v) (Err e) → ⊥
ok_err v e is = absurd cc

all_err : (vs : Verdicts) (e : Error) → ◌≡◌ {A = Result Verdicts Error} (Ok vs) (Err e) → ⊥
all_err vs e is = absurd cc

one_err : (x e : Error) → ◌≡◌ {A = Result Verdicts Error} (Err x) (Err e) → x ≡ e
one_err x e is = cc

pub refuses_verdict : (p : Policy) (s : Spec) (m : Mapping) (e : Error) → verdict_of p s m ≡ Err e → Refuses p m e
refuses_verdict p s m e is = subst (FitsOk p s m []) is (fits p s m [])

module _ (p : Policy) (specs extra : List Spec) where
  -- ---- where the verdicts are refused, a mapping refuses

  later : (m : Mapping) (ms : List Mapping) (e : Error) → ((other : Error) → HasSpec specs extra m → Refuses p m other → ⊥) → IsRefusedWith p specs extra ms e → IsRefusedWith p specs extra (m ∷ ms) e
  later m ms e passes r = record {
    before = m ∷ r.before;
    mapping = r.mapping;
    after = r.after;
    whole = ap (λ (xs : List Mapping). m ∷ xs) r.whole;
    found = r.found;
    refuses = r.refuses;
    first = λ x other is spec refuses. elim (Contains-cases m r.before x is) [
      | inl one ↦ passes other (subst (HasSpec specs extra) (sym one) spec) (subst (λ (y : Mapping). Refuses p y other) (sym one) refuses)
      | inr more ↦ r.first x other more spec refuses
    ];
  }

  refused_at : (i : ℕ) (m : Mapping) (ms : List Mapping) (e : Error) (s : Spec) → spec_at m.spec_index specs extra ≡ Some s
      → ((x : Error) → verdicts_from p specs extra (i + 1) ms ≡ Err x → IsRefusedWith p specs extra ms x)
      → (r : Result Verdict Error) → verdict_of p s m ≡ r → (rest : Result Verdicts Error) → verdicts_from p specs extra (i + 1) ms ≡ rest → before i r rest ≡ Err e → IsRefusedWith p specs extra (m ∷ ms) e
  refused_at i m ms e s some more (Err x) refused rest rest_is is = record {
    before = [];
    mapping = m;
    after = ms;
    whole = refl;
    found = (s, some);
    refuses = refuses_verdict p s m e (refused ∙ ap (λ (y : Error). Err y) (one_err x e is));
    first = λ y other none spec refuses. Contains-none y none;
  }
  refused_at i m ms e s some more (Ok v) decided (Err x) rest_is is =
      later m ms e (λ other spec refuses. ok_err v other (sym decided ∙ ap (λ (y : Spec). verdict_of p y m) (some_one s spec.0 (sym some ∙ spec.1)) ∙ refused_told p spec.0 m other refuses)) (more e (rest_is ∙ is))
  refused_at i m ms e s some more (Ok v) decided (Ok vs) rest_is is = absurd (all_err ((i, v) ∷ vs) e is)

  refused_by : (i : ℕ) (m : Mapping) (ms : List Mapping) (e : Error) → ((x : Error) → verdicts_from p specs extra (i + 1) ms ≡ Err x → IsRefusedWith p specs extra ms x)
      → (o : Option Spec) → spec_at m.spec_index specs extra ≡ o → judged p i m o (verdicts_from p specs extra (i + 1) ms) ≡ Err e → IsRefusedWith p specs extra (m ∷ ms) e
  refused_by i m ms e more None none is = later m ms e (λ other spec refuses. none_some spec.0 (sym none ∙ spec.1)) (more e is)
  refused_by i m ms e more (Some s) some is = refused_at i m ms e s some more (verdict_of p s m) refl (verdicts_from p specs extra (i + 1) ms) refl is

  refused_from : (i : ℕ) (ms : List Mapping) (e : Error) → verdicts_from p specs extra i ms ≡ Err e → IsRefusedWith p specs extra ms e
  refused_from i [] e is = absurd (all_err [] e is)
  refused_from i (m ∷ ms) e is = refused_by i m ms e (λ x rest. refused_from (i + 1) ms x rest) (spec_at m.spec_index specs extra) refl is

  -- ---- where a mapping refuses and none before it, the verdicts are refused

  passed_at : (i : ℕ) (m : Mapping) (s : Spec) (e : Error) (rest : Result Verdicts Error) → ((other : Error) → Refuses p m other → ⊥) → rest ≡ Err e → (r : Result Verdict Error) → verdict_of p s m ≡ r → before i r rest ≡ Err e
  passed_at i m s e rest passes is (Err x) refused = absurd (passes x (refuses_verdict p s m x refused))
  passed_at i m s e rest passes is (Ok v) decided = ap (before i (Ok v)) is

  passed_by : (i : ℕ) (m : Mapping) (e : Error) (rest : Result Verdicts Error) → ((other : Error) → HasSpec specs extra m → Refuses p m other → ⊥) → rest ≡ Err e → (o : Option Spec) → spec_at m.spec_index specs extra ≡ o → judged p i m o rest ≡ Err e
  passed_by i m e rest passes is None none = is
  passed_by i m e rest passes is (Some s) some = passed_at i m s e rest (λ other refuses. passes other (s, some) refuses) is (verdict_of p s m) refl

  here : (i : ℕ) (m : Mapping) (e : Error) (rest : Result Verdicts Error) → HasSpec specs extra m → Refuses p m e → judged p i m (spec_at m.spec_index specs extra) rest ≡ Err e
  here i m e rest (s, some) refuses =
      ap (λ (o : Option Spec). judged p i m o rest) some ∙ ap (λ (r : Result Verdict Error). before i r rest) (refused_told p s m e refuses)

  first_from : (i : ℕ) (done : List Mapping) (m : Mapping) (after : List Mapping) (e : Error) → HasSpec specs extra m → Refuses p m e
      → ((x : Mapping) (other : Error) → Contains done x → HasSpec specs extra x → Refuses p x other → ⊥) → verdicts_from p specs extra i (done ++ m ∷ after) ≡ Err e
  first_from i [] m after e found refuses first = here i m e (verdicts_from p specs extra (i + 1) after) found refuses
  first_from i (d ∷ done) m after e found refuses first =
      passed_by i d e (verdicts_from p specs extra (i + 1) (done ++ m ∷ after)) (λ other spec r. first d other (Contains-first d done) spec r)
      (first_from (i + 1) done m after e found refuses (λ x other is spec r. first x other (Contains-later d done x is) spec r)) (spec_at d.spec_index specs extra) refl

  pub refused_with : (ms : List Mapping) (e : Error) → outcome_of p specs extra ms ≡ Err e → IsRefusedWith p specs extra ms e
  unfolding outcome_of
  refused_with ms e is = refused_from 0 ms e (outcome_err p.names (verdicts_from p specs extra 0 ms) e is)

  pub with_refused : (ms : List Mapping) (e : Error) → IsRefusedWith p specs extra ms e → outcome_of p specs extra ms ≡ Err e
  unfolding outcome_of
  with_refused ms e r =
      ap (outcome_from p.names) (ap (verdicts_from p specs extra 0) r.whole ∙ first_from 0 r.before r.mapping r.after e r.found r.refuses r.first)
