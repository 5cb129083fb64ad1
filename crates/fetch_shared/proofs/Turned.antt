-- What one turn tells the pass that took it.
use Rattle.std.proofs.Common.{◌≡◌, ℕ, [], ◌∷◌, ◌++◌, length, None, Some, refl, sym, ap, ◌∙◌, subst}
use Rattle.std.specs.Prelude.{Result, Ok, Err, IfErr, IfOk, slice_get}
use Rattle.atomic_table.specs.Seated.{TableId}
use Rattle.fetch_base.specs.Answers.{RefusesUnless}
use Rattle.fetch_journal.specs.declared.entry.Entry.{Entry}
use Rattle.fetch_journal.specs.declared.error.SharedError.{SharedError}
use Rattle.fetch_journal.specs.declared.error.SharedError.TheVariants as errors
use Rattle.fetch_shared.specs.declared.view.View.{View}
use Rattle.fetch_shared.specs.declared.view.Stage.TheVariants.{Resting}
use Rattle.fetch_journal.specs.Journals.{entries_of, pass_of}
use Rattle.fetch_journal.specs.Machine.{Event, refusal}
use Rattle.fetch_shared.specs.Numbers.{Holds}
use Rattle.fetch_journal.specs.Shared.{SharedValue, is_memory, IsKept, done, state_of}
use Rattle.fetch_shared.specs.LockRule.{own, turning, resting, Finds}
use Rattle.fetch_shared.proofs.Held.{holds_own}
use Rattle.fetch_shared.specs.Passes.{Holder, holder_of, IsBack, IsFoundBy, IsTurn}
use Rattle.fetch_shared.proofs.Back.{comes_back, begins_entered, others_entered, own_entered, last_entered}

only_memory : {X : Type 0} (answer : Result X SharedError) → IfErr answer (λ e. e ≡ errors.NoMemory) → RefusesUnless is_memory None answer
only_memory (Ok x) is = refl
only_memory {X} (Err e) is = subst (λ (x : SharedError). RefusesUnless {X = X} is_memory None (Err x)) (sym is) tt

if_ok : {X : Type 0} (P : Type 0) (answer : Result X SharedError) → P → IfOk answer (λ _. P)
if_ok P (Ok x) p = p
if_ok P (Err e) p = tt

if_err : {X : Type 0} (P : Type 0) (answer : Result X SharedError) → P → IfErr answer (λ _. P)
if_err P (Ok x) p = tt
if_err P (Err e) p = p

-- the turn found this state, and gave it back
module _ (table table' : TableId) (v w : View) (found : SharedValue) (rests : v.stage ≡ Resting) (same : table' ≡ table) (opening : found.opening ≡ v.opening) (finds : Finds v found.journal) (kept : IsKept found) where
  meets : IsFoundBy (holder_of table v) found
  meets = record { opening = opening; kept = kept; begins = finds.sees.begins; same = finds.sees.complete }

  module _ (me : w ≡ resting (turning v found.journal)) where
    front : w.front ≡ found.journal
    front = ap (λ (u : View). u.front) me

    pub back_found : IsBack (holder_of table v) (holder_of table' w)
    back_found = comes_back table table' v w found.journal rests same me finds.sees.begins (λ n h other. finds.sees.complete n h)

    pub none_found : (n : ℕ) → Holds (own v) n → entries_of n w.front ≡ entries_of n v.front
    none_found n h = ap (entries_of n) front ∙ finds.sees.complete n h

    -- an event that changes nothing
    pub turn_looked : {X : Type 0} (event : Event) (told : SharedValue → X) (answer : Result X SharedError) → refusal (state_of found) event ≡ None → done found event ≡ found
        → IfErr answer (λ e. e ≡ errors.NoMemory) → IfOk answer (λ x. x ≡ told found) → IsTurn (holder_of table v) (holder_of table' w) event told answer
    turn_looked event told answer allowed nothing memory tells = record {
      found = found;
      meets = meets;
      answers = subst (λ cause. RefusesUnless is_memory cause answer) (sym allowed) (only_memory answer memory);
      tells = tells;
      entered = if_ok (w.front ≡ (done found event).journal) answer (front ∙ ap (λ (s : SharedValue). s.journal) (sym nothing));
      leaves = if_ok (IsKept (done found event)) answer (subst IsKept (sym nothing) kept);
      refused = if_err (w.front ≡ found.journal) answer front;
    }

    -- an event that was refused
    pub turn_refused : {X : Type 0} (event : Event) (told : SharedValue → X) (e : SharedError) → RefusesUnless {X = X} is_memory (refusal (state_of found) event) (Err e) → IsTurn (holder_of table v) (holder_of table' w) event told (Err e)
    turn_refused event told e answers = record {
      found = found;
      meets = meets;
      answers = answers;
      tells = tt;
      entered = tt;
      leaves = tt;
      refused = front;
    }

  -- the turn left this state, with one entry more
  module _ (event : Event) (now : SharedValue) (entry : Entry) (me : w ≡ resting (turning v now.journal)) (is : now ≡ done found event) (grown : (done found event).journal ≡ found.journal ++ entry ∷ []) (own_number : pass_of entry ≡ v.number) where
    now_grown : now.journal ≡ found.journal ++ entry ∷ []
    now_grown = ap (λ (s : SharedValue). s.journal) is ∙ grown

    front_now : w.front ≡ found.journal ++ entry ∷ []
    front_now = ap (λ (u : View). u.front) me ∙ now_grown

    pub back_entered : IsBack (holder_of table v) (holder_of table' w)
    back_entered = comes_back table table' v w now.journal rests same me (begins_entered v.front found.journal now.journal entry finds.sees.begins now_grown)
        (λ n h other. others_entered n v.front found.journal now.journal entry (finds.sees.complete n h) (λ own_is. other (sym own_is ∙ own_number)) now_grown)

    pub turn_entered : {X : Type 0} (told : SharedValue → X) (x : X) → IsKept now → refusal (state_of found) event ≡ None → x ≡ told found → IsTurn (holder_of table v) (holder_of table' w) event told (Ok x)
    turn_entered told x left allowed tells = record {
      found = found;
      meets = meets;
      answers = allowed;
      tells = tells;
      entered = ap (λ (u : View). u.front) me ∙ ap (λ (s : SharedValue). s.journal) is;
      leaves = subst IsKept is left;
      refused = tt;
    }

    pub added : Holds (own v) v.number → entries_of v.number w.front ≡ entries_of v.number v.front ++ entry ∷ []
    added held = own_entered v.number v.front found.journal w.front entry (finds.sees.complete v.number held) own_number front_now

    pub placed : (k : ℕ) → k ≡ length found.journal → slice_get w.front k ≡ Some entry
    placed k at = last_entered found.journal w.front entry k front_now at

-- a turn that entered an event, by the pass as it is seen
pub record Entered {X : Type 0} (p q : Holder) (event : Event) (told : SharedValue → X) (x : X) (entry : Entry) (length_found : ℕ) : Type 0 where
  pub back : IsBack p q
  pub turn : IsTurn p q event told (Ok x)
  pub added : entries_of p.number q.front ≡ entries_of p.number p.front ++ entry ∷ []
  pub placed : (k : ℕ) → k ≡ length_found → slice_get q.front k ≡ Some entry

-- and one that was refused
pub record Refused {X : Type 0} (p q : Holder) (event : Event) (told : SharedValue → X) (e : SharedError) : Type 0 where
  pub back : IsBack p q
  pub turn : IsTurn p q event told (Err e)
  pub none : entries_of p.number q.front ≡ entries_of p.number p.front

-- an event, what is told of it, and its entry, under a number
module _ {X : Type 0} (event : ℕ → Event) (told : ℕ → SharedValue → X) (table table' : TableId) (v w : View) (p : Holder) (seen : holder_of table v ≡ p) (number : ℕ) (number_is : v.number ≡ number) (found : SharedValue) (rests : v.stage ≡ Resting) (same : table' ≡ table) (opening : found.opening ≡ v.opening) (finds : Finds v found.journal) (kept : IsKept found) where
  pub entered : (entry : ℕ → Entry) (now : SharedValue) (x : X) → w ≡ resting (turning v now.journal) → now ≡ done found (event number) → ((n : ℕ) → (done found (event n)).journal ≡ found.journal ++ entry n ∷ []) → ((n : ℕ) → pass_of (entry n) ≡ n)
      → IsKept now → refusal (state_of found) (event number) ≡ None → x ≡ told number found → Entered p (holder_of table' w) (event p.number) (told p.number) x (entry p.number) (length found.journal)
  entered entry now x me is grown own_number left allowed tells =
      let n : ℕ = v.number in
      let is' : now ≡ done found (event n) = subst (λ (k : ℕ). now ≡ done found (event k)) (sym number_is) is in
      let allowed' : refusal (state_of found) (event n) ≡ None = subst (λ (k : ℕ). refusal (state_of found) (event k) ≡ None) (sym number_is) allowed in
      let tells' : x ≡ told n found = subst (λ (k : ℕ). x ≡ told k found) (sym number_is) tells in
      let P : Holder → Type 0 = λ q. Entered q (holder_of table' w) (event q.number) (told q.number) x (entry q.number) (length found.journal) in
      subst P seen (record {
        back = back_entered table table' v w found rests same opening finds kept (event n) now (entry n) me is' (grown n) (own_number n);
        turn = turn_entered table table' v w found rests same opening finds kept (event n) now (entry n) me is' (grown n) (own_number n) (told n) x left allowed' tells';
        added = added table table' v w found rests same opening finds kept (event n) now (entry n) me is' (grown n) (own_number n) (holds_own v rests);
        placed = placed table table' v w found rests same opening finds kept (event n) now (entry n) me is' (grown n) (own_number n);
      })

  pub refused : (e : SharedError) → w ≡ resting (turning v found.journal) → RefusesUnless {X = X} is_memory (refusal (state_of found) (event number)) (Err e) → Refused p (holder_of table' w) (event p.number) (told p.number) e
  refused e me answers =
      let n : ℕ = v.number in
      let answers' : RefusesUnless {X = X} is_memory (refusal (state_of found) (event n)) (Err e) = subst (λ (k : ℕ). RefusesUnless {X = X} is_memory (refusal (state_of found) (event k)) (Err e)) (sym number_is) answers in
      let P : Holder → Type 0 = λ q. Refused q (holder_of table' w) (event q.number) (told q.number) e in
      subst P seen (record {
        back = back_found table table' v w found rests same opening finds kept me;
        turn = turn_refused table table' v w found rests same opening finds kept me (event n) (told n) e answers';
        none = none_found table table' v w found rests same opening finds kept me n (holds_own v rests);
      })

  pub looked : (answer : Result X SharedError) → w ≡ resting (turning v found.journal) → ((n : ℕ) → refusal (state_of found) (event n) ≡ None) → ((n : ℕ) → done found (event n) ≡ found)
      → IfErr answer (λ e. e ≡ errors.NoMemory) → IfOk answer (λ x. x ≡ told number found) → IsTurn p (holder_of table' w) (event p.number) (told p.number) answer
  looked answer me allowed nothing memory tells =
      let tells' : IfOk answer (λ x. x ≡ told v.number found) = subst (λ (k : ℕ). IfOk answer (λ x. x ≡ told k found)) (sym number_is) tells in
      subst (λ (q : Holder). IsTurn q (holder_of table' w) (event q.number) (told q.number) answer) seen
      (turn_looked table table' v w found rests same opening finds kept me (event v.number) (told v.number) answer (allowed v.number) (nothing v.number) memory tells')
