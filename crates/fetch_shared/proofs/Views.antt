-- What views know, and what stays so when one of them changes.
use Rattle.std.proofs.Common.{◌≡◌, ◌≢◌, ℕ, zero, suc, ◌<◌, ◌≤◌, List, [], ◌∷◌, ◌++◌, length, get_or, set, sym, ap, ◌∙◌, subst, ⊎_elim, arith, Option, All}
use mathlib.Core.Option.{some, none, some-injective, some-ne-none}
use mathlib.Core.Option as maybe
use lib.ListN.{get_elem?}
use lib.Seq.{set-get_or}
use Rattle.atomic_table.specs.Table.{State, Me, keeps, stepped}
use Rattle.atomic_table.proofs.Lists.{at_set, set_here, set_else, set_again}
use Rattle.fetch_journal.specs.declared.entry.Entry.{Entry}
use Rattle.fetch_shared.specs.declared.view.Span.{Span}
use Rattle.fetch_shared.specs.declared.view.View.{View}
use Rattle.fetch_shared.specs.declared.view.Stage.{Stage}
use Rattle.fetch_shared.specs.declared.view.Stage.TheVariants.{Resting, Turn, Joined, Spent}
use Rattle.fetch_journal.specs.Journals.{pass_of}
use Rattle.fetch_shared.specs.Numbers.{times_in, times_held, Holds}
use Rattle.fetch_shared.specs.LockRule.{own, joined_at, held_by, times_over, NUMBERS, Sees, AtStage, IsLive, Knows, HasTurn, Stands, IsOrdered}
use Rattle.fetch_journal.proofs.Journals.{begins_more, entries_of-other}
use Rattle.fetch_shared.proofs.Held.{times_in-le, times_held-append, times_over-set}
use Rattle.fetch_remote.specs.RepositoryValues.{RepositoryValue}
use Rattle.fetch_journal.specs.Shared.{SharedValue}

abbrev pub St : Type 0
St = State (Option SharedValue) View

abbrev pub Seated : Type 0
Seated = Me (Option SharedValue) View

abbrev pub Homes : Type 0
Homes = List (maybe.Option (Option SharedValue))

-- what a view that hasn't the turn knows stays so when the turn changes hands
at_stage : (journal : List Entry) (turn holder turn' holder' seat : ℕ) → (turn ≡ 1 → seat ≢ holder) → (stage : Stage)
    → AtStage journal turn holder seat stage → AtStage journal turn' holder' seat stage
at_stage journal turn holder turn' holder' seat other Resting k = tt
at_stage journal turn holder turn' holder' seat other (Turn kept) k = absurd (other k.0 k.1)
at_stage journal turn holder turn' holder' seat other (Joined held front) k = k
at_stage journal turn holder turn' holder' seat other Spent k = tt

-- what a view sees stays so when the journal grows by an entry of a number that it doesn't hold
sees_more : (journal : List Entry) (e : Entry) (held : List Span) (front : List Entry) → times_held (pass_of e) held ≡ 0 → Sees journal held front → Sees (journal ++ e ∷ []) held front
sees_more journal e held front free s = record {
  begins = begins_more front journal (e ∷ []) s.begins;
  complete = λ n h. entries_of-other n e journal (λ is. let same : times_held n held ≡ 0 = ap (λ (k : ℕ). times_held k held) (sym is) ∙ free in omega arith) ∙ s.complete n h;
}

stage_more : (journal : List Entry) (e : Entry) (turn holder seat : ℕ) → (turn ≡ 1 → seat ≢ holder) → (stage : Stage) → times_held (pass_of e) (joined_at stage) ≡ 0
    → AtStage journal turn holder seat stage → AtStage (journal ++ e ∷ []) turn holder seat stage
stage_more journal e turn holder seat other Resting free k = tt
stage_more journal e turn holder seat other (Turn kept) free k = absurd (other k.0 k.1)
stage_more journal e turn holder seat other (Joined held front) free k = sees_more journal e held front free k
stage_more journal e turn holder seat other Spent free k = tt

pub seats_stay : (K : ℕ → View → Type 0) (vs : List View) (id : ℕ) (w : View) → K id w → ((seat : ℕ) (u : View) → seat ≢ id → get_elem? vs seat ≡ some u → K seat u)
    → (seat : ℕ) (u : View) → get_elem? (set vs id w) seat ≡ some u → K seat u
seats_stay K vs id w mine others seat u at = ⊎_elim (λ (t : (seat ≡ id) × (w ≡ u)). subst (λ (x : ℕ × View). K x.0 x.1) (λ i. (sym t.0 i, t.1 i)) mine)
    (λ (t : (seat ≢ id) × (get_elem? vs seat ≡ some u)). others seat u t.0 t.1) (at_set vs id seat w u at)

pub at_inside : (vs : List View) (i : ℕ) (v : View) → get_elem? vs i ≡ some v → i < length vs
at_inside [] i v at = absurd (some-ne-none v (sym at))
at_inside (x ∷ xs) zero v at = omega arith
at_inside (x ∷ xs) (suc i) v at = omega (arith, at_inside xs i v at)

-- the holder of the turn keeps it when another view changes
pub turn_stays : (vs : List View) (journal : List Entry) (holder id : ℕ) (v w : View) → get_elem? vs id ≡ some v → ((kept : List Entry) → v.stage ≡ Turn kept → ⊥)
    → HasTurn journal holder vs → HasTurn journal holder (set vs id w)
turn_stays vs journal holder id v w at free h =
    let other : holder ≢ id = λ e. let same : h.0 ≡ v = some-injective h.0 v (sym h.1 ∙ (ap (get_elem? vs) e ∙ at)) in free journal (ap (λ (u : View). u.stage) (sym same) ∙ h.2) in
    (h.0, set_else vs id holder w other ∙ h.1, h.2)

-- the view that has the turn is the holder's
pub turn_is : (vs : List View) (journal : List Entry) (holder id : ℕ) (v w : View) → get_elem? vs id ≡ some v → id ≡ holder → w.stage ≡ Turn journal → HasTurn journal holder (set vs id w)
turn_is vs journal holder id v w at is stage = (w, subst (λ (h : ℕ). get_elem? (set vs id w) h ≡ some w) is (set_here vs id w (at_inside vs id v at)), stage)

module _ (start : RepositoryValue) where
  abbrev pub Rule : St → Type 0
  Rule = IsOrdered start

  pub turn_moves : (journal : List Entry) (turn holder turn' holder' seat : ℕ) (v : View) → (turn ≡ 1 → seat ≢ holder) → Knows start journal turn holder seat v → Knows start journal turn' holder' seat v
  turn_moves journal turn holder turn' holder' seat v other k = record { opened = k.opened; sees = k.sees; unused = k.unused; stage = at_stage journal turn holder turn' holder' seat other v.stage k.stage }

  pub journal_grows : (journal : List Entry) (e : Entry) (turn holder seat : ℕ) (v : View) → (turn ≡ 1 → seat ≢ holder) → times_held (pass_of e) (held_by v) ≡ 0
      → Knows start journal turn holder seat v → Knows start (journal ++ e ∷ []) turn holder seat v
  journal_grows journal e turn holder seat v other free k =
      let apart = times_held-append (pass_of e) (own v) (joined_at v.stage) in record {
        opened = k.opened;
        sees = sees_more journal e (own v) v.front (omega arith) k.sees;
        unused = λ n h u. entries_of-other n e journal (λ is. let same : times_held n (own v) ≡ times_held (pass_of e) (own v) = ap (λ (k : ℕ). times_held k (own v)) (sym is) in omega arith) ∙ k.unused n h u;
        stage = stage_more journal e turn holder seat other v.stage (omega arith) k.stage;
      }

  -- no number is held twice
  pub once : (s : St) (r : Rule s) (n : ℕ) → times_over n s.views ≤ 1
  once s r n = let le = times_in-le n NUMBERS in let is = r.numbers n in omega arith

  -- what a view knows at another stage, with the same numbers and front
  pub knows_at : (journal : List Entry) (turn holder turn' holder' seat : ℕ) (v w : View) → IsLive v.stage → own v ≡ own w → w.opening ≡ v.opening → w.front ≡ v.front → w.unused ≡ v.unused
      → Knows start journal turn holder seat v → AtStage journal turn' holder' seat w.stage → Knows start journal turn' holder' seat w
  knows_at journal turn holder turn' holder' seat v w live own_is opening front unused k stage = record {
    opened = λ _. opening ∙ k.opened live;
    sees = subst (λ (x : List Span × List Entry). Sees journal x.0 x.1) (λ i. (own_is i, sym front i)) k.sees;
    unused = λ n h u. k.unused n (subst (λ (held : List Span). Holds held n) (sym own_is) h) (subst (λ (r : Span). 0 < times_in n r) unused u);
    stage = stage;
  }

  -- a step by which a view becomes w, which holds the same numbers
  pub changes : (s : St) (r : Rule s) (id : ℕ) (v w : View) (words : List ℕ) (homes : Homes) (journal : List Entry) (turn holder : ℕ) → get_elem? s.views id ≡ some v
      → Stands start journal turn words homes → (turn ≡ 1 → HasTurn journal holder (set s.views id w)) → held_by w ≡ held_by v
      → Knows start journal turn holder id w → ((seat : ℕ) (u : View) → seat ≢ id → get_elem? s.views seat ≡ some u → Knows start journal turn holder seat u)
      → All (λ e. pass_of e < 18446744073709551615) journal → Rule record { words = words; homes = homes; views = set s.views id w }
  changes s r id v w words homes journal turn holder at stands has same mine others numbered = record {
    journal = journal;
    turn = turn;
    holder = holder;
    stands = stands;
    has_turn = has;
    each_seat = seats_stay (Knows start journal turn holder) s.views id w mine others;
    numbers = λ n. let all = times_over-set n s.views id v w at in
        let same' : times_held n (held_by w) ≡ times_held n (held_by v) = ap (times_held n) same in
        let is = r.numbers n in
        omega arith;
    numbered = numbered;
  }

  -- a step that changes nothing
  pub unchanged : (s : St) (r : Rule s) (id i : ℕ) (v : View) (cs : List (ℕ × Option SharedValue)) → get_elem? s.views id ≡ some v → Rule (stepped s i (get_or s.words i 0) id cs v keeps)
  unchanged s r id i v cs at = subst (λ (ws : List ℕ). Rule record { words = ws; homes = s.homes; views = set s.views id v }) (sym (set-get_or s.words i 0))
      (subst (λ (vs : List View). Rule record { words = s.words; homes = s.homes; views = vs }) (sym (set_again s.views id v at)) r)
