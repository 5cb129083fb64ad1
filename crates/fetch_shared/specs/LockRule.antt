-- The rule of the table, and what each step tells.
-- Word 0 is the turn, and word 1 the number of journal entries. The state lies in the one slot while nobody has the turn.
use Rattle.std.specs.Prelude.{◌≡◌, ◌≢◌, ◌⊎◌, ℕ, ◌+◌, ◌<◌, ◌≤◌, ◌++◌, List, [], ◌∷◌, length, All, Option, Some}
use mathlib.Core.Option.{some, none}
use mathlib.Core.Option as maybe
use lib.ListN.{get_elem?}
use Rattle.atomic_table.specs.Table.{State, Me, Step}
use Rattle.fetch_journal.specs.declared.entry.Entry.{Entry}
use Rattle.fetch_shared.specs.declared.view.Span.{Span}
use Rattle.fetch_shared.specs.declared.view.View.{View}
use Rattle.fetch_shared.specs.declared.view.Stage.{Stage}
use Rattle.fetch_shared.specs.declared.view.Stage.TheVariants.{Resting, Turn, Joined, Spent}
use Rattle.fetch_journal.specs.Journals.{Begins, entries_of, pass_of}
use Rattle.fetch_shared.specs.Nothing.{nothing}
use Rattle.fetch_shared.specs.Numbers.{span, times_in, times_held, Holds}
use Rattle.fetch_remote.specs.RepositoryValues.{RepositoryValue}
use Rattle.fetch_journal.specs.Shared.{SharedValue}

-- the numbers that a view at this stage holds of its own: its number, its unused ones, and those of passes that it took in
abbrev pub own_at : View → Stage → List Span
own_at v Spent = []
own_at v _ = span v.number (v.number + 1) ∷ v.unused ∷ v.others

-- the numbers that a view holds of its own
abbrev pub own : View → List Span
own v = own_at v v.stage

-- and those of a pass that it has just taken in
abbrev pub joined_at : Stage → List Span
joined_at (Joined held front) = held
joined_at _ = []

-- the numbers that a view holds
abbrev pub held_by : View → List Span
held_by v = own v ++ joined_at v.stage

-- how many ranges of how many views have the number
abbrev pub times_over : ℕ → List View → ℕ
times_over n [] = 0
times_over n (v ∷ vs) = times_held n (held_by v) + times_over n vs

-- the numbers that are held
abbrev pub NUMBERS : Span
NUMBERS = span 0 18446744073709551615

-- the front is a beginning of the journal, with all its entries of the numbers held
pub record Sees (journal : List Entry) (held : List Span) (front : List Entry) : Type 0 where
  pub begins : Begins front journal
  pub complete : (n : ℕ) → Holds held n → entries_of n journal ≡ entries_of n front

-- what a view at this stage knows besides: one seat has the turn, and keeps the journal
abbrev pub AtStage : List Entry → ℕ → ℕ → ℕ → Stage → Type 0
AtStage journal turn holder seat (Turn kept) = (turn ≡ 1) × (seat ≡ holder) × (kept ≡ journal)
AtStage journal turn holder seat (Joined held front) = Sees journal held front
AtStage journal turn holder seat _ = Unit {0}

-- a view that no other has taken in
abbrev pub IsLive : Stage → Type 0
IsLive Spent = ⊥
IsLive _ = Unit {0}

-- What is true of a view at its seat.
pub record Knows (opening : RepositoryValue) (journal : List Entry) (turn holder seat : ℕ) (v : View) : Type 0 where
  pub opened : IsLive v.stage → v.opening ≡ opening
  pub sees : Sees journal (own v) v.front
  pub unused : (n : ℕ) → Holds (own v) n → 0 < times_in n v.unused → entries_of n journal ≡ []
  pub stage : AtStage journal turn holder seat v.stage

-- the holder's view has the turn, and keeps the journal
abbrev pub HasTurn : List Entry → ℕ → List View → Type 0
HasTurn journal holder views = (v : View) × (get_elem? views holder ≡ some v) × (v.stage ≡ Turn journal)

-- the words and the slot. The state at home has the journal, and opened as this repository
pub record Stands (opening : RepositoryValue) (journal : List Entry) (turn : ℕ) (words : List ℕ)
    (homes : List (maybe.Option (Option SharedValue))) : Type 0 where
  pub words_are : words ≡ turn ∷ length journal ∷ []
  pub turns : turn < 2
  pub home : turn ≡ 0 → (a : SharedValue) × (homes ≡ some (Some a) ∷ []) × (a.journal ≡ journal) × (a.opening ≡ opening)
  pub away : turn ≡ 1 → homes ≡ none ∷ []

-- The rule. The journal is that of the state at home, or the one that the holder of the turn keeps
pub record IsOrdered (opening : RepositoryValue) (s : State (Option SharedValue) View) : Type 0 where
  pub journal : List Entry
  pub turn : ℕ
  pub holder : ℕ
  pub stands : Stands opening journal turn s.words s.homes
  pub has_turn : turn ≡ 1 → HasTurn journal holder s.views
  pub each_seat : (seat : ℕ) (v : View) → get_elem? s.views seat ≡ some v → Knows opening journal turn holder seat v
  pub numbers : (n : ℕ) → times_over n s.views ≡ times_in n NUMBERS
  pub numbered : All (λ e. pass_of e < 18446744073709551615) journal

-- the first view, which holds every number
abbrev pub newcomer : RepositoryValue → View
newcomer opening = record { opening = opening; number = 0; unused = span 1 18446744073709551615; others = []; front = []; stage = Resting }

-- the view of a pass that another took in
abbrev pub spent : View
spent = record { opening = nothing; number = 0; unused = span 0 0; others = []; front = []; stage = Spent }

abbrev Seated : Type 0
Seated = Me (Option SharedValue) View

abbrev At : Type 0
At = Step (Option SharedValue)

-- the view without the turn
abbrev pub resting : View → View
resting v = record v { stage = Resting }

-- the view has the turn, and has seen all that it keeps
abbrev pub turning : View → List Entry → View
turning v journal = record v { front = journal; stage = Turn journal }

-- the turn was free, and the state is in hand; or it was not, and nothing changed
abbrev pub Tries : At → Seated → ℕ → Seated → Type 0
Tries st m found m' = (found ≡ 0 → (a : SharedValue) × (m' ≡ (record m.0 { stage = Turn a.journal }, (0, Some a) ∷ m.1))
    × (a.opening ≡ m.0.opening)) × (found ≢ 0 → m' ≡ m)

-- the journal goes on from the front, with no entry of a number held, and each of its entries has one of the numbers
pub record Finds (v : View) (journal : List Entry) : Type 0 where
  pub sees : Sees journal (own v) v.front
  pub numbered : All (λ e. pass_of e < 18446744073709551615) journal

-- The holder of the turn sees the whole journal.
abbrev pub Loads : At → Seated → ℕ → Seated → Type 0
Loads st m found m' = (kept : List Entry) → m.0.stage ≡ Turn kept → (m' ≡ (turning m.0 kept, m.1)) × (found ≡ length kept) × Finds m.0 kept

-- the entry by which the state in hand goes beyond the front was recorded
abbrev pub Records : At → Seated → ℕ → Seated → Type 0
Records st m found m' = (a : SharedValue) → m.1 ≡ (0, Some a) ∷ [] → (m' ≡ (turning m.0 a.journal, m.1)) × (found ≡ length m.0.front)

-- The holder gives the turn back.
abbrev pub Releases : At → Seated → ℕ → Seated → Type 0
Releases st m found m' = m' ≡ (resting m.0, [])

-- the view's numbers are its own, and the front has no entry of an unused one
pub record IsClear (v : View) : Type 0 where
  pub once : (n : ℕ) → times_held n (own v) ≤ 1
  pub unused : (n : ℕ) → Holds (own v) n → 0 < times_in n v.unused → entries_of n v.front ≡ []

-- A pass knows that its numbers are its own.
abbrev pub Learns : At → Seated → ℕ → Seated → Type 0
Learns st m found m' = (m' ≡ m) × IsClear m.0

-- a front that goes on where this one ends, with the same entries of the numbers held
pub record Extends (held : List Span) (front longer : List Entry) : Type 0 where
  pub begins : Begins front longer
  pub same : (n : ℕ) → Holds held n → entries_of n longer ≡ entries_of n front

-- a view that took another one in, with this front
abbrev pub settled : View → List Span → List Entry → View
settled v held front = record v { others = v.others ++ held; front = front; stage = Resting }

-- the pass that was taken in, with these numbers and this front, is settled: the longer front is that of both
abbrev pub AreJoined : Seated → Seated → List Span → List Entry → Type 0
AreJoined m m' held front = (longer : List Entry) × (m' ≡ (settled m.0 held longer, m.1))
    × Extends (own m.0) m.0.front longer × Extends held front longer × ((longer ≡ m.0.front) ⊎ (longer ≡ front))

-- The pass that was taken in is settled.
abbrev pub Settles : At → Seated → ℕ → Seated → Type 0
Settles st m found m' = (held : List Span) (front : List Entry) → m.0.stage ≡ Joined held front → AreJoined m m' held front

-- the first `count` of the unused numbers go to the right, the least of them as its own
abbrev pub left_part : ℕ → View → View
left_part count v = record v { unused = span (v.unused.first + count) v.unused.end }

-- what a split gives to the right
abbrev pub right_part : ℕ → View → View
right_part count v =
    record {
      opening = v.opening;
      number = v.unused.first;
      unused = span (v.unused.first + 1) (v.unused.first + count);
      others = [];
      front = v.front;
      stage = Resting;
    }

-- a view that has just taken another one in
abbrev pub both_parts : View → View → View
both_parts v w = record v { stage = Joined (own w) w.front }
