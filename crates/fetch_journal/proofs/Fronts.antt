-- What fronts of a journal say of the objects.
use Rattle.std.proofs.Common.{◌≡◌, ◌⊎◌, ◌||◌, true, List, [], ◌∷◌, ◌++◌, Option, None, Some, is_some, inl, inr, ⊎_elim, refl, sym, ap, subst, ◌∙◌}
use Rattle.std.specs.FinMap.{get, same_map}
use Rattle.std.specs.FinSet as set
use Rattle.std.specs.List.{AllByRecursion}
use Rattle.std.proofs.lemmas.List.Elements.{All-from_recursion}
use Rattle.fetch_base.specs.declared.id.ObjectId.{ObjectId}
use Rattle.fetch_store.specs.Borders.{set_of}
use Rattle.fetch_store.specs.Closed.{IsStored, Grows}
use Rattle.fetch_base.specs.Hashing.{id_of}
use Rattle.fetch_objects.specs.Objects.{Stored}
use Rattle.fetch_store.specs.Stores.{ObjectMap}
use Rattle.fetch_store.proofs.Growth.{added_cases}
use Rattle.fetch_base.proofs.Ids.{id_cmp_total, id_cmp_exact}
use Rattle.fetch_store.proofs.Lists.{All-find}
use Rattle.fetch_remote.specs.RepositoryValues.{RepositoryValue}
use Rattle.fetch_journal.specs.declared.entry.Entry.{Entry}
use Rattle.fetch_journal.specs.declared.entry.Entry.TheVariants as entries
use Rattle.fetch_journal.specs.Machine.{State, Event, effect, after, run}
use Rattle.fetch_journal.specs.Machine.Event.{Plan, Snapshot, Take, Commit, Delete}
use Rattle.fetch_journal.specs.Replays.{Outline, outline, played, replay}
use Rattle.fetch_journal.specs.Fronts.{IsNamedEvent, IsPinned, IsStateOf, IsAlike}
use Rattle.fetch_journal.proofs.Replays.{contains-ids, replay-append}
use Rattle.fetch_journal.proofs.Runs.{after_cases, run_grows}

abbrev IsNamed : ObjectId × Stored → Type 0
IsNamed e = e.0 ≡ id_of e.1.hash e.1.kind e.1.bytes

-- ids stay
ids_played : (v : Outline) (e : Entry) (q : ObjectId) → set.contains v.ids q ≡ true → set.contains (played v e).ids q ≡ true
ids_played v (entries.Take pass ids shallow unshallow) q is = set.contains-union id_cmp_total v.ids (set_of ids) q ∙ ap (λ b. b || set.contains (set_of ids) q) is
ids_played v (entries.Commit pass edits committer) q is = is
ids_played v (entries.Delete pass names) q is = is

ids_replay : (v : Outline) (es : List Entry) (q : ObjectId) → set.contains v.ids q ≡ true → set.contains (replay v es).ids q ≡ true
ids_replay v [] q is = is
ids_replay v (e ∷ es) q is = ids_replay (played v e) es q (ids_played v e q is)

value : (o : Option Stored) → is_some o ≡ true → (x : Stored) × (o ≡ Some x)
value None is = absurd cc
value (Some x) is = (x, refl)

-- a longer front has the ids of a shorter one
pub stored_later : (opening : RepositoryValue) (front more : List Entry) (before now : RepositoryValue) (id : ObjectId) → IsStateOf opening front before → IsStateOf opening (front ++ more) now
    → IsStored before.state.objects id → IsStored now.state.objects id
stored_later opening front more before now id at later is =
    let old : set.contains (outline before).ids id ≡ true = contains-ids before.state.objects id ∙ is in
    let then' : set.contains (replay (outline opening) front).ids id ≡ true = subst (λ (v : Outline). set.contains v.ids id ≡ true) at.told old in
    let on : set.contains (replay (replay (outline opening) front) more).ids id ≡ true = ids_replay (replay (outline opening) front) more id then' in
    let here : set.contains (outline now).ids id ≡ true = subst (λ (v : Outline). set.contains v.ids id ≡ true) (sym (later.told ∙ replay-append (outline opening) front more)) on in
    sym (contains-ids now.state.objects id) ∙ here

-- and its objects, up to two with one id
pub fronts_grow : (opening : RepositoryValue) (front more : List Entry) (before now : RepositoryValue) → IsStateOf opening front before → IsStateOf opening (front ++ more) now → IsAlike before.state.objects now.state.objects
    → Grows before.state.objects now.state.objects
fronts_grow opening front more before now at later alike = record {
  keeps = λ id o is.
      let other : (x : Stored) × (get now.state.objects id ≡ Some x) = value (get now.state.objects id) (stored_later opening front more before now id at later (ap is_some is)) in
      other.1 ∙ ap (λ (x : Stored). Some x) (sym (alike.same id o other.0 is other.1));
}

-- each object stood there before, or has its hash as its id
pub record Brought (before now : ObjectMap) : Type 0 where
  pub each : (id : ObjectId) (o : Stored) → get now id ≡ Some o → (get before id ≡ Some o) ⊎ IsNamed (id, o)

brought_more : (m n p : ObjectMap) → Brought m n → Brought n p → Brought m p
brought_more m n p a b = record { each = λ id o is. ⊎_elim (λ was. a.each id o was) (λ own. inr own) (b.each id o is) }

brought_self : (m : ObjectMap) → Brought m m
brought_self m = record { each = λ id o is. inl is }

pub effect_brought : (s : State) (event : Event) → IsNamedEvent event → Brought s.repository.state.objects (effect s event).repository.state.objects
effect_brought s Plan fit = brought_self s.repository.state.objects
effect_brought s Snapshot fit = brought_self s.repository.state.objects
effect_brought s (Take pass wants pack) fit = record {
  each = λ id o is. ⊎_elim (λ was. inl was) (λ new. inr (All-find IsNamed id o pack.objects (All-from_recursion IsNamed pack.objects fit) new)) (added_cases s.repository.state.objects pack.objects id o is);
}
effect_brought s (Commit pass edits committer) fit = brought_self s.repository.state.objects
effect_brought s (Delete pass names) fit = brought_self s.repository.state.objects

run_brought : (s : State) (events : List Event) → AllByRecursion IsNamedEvent events → Brought s.repository.state.objects (run s events).repository.state.objects
run_brought s [] fit = brought_self s.repository.state.objects
run_brought s (e ∷ es) fit =
    brought_more s.repository.state.objects (after s e).repository.state.objects (run (after s e) es).repository.state.objects
    (after_cases (λ t. Brought s.repository.state.objects t.repository.state.objects) s e (brought_self s.repository.state.objects) (λ ok. effect_brought s e fit.0)) (run_brought (after s e) es fit.1)

pub run_pinned : (s : State) (events : List Event) → AllByRecursion IsNamedEvent events → IsPinned s.repository.state.objects (run s events).repository.state.objects
run_pinned s events fit = record {
  kept = run_grows s events;
  named = λ id o none is. ⊎_elim (λ was. let no : None ≡ Some o = sym none ∙ was in absurd cc) (λ named. named) ((run_brought s events fit).each id o is);
}

-- a front leaves one repository
module _ (r q : RepositoryValue) (told : outline r ≡ outline q) (alike : IsAlike r.state.objects q.state.objects) where
  stored_too : (id : ObjectId) → is_some (get r.state.objects id) ≡ is_some (get q.state.objects id)
  stored_too id = sym (contains-ids r.state.objects id) ∙ ap (λ (v : Outline). set.contains v.ids id) told ∙ contains-ids q.state.objects id

  one_object : (id : ObjectId) (a b : Option Stored) → get r.state.objects id ≡ a → get q.state.objects id ≡ b → is_some a ≡ is_some b → a ≡ b
  one_object id None None at here same = refl
  one_object id None (Some o) at here same = absurd cc
  one_object id (Some o) None at here same = absurd cc
  one_object id (Some o) (Some p) at here same = ap (λ (x : Stored). Some x) (alike.same id o p at here)

  same_objects : r.state.objects ≡ q.state.objects
  same_objects = same_map id_cmp_total id_cmp_exact r.state.objects q.state.objects (λ id. one_object id (get r.state.objects id) (get q.state.objects id) refl refl (stored_too id))

  pub same_repository : r ≡ q
  same_repository =
      let objects = same_objects in
      λ i. record { state = record { hash = (told i).hash; objects = objects i; border = (told i).border; refs = (told i).refs }; setup = (told i).setup }

pub one_state : (opening : RepositoryValue) (front : List Entry) (r q : RepositoryValue) → IsStateOf opening front r → IsStateOf opening front q → IsAlike r.state.objects q.state.objects → r ≡ q
one_state opening front r q a b alike = same_repository r q (a.told ∙ sym b.told) alike
