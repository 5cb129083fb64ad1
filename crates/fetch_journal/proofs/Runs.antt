-- What every list of events keeps.
use Rattle.std.proofs.Common.{◌≡◌, List, [], ◌∷◌, ◌++◌, true, Option, None, Some, is_some, refl, sym, ap, ◌∙◌, append_assoc, append-nil}
use Rattle.std.specs.Prelude.{if◌then◌else◌}
use Rattle.std.specs.List.{AllByRecursion}
use Rattle.fetch_store.specs.Closed.{Grows, IsClosed, AreAllOf}
use Rattle.fetch_store.specs.Stores.{ObjectMap, Entries, AreOf, add_all}
use Rattle.fetch_base.specs.declared.id.Kind.{Kind}
use Rattle.fetch_store.proofs.Growth.{grows_self, grows_trans, grows-add_all, added_cases}
use Rattle.fetch_store.proofs.Lists.{All-find, All-of}
use Rattle.fetch_store.proofs.Whole.{whole_closed, none_connects}
use Rattle.fetch_journal.specs.declared.entry.Entry.{Entry}
use Rattle.fetch_journal.specs.declared.error.SharedError.{SharedError}
use Rattle.fetch_journal.specs.Machine.{State, Event, held, refusal, effect, after, run}
use Rattle.fetch_journal.specs.Machine.Event.{Plan, Snapshot, Take, Commit, Delete}
use Rattle.fetch_journal.specs.Fronts.{IsEventOf}
use Rattle.fetch_journal.proofs.Refusals.{allowed_take}
use Rattle.std.proofs.Common.{⊎_elim}

-- an event changes nothing, or it is allowed
pub after_cases : (P : State → Type 0) (s : State) (event : Event) → P s → (refusal s event ≡ None → P (effect s event)) → P (after s event)
after_cases P s event same else' = by_value (refusal s event) refl
  where
    by_value : (x : Option SharedError) → refusal s event ≡ x → P (if is_some x then s else effect s event)
    by_value None is = else' is
    by_value (Some r) is = same

pub after_allowed : (s : State) (event : Event) → refusal s event ≡ None → after s event ≡ effect s event
after_allowed s event ok = ap (λ (x : Option SharedError). if is_some x then s else effect s event) ok

pub after_refused : (s : State) (event : Event) → is_some (refusal s event) ≡ true → after s event ≡ s
after_refused s event is = ap (λ b. if b then s else effect s event) is

-- closed
pub effect_closed : (s : State) (event : Event) → IsClosed (held s.repository) → refusal s event ≡ None → IsClosed (held (effect s event).repository)
effect_closed s Plan closed ok = closed
effect_closed s Snapshot closed ok = closed
effect_closed s (Take pass wants pack) closed ok = whole_closed (held s.repository) pack closed (none_connects (held s.repository) wants pack (allowed_take (held s.repository) wants pack ok).1)
effect_closed s (Commit pass edits committer) closed ok = closed
effect_closed s (Delete pass names) closed ok = closed

pub after_closed : (s : State) (event : Event) → IsClosed (held s.repository) → IsClosed (held (after s event).repository)
after_closed s event closed = after_cases (λ t. IsClosed (held t.repository)) s event closed (λ ok. effect_closed s event closed ok)

pub run_closed : (s : State) (events : List Event) → IsClosed (held s.repository) → IsClosed (held (run s events).repository)
run_closed s [] closed = closed
run_closed s (e ∷ es) closed = run_closed (after s e) es (after_closed s e closed)

-- the objects grow
pub effect_grows : (s : State) (event : Event) → Grows s.repository.state.objects (effect s event).repository.state.objects
effect_grows s Plan = grows_self s.repository.state.objects
effect_grows s Snapshot = grows_self s.repository.state.objects
effect_grows s (Take pass wants pack) = grows-add_all s.repository.state.objects pack.objects
effect_grows s (Commit pass edits committer) = grows_self s.repository.state.objects
effect_grows s (Delete pass names) = grows_self s.repository.state.objects

pub after_grows : (s : State) (event : Event) → Grows s.repository.state.objects (after s event).repository.state.objects
after_grows s event = after_cases (λ t. Grows s.repository.state.objects t.repository.state.objects) s event (grows_self s.repository.state.objects) (λ ok. effect_grows s event)

pub run_grows : (s : State) (events : List Event) → Grows s.repository.state.objects (run s events).repository.state.objects
run_grows s [] = grows_self s.repository.state.objects
run_grows s (e ∷ es) = grows_trans s.repository.state.objects (after s e).repository.state.objects (run (after s e) es).repository.state.objects (after_grows s e) (run_grows (after s e) es)

-- the hash stays
pub effect_hash : (s : State) (event : Event) → (effect s event).repository.state.hash ≡ s.repository.state.hash
effect_hash s Plan = refl
effect_hash s Snapshot = refl
effect_hash s (Take pass wants pack) = refl
effect_hash s (Commit pass edits committer) = refl
effect_hash s (Delete pass names) = refl

pub after_hash : (s : State) (event : Event) → (after s event).repository.state.hash ≡ s.repository.state.hash
after_hash s event = after_cases (λ t. t.repository.state.hash ≡ s.repository.state.hash) s event refl (λ ok. effect_hash s event)

pub run_hash : (s : State) (events : List Event) → (run s events).repository.state.hash ≡ s.repository.state.hash
run_hash s [] = refl
run_hash s (e ∷ es) = run_hash (after s e) es ∙ after_hash s e

-- and so does the setup
pub effect_setup : (s : State) (event : Event) → (effect s event).repository.setup ≡ s.repository.setup
effect_setup s Plan = refl
effect_setup s Snapshot = refl
effect_setup s (Take pass wants pack) = refl
effect_setup s (Commit pass edits committer) = refl
effect_setup s (Delete pass names) = refl

pub run_setup : (s : State) (events : List Event) → (run s events).repository.setup ≡ s.repository.setup
run_setup s [] = refl
run_setup s (e ∷ es) = run_setup (after s e) es ∙ after_cases (λ t. t.repository.setup ≡ s.repository.setup) s e refl (λ ok. effect_setup s e)

-- and the objects are of that hash
of_added : (hash : Kind) (m : ObjectMap) (es : Entries) → AreAllOf hash m → AreOf hash es → AreAllOf hash (add_all m es)
of_added hash m es old new = record {
  each = λ id o is. ⊎_elim (λ was. old.each id o was) (λ brought. All-find (λ e. e.1.hash ≡ hash) id o es (All-of hash es new) brought) (added_cases m es id o is);
}

pub effect_of : (hash : Kind) (s : State) (event : Event) → IsEventOf hash event → AreAllOf hash s.repository.state.objects → AreAllOf hash (effect s event).repository.state.objects
effect_of hash s Plan fit of = of
effect_of hash s Snapshot fit of = of
effect_of hash s (Take pass wants pack) fit of = of_added hash s.repository.state.objects pack.objects of fit
effect_of hash s (Commit pass edits committer) fit of = of
effect_of hash s (Delete pass names) fit of = of

pub after_of : (hash : Kind) (s : State) (event : Event) → IsEventOf hash event → AreAllOf hash s.repository.state.objects → AreAllOf hash (after s event).repository.state.objects
after_of hash s event fit of = after_cases (λ t. AreAllOf hash t.repository.state.objects) s event of (λ ok. effect_of hash s event fit of)

pub run_of : (hash : Kind) (s : State) (events : List Event) → AllByRecursion (IsEventOf hash) events → AreAllOf hash s.repository.state.objects → AreAllOf hash (run s events).repository.state.objects
run_of hash s [] fit of = of
run_of hash s (e ∷ es) fit of = run_of hash (after s e) es fit.1 (after_of hash s e fit.0 of)

-- the journal gets longer
effect_journal : (s : State) (event : Event) → (more : List Entry) × ((effect s event).journal ≡ s.journal ++ more)
effect_journal s Plan = ([], sym (append-nil s.journal))
effect_journal s Snapshot = ([], sym (append-nil s.journal))
effect_journal s (Take pass wants pack) = (_, refl)
effect_journal s (Commit pass edits committer) = (_, refl)
effect_journal s (Delete pass names) = (_, refl)

pub run_journal : (s : State) (events : List Event) → (more : List Entry) × ((run s events).journal ≡ s.journal ++ more)
run_journal s [] = ([], sym (append-nil s.journal))
run_journal s (e ∷ es) =
    let first : (more : List Entry) × ((after s e).journal ≡ s.journal ++ more) =
    after_cases (λ t. (more : List Entry) × (t.journal ≡ s.journal ++ more)) s e ([], sym (append-nil s.journal)) (λ ok. effect_journal s e) in
    let rest = run_journal (after s e) es in
    (first.0 ++ rest.0, rest.1 ∙ ap (λ l. l ++ rest.0) first.1 ∙ append_assoc s.journal first.0 rest.0)

pub run-append : (s : State) (xs ys : List Event) → run s (xs ++ ys) ≡ run (run s xs) ys
run-append s [] ys = refl
run-append s (x ∷ xs) ys = run-append (after s x) xs ys

pub split : {X : Type 0} (P : X → Type 0) (xs ys : List X) → AllByRecursion P (xs ++ ys) → AllByRecursion P xs × AllByRecursion P ys
split P [] ys all = (tt, all)
split P (x ∷ xs) ys all = let rest = split P xs ys all.1 in ((all.0, rest.0), rest.1)
