-- What entries leave: the ids that were taken, the border, and the values that were written.
use Rattle.std.proofs.Common.{◌≡◌, ◌≢◌, ℕ, zero, suc, Bool, true, false, ◌||◌, ◌&&◌, List, [], ◌∷◌, Option, Some, None, refl, sym, ap, ◌∙◌, subst, inl, inr, ⊎_elim, Contains}
use Rattle.std.specs.Prelude.{◌⊎◌, slice_get, if◌then◌else◌, ⊤}
use Rattle.std.specs.FinMap as finmap
use Rattle.std.specs.FinSet as set
use Rattle.std.specs.Option.{option_or, option_flatten}
use Rattle.std.specs.Str.{bytes_eq}
use Rattle.std.proofs.lemmas.Slice.Eq.{bytes_eq-Decides}
use Rattle.fetch_store.specs.Borders.{IdSet, merged, set_of}
use Rattle.fetch_base.specs.declared.id.ObjectId.{ObjectId}
use Rattle.fetch_store.proofs.Borders.{named-Contains, Contains-named}
use Rattle.fetch_base.proofs.Ids.{id_cmp_total}
use Rattle.fetch_store.proofs.Members.{none_in}
use Rattle.fetch_refs.specs.Edits.{refs_after, written, written_in}
use Rattle.fetch_refs.specs.Laws.{last_that, left_by, mode_of, new_value, touches_reference, writes}
use Rattle.fetch_refs.specs.Names.{Names}
use Rattle.fetch_refs.specs.declared.edit.Change.{Change}
use Rattle.fetch_refs.specs.declared.edit.Change.TheVariants.{Update, Delete as Deletion}
use Rattle.fetch_refs.specs.declared.edit.RefEdit.{RefEdit}
use Rattle.fetch_refs.specs.declared.edit.RefLog.{RefLog}
use Rattle.fetch_refs.specs.declared.edit.RefLog.TheVariants.{AndReference, Only}
use Rattle.fetch_refs.specs.declared.target.Target.{Target}
use Rattle.fetch_refs.proofs.LastEdits.{last_edit}
use Rattle.fetch_serve.proofs.Needed.{merged_none}
use Rattle.fetch_journal.specs.Replays.{Outline, played, replay}
use Rattle.fetch_journal.specs.declared.entry.Entry.{Entry}
use Rattle.fetch_journal.specs.declared.entry.Entry.TheVariants.{Take, Commit, Delete}
use Rattle.fetch_update.specs.Writes.{gives}

-- ---- ids

-- the ids of a take
abbrev pub taken_ids : Entry → List ObjectId
taken_ids (Take pass ids shallow unshallow) = ids
taken_ids (Commit pass edits committer) = []
taken_ids (Delete pass names) = []

-- one of these entries took the id
pub record IsTaken (entries : List Entry) (id : ObjectId) : Type 0 where
  pub at : ℕ
  pub entry : Entry
  pub there : slice_get entries at ≡ Some entry
  pub among : Contains (taken_ids entry) id

either : (a b : Bool) → (a || b) ≡ true → (a ≡ true) ⊎ (b ≡ true)
either true b is = inl refl
either false b is = inr is

later : (e : Entry) (entries : List Entry) (id : ObjectId) → IsTaken entries id → IsTaken (e ∷ entries) id
later e entries id h = record { at = suc h.at; entry = h.entry; there = h.there; among = h.among }

or_right : (a b : Bool) → b ≡ true → (a || b) ≡ true
or_right true b is = refl
or_right false b is = is

or_left : (a b : Bool) → a ≡ true → (a || b) ≡ true
or_left true b is = refl
or_left false b is = absurd cc

-- an id of a take is there already, or it is one of the take's
union_of : (ids : IdSet) (more : List ObjectId) (id : ObjectId) → set.contains (set.union ids (set_of more)) id ≡ true → (set.contains ids id ≡ true) ⊎ Contains more id
union_of ids more id h =
    ⊎_elim
    (λ (old : set.contains ids id ≡ true). inl old)
    (λ (new : set.contains (set_of more) id ≡ true). inr (Contains-named id more (sym (set.contains-from_list id_cmp_total more id) ∙ new)))
    (either (set.contains ids id) (set.contains (set_of more) id) (sym (set.contains-union id_cmp_total ids (set_of more) id) ∙ h))

plays_id : (v : Outline) (e : Entry) (id : ObjectId) → set.contains (played v e).ids id ≡ true → (set.contains v.ids id ≡ true) ⊎ Contains (taken_ids e) id
plays_id v (Take pass ids shallow unshallow) id h = union_of v.ids ids id h
plays_id v (Commit pass edits committer) id h = inl h
plays_id v (Delete pass names) id h = inl h

-- what is there was there, or one of the entries took it
pub replays_id : (v : Outline) (entries : List Entry) (id : ObjectId) → set.contains (replay v entries).ids id ≡ true → (set.contains v.ids id ≡ true) ⊎ IsTaken entries id
replays_id v [] id h = inl h
replays_id v (e ∷ entries) id h =
    ⊎_elim
    (λ (before : set.contains (played v e).ids id ≡ true). ⊎_elim
    (λ (old : set.contains v.ids id ≡ true). inl old)
    (λ (here : Contains (taken_ids e) id). inr (record { at = 0; entry = e; there = refl; among = here }))
    (plays_id v e id before))
    (λ (more : IsTaken entries id). inr (later e entries id more))
    (replays_id (played v e) entries id h)

keeps_id : (v : Outline) (e : Entry) (id : ObjectId) → set.contains v.ids id ≡ true → set.contains (played v e).ids id ≡ true
keeps_id v (Take pass ids shallow unshallow) id h = set.contains-union id_cmp_total v.ids (set_of ids) id ∙ or_left (set.contains v.ids id) (set.contains (set_of ids) id) h
keeps_id v (Commit pass edits committer) id h = h
keeps_id v (Delete pass names) id h = h

still_there : (v : Outline) (entries : List Entry) (id : ObjectId) → set.contains v.ids id ≡ true → set.contains (replay v entries).ids id ≡ true
still_there v [] id h = h
still_there v (e ∷ entries) id h = still_there (played v e) entries id (keeps_id v e id h)

adds_id : (v : Outline) (e : Entry) (id : ObjectId) → Contains (taken_ids e) id → set.contains (played v e).ids id ≡ true
adds_id v (Take pass ids shallow unshallow) id h =
    set.contains-union id_cmp_total v.ids (set_of ids) id
    ∙ or_right (set.contains v.ids id) (set.contains (set_of ids) id) (set.contains-from_list id_cmp_total ids id ∙ named-Contains id ids h)
adds_id v (Commit pass edits committer) id h = absurd (none_in id h)
adds_id v (Delete pass names) id h = absurd (none_in id h)

-- what an entry took is there
pub taken_there : (v : Outline) (entries : List Entry) (at : ℕ) (e : Entry) (id : ObjectId) → slice_get entries at ≡ Some e → Contains (taken_ids e) id → set.contains (replay v entries).ids id ≡ true
taken_there v [] at e id there among = absurd cc
taken_there v (x ∷ entries) zero e id there among = let same : x ≡ e = cc in still_there (played v x) entries id (adds_id v x id (subst (λ (y : Entry). Contains (taken_ids y) id) (sym same) among))
taken_there v (x ∷ entries) (suc at) e id there among = taken_there (played v x) entries at e id there among

-- ---- the border

-- a take without a change of the border
abbrev pub HasNoLines : Entry → Type 0
HasNoLines (Take pass ids shallow unshallow) = (shallow ≡ []) × (unshallow ≡ [])
HasNoLines (Commit pass edits committer) = ⊤
HasNoLines (Delete pass names) = ⊤

plays_border : (v : Outline) (e : Entry) → v.border ≡ set.empty → HasNoLines e → (played v e).border ≡ set.empty
plays_border v (Take pass ids shallow unshallow) none h =
    ap (λ (b : IdSet). merged b shallow unshallow) none ∙ ap (λ (l : List ObjectId). merged set.empty l unshallow) h.0
    ∙ ap (λ (l : List ObjectId). merged set.empty [] l) h.1 ∙ merged_none set.empty
plays_border v (Commit pass edits committer) none h = none
plays_border v (Delete pass names) none h = none

-- an empty border stays so
pub replays_border : (v : Outline) (entries : List Entry) → v.border ≡ set.empty → ((i : ℕ) (e : Entry) → slice_get entries i ≡ Some e → HasNoLines e) → (replay v entries).border ≡ set.empty
replays_border v [] none h = none
replays_border v (e ∷ entries) none h = replays_border (played v e) entries (plays_border v e none (h 0 e refl)) (λ i x at. h (suc i) x at)

-- ---- references

-- each edit on the name gives it this value
abbrev pub AllGive : List ℕ → Target → List RefEdit → Type 0
AllGive name value edits = (i : ℕ) (e : RefEdit) → slice_get edits i ≡ Some e → name ≡ e.name → gives e ≡ Some value

-- an edit is on the name
pub record IsEdited (name : List ℕ) (edits : List RefEdit) : Type 0 where
  pub at : ℕ
  pub edit : RefEdit
  pub there : slice_get edits at ≡ Some edit
  pub named : name ≡ edit.name

-- a change that gives a value is of the reference too, and leaves the value
gives_in : (mode : RefLog) (left : Option Target) (value : Target) → option_flatten (written_in mode left) ≡ Some value → (touches_reference mode ≡ true) × (left ≡ Some value)
gives_in AndReference left value is = (refl, is)
gives_in Only left value is = absurd cc

gives_by : (c : Change) (value : Target) → option_flatten (written c) ≡ Some value → (touches_reference (mode_of c) ≡ true) × (new_value c ≡ Some value)
gives_by (Update log expected new) value is = gives_in log.mode (Some new) value is
gives_by (Deletion expected log) value is = gives_in log None value is

-- the last edit on the name, if there is one, leaves the value
abbrev Leaves : List ℕ → Target → List RefEdit → Type 0
Leaves name value edits = (last_that (writes name) edits ≡ None) ⊎ ((e : RefEdit) × (last_that (writes name) edits ≡ Some e) × (new_value e.change ≡ Some value))

both_true : (a b : Bool) → (a && b) ≡ true → (a ≡ true) × (b ≡ true)
both_true true b is = (refl, is)
both_true false b is = absurd cc

leaves : (name : List ℕ) (value : Target) (edits : List RefEdit) → AllGive name value edits → Leaves name value edits
leaves name value [] all = inl refl
leaves name value (e ∷ es) all =
    ⊎_elim
    (λ (none : last_that (writes name) es ≡ None). first none (writes name e) refl)
    (λ (some : (x : RefEdit) × (last_that (writes name) es ≡ Some x) × (new_value x.change ≡ Some value)).
    inr (some.0, ap (λ (o : Option RefEdit). option_or o (if writes name e then Some e else None)) some.1, some.2))
    (leaves name value es (λ i x at. all (suc i) x at))
  where
    first : last_that (writes name) es ≡ None → (b : Bool) → writes name e ≡ b → Leaves name value (e ∷ es)
    first none false is = inl (ap (λ (o : Option RefEdit). option_or o (if writes name e then Some e else None)) none ∙ ap (λ (b : Bool). if b then Some e else None) is)
    first none true is =
        let named = (bytes_eq-Decides name e.name).0 (both_true (bytes_eq name e.name) (touches_reference (mode_of e.change)) is).0 in
        inr (e, ap (λ (o : Option RefEdit). option_or o (if writes name e then Some e else None)) none ∙ ap (λ (b : Bool). if b then Some e else None) is, (gives_by e.change value (all 0 e refl named)).1)

-- an edit on the name is the last one that writes it, or another is
not_none : (o : Option RefEdit) (e : RefEdit) → option_or o (Some e) ≢ None
not_none None e is = absurd cc
not_none (Some x) e is = absurd cc

later_not_none : (o p : Option RefEdit) → o ≢ None → option_or o p ≢ None
later_not_none None p some is = some refl
later_not_none (Some x) p some is = absurd cc

some_writes : (name : List ℕ) (value : Target) (edits : List RefEdit) (at : ℕ) (e : RefEdit) → AllGive name value edits → slice_get edits at ≡ Some e → name ≡ e.name → last_that (writes name) edits ≢ None
some_writes name value [] at e all there named = absurd cc
some_writes name value (x ∷ es) zero e all there named =
    let same : x ≡ e = cc in
    let here : name ≡ x.name = named ∙ ap (λ (y : RefEdit). y.name) (sym same) in
    let writes_it : writes name x ≡ true = ap (λ (b : Bool). b && touches_reference (mode_of x.change)) ((bytes_eq-Decides name x.name).1 here) ∙ (gives_by x.change value (all 0 x refl here)).0 in
    λ none. not_none (last_that (writes name) es) x (sym (ap (λ (b : Bool). option_or (last_that (writes name) es) (if b then Some x else None)) writes_it) ∙ none)
some_writes name value (x ∷ es) (suc at) e all there named =
    later_not_none (last_that (writes name) es) (if writes name x then Some x else None) (some_writes name value es at e (λ i y is. all (suc i) y is) there named)

-- of a commit, each edit on the name gives it this value
abbrev pub EntryGives : List ℕ → Target → Entry → Type 0
EntryGives name value (Take pass ids shallow unshallow) = ⊤
EntryGives name value (Commit pass edits committer) = AllGive name value edits
EntryGives name value (Delete pass names) = ⊥

-- a commit has an edit on the name
abbrev pub IsWriting : List ℕ → Entry → Type 0
IsWriting name (Take pass ids shallow unshallow) = ⊥
IsWriting name (Commit pass edits committer) = IsEdited name edits
IsWriting name (Delete pass names) = ⊥

-- the edits leave the value, where it stands before
edits_leave : (names : Names) (edits : List RefEdit) (name : List ℕ) (value : Target) → AllGive name value edits → finmap.get names name ≡ Some value → finmap.get (refs_after names edits) name ≡ Some value
edits_leave names edits name value all stands =
    ⊎_elim
    (λ (none : last_that (writes name) edits ≡ None). last_edit names edits name ∙ ap (left_by (finmap.get names name)) none ∙ stands)
    (λ (some : (e : RefEdit) × (last_that (writes name) edits ≡ Some e) × (new_value e.change ≡ Some value)). last_edit names edits name ∙ ap (left_by (finmap.get names name)) some.1 ∙ some.2)
    (leaves name value edits all)

-- or where one is on the name
edits_write : (names : Names) (edits : List RefEdit) (name : List ℕ) (value : Target) → AllGive name value edits → IsEdited name edits → finmap.get (refs_after names edits) name ≡ Some value
edits_write names edits name value all h =
    ⊎_elim
    (λ (none : last_that (writes name) edits ≡ None). absurd (some_writes name value edits h.at h.edit all h.there h.named none))
    (λ (some : (e : RefEdit) × (last_that (writes name) edits ≡ Some e) × (new_value e.change ≡ Some value)). last_edit names edits name ∙ ap (left_by (finmap.get names name)) some.1 ∙ some.2)
    (leaves name value edits all)

plays_value : (v : Outline) (name : List ℕ) (value : Target) (e : Entry) → EntryGives name value e → finmap.get v.refs.names name ≡ Some value → finmap.get (played v e).refs.names name ≡ Some value
plays_value v name value (Take pass ids shallow unshallow) all stands = stands
plays_value v name value (Commit pass edits committer) all stands = edits_leave v.refs.names edits name value all stands
plays_value v name value (Delete pass names) all stands = absurd all

keeps_value : (v : Outline) (name : List ℕ) (value : Target) (entries : List Entry) → ((i : ℕ) (e : Entry) → slice_get entries i ≡ Some e → EntryGives name value e) → finmap.get v.refs.names name ≡ Some value
    → finmap.get (replay v entries).refs.names name ≡ Some value
keeps_value v name value [] all stands = stands
keeps_value v name value (e ∷ es) all stands = keeps_value (played v e) name value es (λ i x at. all (suc i) x at) (plays_value v name value e (all 0 e refl) stands)

writes_value : (v : Outline) (name : List ℕ) (value : Target) (e : Entry) → EntryGives name value e → IsWriting name e → finmap.get (played v e).refs.names name ≡ Some value
writes_value v name value (Take pass ids shallow unshallow) all h = absurd h
writes_value v name value (Commit pass edits committer) all h = edits_write v.refs.names edits name value all h
writes_value v name value (Delete pass names) all h = absurd h

-- Where each edit on a name gives it one value, and some edit is on it, it has the value.
pub replays_value : (v : Outline) (name : List ℕ) (value : Target) (entries : List Entry) (at : ℕ) (entry : Entry) → ((i : ℕ) (e : Entry) → slice_get entries i ≡ Some e → EntryGives name value e)
    → slice_get entries at ≡ Some entry → IsWriting name entry → finmap.get (replay v entries).refs.names name ≡ Some value
replays_value v name value [] at entry all there h = absurd cc
replays_value v name value (e ∷ es) zero entry all there h =
    let same : e ≡ entry = cc in
    keeps_value (played v e) name value es (λ i x is. all (suc i) x is) (writes_value v name value e (all 0 e refl) (subst (IsWriting name) (sym same) h))
replays_value v name value (e ∷ es) (suc at) entry all there h = replays_value (played v e) name value es at entry (λ i x is. all (suc i) x is) there h
