-- What the packs of a mirror's wants hold, and the entries of one worker.
use Rattle.std.proofs.Common.{◌≡◌, ℕ, zero, suc, true, List, [], ◌∷◌, ◌++◌, map, Option, Some, None, refl, sym, ap, ◌∙◌, subst, inl, inr, ⊎_elim, All, Contains}
use Rattle.std.specs.Prelude.{◌⊎◌, IsTrue, is_some, option_map, slice_get}
use Rattle.std.specs.FinMap as finmap
use Rattle.std.specs.FinSet as set
use Rattle.std.proofs.lemmas.List.Elements.{All-cons, All-nil}
use Rattle.fetch_store.specs.Closed.{Holding, IsStored, IsWalk, Reached, holding}
use Rattle.fetch_objects.specs.Objects.{Stored}
use Rattle.fetch_store.specs.Stores.{Entries, ObjectMap}
use Rattle.fetch_base.specs.declared.id.ObjectId.{ObjectId}
use Rattle.fetch_store.proofs.Honesty.{reached_stored}
use Rattle.fetch_store.proofs.Members.{none_in}
use Rattle.fetch_refs.specs.declared.edit.RefEdit.{RefEdit}
use Rattle.fetch_refs.specs.declared.log.Signature.{Signature}
use Rattle.fetch_reach.specs.Stored.{entry_at}
use Rattle.fetch_conversation.specs.declared.conversing.Received.{Received}
use Rattle.fetch_journal.specs.declared.entry.Entry.{Entry}
use Rattle.fetch_journal.specs.declared.entry.Entry.TheVariants.{Take, Commit}
use Rattle.fetch_shared.specs.PackTaken.{take_entries}
use Rattle.fetch_asked.specs.declared.asked.FetchAsked.{FetchAsked}
use Rattle.fetch_serve.specs.Depths.{depth_of}
use Rattle.fetch_serve.specs.Packs.{IsNeeded, IsTagOnTheWay, pack_of, served_of}
use Rattle.fetch_serve.specs.Servable.{IsServable}
use Rattle.fetch_serve.specs.Served.{Data}
use Rattle.fetch_serve.proofs.Lists.{from_one}
use Rattle.fetch_serve.proofs.Needed.{is_served, needed_none, served_is}
use Rattle.fetch_mirror.specs.Fetches.{wanting_all, wanting_behind}
use Rattle.fetch_mirror.proofs.MappedOwn.{kept_in}
use Rattle.fetch_mirror.proofs.Places.{at_contains, contains_at, mapped_at, unmapped}
use Rattle.fetch_mirror.proofs.WorkerTold.{IsReceivedBehind, IsReceivedOf}

-- ---- packs

-- the ids of these entries
abbrev pub ids_in : Entries → List ObjectId
ids_in es = map (λ e. e.0) es

pub entry_id : (objects : ObjectMap) (id : ObjectId) (e : ObjectId × Stored) → entry_at objects id ≡ Some e → e.0 ≡ id
entry_id objects id e is = by (finmap.get objects id) is
  where
    by : (o : Option Stored) → option_map (λ o. (id, o)) o ≡ Some e → e.0 ≡ id
    by None is = absurd cc
    by (Some o) is = let same : (id, o) ≡ e = cc in ap (λ (x : ObjectId × Stored). x.0) (sym same)

pub served_in : (d : Data) (r : FetchAsked) (id : ObjectId) → Contains (ids_in (pack_of d r).objects) id → Contains (served_of d r) id
served_in d r id h =
    let at = at_contains (ids_in (pack_of d r).objects) id h in
    let u = unmapped (λ (e : ObjectId × Stored). e.0) (pack_of d r).objects at.0 id at.1 in
    let f = from_one (entry_at d.objects) u.0 (served_of d r) (contains_at (pack_of d r).objects at.0 u.0 u.1) in
    subst (Contains (served_of d r)) (sym (entry_id d.objects f.0 u.0 f.2) ∙ u.2) f.1

pub in_served : (d : Data) (r : FetchAsked) (id : ObjectId) → IsStored d.objects id → Contains (served_of d r) id → Contains (ids_in (pack_of d r).objects) id
in_served d r id stored h = by (finmap.get d.objects id) refl stored
  where
    by : (o : Option Stored) → finmap.get d.objects id ≡ o → is_some o ≡ true → Contains (ids_in (pack_of d r).objects) id
    by None is some = absurd cc
    by (Some o) is some =
        let among = kept_in (entry_at d.objects) (served_of d r) id (id, o) h (ap (option_map (λ (x : Stored). (id, x))) is) in
        let at = at_contains (pack_of d r).objects (id, o) among in
        contains_at (ids_in (pack_of d r).objects) at.0 id (mapped_at (λ (e : ObjectId × Stored). e.0) (pack_of d r).objects at.0 (id, o) at.1)

-- The pack for a mirror's wants has what they reach, and nothing else.
abbrev pub whole : Data → Holding
whole d = holding d.objects set.empty

pub nothing_reached : (h : Holding) (id : ObjectId) → Reached h [] id → ⊥
nothing_reached h id r = none_in r.start r.among

pub pack_reached : (d : Data) (wants : List ObjectId) (id : ObjectId) → IsServable d → Contains (ids_in (pack_of d (wanting_all wants)).objects) id → Reached (whole d) wants id
pack_reached d wants id servable h =
    let r = wanting_all wants in
    ⊎_elim
    (λ (needed : IsNeeded d r (depth_of d r) id). ((needed_none d r set.empty wants [] refl refl refl id).1 needed).0)
    (λ (tagged : IsTrue r.include_tag × IsTagOnTheWay d r (depth_of d r) id). let no = tagged.0 in absurd cc)
    (served_is d r (depth_of d r) id (served_in d r id h))

pub reached_packed : (d : Data) (wants : List ObjectId) (id : ObjectId) → IsServable d → Reached (whole d) wants id → Contains (ids_in (pack_of d (wanting_all wants)).objects) id
reached_packed d wants id servable r =
    let asked = wanting_all wants in
    in_served d asked id (reached_stored (whole d) wants id r)
    (is_served d asked (depth_of d asked) id servable (inl ((needed_none d asked set.empty wants [] refl refl refl id).0 (r, λ held. nothing_reached (whole d) id held))))

-- a walk starts where something is stored
pub walk_starts : (h : Holding) (from : ObjectId) (rest : List ObjectId) (to : ObjectId) → IsWalk h from rest to → IsStored h.objects from
walk_starts h from [] to w = w.0
walk_starts h from (next ∷ rest) to w = ap (λ (o : Option Stored). is_some o) w.1

pub one_all : (P : ObjectId → Type 0) (x : ObjectId) → P x → All P (x ∷ [])
one_all P x is = All-cons P x [] is (All-nil P)

-- ---- the entries of one worker

-- what stands among one take or none and a commit
pub entry_cases : (n : ℕ) (r : Option Received) (edits : List RefEdit) (committer : Signature) (j : ℕ) (e : Entry) → slice_get (take_entries n r ++ Commit n edits committer ∷ []) j ≡ Some e
    → ((x : Received) × (r ≡ Some x) × (e ≡ Take n (ids_in x.objects) x.shallow x.unshallow)) ⊎ (e ≡ Commit n edits committer)
entry_cases n None edits committer zero e at = let same : Commit n edits committer ≡ e = cc in inr (sym same)
entry_cases n None edits committer (suc j) e at = absurd cc
entry_cases n (Some x) edits committer zero e at = let same : Take n (ids_in x.objects) x.shallow x.unshallow ≡ e = cc in inl (x, refl, sym same)
entry_cases n (Some x) edits committer (suc zero) e at = let same : Commit n edits committer ≡ e = cc in inr (sym same)
entry_cases n (Some x) edits committer (suc (suc j)) e at = absurd cc

pub commit_at : (n : ℕ) (r : Option Received) (edits : List RefEdit) (committer : Signature) → (j : ℕ) × (slice_get (take_entries n r ++ Commit n edits committer ∷ []) j ≡ Some (Commit n edits committer))
commit_at n None edits committer = (0, refl)
commit_at n (Some x) edits committer = (1, refl)

pub take_at : (n : ℕ) (r : Option Received) (x : Received) (edits : List RefEdit) (committer : Signature) → r ≡ Some x
    → (j : ℕ) × (slice_get (take_entries n r ++ Commit n edits committer ∷ []) j ≡ Some (Take n (ids_in x.objects) x.shallow x.unshallow))
take_at n None x edits committer is = absurd cc
take_at n (Some y) x edits committer is = let same : y ≡ x = cc in (0, ap (λ (z : Received). Some (Take n (ids_in z.objects) z.shallow z.unshallow)) same)

-- what was received is the pack of some wants, or nothing
pub received_is : (d : Data) (border wants : List ObjectId) (r : Option Received) (x : Received) → IsReceivedBehind d border wants r → r ≡ Some x
    → (ids_in x.objects ≡ ids_in (pack_of d (wanting_behind border wants)).objects) × (x.shallow ≡ []) × (x.unshallow ≡ [])
received_is d border [] r x h is = let none = sym h ∙ is in absurd cc
received_is d border (id ∷ wants) r x h is =
    let same : h.0 ≡ x = (let both : Some h.0 ≡ Some x = sym h.1 ∙ is in cc) in (
      ap (λ (y : Received). ids_in y.objects) (sym same) ∙ ap ids_in h.2,
      ap (λ (y : Received). y.shallow) (sym same) ∙ h.3,
      ap (λ (y : Received). y.unshallow) (sym same) ∙ h.4,
    )

-- where something is wanted, something was received
pub wanted_received : (d : Data) (wants : List ObjectId) (r : Option Received) (id : ObjectId) → IsReceivedOf d wants r → Contains wants id → (x : Received) × (r ≡ Some x)
wanted_received d [] r id h among = absurd (none_in id among)
wanted_received d (want ∷ wants) r id h among = (h.0, h.1)
