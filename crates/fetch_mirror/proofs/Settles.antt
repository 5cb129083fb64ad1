-- Why a worker that was told all isn't refused: nothing of its pack is missing, and none of its mappings is refused.
use Rattle.std.proofs.Common.{◌≡◌, ℕ, Bool, true, false, List, [], map, get_or, Option, Some, None, refl, sym, ap, ◌∙◌, subst, inl, All, Contains}
use Rattle.std.specs.Prelude.{IsTrue, is_some, option_map, if◌then◌else◌}
use Rattle.std.specs.FinMap as finmap
use Rattle.std.specs.FinSet as set
use Rattle.std.proofs.lemmas.List.Elements.{Contains-get_or}
use Rattle.fetch_store.specs.Closed.{Holding, IsStored, Reached, links, others}
use Rattle.fetch_store.specs.Missing.{missing}
use Rattle.fetch_objects.specs.Objects.{Stored}
use Rattle.fetch_store.specs.Stores.{Entries}
use Rattle.fetch_base.specs.Id.{id_cmp}
use Rattle.fetch_base.specs.declared.id.ObjectId.{ObjectId}
use Rattle.fetch_store.proofs.Honesty.{reached_stored}
use Rattle.fetch_store.proofs.Reaching.{All-Contains, reached_closed, reached_start}
use Rattle.fetch_reach.specs.Stored.{entry_at}
use Rattle.fetch_reach.specs.Whole.{Has, IsWhole, without_lines}
use Rattle.fetch_reach.proofs.Leaving.{nothing_missing}
use Rattle.fetch_refs.specs.declared.target.Target.{Target}
use Rattle.fetch_refs.specs.declared.target.Target.TheVariants.{Object}
use Rattle.fetch_specs.specs.Names.{is_full_name}
use Rattle.fetch_update.specs.Policy.{Policy, value_of}
use Rattle.fetch_update.specs.Refusing.{Refuses}
use Rattle.fetch_update.specs.declared.update.Error.{Error}
use Rattle.fetch_update.specs.declared.update.Error.TheVariants as errors
use Rattle.fetch_map.specs.declared.mapping.Mapping.{Mapping}
use Rattle.fetch_serve.specs.Depths.{depth_of}
use Rattle.fetch_serve.specs.Packs.{pack_of, served_of}
use Rattle.fetch_serve.specs.Servable.{IsServable}
use Rattle.fetch_serve.specs.Served.{Data}
use Rattle.fetch_serve.proofs.Honest.{entry_found}
use Rattle.fetch_serve.proofs.Lists.{from_one}
use Rattle.fetch_serve.proofs.Needed.{is_served, needed_none}
use Rattle.fetch_mirror.specs.Fetches.{wanting_all}
use Rattle.fetch_mirror.proofs.PackIds.{nothing_reached, pack_reached, whole}
use Rattle.fetch_mirror.proofs.Places.{at_contains, contains_at, mapped_at}

-- ---- mappings

no_other : (name other : List ℕ) (o : Option (List ℕ)) → o ≡ Some name → o ≡ Some other → name ≡ other
no_other name other o is is' = cc

-- what stands at a name that is absent
nothing_there : (p : Policy) (m : Mapping) (name other : List ℕ) (found : Target) → m.local ≡ Some name → finmap.get p.names name ≡ None → m.local ≡ Some other → finmap.get p.names other ≡ Some found → ⊥
nothing_there p m name other found local absent local' there =
    let same = no_other name other m.local local local' in
    let both : None ≡ Some found = sym absent ∙ ap (finmap.get p.names) same ∙ there in
    absurd cc

pub new_unrefused : (p : Policy) (m : Mapping) (name : List ℕ) (id : ObjectId) (e : Error) → m.local ≡ Some name → IsTrue (is_full_name name) → value_of m.remote ≡ Object id → finmap.get p.names name ≡ None → Refuses p m e → ⊥
new_unrefused p m name id (errors.FindReference text) local full value absent h =
    let same = no_other name text m.local local h.1.destination in
    let both : true ≡ false = sym full ∙ ap is_full_name same ∙ h.1.invalid in
    absurd cc
new_unrefused p m name id (errors.InvalidRefName text) local full value absent h = let both = sym value ∙ h.remote in absurd cc
new_unrefused p m name id (errors.FindCommit other) local full value absent h =
    nothing_there p m name h.1.name h.1.ids.found local absent h.1.ids.stands.destination h.1.ids.stands.there
new_unrefused p m name id (errors.PeelToId other cause) local full value absent h =
    nothing_there p m name other h.1.found local absent h.1.stands.destination h.1.stands.there
new_unrefused p m name id errors.WorktreeListing local full value absent h = h
new_unrefused p m name id errors.OpenWorktreeRepo local full value absent h = h
new_unrefused p m name id errors.FollowSymref local full value absent h = h
new_unrefused p m name id errors.NoMemory local full value absent h = h

-- ---- a pack

module _ (d : Data) (servable : IsServable d) (wants : List ObjectId) where
  abbrev es : Entries
  es = (pack_of d (wanting_all wants)).objects

  -- what is reached stands in the pack
  has : (id : ObjectId) → Reached (whole d) wants id → Has es id
  has id r = by (finmap.get d.objects id) refl (reached_stored (whole d) wants id r)
    where
      among : Contains (served_of d (wanting_all wants)) id
      among = is_served d (wanting_all wants) (depth_of d (wanting_all wants)) id servable (inl ((needed_none d (wanting_all wants) set.empty wants [] refl refl refl id).0 (r, λ held. nothing_reached (whole d) id held)))

      by : (o : Option Stored) → finmap.get d.objects id ≡ o → is_some o ≡ true → Has es id
      by None is some = absurd cc
      by (Some o) is some = ap (λ (x : Option Stored). is_some x) (entry_found d.objects id (served_of d (wanting_all wants)) o is among)

  -- each of its objects is the server's
  pub stands : (e : ObjectId × Stored) → Contains es e → finmap.get d.objects e.0 ≡ Some e.1
  stands e among =
      let f = from_one (entry_at d.objects) e (served_of d (wanting_all wants)) among in by f.0 (finmap.get d.objects f.0) refl f.2
    where
      by : (id : ObjectId) (o : Option Stored) → finmap.get d.objects id ≡ o → option_map (λ x. (id, x)) o ≡ Some e → finmap.get d.objects e.0 ≡ Some e.1
      by id None is made = absurd cc
      by id (Some o) is made =
          let same : (id, o) ≡ e = cc in
          ap (λ (x : ObjectId × Stored). finmap.get d.objects x.0) (sym same) ∙ is ∙ ap (λ (x : ObjectId × Stored). Some x.1) same

  reached_in : (e : ObjectId × Stored) → Contains es e → Reached (whole d) wants e.0
  reached_in e among =
      let at = at_contains es e among in
      pack_reached d wants e.0 servable (contains_at (map (λ e. e.0) es) at.0 e.0 (mapped_at (λ (x : ObjectId × Stored). x.0) es at.0 e at.1))

  linked : (e : ObjectId × Stored) → Contains es e → (to : ObjectId) → Contains (links e.1) to → Has es to
  linked e among to link =
      has to
      (reached_closed (whole d) wants e.0 to e.1 servable.closed (stands e among)
      (subst (λ (b : Bool). Contains (if b then others e.1 else links e.1) to) (sym (set.contains-empty id_cmp e.0)) link) (reached_in e among))

  whole_pack : All (IsStored d.objects) wants → IsWhole wants es
  whole_pack stored = record {
    wants = λ k x lt.
        let among = Contains-get_or wants k x lt in
        has (get_or wants k x) (reached_start (whole d) wants (get_or wants k x) among (All-Contains (IsStored d.objects) wants (get_or wants k x) stored among));
    links = λ k e lt.
        let entry = get_or es k e in
        let among = Contains-get_or es k e lt in
        λ j x below. linked entry among (get_or (links entry.1) j x) (Contains-get_or (links entry.1) j x below);
  }

pub nothing_lacks : (d : Data) → IsServable d → (wants : List ObjectId) → All (IsStored d.objects) wants → (now : Holding) → missing now wants (without_lines (pack_of d (wanting_all wants)).objects) ≡ []
nothing_lacks d servable wants stored now = nothing_missing now (pack_of d (wanting_all wants)).objects wants (whole_pack d servable wants stored)
