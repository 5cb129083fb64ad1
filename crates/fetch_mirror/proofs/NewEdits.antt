-- What is committed for a share whose names aren't there yet: each of them, by its id.
use Rattle.std.proofs.Common.{◌≡◌, ℕ, true, false, List, map, Option, Some, None, Ok, refl, sym, ap, ◌∙◌, subst, Contains}
use Rattle.std.specs.Prelude.{IsTrue, is_some, slice_get}
use Rattle.std.specs.FinMap as finmap
use Rattle.std.specs.Option.{option_and_then, option_map}
use Rattle.std.proofs.lemmas.Option.{slice_get_within}
use Rattle.fetch_base.specs.declared.id.ObjectId.{ObjectId}
use Rattle.fetch_specs.specs.Specs.{Spec}
use Rattle.fetch_refs.specs.declared.edit.RefEdit.{RefEdit}
use Rattle.fetch_refs.specs.declared.target.Target.{Target}
use Rattle.fetch_refs.specs.declared.target.Target.TheVariants.{Object}
use Rattle.fetch_map.specs.Mappings.{spec_at}
use Rattle.fetch_map.specs.declared.mapping.Mapping.{Mapping}
use Rattle.fetch_map.specs.declared.mapping.SpecIndex.{SpecIndex}
use Rattle.fetch_update.specs.Accepted.{is_found}
use Rattle.fetch_update.specs.Accepting.{IsSent, IsWritable, KeepsTarget, is_accepting}
use Rattle.fetch_update.specs.Outcomes.{outcome_of}
use Rattle.fetch_update.specs.Policy.{Policy, is_stored, value_of}
use Rattle.fetch_update.specs.declared.mode.Mode.TheVariants as modes
use Rattle.fetch_update.specs.declared.update.Outcome.{Outcome}
use Rattle.fetch_update.specs.declared.update.Update.{Update}
use Rattle.fetch_update.proofs.Wholes.{accepts_exactly, edits_carry_out}
use Rattle.fetch_serve.specs.Served.{Data}
use Rattle.fetch_mirror.specs.Born.{born_names, born_of}
use Rattle.fetch_mirror.specs.Shares.{AreOnce, AreOwnNames, as_itself}
use Rattle.fetch_mirror.proofs.EditsNamed.{carried_out, carries_out, has_update}
use Rattle.fetch_mirror.proofs.Journaled.{AllGive, IsEdited}
use Rattle.fetch_mirror.proofs.OfferedOwn.{pair}
use Rattle.fetch_mirror.proofs.Places.{at_contains, contains_at, mapped_at}
use Rattle.fetch_mirror.proofs.WorkerTold.{IsBornMapping}

-- a name is born by one id
pub one_id : (d : Data) → AreOnce (born_names d) → (name : List ℕ) (a b : ObjectId) → Contains (born_of d) (name, a) → Contains (born_of d) (name, b) → a ≡ b
one_id d once name a b p r =
    let i = at_contains (born_of d) (name, a) p in
    let j = at_contains (born_of d) (name, b) r in
    let place : i.0 ≡ j.0 = once i.0 j.0 name (mapped_at (λ (e : List ℕ × ObjectId). e.0) (born_of d) i.0 (name, a) i.1) (mapped_at (λ (e : List ℕ × ObjectId). e.0) (born_of d) j.0 (name, b) j.1) in
    let both : Some (pair name a) ≡ Some (pair name b) = sym i.1 ∙ ap (λ (k : ℕ). slice_get (born_of d) k) place ∙ j.1 in
    let same : pair name a ≡ pair name b = cc in
    ap (λ (x : List ℕ × ObjectId). x.1) same

edited_at : (edits : List RefEdit) (index : Option ℕ) (name : List ℕ) → option_map (λ (e : RefEdit). e.name) (option_and_then (λ (i : ℕ). slice_get edits i) index) ≡ Some name → IsEdited name edits
edited_at edits None name is = absurd cc
edited_at edits (Some i) name is = by (slice_get edits i) refl is
  where
    by : (o : Option RefEdit) → slice_get edits i ≡ o → option_map (λ (e : RefEdit). e.name) o ≡ Some name → IsEdited name edits
    by None at is = absurd cc
    by (Some e) at is = record { at = i; edit = e; there = at; named = (let same : e.name ≡ name = cc in sym same) }

never_symbolic : (p : Policy) (edits : List RefEdit) (m : Mapping) (id : ObjectId) → value_of m.remote ≡ Object id → KeepsTarget p edits m → ⊥
never_symbolic p edits m id is keeps = let both = sym is ∙ keeps.remote in absurd cc

module _ (d : Data) (names_once : AreOnce (born_names d)) (share : List (List ℕ)) (own : AreOwnNames share) (p : Policy) (wet : p.dry_run ≡ false) (extra : List Spec) (ms : List Mapping) (o : Outcome)
    (out : outcome_of p (map as_itself share) extra ms ≡ Ok o)
    (each : (y : Mapping) → Contains ms y → IsBornMapping d share y)
    (held : (y : Mapping) (id : ObjectId) → Contains ms y → value_of y.remote ≡ Object id → is_stored p.graph id ≡ true)
    (absent : (index : ℕ) (name : List ℕ) → slice_get share index ≡ Some name → finmap.get p.names name ≡ None) where
  abbrev specs : List Spec
  specs = map as_itself share

  found_at : (m : Mapping) (b : IsBornMapping d share m) → spec_at m.spec_index specs extra ≡ Some (as_itself b.name)
  found_at m b = ap (λ (i : SpecIndex). spec_at i specs extra) b.spec ∙ mapped_at as_itself share b.index b.name b.shared

  sent_by : (value : Target) (id : ObjectId) → value ≡ Object id → is_stored p.graph id ≡ true → IsSent p.graph value
  sent_by value id is stored = subst (IsSent p.graph) (sym is) stored

  writable_by : (value : Target) (id : ObjectId) → value ≡ Object id → IsWritable value
  writable_by value id is = subst IsWritable (sym is) tt

  -- each mapping's update tells that it is new
  new : (u : Update) (m : Mapping) → Contains o.updates u → slice_get ms u.mapping_index ≡ Some m → Contains ms m → u.mode ≡ modes.New
  new u m among at there =
      let b = each m there in
      (accepts_exactly p specs extra ms o out wet).holds u m (as_itself b.name) modes.New among (record { mapping = at; refspec = found_at m b }) (record {
        accepts = record {
          sent = sent_by (value_of m.remote) b.id b.value (held m b.id there b.value);
          row = record {
            name = b.name;
            destination = b.local;
            valid = (own.under b.index b.name b.shared).full;
            absent = absent b.index b.name b.shared;
            writable = writable_by (value_of m.remote) b.id b.value;
          };
        };
        changes = never_symbolic p o.edits m b.id b.value;
      })

  taken : (u : Update) → u.mode ≡ modes.New → IsTrue (is_accepting u.mode)
  taken u is = ap is_accepting is

  -- each edit on a name gives it its id
  pub all_give : (name : List ℕ) (id : ObjectId) → Contains (born_of d) (name, id) → AllGive name (Object id) o.edits
  all_give name id among i e at same =
      let c = carried_out p specs extra ms o out i e at in
      let there : Contains ms c.mapping = contains_at ms c.update.mapping_index c.mapping c.there in
      let b = each c.mapping there in
      let carries = carries_out p specs extra ms o out e c in
      let named : b.name ≡ name = (let both : Some b.name ≡ Some e.name = sym b.local ∙ carries.destination in let it : b.name ≡ e.name = cc in it ∙ sym same) in
      let one : b.id ≡ id = one_id d names_once name b.id id (subst (λ (n : List ℕ). Contains (born_of d) (n, b.id)) named b.born) among in
      carries.accepted (taken c.update (new c.update c.mapping c.among c.there there)) ∙ ap (λ (t : Target). Some t) (b.value ∙ ap (λ (x : ObjectId). Object x) one)

  -- and each mapping has an edit on its name
  pub is_edited : (y : Mapping) (name : List ℕ) → Contains ms y → y.local ≡ Some name → IsEdited name o.edits
  is_edited y name there local =
      let at = at_contains ms y there in
      let b = each y there in
      let found : is_found specs extra ms at.0 ≡ true = ap (λ (o : Option Mapping). is_some (option_and_then (λ (m : Mapping). spec_at m.spec_index specs extra) o)) at.1 ∙ ap (λ (o : Option Spec). is_some o) (found_at y b) in
      let u = has_update p specs extra ms o out at.0 (slice_get_within ms at.0 y at.1) found in
      let about : slice_get ms u.update.mapping_index ≡ Some y = ap (λ (k : ℕ). slice_get ms k) u.about ∙ at.1 in
      edited_at o.edits u.update.edit_index name ((edits_carry_out p specs extra ms o out).accepted u.update y u.among about (taken u.update (new u.update y u.among about there)) ∙ local)

  -- each edit is on a name of the share
  pub edits_shared : (i : ℕ) (e : RefEdit) → slice_get o.edits i ≡ Some e → Contains share e.name
  edits_shared i e at =
      let c = carried_out p specs extra ms o out i e at in
      let b = each c.mapping (contains_at ms c.update.mapping_index c.mapping c.there) in
      let same : b.name ≡ e.name = (let both : Some b.name ≡ Some e.name = sym b.local ∙ (carries_out p specs extra ms o out e c).destination in cc) in
      contains_at share b.index e.name (b.shared ∙ ap (λ (n : List ℕ). Some n) same)
