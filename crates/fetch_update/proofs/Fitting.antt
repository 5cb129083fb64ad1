-- What a verdict tells fits its mapping, row by row.
use Rattle.std.proofs.Common.{◌≡◌, ◌≢◌, ◌⊎◌, ℕ, Bool, true, false, List, [], Option, Some, None, Result, Ok, Err, refl, sym, ap, ◌∙◌, subst, inl, inr, IfOk}
use Rattle.std.specs.Prelude.{if◌then◌else◌, ◌&&◌, ◌||◌, IsTrue, IfSome, not}
use Rattle.std.specs.List.{list_any}
use Rattle.std.specs.FinMap as finmap
use Rattle.std.specs.Cmp.{tied_itself, Equal-is}
use Rattle.std.specs.Option.{option_map}
use Rattle.std.specs.Ordering.{eq_by_cmp, is_eq}
use Rattle.std.specs.Str.{bytes_eq}
use Rattle.std.proofs.lemmas.Slice.Eq.{bytes_eq-Decides}
use Rattle.fetch_base.specs.declared.id.ObjectId.{ObjectId}
use Rattle.fetch_store.specs.Graph.{Graph}
use Rattle.fetch_base.specs.Id.{id_cmp}
use Rattle.fetch_base.proofs.Ids.{id_cmp_total, id_cmp_exact}
use Rattle.fetch_specs.specs.Names.{is_full_name}
use Rattle.fetch_specs.specs.Specs.{Spec}
use Rattle.fetch_refs.specs.Expectations.{expected_of}
use Rattle.fetch_refs.specs.Names.{Names}
use Rattle.fetch_refs.specs.Peeled.{peeled, read, and_then, follow, through}
use Rattle.fetch_refs.specs.declared.edit.PreviousValue.TheVariants.{MustExistAndMatch}
use Rattle.fetch_refs.specs.declared.edit.RefEdit.{RefEdit}
use Rattle.fetch_refs.specs.declared.error.RefError.{RefError}
use Rattle.fetch_refs.specs.declared.error.RefError.TheVariants as ref_errors
use Rattle.fetch_refs.specs.declared.target.Target.{Target}
use Rattle.fetch_refs.specs.declared.target.Target.TheVariants.{Object, Symbolic}
use Rattle.fetch_lines.specs.References.{source_target}
use Rattle.fetch_map.specs.declared.mapping.Mapping.{Mapping}
use Rattle.fetch_update.specs.declared.mode.Mode.{Mode}
use Rattle.fetch_update.specs.declared.mode.Mode.TheVariants as modes
use Rattle.fetch_update.specs.declared.update.Error.{Error}
use Rattle.fetch_update.specs.declared.verdict.Verdict.{Verdict}
use Rattle.fetch_specs.specs.Tagged.{is_tag_spec}
use Rattle.fetch_specs.proofs.AllTags.{known as is_the_tag_spec}
use Rattle.fetch_specs.specs.declared.tags.Tags.{Tags}
use Rattle.fetch_specs.specs.declared.tags.Tags.TheVariants as wanted_tags
use Rattle.fetch_update.specs.declared.mode.TypeChange.{TypeChange}
use Rattle.fetch_update.specs.declared.mode.TypeChange.TheVariants.{SymbolicToDirect, DirectToSymbolic}
use Rattle.fetch_update.specs.declared.update.Error.TheVariants as errors
use Rattle.fetch_update.specs.Accepting.{is_accepting, IsSent, IsTaken, IsWritable, Stands, IsUnborn, HasIds, HasRow, HasDryRow, IsAbsent, NamesTheSame, NamesAnother, HasOneId, ReplacesTag, KeepsTarget}
use Rattle.fetch_update.specs.Ahead.{is_ahead}
use Rattle.fetch_update.specs.Outcomes.{is_kept, is_kept_at}
use Rattle.fetch_update.specs.Policy.{Policy, place_of, is_forced, is_commit, is_stored, is_tag, value_of, nothing, written, type_change_of, after_check, if_valid, unborn_mode, at_stored, at_id, at_local, at_place, at_name, at_destination, unsent, unsent_mode, is_included, unless_unsent, verdict_of, change_unborn}
use Rattle.fetch_update.specs.Refusing.{Refuses}
use Rattle.fetch_update.specs.Rejecting.{Rejects, IsMissing}
use Rattle.fetch_update.specs.Telling.{TurnsDirect}
use Rattle.fetch_update.specs.Trees.{is_checked_out, directories_of}
use Rattle.fetch_update.specs.Writes.{gives, expectation}
use Rattle.fetch_update.proofs.Aheads.{ahead_is}

-- ---- Booleans

pub never : {X : Type 0} → false ≡ true → X
never e = absurd cc

-- one of two, by what decides
pub branch : {X : Type 0} (P : X → Type 0) (b : Bool) (x y : X) → (b ≡ true → P x) → (b ≡ false → P y) → P (if b then x else y)
branch P true x y p q = p refl
branch P false x y p q = q refl

pub left : (a b : Bool) → (a && b) ≡ true → a ≡ true
left true b e = refl
left false b e = absurd cc

pub right : (a b : Bool) → (a && b) ≡ true → b ≡ true
right true b e = e
right false b e = absurd cc

pub join : (a b : Bool) → a ≡ true → b ≡ true → (a && b) ≡ true
join a b p q = cc

pub not_both : (a b : Bool) → (a && b) ≡ false → ((a ≡ true → ⊥) ⊎ (b ≡ true → ⊥))
not_both true b e = inr (λ is. never (sym e ∙ is))
not_both false b e = inl (λ is. never is)

pub not_true : (b : Bool) → (b ≡ true → ⊥) → b ≡ false
not_true true h = absurd (h refl)
not_true false h = refl

pub same : (a b : ObjectId) → eq_by_cmp id_cmp a b ≡ true → a ≡ b
same a b e = id_cmp_exact a b ((Equal-is (id_cmp a b)).0 e)

pub tied : (a b : ObjectId) → a ≡ b → eq_by_cmp id_cmp a b ≡ true
tied a b e = ap (eq_by_cmp id_cmp a) (sym e) ∙ ap is_eq (tied_itself id_cmp_total a)

not_is : (b : Bool) → not b ≡ true → b ≡ false
not_is true e = absurd cc
not_is false e = refl

-- ---- references

-- what is no symbolic reference isn't unborn
direct_born : (names : Names) (graph : Graph) (name : List ℕ) (id : ObjectId) (at : List ℕ) → finmap.get names name ≡ Some (Object id) → peeled names graph name ≡ Err (ref_errors.Unborn at) → ⊥
unfolding peeled
direct_born names graph name id at found unborn =
    ok_err (sym (ap (λ (o : Option Target). read name o (λ i. Ok i) (λ _. and_then (follow names 5 [] name) (through graph (finmap.len graph) []))) found) ∙ unborn)
  where
    ok_err : ◌≡◌ {A = Result ObjectId RefError} (Ok id) (Err (ref_errors.Unborn at)) → ⊥
    ok_err e = absurd cc

unborn_accepts : (found : List ℕ) (target : Option (List ℕ)) → is_accepting (unborn_mode (Symbolic found) target) ≡ true
unborn_accepts found None = refl
unborn_accepts found (Some target) = branch (λ (mode : Mode). is_accepting mode ≡ true) (bytes_eq found target) modes.NoChangeNeeded modes.Forced (λ _. refl) (λ _. refl)

-- ---- options

pub some_one : {X : Type 0} (x y : X) → Some x ≡ Some y → x ≡ y
some_one x y e = cc

pub none_some : {X : Type 0} (x : X) → None ≡ Some x → ⊥
none_some x e = absurd cc

-- ---- type changes

-- A type change is told exactly where the edit gives an id to a reference that was symbolic.
pub record Turns (p : Policy) (change : Option TypeChange) (edit : Option RefEdit) : Type 0 where
  pub told : change ≡ Some SymbolicToDirect → (e : RefEdit) × (edit ≡ Some e) × TurnsDirect p e
  pub holds : (e : RefEdit) → edit ≡ Some e → TurnsDirect p e → change ≡ Some SymbolicToDirect
  pub never : change ≡ Some DirectToSymbolic → ⊥

apart : (name : List ℕ) (id : ObjectId) → Some (Object id) ≡ Some (Symbolic name) → ⊥
apart name id e = absurd cc

other_change : SymbolicToDirect ≡ DirectToSymbolic → ⊥
other_change e = absurd cc

pub turns_nothing : (p : Policy) → Turns p None None
turns_nothing p = record { told = λ e. absurd (none_some SymbolicToDirect e); holds = λ x e t. absurd (none_some x e); never = none_some DirectToSymbolic }

-- an edit that turns nothing
pub turns_none : (p : Policy) (x : RefEdit) → (TurnsDirect p x → ⊥) → Turns p None (Some x)
turns_none p x never_so = record {
  told = λ e. absurd (none_some SymbolicToDirect e);
  holds = λ y e t. absurd (never_so (subst (TurnsDirect p) (sym (some_one x y e)) t));
  never = none_some DirectToSymbolic;
}

pub turns_written : (p : Policy) (x : RefEdit) (found value : Target) → finmap.get p.names x.name ≡ Some found → gives x ≡ Some value → Turns p (type_change_of found value) (Some x)
turns_written p x (Object id) value there g = turns_none p x (λ t. apart t.target id (sym there ∙ t.symbolic))
turns_written p x (Symbolic name) (Symbolic wanted) there g = turns_none p x (λ t. apart wanted t.id (sym t.direct ∙ g))
turns_written p x (Symbolic name) (Object id) there g = record {
  told = λ e. (x, refl, record { target = name; id = id; symbolic = there; direct = g });
  holds = λ y e t. refl;
  never = λ e. other_change (some_one SymbolicToDirect DirectToSymbolic e);
}

pub turns_absent : (p : Policy) (x : RefEdit) → finmap.get p.names x.name ≡ None → Turns p None (Some x)
turns_absent p x none = turns_none p x (λ t. none_some (Symbolic t.target) (sym none ∙ t.symbolic))

-- an edit that gives what was found
pub turns_kept : (p : Policy) (x : RefEdit) → gives x ≡ finmap.get p.names x.name → Turns p None (Some x)
turns_kept p x same = turns_none p x (λ t. apart t.target t.id (sym t.direct ∙ same ∙ t.symbolic))

-- ---- verdicts

-- An edit is this mapping's: at its destination, it expects what was found, and gives what the remote has.
pub record IsEdit (p : Policy) (m : Mapping) (e : RefEdit) : Type 0 where
  pub destination : m.local ≡ Some e.name
  pub expects : expected_of e.change ≡ expectation (finmap.get p.names e.name) (value_of m.remote)
  pub value : gives e ≡ Some (value_of m.remote)

pub record Fits (p : Policy) (s : Spec) (m : Mapping) (edits : List RefEdit) (v : Verdict) : Type 0 where
  pub row : p.dry_run ≡ false → IsTrue (is_accepting v.mode) → HasRow p s m v.mode
  pub dry_row : p.dry_run ≡ true → IsTrue (is_accepting v.mode) → HasDryRow p s m v.mode
  pub rejected : is_accepting v.mode ≡ false → Rejects p s m v.mode
  pub named : IsTrue (is_accepting v.mode) → option_map (λ e. e.name) v.edit ≡ m.local
  pub edit : IfSome v.edit (IsEdit p m)
  pub kept : IfSome v.edit (λ e. is_kept p.names edits e.change ≡ true → KeepsTarget p edits m)
  pub accepting : IfSome v.edit (λ _. IsTrue (is_accepting v.mode))
  pub taken : IfSome v.edit (λ _. IsTaken p (value_of m.remote))
  pub turns : Turns p v.type_change v.edit

-- What is answered fits: a verdict, or a refusal.
abbrev pub FitsOk : Policy → Spec → Mapping → List RefEdit → Result Verdict Error → Type 0
FitsOk p s m edits (Ok v) = Fits p s m edits v
FitsOk p s m edits (Err e) = Refuses p m e

not_kept : (p : Policy) (edits : List RefEdit) (found value : Target) (new : ObjectId) → value ≡ Object new → is_kept_at p.names edits (MustExistAndMatch found) value ≡ false
not_kept p edits found (Object id) new is = by found
  where
    by : (t : Target) → is_kept_at p.names edits (MustExistAndMatch t) (Object id) ≡ false
    by (Object i) = refl
    by (Symbolic name) = refl
not_kept p edits found (Symbolic name) new is = absurd (apart name new (ap (λ (t : Target). Some t) (sym is)))

pub included_is : (tags : Tags) → is_included tags ≡ true → tags ≡ wanted_tags.Included
included_is wanted_tags.All e = never e
included_is wanted_tags.Included e = refl
included_is wanted_tags.None e = never e

module _ (p : Policy) (s : Spec) (m : Mapping) (edits : List RefEdit) where
  fits_nothing : (mode : Mode) → is_accepting mode ≡ false → Rejects p s m mode → Fits p s m edits (nothing mode)
  fits_nothing mode rejects row = record {
    row = λ wet is. never (sym rejects ∙ is);
    dry_row = λ dry is. never (sym rejects ∙ is);
    rejected = λ _. row;
    named = λ is. never (sym rejects ∙ is);
    edit = tt;
    kept = tt;
    accepting = tt;
    taken = tt;
    turns = turns_nothing p;
  }

  module _ (taken : IsTaken p (value_of m.remote)) where
    fits_written : (mode : Mode) (name : List ℕ) (found : Target) (happened : List ℕ) → IsTrue (is_accepting mode) → Stands p m name found
        → (p.dry_run ≡ false → HasRow p s m mode) → (p.dry_run ≡ true → HasDryRow p s m mode) → (is_kept_at p.names edits (MustExistAndMatch found) (value_of m.remote) ≡ true → KeepsTarget p edits m)
        → Fits p s m edits (written p.message (place_of s m name found) mode happened)
    fits_written mode name found happened accepting stands row dry_row kept = record {
      row = λ wet _. row wet;
      dry_row = λ dry _. dry_row dry;
      rejected = λ r. never (sym r ∙ accepting);
      named = λ _. sym stands.destination;
      edit = record {
        destination = stands.destination;
        expects = ap (λ (o : Option Target). expectation o (value_of m.remote)) (sym stands.there);
        value = refl;
      };
      kept = kept;
      accepting = accepting;
      taken = taken;
      turns = turns_written p _ found (value_of m.remote) stands.there refl;
    }

    fits_id : (mode : Mode) (name : List ℕ) (local new : ObjectId) (ids : HasIds p m name local new) (happened : List ℕ) → IsTrue (is_accepting mode)
        → (p.dry_run ≡ false → HasRow p s m mode) → (p.dry_run ≡ true → HasDryRow p s m mode) → Fits p s m edits (written p.message (place_of s m name ids.found) mode happened)
    fits_id mode name local new ids happened accepting row dry_row =
        fits_written mode name ids.found happened accepting ids.stands row dry_row (λ k. never (sym (not_kept p edits ids.found (value_of m.remote) new ids.remote_id) ∙ k))

    fits_stored : p.dry_run ≡ false → (name : List ℕ) (local new : ObjectId) (ids : HasIds p m name local new) → local ≢ new → is_tag name ≡ false → is_stored p.graph local ≡ true
        → Fits p s m edits (at_stored p (place_of s m name ids.found) local new)
    unfolding at_stored
    fits_stored wet name local new ids differ no_tag stored =
        branch (Fits p s m edits) (is_commit p.graph local && is_commit p.graph new) _ _
        (λ commits. branch (Fits p s m edits) (is_ahead p.graph new local) _ _
        (λ ahead. fits_id modes.FastForward name local new ids _ refl (λ _. record {
          name = name;
          local = local;
          remote = new;
          ids = ids;
          differ = differ;
          no_tag = no_tag;
          local_commit = left (is_commit p.graph local) (is_commit p.graph new) commits;
          remote_commit = right (is_commit p.graph local) (is_commit p.graph new) commits;
          path = (ahead_is p.graph new local).0 ahead;
        }) (λ dry. never (sym wet ∙ dry)))
        (λ behind. branch (Fits p s m edits) (is_forced s.mode) _ _
        (λ plus. fits_id modes.Forced name local new ids _ refl (λ _. inr (inr (record {
          name = name;
          local = local;
          remote = new;
          ids = ids;
          differ = differ;
          no_tag = no_tag;
          stored = stored;
          replaced = inr (λ path. never (sym behind ∙ (ahead_is p.graph new local).1 path), plus);
        }))) (λ dry. never (sym wet ∙ dry)))
        (λ no_plus. fits_nothing modes.RejectedNonFastForward refl (
          taken,
          record {
            asked = wet;
            name = name;
            local = local;
            remote = new;
            ids = ids;
            differ = differ;
            no_tag = no_tag;
            local_commit = left (is_commit p.graph local) (is_commit p.graph new) commits;
            remote_commit = right (is_commit p.graph local) (is_commit p.graph new) commits;
            no_path = λ path. never (sym behind ∙ (ahead_is p.graph new local).1 path);
            no_plus = no_plus;
          },
        ))))
        (λ other. fits_id modes.Forced name local new ids _ refl (λ _. inr (inr (record {
          name = name;
          local = local;
          remote = new;
          ids = ids;
          differ = differ;
          no_tag = no_tag;
          stored = stored;
          replaced = inl (not_both (is_commit p.graph local) (is_commit p.graph new) other);
        }))) (λ dry. never (sym wet ∙ dry)))

    fits_at_id : (name : List ℕ) (found : Target) (id : ObjectId) (value : Target) → Stands p m name found → peeled p.names p.graph name ≡ Ok id → value_of m.remote ≡ value
        → FitsOk p s m edits (at_id p (place_of s m name found) id value)
    unfolding at_id
    fits_at_id name found id (Symbolic wanted) stands local is =
        fits_nothing modes.RejectedToReplaceWithUnborn refl (record { name = name; found = found; stands = stands; local = id; local_id = local; wanted = wanted; remote = is })
    fits_at_id name found id (Object new) stands local is =
        let ids : HasIds p m name id new = record { found = found; stands = stands; local_id = local; remote_id = is } in
        branch (FitsOk p s m edits) (eq_by_cmp id_cmp id new) _ _
        (λ one.
        let row : HasOneId p m =
        record { name = name; id = id; ids = record { found = found; stands = stands; local_id = local; remote_id = is ∙ ap (λ (i : ObjectId). Object i) (sym (same id new one)) } } in
        fits_id modes.NoChangeNeeded name id new ids _ refl (λ _. inr (inr row)) (λ _. inr (inr row)))
        (λ two.
        let differ : id ≢ new = λ e. never (sym two ∙ tied id new e) in
        branch (FitsOk p s m edits) (is_tag name) _ _
        (λ tag. branch (Fits p s m edits) (is_forced s.mode) _ _
        (λ plus.
        let row : ReplacesTag p s m = record { name = name; local = id; remote = new; ids = ids; differ = differ; tag = tag; plus = plus } in
        fits_id modes.Forced name id new ids _ refl (λ _. inr (inl row)) (λ _. inr row))
        (λ no_plus. fits_nothing modes.RejectedTagUpdate refl (taken, record { name = name; local = id; remote = new; ids = ids; differ = differ; tag = tag; no_plus = no_plus })))
        (λ no_tag. branch (FitsOk p s m edits) p.dry_run _ _
        (λ dry. fits_id modes.FastForward name id new ids _ refl (λ wet. never (sym wet ∙ dry)) (λ _. record { name = name; local = id; remote = new; ids = ids; differ = differ; no_tag = no_tag }))
        (λ wet. branch (FitsOk p s m edits) (is_stored p.graph id) _ _
        (λ stored. fits_stored wet name id new ids differ no_tag stored)
        (λ absent. (taken, record { asked = wet; name = name; remote = new; ids = ids; differ = differ; no_tag = no_tag; absent = absent })))))

    if_writable : (value : Target) (v : Verdict) → (IsWritable value → Fits p s m edits v) → ((text : List ℕ) → value ≡ Symbolic text → is_full_name text ≡ false → Refuses p m (errors.InvalidRefName text)) → FitsOk p s m edits (if_valid value v)
    if_writable (Object id) v h r = h tt
    if_writable (Symbolic text) v h r = branch (λ (c : Result Target Error). FitsOk p s m edits (after_check c v)) (is_full_name text) _ _ h (λ invalid. r text refl invalid)

    unborn_row : (name found : List ℕ) (target : Option (List ℕ)) → IsUnborn p m name found → IsWritable (value_of m.remote) → source_target m.remote ≡ target
        → HasRow p s m (unborn_mode (Symbolic found) target) × HasDryRow p s m (unborn_mode (Symbolic found) target)
    unborn_row name found None unborn writable is = let row : NamesAnother p m = record { name = name; target = found; unborn = unborn; other = λ e. none (sym is ∙ e); writable = writable } in (inl row, inl row)
      where
        none : None ≡ Some found → ⊥
        none e = absurd cc
    unborn_row name found (Some target) unborn writable is =
        branch (λ (mode : Mode). HasRow p s m mode × HasDryRow p s m mode) (bytes_eq found target) modes.NoChangeNeeded modes.Forced
        (λ one_name. let row : NamesTheSame p m = record { name = name; target = found; unborn = unborn; same = is ∙ ap (λ (t : List ℕ). Some t) (sym ((bytes_eq-Decides found target).0 one_name)); writable = writable } in (inr (inl row), inr (inl row)))
        (λ two_names. let row : NamesAnother p m = record { name = name; target = found; unborn = unborn; other = λ e. never (sym two_names ∙ (bytes_eq-Decides found target).1 (one (sym is ∙ e))); writable = writable } in (inl row, inl row))
      where
        one : Some target ≡ Some found → found ≡ target
        one e = cc

    unborn_kept : (name found : List ℕ) (value : Target) → IsUnborn p m name found → value_of m.remote ≡ value → is_kept_at p.names edits (MustExistAndMatch (Symbolic found)) value ≡ true → KeepsTarget p edits m
    unborn_kept name found (Object id) unborn is k = never k
    unborn_kept name found (Symbolic wanted) unborn is k =
        let other = bytes_eq found wanted in
        let stands = finmap.contains_key p.names found in
        let absent = finmap.contains_key p.names wanted in
        let named = list_any (λ e. bytes_eq e.name wanted) edits in
        let first = left (not other && stands && not absent) (not named) k in
        let second = left (not other && stands) (not absent) first in
        record {
          name = name;
          target = found;
          wanted = wanted;
          unborn = unborn;
          remote = is;
          other = λ e. never (sym (not_is other (left (not other) stands second)) ∙ (bytes_eq-Decides found wanted).1 e);
          stands = right (not other) stands second;
          absent = not_is absent (right (not other && stands) (not absent) first);
          unwritten = not_is named (right (not other && stands && not absent) (not named) k);
        }

    nowhere : (name : List ℕ) (found : Target) (cause : RefError) → Stands p m name found → peeled p.names p.graph name ≡ Err cause → ((end : List ℕ) → cause ≢ ref_errors.Unborn end) → Refuses p m (errors.PeelToId name cause)
    nowhere name found cause stands e born = (taken, record { found = found; stands = stands; fails = e; born = born })

    fits_local : (name : List ℕ) (found : Target) → Stands p m name found → (r : Result ObjectId RefError) → peeled p.names p.graph name ≡ r → FitsOk p s m edits (at_local p (place_of s m name found) r)
    unfolding at_local
    fits_local name found stands (Ok id) e = fits_at_id name found id (value_of m.remote) stands e refl
    fits_local name (Object id) stands (Err (ref_errors.Unborn at)) e = absurd (direct_born p.names p.graph name id at stands.there e)
    fits_local name (Symbolic found) stands (Err (ref_errors.Unborn at)) e =
        let unborn : IsUnborn p m name found = record { stands = stands; end = at; unborn = e } in
        if_writable (value_of m.remote) _
        (λ writable.
        let row = unborn_row name found (source_target m.remote) unborn writable refl in
        fits_written (unborn_mode (Symbolic found) (source_target m.remote)) name (Symbolic found) change_unborn (unborn_accepts found (source_target m.remote)) stands (λ _. row.0) (λ _. row.1)
        (unborn_kept name found (value_of m.remote) unborn refl))
        (λ text is invalid. record { remote = is; invalid = invalid; name = name; destination = stands.destination; valid = stands.valid; written = inr (found, unborn) })
    fits_local name found stands (Err (ref_errors.Expectation i f)) e = nowhere name found (ref_errors.Expectation i f) stands e (λ end is. absurd cc)
    fits_local name found stands (Err (ref_errors.Cycle n)) e = nowhere name found (ref_errors.Cycle n) stands e (λ end is. absurd cc)
    fits_local name found stands (Err (ref_errors.Depth n)) e = nowhere name found (ref_errors.Depth n) stands e (λ end is. absurd cc)
    fits_local name found stands (Err (ref_errors.MissingObject id)) e = nowhere name found (ref_errors.MissingObject id) stands e (λ end is. absurd cc)
    fits_local name found stands (Err (ref_errors.TagCycle id)) e = nowhere name found (ref_errors.TagCycle id) stands e (λ end is. absurd cc)
    fits_local name found stands (Err ref_errors.NoMemory) e = nowhere name found ref_errors.NoMemory stands e (λ end is. absurd cc)

    fits_name : (name : List ℕ) → m.local ≡ Some name → is_full_name name ≡ true → (o : Option Target) → finmap.get p.names name ≡ o → FitsOk p s m edits (at_name p s m name o)
    unfolding at_name at_place
    fits_name name destination valid None none =
        if_writable (value_of m.remote) _
        (λ writable.
        let row : IsAbsent p m = record { name = name; destination = destination; valid = valid; absent = none; writable = writable } in
        record {
          row = λ wet _. row;
          dry_row = λ dry _. row;
          rejected = λ r. never (sym r);
          named = λ _. sym destination;
          edit = record { destination = destination; expects = ap (λ (o : Option Target). expectation o (value_of m.remote)) (sym none); value = refl };
          kept = λ k. never k;
          accepting = refl;
          taken = taken;
          turns = turns_absent p _ none;
        })
        (λ text is invalid. record { remote = is; invalid = invalid; name = name; destination = destination; valid = valid; written = inl none })
    fits_name name destination valid (Some found) is =
        branch (FitsOk p s m edits) (is_checked_out p.worktrees name) _ _
        (λ somewhere. fits_nothing (modes.RejectedCurrentlyCheckedOut (directories_of p.worktrees name)) refl
        (taken, record { name = name; destination = destination; valid = valid; found = found; there = is; somewhere = somewhere; directories = refl }))
        (λ free. fits_local name found (record { destination = destination; valid = valid; there = is; free = free }) (peeled p.names p.graph name) refl)

    fits_destination : (local : Option (List ℕ)) → m.local ≡ local → FitsOk p s m edits (at_destination p s m local)
    unfolding at_destination
    fits_destination None none = record {
      row = λ wet _. inl none;
      dry_row = λ dry _. inl none;
      rejected = λ r. never (sym r);
      named = λ _. sym none;
      edit = tt;
      kept = tt;
      accepting = tt;
      taken = tt;
      turns = turns_nothing p;
    }
    fits_destination (Some name) is =
        branch (FitsOk p s m edits) (is_full_name name) _ _ (λ valid. fits_name name is valid (finmap.get p.names name) refl) (λ invalid. (taken, record { destination = is; invalid = invalid }))

  unsent_rejects : (id : ObjectId) → is_accepting (unsent_mode p.tags s id) ≡ false
  unfolding unsent_mode
  unsent_rejects id = branch (λ (mode : Mode). is_accepting mode ≡ false) (is_included p.tags && is_tag_spec s) _ _ (λ _. refl) (λ _. refl)

  unsent_row : (id : ObjectId) → IsMissing p m id → Rejects p s m (unsent_mode p.tags s id)
  unfolding unsent_mode
  unsent_row id missing =
      branch (Rejects p s m) (is_included p.tags && is_tag_spec s) _ _
      (λ both. record { id = id; missing = missing; tags = (included_is p.tags (left (is_included p.tags) (is_tag_spec s) both), (is_the_tag_spec s).0 (right (is_included p.tags) (is_tag_spec s) both)) })
      (λ other. record {
        missing = missing;
        others = λ tags. never (sym other ∙ join (is_included p.tags) (is_tag_spec s) (ap is_included tags.0) ((is_the_tag_spec s).1 tags.1));
      })

  missing_value : (value : Target) → value_of m.remote ≡ value → (id : ObjectId) → unsent p value ≡ Some id → IsMissing p m id
  unfolding unsent
  missing_value (Symbolic name) is id some = absurd (none_some id some)
  missing_value (Object new) is id some = by p.dry_run refl (is_stored p.graph new) refl some
    where
      by : (dry : Bool) → p.dry_run ≡ dry → (stored : Bool) → is_stored p.graph new ≡ stored → (if dry || stored then None else Some new) ≡ Some id → IsMissing p m id
      by true d stored e some = absurd (none_some id some)
      by false d true e some = absurd (none_some id some)
      by false d false e some =
          let one : new ≡ id = some_one new id some in
          record { asked = d; remote_id = is ∙ ap (λ (i : ObjectId). Object i) one; absent = ap (is_stored p.graph) (sym one) ∙ e }

  taken_value : (value : Target) → unsent p value ≡ None → IsTaken p value
  unfolding unsent
  taken_value (Symbolic name) none = inr tt
  taken_value (Object id) none = by p.dry_run (is_stored p.graph id) refl refl none
    where
      by : (dry stored : Bool) → p.dry_run ≡ dry → is_stored p.graph id ≡ stored → (if dry || stored then None else Some id) ≡ None → IsTaken p (Object id)
      by true stored d e none = inl d
      by false true d e none = inr e
      by false false d e none = absurd (none_some id (sym none))

  fits_unless : (o : Option ObjectId) → unsent p (value_of m.remote) ≡ o → (r : Result Verdict Error) → (IsTaken p (value_of m.remote) → FitsOk p s m edits r) → FitsOk p s m edits (unless_unsent p s o r)
  fits_unless None none r h = h (taken_value (value_of m.remote) none)
  fits_unless (Some id) some r h = fits_nothing (unsent_mode p.tags s id) (unsent_rejects id) (unsent_row id (missing_value (value_of m.remote) refl id some))

  pub fits : FitsOk p s m edits (verdict_of p s m)
  unfolding verdict_of
  fits = fits_unless (unsent p (value_of m.remote)) refl _ (λ taken. fits_destination taken m.local refl)

  sent_taken : p.dry_run ≡ false → IsTaken p (value_of m.remote) → IsSent p.graph (value_of m.remote)
  sent_taken wet (inl dry) = never (sym wet ∙ dry)
  sent_taken wet (inr sent) = sent

  where_ok : (Q : Verdict → Type 0) (P : Type 0) (r : Result Verdict Error) → P → IfOk r (λ v. Q v → P)
  where_ok Q P (Ok v) h = λ _. h
  where_ok Q P (Err e) h = tt

  sent_unless : p.dry_run ≡ false → (o : Option ObjectId) → unsent p (value_of m.remote) ≡ o → (r : Result Verdict Error) → IfOk (unless_unsent p s o r) (λ v. IsTrue (is_accepting v.mode) → IsSent p.graph (value_of m.remote))
  sent_unless wet None none r = where_ok (λ v. IsTrue (is_accepting v.mode)) (IsSent p.graph (value_of m.remote)) r (sent_taken wet (taken_value (value_of m.remote) none))
  sent_unless wet (Some id) some r = λ is. never (sym (unsent_rejects id) ∙ is)

  pub sent : p.dry_run ≡ false → IfOk (verdict_of p s m) (λ v. IsTrue (is_accepting v.mode) → IsSent p.graph (value_of m.remote))
  unfolding verdict_of
  sent wet = sent_unless wet (unsent p (value_of m.remote)) refl _
