-- What an outcome says of the mappings that it was made of.
use Rattle.std.specs.Prelude.{◌≡◌, ℕ, Bool, false, List, length, map, filter, Option, Some, is_some, IsTrue, Contains}
use Rattle.std.specs.FinMap as finmap
use Rattle.std.specs.List.{slice_get, filter_map, range_with_len}
use Rattle.std.specs.Option.{option_and_then, option_map}
use Rattle.fetch_specs.specs.Specs.{Spec}
use Rattle.fetch_refs.specs.declared.edit.RefEdit.{RefEdit}
use Rattle.fetch_map.specs.Mappings.{spec_at}
use Rattle.fetch_map.specs.declared.mapping.Mapping.{Mapping}
use Rattle.fetch_update.specs.declared.mode.Mode.{Mode}
use Rattle.fetch_update.specs.declared.update.Outcome.{Outcome}
use Rattle.fetch_update.specs.declared.update.Update.{Update}
use Rattle.fetch_update.specs.Accepting.{is_accepting, IsAccepted, IsAcceptedDry}
use Rattle.fetch_update.specs.Rejecting.{IsRejected}
use Rattle.fetch_update.specs.Policy.{Policy, value_of}
use Rattle.fetch_update.specs.Writes.{gives, expectation}
use Rattle.fetch_refs.specs.Expectations.{expected_of}

-- An update is about this mapping, which this refspec made.
pub record IsAbout (specs extra : List Spec) (mappings : List Mapping) (u : Update) (m : Mapping) (s : Spec) : Type 0 where
  pub mapping : slice_get mappings u.mapping_index ≡ Some m
  pub refspec : spec_at m.spec_index specs extra ≡ Some s

-- Each update tells an accepting mode exactly where the mapping that it is about is accepted with that mode.
pub record AcceptsExactly (p : Policy) (specs extra : List Spec) (mappings : List Mapping) (o : Outcome) : Type 0 where
  pub told : (u : Update) (m : Mapping) (s : Spec) → Contains o.updates u → IsAbout specs extra mappings u m s
      → IsTrue (is_accepting u.mode) → IsAccepted p o.edits s m u.mode
  pub holds : (u : Update) (m : Mapping) (s : Spec) (mode : Mode) → Contains o.updates u → IsAbout specs extra mappings u m s
      → IsAccepted p o.edits s m mode → u.mode ≡ mode

-- The same in a dry run, where nothing is asked of the objects.
pub record GuessesExactly (p : Policy) (specs extra : List Spec) (mappings : List Mapping) (o : Outcome) : Type 0 where
  pub told : (u : Update) (m : Mapping) (s : Spec) → Contains o.updates u → IsAbout specs extra mappings u m s
      → IsTrue (is_accepting u.mode) → IsAcceptedDry p o.edits s m u.mode
  pub holds : (u : Update) (m : Mapping) (s : Spec) (mode : Mode) → Contains o.updates u → IsAbout specs extra mappings u m s
      → IsAcceptedDry p o.edits s m mode → u.mode ≡ mode

-- Each update tells a rejecting mode exactly where the mapping that it is about is rejected with that mode.
pub record RejectsExactly (p : Policy) (specs extra : List Spec) (mappings : List Mapping) (o : Outcome) : Type 0 where
  pub told : (u : Update) (m : Mapping) (s : Spec) → Contains o.updates u → IsAbout specs extra mappings u m s → is_accepting u.mode ≡ false
      → IsRejected p o.edits s m u.mode
  pub holds : (u : Update) (m : Mapping) (s : Spec) (mode : Mode) → Contains o.updates u → IsAbout specs extra mappings u m s
      → IsRejected p o.edits s m mode → u.mode ≡ mode

-- whether there is a mapping at this index, and its refspec is found
abbrev pub is_found : List Spec → List Spec → List Mapping → ℕ → Bool
is_found specs extra mappings i = is_some (option_and_then (λ m. spec_at m.spec_index specs extra) (slice_get mappings i))

-- There is one update for each mapping whose refspec is found, in order.
abbrev pub HasOneEach : List Spec → List Spec → List Mapping → Outcome → Type 0
HasOneEach specs extra mappings o = map (λ u. u.mapping_index) o.updates
    ≡ filter (is_found specs extra mappings) (range_with_len 0 (length mappings))

-- the edit that carries an update out, if there is one
abbrev pub edit_for : List RefEdit → Update → Option RefEdit
edit_for edits u = option_and_then (λ i. slice_get edits i) u.edit_index

-- An edit carries out an update about this mapping: at the mapping's destination, it expects what was found there. An
-- accepted update gives the reference what the remote has, any other one the value found.
pub record CarriesOut (p : Policy) (m : Mapping) (u : Update) (e : RefEdit) : Type 0 where
  pub destination : m.local ≡ Some e.name
  pub expects : expected_of e.change ≡ expectation (finmap.get p.names e.name) (value_of m.remote)
  pub accepted : IsTrue (is_accepting u.mode) → gives e ≡ Some (value_of m.remote)
  pub kept : is_accepting u.mode ≡ false → gives e ≡ finmap.get p.names e.name

-- The edits are those that carry out the updates, in order, and each accepted update with a destination has one.
pub record EditsCarryOut (p : Policy) (mappings : List Mapping) (o : Outcome) : Type 0 where
  pub one_each : filter_map (λ u. u.edit_index) o.updates ≡ range_with_len 0 (length o.edits)
  pub each : (u : Update) (m : Mapping) (e : RefEdit) → Contains o.updates u → slice_get mappings u.mapping_index ≡ Some m
      → edit_for o.edits u ≡ Some e → CarriesOut p m u e
  pub accepted : (u : Update) (m : Mapping) → Contains o.updates u → slice_get mappings u.mapping_index ≡ Some m
      → IsTrue (is_accepting u.mode) → option_map (λ e. e.name) (edit_for o.edits u) ≡ m.local
