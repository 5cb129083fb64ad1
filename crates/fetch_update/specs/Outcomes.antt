-- What becomes of all mappings.
use Rattle.std.specs.Prelude.{ℕ, ◌+◌, Bool, false, not, ◌&&◌, List, [], ◌∷◌, codes, map, Option, Some, None, is_some, Result, Ok, Err}
use Rattle.std.specs.Prelude.{if◌then◌else◌}
use Rattle.std.specs.FinMap as finmap
use Rattle.std.specs.List.{filter_map, list_any}
use Rattle.std.specs.Option.{option_map}
use Rattle.std.specs.Str.{bytes_eq}
use Rattle.fetch_specs.specs.Specs.{Spec}
use Rattle.fetch_refs.specs.declared.edit.Change.{Change}
use Rattle.fetch_refs.specs.declared.edit.Change.TheVariants.{Update as Writes, Delete}
use Rattle.fetch_refs.specs.declared.edit.LogChange.{LogChange}
use Rattle.fetch_refs.specs.declared.edit.PreviousValue.{PreviousValue}
use Rattle.fetch_refs.specs.declared.edit.PreviousValue.TheVariants.{MustExistAndMatch}
use Rattle.fetch_refs.specs.declared.edit.RefEdit.{RefEdit}
use Rattle.fetch_refs.specs.declared.target.Target.{Target}
use Rattle.fetch_refs.specs.declared.target.Target.TheVariants.{Symbolic}
use Rattle.fetch_refs.specs.Names.{Names}
use Rattle.fetch_map.specs.Mappings.{spec_at}
use Rattle.fetch_map.specs.declared.mapping.Mapping.{Mapping}
use Rattle.fetch_update.specs.declared.mode.Mode.TheVariants as modes
use Rattle.fetch_update.specs.declared.update.Error.{Error}
use Rattle.fetch_update.specs.declared.update.Outcome.{Outcome}
use Rattle.fetch_update.specs.declared.update.Update.{Update}
use Rattle.fetch_update.specs.declared.verdict.Verdict.{Verdict}
use Rattle.fetch_update.specs.Policy.{Policy, verdict_of}

-- a verdict beside the index of its mapping
abbrev pub Verdicts : Type 0
Verdicts = List (ℕ × Verdict)

-- one verdict more at the front, unless it or a later one is a refusal
abbrev pub before : ℕ → Result Verdict Error → Result Verdicts Error → Result Verdicts Error
before i (Err e) rest = Err e
before i (Ok v) (Err e) = Err e
before i (Ok v) (Ok vs) = Ok ((i, v) ∷ vs)

-- a mapping whose refspec isn't found is passed over
abbrev pub judged : Policy → ℕ → Mapping → Option Spec → Result Verdicts Error → Result Verdicts Error
judged p i m None rest = rest
judged p i m (Some s) rest = before i (verdict_of p s m) rest

-- the verdicts of mappings that are counted from this index on, or the first refusal
abbrev pub verdicts_from : Policy → List Spec → List Spec → ℕ → List Mapping → Result Verdicts Error
verdicts_from p specs extra i [] = Ok []
verdicts_from p specs extra i (m ∷ ms) = judged p i m (spec_at m.spec_index specs extra) (verdicts_from p specs extra (i + 1) ms)

-- the edits of verdicts, in order
abbrev pub edits_of : Verdicts → List RefEdit
edits_of vs = filter_map (λ v. v.1.edit) vs

-- whether an unborn reference keeps its target: the one that it has stands, and the one that it would get neither stands nor is written
abbrev pub keeps_target : Names → List RefEdit → List ℕ → List ℕ → Bool
keeps_target names edits found wanted =
    not (bytes_eq found wanted) && finmap.contains_key names found && not (finmap.contains_key names wanted)
    && not (list_any (λ e. bytes_eq e.name wanted) edits)

-- what a reflog says where nothing changes
unfoldable pub no_op : List ℕ
no_op = codes "no-op"

-- whether a change is of an unborn reference that keeps its target
abbrev pub is_kept_at : Names → List RefEdit → PreviousValue → Target → Bool
is_kept_at names edits (MustExistAndMatch (Symbolic found)) (Symbolic wanted) = keeps_target names edits found wanted
is_kept_at names edits expected new = false

-- whether a change is an update of an unborn reference that keeps its target
abbrev pub is_kept : Names → List RefEdit → Change → Bool
is_kept names edits (Writes log expected new) = is_kept_at names edits expected new
is_kept names edits (Delete expected log) = false

-- a change that writes the value found
abbrev pub no_op_write : LogChange → PreviousValue → Target → Change
no_op_write log (MustExistAndMatch found) new = Writes (record log { message = no_op }) (MustExistAndMatch found) found
no_op_write log expected new = Writes log expected new

-- a change that keeps what is there
abbrev pub no_op_change : Change → Change
no_op_change (Writes log expected new) = no_op_write log expected new
no_op_change (Delete expected log) = Delete expected log

-- a rejection with such a change
abbrev pub kept : RefEdit → Verdict
kept e = record {
  mode = modes.RejectedToReplaceWithUnborn;
  type_change = None;
  edit = Some (record { change = no_op_change e.change; name = e.name });
}

-- a verdict, once all edits are known
abbrev pub adjusted : Names → List RefEdit → Verdict → Option RefEdit → Verdict
adjusted names edits v None = v
adjusted names edits v (Some e) = if is_kept names edits e.change then kept e else v

-- the updates, where that many edits stand before them
abbrev pub updates_from : ℕ → Verdicts → List Update
updates_from n [] = []
updates_from n (v ∷ vs) =
    record { mode = v.1.mode; type_change = v.1.type_change; edit_index = option_map (λ _. n) v.1.edit; mapping_index = v.0 }
    ∷ updates_from (if is_some v.1.edit then n + 1 else n) vs

-- verdicts, once those of all mappings are known
abbrev pub adjusted_verdicts : Names → Verdicts → Verdicts
adjusted_verdicts names vs = map (λ v. (v.0, adjusted names (edits_of vs) v.1 v.1.edit)) vs

-- an outcome of these verdicts
abbrev pub outcome_in : Verdicts → Outcome
outcome_in vs = record { edits = edits_of vs; updates = updates_from 0 vs }

-- an outcome, unless a mapping is refused
abbrev pub outcome_from : Names → Result Verdicts Error → Result Outcome Error
outcome_from names (Err e) = Err e
outcome_from names (Ok vs) = Ok (outcome_in (adjusted_verdicts names vs))

-- the edits and updates of all mappings, or the refusal of the first that is refused
unfoldable pub outcome_of : Policy → List Spec → List Spec → List Mapping → Result Outcome Error
outcome_of p specs extra mappings = outcome_from p.names (verdicts_from p specs extra 0 mappings)
