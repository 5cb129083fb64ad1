-- Each edit of a verdict writes what its mapping wants.
use Rattle.std.proofs.Common.{◌≡◌, [], Option, Some, None, Result, Ok, Err, IfOk}
use Rattle.std.specs.Prelude.{IfSome}
use Rattle.std.specs.Option.{option_flatten}
use Rattle.fetch_specs.specs.Specs.{Spec}
use Rattle.fetch_refs.specs.Edits as edits
use Rattle.fetch_refs.specs.declared.edit.Change.{Change}
use Rattle.fetch_refs.specs.declared.edit.Change.TheVariants.{Update as Writes, Delete}
use Rattle.fetch_refs.specs.declared.edit.RefEdit.{RefEdit}
use Rattle.fetch_refs.specs.declared.edit.RefLog.{RefLog}
use Rattle.fetch_refs.specs.declared.edit.RefLog.TheVariants.{AndReference, Only}
use Rattle.fetch_refs.specs.declared.target.Target.{Target}
use Rattle.fetch_map.specs.declared.mapping.Mapping.{Mapping}
use Rattle.fetch_update.specs.declared.update.Error.{Error}
use Rattle.fetch_update.specs.declared.verdict.Verdict.{Verdict}
use Rattle.fetch_update.specs.Policy.{Policy, value_of, verdict_of}
use Rattle.fetch_update.specs.Writes.{WritesOnly, new_of}
use Rattle.fetch_update.proofs.Fitting.{FitsOk, IsEdit, none_some, fits}

given : (c : Change) (value : Target) → option_flatten (edits.written c) ≡ Some value → new_of c ≡ Some value
given (Writes log expected new) value = by log.mode
  where
    by : (r : RefLog) → option_flatten (edits.written_in r (Some new)) ≡ Some value → Some new ≡ Some value
    by AndReference is = is
    by Only is = absurd (none_some value is)
given (Delete expected log) value = by log
  where
    by : (r : RefLog) → option_flatten (edits.written_in r None) ≡ Some value → None ≡ Some value
    by AndReference is = is
    by Only is = is

pub verdict_writes : (p : Policy) (s : Spec) (m : Mapping) → IfOk (verdict_of p s m) (λ v. WritesOnly (value_of m.remote) v.edit)
verdict_writes p s m = by (verdict_of p s m) (fits p s m [])
  where
    edit : (o : Option RefEdit) → IfSome o (IsEdit p m) → WritesOnly (value_of m.remote) o
    edit None is = tt
    edit (Some e) is = given e.change (value_of m.remote) is.value

    by : (r : Result Verdict Error) → FitsOk p s m [] r → IfOk r (λ v. WritesOnly (value_of m.remote) v.edit)
    by (Ok v) f = edit v.edit f.edit
    by (Err e) f = tt
