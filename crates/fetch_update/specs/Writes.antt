-- What edits write.
use Rattle.std.specs.Prelude.{◌≡◌, Option, Some, None, ⊤}
use Rattle.std.specs.Option.{option_flatten}
use Rattle.fetch_refs.specs.declared.edit.Change.{Change}
use Rattle.fetch_refs.specs.declared.edit.Change.TheVariants as changes
use Rattle.fetch_refs.specs.declared.edit.RefEdit.{RefEdit}
use Rattle.fetch_refs.specs.declared.edit.PreviousValue.{PreviousValue}
use Rattle.fetch_refs.specs.declared.edit.PreviousValue.TheVariants.{MustExistAndMatch, ExistingMustMatch}
use Rattle.fetch_refs.specs.declared.target.Target.{Target}
use Rattle.fetch_refs.specs.Edits.{written}

-- the value that a change leaves
abbrev pub new_of : Change → Option Target
new_of (changes.Update log expected new) = Some new
new_of (changes.Delete expected log) = None

-- an edit, if there is one, writes this value
abbrev pub WritesOnly : Target → Option RefEdit → Type 0
WritesOnly value None = ⊤
WritesOnly value (Some e) = new_of e.change ≡ Some value

-- the value that an edit gives its reference, if it gives one
abbrev pub gives : RefEdit → Option Target
gives e = option_flatten (written e.change)

-- what is expected where this was found: that value, and where there was none, none or the one that is written
abbrev pub expectation : Option Target → Target → PreviousValue
expectation (Some found) value = MustExistAndMatch found
expectation None value = ExistingMustMatch value
