-- What edits expect of the references found.
use Rattle.std.specs.Prelude.{Bool, true, false, not, is_some, is_none, List, Option, Some, None, position}
use Rattle.std.specs.FinMap as map
use Rattle.std.specs.List.{slice_get}
use Rattle.std.specs.Option.{option_map, option_and_then}
use Rattle.fetch_refs.specs.declared.error.RefError.{RefError}
use Rattle.fetch_refs.specs.declared.error.RefError.TheVariants.{Expectation}
use Rattle.fetch_refs.specs.declared.edit.Change.{Change}
use Rattle.fetch_refs.specs.declared.edit.Change.TheVariants.{Update, Delete}
use Rattle.fetch_refs.specs.declared.edit.PreviousValue.{PreviousValue}
use Rattle.fetch_refs.specs.declared.edit.PreviousValue.TheVariants.{Any, MustExist, MustNotExist, MustExistAndMatch, ExistingMustMatch}
use Rattle.fetch_refs.specs.declared.edit.RefEdit.{RefEdit}
use Rattle.fetch_refs.specs.declared.target.Target.{Target}
use Rattle.fetch_refs.specs.declared.target.Target.TheVariants.{Object, Symbolic}
use Rattle.fetch_refs.specs.Names.{Names}
use Rattle.fetch_refs.specs.Targets.{is_same}

-- whether the value found, if any, is the one expected
abbrev pub holds : PreviousValue → Option Target → Bool
holds Any found = true
holds MustExist found = is_some found
holds MustNotExist found = is_none found
holds (MustExistAndMatch wanted) None = false
holds (MustExistAndMatch wanted) (Some found) = is_same found wanted
holds (ExistingMustMatch wanted) None = true
holds (ExistingMustMatch wanted) (Some found) = is_same found wanted

-- what a change expects
abbrev pub expected_of : Change → PreviousValue
expected_of (Update log expected new) = expected
expected_of (Delete expected log) = expected

-- whether an edit's expectation fails
unfoldable pub fails : Names → RefEdit → Bool
fails names e = not (holds (expected_of e.change) (map.get names e.name))

-- what stands at the name of an edit
abbrev pub found_by : Names → Option RefEdit → Option Target
found_by names e = option_and_then (λ (x : RefEdit). map.get names x.name) e

-- the refusal of the first edit whose expectation fails
abbrev pub refusal_of : Names → List RefEdit → Option RefError
refusal_of names edits = option_map (λ i. Expectation i (found_by names (slice_get edits i))) (position (fails names) edits)

-- whether a name is found
abbrev pub is_name : Option Target → Bool
is_name None = false
is_name (Some (Object id)) = false
is_name (Some (Symbolic name)) = true

-- whether a refusal tells a name
abbrev pub tells_name : RefError → Bool
tells_name (Expectation i found) = is_name found
tells_name _ = false
