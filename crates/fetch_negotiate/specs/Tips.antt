-- The commits that a fetch begins with.
use Rattle.std.specs.Prelude.{ℕ, List, [], Option, Some, None, Result, Ok, Err, is_some, if◌then◌else◌}
use Rattle.std.specs.FinMap as map
use Rattle.std.specs.List.{filter_map}
use Rattle.std.specs.Option.{option_and_then}
use Rattle.fetch_base.specs.declared.id.ObjectId.{ObjectId}
use Rattle.fetch_store.specs.Borders.{ids_of, set_of}
use Rattle.fetch_store.specs.Graph.{Graph}
use Rattle.fetch_refs.specs.declared.error.RefError.{RefError}
use Rattle.fetch_refs.specs.declared.target.Target.{Target}
use Rattle.fetch_refs.specs.Names.{Names}
use Rattle.fetch_refs.specs.Peeled.{resolved, through}
use Rattle.fetch_negotiate.specs.Commits.{commit_of}

-- the id, where one was found
abbrev pub found : Result ObjectId RefError → Option ObjectId
found (Ok id) = Some id
found (Err e) = None

-- what a reference leads to by names, of which there are five at most, and its own is the first
abbrev pub led_to : Names → List ℕ × Target → Option ObjectId
led_to names entry = found (resolved names entry.0 entry.1)

-- the id of a stored commit alone
abbrev pub if_commit : Graph → Option ObjectId → Option ObjectId
if_commit g end = option_and_then (λ id. if is_some (commit_of g id) then Some id else None) end

-- the stored commit that a reference peels to: where names lead, and then stored tags
abbrev pub tip_of : Names → Graph → List ℕ × Target → Option ObjectId
tip_of names g entry = option_and_then (λ id. if_commit g (found (through g (map.len g) [] id))) (led_to names entry)

-- the commits that references peel to, each once, in ascending order
unfoldable pub tips_of : Names → Graph → List ObjectId
tips_of names g = ids_of (set_of (filter_map (tip_of names g) (map.entries names)))
