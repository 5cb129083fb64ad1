-- What is printed of a mode.
use Rattle.std.specs.Prelude.{ℕ, List, ◌++◌, codes, filter}
use Rattle.std.specs.Fmt.{comma_space}
use Rattle.std.specs.List.{join_by}
use Rattle.std.specs.Str.{is_utf8}
use Rattle.hex.specs.Hex.{encode_lower}
use Rattle.fetch_base.specs.Id.{bytes_of}
use Rattle.fetch_base.specs.declared.id.ObjectId.{ObjectId}
use Rattle.fetch_update.specs.declared.mode.Mode.{Mode}
use Rattle.fetch_update.specs.declared.mode.Mode.TheVariants as modes

-- an id, in hex
unfoldable pub not_found_text : ObjectId → List ℕ
not_found_text id = codes "rejected (" ++ encode_lower (bytes_of id) ++ codes " not found)"

-- those directories that are UTF-8, with a comma and a space between them
unfoldable pub directories_text : List (List ℕ) → List ℕ
directories_text dirs = join_by (λ dir. dir) comma_space (filter is_utf8 dirs)

-- the text of a branch that is checked out
unfoldable pub checked_out_text : List (List ℕ) → List ℕ
checked_out_text dirs = codes "rejected (cannot write into checked-out branch at \"" ++ directories_text dirs ++ codes "\")"

-- how a mode is displayed
abbrev pub mode_text : Mode → List ℕ
mode_text modes.NoChangeNeeded = codes "up-to-date"
mode_text modes.FastForward = codes "fast-forward"
mode_text modes.Forced = codes "forced-update"
mode_text modes.New = codes "new"
mode_text modes.ImplicitTagNotSentByRemote = codes "unrelated tag on remote"
mode_text (modes.RejectedSourceObjectNotFound id) = not_found_text id
mode_text modes.RejectedTagUpdate = codes "rejected (would overwrite existing tag)"
mode_text modes.RejectedNonFastForward = codes "rejected (non-fast-forward)"
mode_text modes.RejectedToReplaceWithUnborn = codes "rejected (refusing to overwrite existing with unborn ref)"
mode_text (modes.RejectedCurrentlyCheckedOut dirs) = checked_out_text dirs
