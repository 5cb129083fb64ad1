-- The update policy: what becomes of the destination of one mapping. The first row that holds decides.
use Rattle.std.specs.Prelude.{ℕ, Bool, true, false, ◌&&◌, ◌||◌, List, [], ◌∷◌, ◌++◌, codes, Option, Some, None, is_some, Result, Ok, Err}
use Rattle.std.specs.Prelude.{if◌then◌else◌}
use Rattle.std.specs.FinMap as finmap
use Rattle.std.specs.Ordering.{eq_by_cmp}
use Rattle.std.specs.Option.{option_copied}
use Rattle.std.specs.Str.{bytes_eq}
use Rattle.fetch_base.specs.declared.id.ObjectId.{ObjectId}
use Rattle.fetch_store.specs.Graph.{Graph}
use Rattle.fetch_base.specs.Id.{id_cmp}
use Rattle.fetch_specs.specs.Categories.{category_of}
use Rattle.fetch_specs.specs.Names.{is_full_name}
use Rattle.fetch_specs.specs.Specs.{Spec}
use Rattle.fetch_specs.specs.Tagged.{is_tag_spec}
use Rattle.fetch_specs.specs.declared.category.Category.{Category}
use Rattle.fetch_specs.specs.declared.category.Category.TheVariants as categories
use Rattle.fetch_specs.specs.declared.operation.Mode.{Mode as SpecMode}
use Rattle.fetch_specs.specs.declared.operation.Mode.TheVariants as spec_modes
use Rattle.fetch_specs.specs.declared.tags.Tags.{Tags}
use Rattle.fetch_specs.specs.declared.tags.Tags.TheVariants as wanted_tags
use Rattle.fetch_refs.specs.declared.edit.Change.TheVariants as changes
use Rattle.fetch_refs.specs.declared.edit.PreviousValue.{PreviousValue}
use Rattle.fetch_refs.specs.declared.edit.PreviousValue.TheVariants as expected
use Rattle.fetch_refs.specs.declared.edit.RefEdit.{RefEdit}
use Rattle.fetch_refs.specs.declared.edit.RefLog.TheVariants as logs
use Rattle.fetch_refs.specs.declared.error.RefError.{RefError}
use Rattle.fetch_refs.specs.declared.error.RefError.TheVariants as ref_errors
use Rattle.fetch_refs.specs.declared.target.Target.{Target}
use Rattle.fetch_refs.specs.declared.target.Target.TheVariants as targets
use Rattle.fetch_refs.specs.Names.{Names}
use Rattle.fetch_refs.specs.Targets.{seen}
use Rattle.fetch_refs.specs.Peeled.{peeled}
use Rattle.fetch_lines.specs.References.{source_target}
use Rattle.fetch_map.specs.declared.mapping.Mapping.{Mapping}
use Rattle.fetch_lines.specs.declared.listings.reference.Ref.{Ref}
use Rattle.fetch_lines.specs.declared.listings.reference.Ref.TheVariants as remote
use Rattle.fetch_lines.specs.declared.listings.reference.Source.{Source}
use Rattle.fetch_lines.specs.declared.listings.reference.Source.TheVariants as sources
use Rattle.fetch_update.specs.declared.message.RefLogMessage.{RefLogMessage}
use Rattle.fetch_update.specs.declared.message.RefLogMessage.TheVariants.{Prefixed, Override}
use Rattle.fetch_update.specs.declared.mode.Mode.{Mode}
use Rattle.fetch_update.specs.declared.mode.Mode.TheVariants as modes
use Rattle.fetch_update.specs.declared.mode.TypeChange.{TypeChange}
use Rattle.fetch_update.specs.declared.mode.TypeChange.TheVariants.{SymbolicToDirect}
use Rattle.fetch_update.specs.declared.update.Error.{Error}
use Rattle.fetch_update.specs.declared.update.Error.TheVariants as errors
use Rattle.fetch_update.specs.declared.worktrees.Worktree.{Worktree}
use Rattle.fetch_update.specs.declared.verdict.Verdict.{Verdict}
use Rattle.fetch_update.specs.declared.judge.Judge.{Judge}
use Rattle.fetch_update.specs.declared.judge.Place.{Place as PlaceInCode}
use Rattle.fetch_update.specs.declared.judge.NewTarget.{NewTarget}
use Rattle.fetch_update.specs.declared.judge.NewTarget.TheVariants as new_target
use Rattle.fetch_update.specs.Ahead.{is_ahead}
use Rattle.fetch_update.specs.Dated.{commit_at}
use Rattle.fetch_update.specs.Trees.{is_checked_out, directories_of}

-- what mappings are judged by
pub record Policy : Type 0 where
  pub names : Names
  pub graph : Graph
  pub message : RefLogMessage
  pub tags : Tags
  pub dry_run : Bool
  pub worktrees : List Worktree

-- ---- words

-- what a reflog says of a new tag
unfoldable pub storing_tag : List ℕ
storing_tag = codes "storing tag"

-- what a reflog says of a new branch
unfoldable pub storing_head : List ℕ
storing_head = codes "storing head"

-- what a reflog says of another new reference
unfoldable pub storing_ref : List ℕ
storing_ref = codes "storing ref"

-- what a reflog says of an unborn reference that changes
unfoldable pub change_unborn : List ℕ
change_unborn = codes "change unborn ref"

-- what a reflog says where nothing is to change
unfoldable pub no_update : List ℕ
no_update = codes "no update will be performed"

-- what a reflog says of a tag that moves
unfoldable pub updating_tag : List ℕ
updating_tag = codes "updating tag"

-- what a reflog says of a guess in a dry run
unfoldable pub guessed : List ℕ
guessed = codes "fast-forward (guessed in dry-run)"

-- what a reflog says of a fast-forward
unfoldable pub fast_forward : List ℕ
fast_forward = codes "fast-forward"

-- what a reflog says of a forced update
unfoldable pub forced_update : List ℕ
forced_update = codes "forced-update"

-- the action, a colon and a space before what happened; or a text of its own
abbrev pub message_text : RefLogMessage → List ℕ → List ℕ
message_text (Prefixed action) happened = action ++ (58 ∷ 32 ∷ []) ++ happened
message_text (Override message) happened = message

-- ---- what is asked

-- what a reference of the remote is: an id (of a tag, before what it peels to), or a name that isn't there
abbrev pub value_in : Ref → Target
value_in (remote.Direct name object) = targets.Object object
value_in (remote.Symbolic name target (Some tag) object) = targets.Object tag
value_in (remote.Symbolic name target None object) = targets.Object object
value_in (remote.Peeled name tag object) = targets.Object tag
value_in (remote.Unborn name target) = targets.Symbolic target

-- what a mapping is to write
abbrev pub value_of : Source → Target
value_of (sources.ObjectId id) = targets.Object id
value_of (sources.Ref reference) = value_in reference

-- whether a refspec has a plus
abbrev pub is_forced : SpecMode → Bool
is_forced spec_modes.Normal = false
is_forced spec_modes.Force = true
is_forced spec_modes.Exclusion = false

-- whether tags come along with the history
abbrev pub is_included : Tags → Bool
is_included wanted_tags.All = false
is_included wanted_tags.Included = true
is_included wanted_tags.None = false

-- whether a category is that of tags
abbrev pub is_category : Category → Bool
is_category categories.Tag = true
is_category other = false

-- whether a name is that of a tag
abbrev pub is_tag_category : Option Category → Bool
is_tag_category None = false
is_tag_category (Some c) = is_category c

-- whether a name begins with `refs/tags/`
abbrev pub is_tag : List ℕ → Bool
is_tag name = is_tag_category (category_of name)

-- what a reflog says of a new reference of this category
abbrev pub storing_in : Option Category → List ℕ
storing_in None = storing_ref
storing_in (Some categories.Tag) = storing_tag
storing_in (Some categories.LocalBranch) = storing_head
storing_in (Some other) = storing_ref

-- what a reflog says of a new reference of this name
abbrev pub storing : List ℕ → List ℕ
storing name = storing_in (category_of name)

-- whether something is stored at an id
abbrev pub is_stored : Graph → ObjectId → Bool
is_stored g id = is_some (finmap.get g id)

-- whether a commit is stored at an id
abbrev pub is_commit : Graph → ObjectId → Bool
is_commit g id = is_some (commit_at g id)

-- ---- verdicts

-- a mapping that changes nothing
abbrev pub nothing : Mode → Verdict
nothing mode = record { mode = mode; type_change = None; edit = None }

-- the edit that writes a value, with what happened
abbrev pub edit_of : RefLogMessage → List ℕ → PreviousValue → Target → List ℕ → RefEdit
edit_of message name expects value happened =
    record {
      change = changes.Update (record {
        mode = logs.AndReference;
        force_create_reflog = false;
        message = message_text message happened;
      }) expects value;
      name = name;
    }

-- a symbolic reference that gets an id is told so
abbrev pub type_change_of : Target → Target → Option TypeChange
type_change_of (targets.Symbolic found) (targets.Object id) = Some SymbolicToDirect
type_change_of (targets.Symbolic found) (targets.Symbolic name) = None
type_change_of (targets.Object found) value = None

-- what stands at a destination, and what is to be done there: the name, the value found, the value that is to be written, the name
-- that the remote's reference names, and whether the refspec has a plus
pub record Place : Type 0 where
  pub name : List ℕ
  pub found : Target
  pub value : Target
  pub target : Option (List ℕ)
  pub plus : Bool

-- the destination of a mapping, where this was found
abbrev pub place_of : Spec → Mapping → List ℕ → Target → Place
place_of s m name found = record {
  name = name;
  found = found;
  value = value_of m.remote;
  target = source_target m.remote;
  plus = is_forced s.mode;
}

-- a reference that has the value found gets another, or the same again
abbrev pub written : RefLogMessage → Place → Mode → List ℕ → Verdict
written message place mode happened = record {
  mode = mode;
  type_change = type_change_of place.found place.value;
  edit = Some (edit_of message place.name (expected.MustExistAndMatch place.found) place.value happened);
}

-- the verdict of a reference that isn't there yet
abbrev pub created : RefLogMessage → List ℕ → Target → Verdict
created message name value = record {
  mode = modes.New;
  type_change = None;
  edit = Some (edit_of message name (expected.ExistingMustMatch value) value (storing name));
}

-- the value, where it may be written: a name that isn't one can't be
abbrev pub checked : Target → Result Target Error
checked (targets.Object id) = Ok (targets.Object id)
checked (targets.Symbolic name) = if is_full_name name then Ok (targets.Symbolic name) else Err (errors.InvalidRefName name)

-- a verdict, unless a check is refused
abbrev pub after_check : Result Target Error → Verdict → Result Verdict Error
after_check (Ok value) v = Ok v
after_check (Err e) v = Err e

-- the verdict, where the value may be written
abbrev pub if_valid : Target → Verdict → Result Verdict Error
if_valid value v = after_check (checked value) v

-- an object that is stored becomes another one
unfoldable pub at_stored : Policy → Place → ObjectId → ObjectId → Verdict
at_stored p place local remote =
    if is_commit p.graph local && is_commit p.graph remote then
    (if is_ahead p.graph remote local then written p.message place modes.FastForward fast_forward
    else if place.plus then written p.message place modes.Forced forced_update
    else nothing modes.RejectedNonFastForward)
    else written p.message place modes.Forced forced_update

-- a reference that stands for an id, by what is to be written
unfoldable pub at_id : Policy → Place → ObjectId → Target → Result Verdict Error
at_id p place local (targets.Symbolic new_target) = Ok (nothing modes.RejectedToReplaceWithUnborn)
at_id p place local (targets.Object remote) =
    if eq_by_cmp id_cmp local remote then Ok (written p.message place modes.NoChangeNeeded no_update)
    else if is_tag place.name then Ok (if place.plus then written p.message place modes.Forced updating_tag
    else nothing modes.RejectedTagUpdate)
    else if p.dry_run then Ok (written p.message place modes.FastForward guessed)
    else if is_stored p.graph local then Ok (at_stored p place local remote)
    else Err (errors.FindCommit local)

-- what an unborn reference is told: nothing changes where it names what the remote's names
abbrev pub unborn_mode : Target → Option (List ℕ) → Mode
unborn_mode (targets.Symbolic found) (Some target) = if bytes_eq found target then modes.NoChangeNeeded else modes.Forced
unborn_mode (targets.Symbolic found) None = modes.Forced
unborn_mode (targets.Object found) target = modes.Forced

-- a reference that stands, by the id that it stands for
unfoldable pub at_local : Policy → Place → Result ObjectId RefError → Result Verdict Error
at_local p place (Ok id) = at_id p place id place.value
at_local p place (Err (ref_errors.Unborn at)) =
    if_valid place.value (written p.message place (unborn_mode place.found place.target) change_unborn)
at_local p place (Err cause) = Err (errors.PeelToId place.name cause)

-- a reference that stands
unfoldable pub at_place : Policy → Place → Result Verdict Error
at_place p place =
    if is_checked_out p.worktrees place.name then Ok (nothing (modes.RejectedCurrentlyCheckedOut (directories_of p.worktrees place.name)))
    else at_local p place (peeled p.names p.graph place.name)

-- a valid destination, by what stands there
unfoldable pub at_name : Policy → Spec → Mapping → List ℕ → Option Target → Result Verdict Error
at_name p s m name None = if_valid (value_of m.remote) (created p.message name (value_of m.remote))
at_name p s m name (Some found) = at_place p (place_of s m name found)

-- the verdict of a mapping with this destination
unfoldable pub at_destination : Policy → Spec → Mapping → Option (List ℕ) → Result Verdict Error
at_destination p s m None = Ok (nothing modes.NoChangeNeeded)
at_destination p s m (Some name) = if is_full_name name then at_name p s m name (finmap.get p.names name)
    else Err (errors.FindReference name)

-- the id that isn't stored, where objects are tested: outside a dry run
unfoldable pub unsent : Policy → Target → Option ObjectId
unsent p (targets.Symbolic name) = None
unsent p (targets.Object id) = if p.dry_run || is_stored p.graph id then None else Some id

-- the mode of a source that the server didn't send
unfoldable pub unsent_mode : Tags → Spec → ObjectId → Mode
unsent_mode tags s id = if is_included tags && is_tag_spec s then modes.ImplicitTagNotSentByRemote
    else modes.RejectedSourceObjectNotFound id

-- that mode, where a source wasn't sent
abbrev pub unless_unsent : Policy → Spec → Option ObjectId → Result Verdict Error → Result Verdict Error
unless_unsent p s None otherwise = otherwise
unless_unsent p s (Some id) otherwise = Ok (nothing (unsent_mode p.tags s id))

-- the verdict of a mapping by itself
unfoldable pub verdict_of : Policy → Spec → Mapping → Result Verdict Error
verdict_of p s m = unless_unsent p s (unsent p (value_of m.remote)) (at_destination p s m m.local)

-- out of memory
abbrev pub is_memory : Error → Bool
is_memory errors.NoMemory = true
is_memory _ = false

-- what a judge of the code judges by
abbrev pub policy_of : Graph → Judge → Policy
policy_of graph j = record {
  names = j.refs.now.names;
  graph = graph;
  message = j.message.now;
  tags = j.tags;
  dry_run = j.dry_run;
  worktrees = j.worktrees.now;
}

-- what the code asks for
abbrev pub value_in_code : NewTarget → Target
value_in_code (new_target.Id id) = targets.Object id
value_in_code (new_target.Name name) = targets.Symbolic name.now

-- a place of the code
abbrev pub place_in_code : PlaceInCode → Place
place_in_code c = record {
  name = c.name;
  found = seen c.found;
  value = value_in_code c.new_target;
  target = option_copied c.target;
  plus = c.is_forced;
}

-- the policy over references, objects and worktrees
abbrev pub policy_over : Names → Graph → RefLogMessage → Tags → Bool → List Worktree → Policy
policy_over names graph message tags dry_run worktrees =
    record { names = names; graph = graph; message = message; tags = tags; dry_run = dry_run; worktrees = worktrees }
