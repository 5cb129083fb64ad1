-- What `HEAD` is to take of what a remote listed, and the edits by which it does.
use Rattle.std.specs.Prelude.{ℕ, Bool, true, false, ◌&&◌, List, [], ◌∷◌, find, codes, Option, Some, None, is_some, Result, Ok, Err}
use Rattle.std.specs.Prelude.{if◌then◌else◌}
use Rattle.std.specs.FinMap as finmap
use Rattle.std.specs.Option.{option_and_then}
use Rattle.std.specs.Str.{bytes_eq}
use Rattle.fetch_store.specs.Graph.{Graph, is_commit_at}
use Rattle.fetch_base.specs.Answers.{AnswersUnless}
use Rattle.fetch_base.specs.declared.id.ObjectId.{ObjectId}
use Rattle.fetch_specs.specs.Names.{is_full_name}
use Rattle.fetch_specs.specs.Specs.{Spec}
use Rattle.fetch_refs.specs.Peeled.{through}
use Rattle.fetch_refs.specs.declared.edit.Change.TheVariants.{Update}
use Rattle.fetch_refs.specs.declared.edit.PreviousValue.TheVariants.{Any}
use Rattle.fetch_refs.specs.declared.edit.RefEdit.{RefEdit}
use Rattle.fetch_refs.specs.declared.edit.RefLog.{RefLog}
use Rattle.fetch_refs.specs.declared.edit.RefLog.TheVariants.{AndReference, Only}
use Rattle.fetch_refs.specs.declared.error.RefError.{RefError}
use Rattle.fetch_refs.specs.declared.target.Target.{Target}
use Rattle.fetch_refs.specs.declared.target.Target.TheVariants as targets
use Rattle.fetch_map.specs.Mappings.{spec_at}
use Rattle.fetch_lines.specs.References.{name_in, source_id}
use Rattle.fetch_map.specs.declared.mapping.Mapping.{Mapping}
use Rattle.fetch_map.specs.declared.mapping.RefMap.{RefMap}
use Rattle.fetch_lines.specs.declared.listings.reference.Ref.{Ref}
use Rattle.fetch_lines.specs.declared.listings.reference.Ref.TheVariants as refs
use Rattle.fetch_init.specs.NamedRefs.{is_called, ref_named_in}
use Rattle.fetch_init.specs.declared.head_target.HeadTarget.{HeadTarget}
use Rattle.fetch_init.specs.declared.head_target.HeadTarget.TheVariants.{Nothing, Id, Name}
use Rattle.fetch_init.specs.declared.head_target.HeadError.{HeadError}
use Rattle.fetch_init.specs.declared.head_target.HeadError.TheVariants as head_errors
use Rattle.fetch_init.specs.declared.named_ref.NamedRef.{NamedRef}
use Rattle.fetch_init.specs.declared.named_ref.RefNameError.{RefNameError}

-- a name that `HEAD` can have, with the id that the name gets
abbrev pub at_name : List ℕ → Option ObjectId → Result HeadTarget HeadError
at_name name id = if is_full_name name then Ok (Name name id) else Err (head_errors.InvalidHead name)

-- ---- the advertised `HEAD`

-- Symbolic it is a name and its object, direct an id alone, unborn a name alone. Where it is peeled, or there is none, all is left.
abbrev pub of_advertised : Option Ref → Result HeadTarget HeadError
of_advertised None = Ok Nothing
of_advertised (Some (refs.Direct name object)) = Ok (Id object)
of_advertised (Some (refs.Symbolic name target tag object)) = at_name target (Some object)
of_advertised (Some (refs.Peeled name tag object)) = Ok Nothing
of_advertised (Some (refs.Unborn name target)) = at_name target None

-- whether a reference is `HEAD`
abbrev pub is_head : Ref → Bool
is_head r = bytes_eq (name_in r) (codes "HEAD")

-- the `HEAD` that the remote lists
abbrev pub advertised_head : RefMap → Option Ref
advertised_head map = find is_head map.remote_refs

-- ---- a ref name

-- the reference that is meant, as what `HEAD` takes
abbrev pub of_named_ref : Result NamedRef RefNameError → Result HeadTarget HeadError
of_named_ref (Ok m) = at_name m.name (Some m.id)
of_named_ref (Err e) = Err (head_errors.Name e)

-- ---- a revision

-- whether two sides are the same
abbrev pub is_same_side : Option (List ℕ) → Option (List ℕ) → Bool
is_same_side None None = true
is_same_side None (Some b) = false
is_same_side (Some a) None = false
is_same_side (Some a) (Some b) = bytes_eq a b

-- whether a refspec has this source
abbrev pub has_source : Option (List ℕ) → Option Spec → Bool
has_source source None = false
has_source source (Some spec) = is_same_side spec.source source

-- whether a mapping was made by a refspec of this source, and has an id
abbrev pub is_made_by : Option (List ℕ) → RefMap → Mapping → Bool
is_made_by source map m = has_source source (spec_at m.spec_index map.refspecs map.extra_refspecs) && is_some (source_id m.remote)

-- the id that a revision is mapped to
abbrev pub revision_id : RefMap → Spec → Option ObjectId
revision_id map revision = option_and_then (λ m. source_id m.remote) (find (is_made_by revision.source map) map.mappings)

-- what stored tags lead to has to be a commit
abbrev pub of_peeled : Graph → ObjectId → Result ObjectId RefError → Result HeadTarget HeadError
of_peeled graph first (Ok id) = if is_commit_at graph id then Ok (Id id) else Err (head_errors.Peel first)
of_peeled graph first (Err e) = Err (head_errors.Peel first)

-- the commit of a revision's id
abbrev pub of_id : Graph → Option ObjectId → Result HeadTarget HeadError
of_id graph None = Err head_errors.Revision
of_id graph (Some id) = if is_some (finmap.get graph id) then of_peeled graph id (through graph (finmap.len graph) [] id)
    else Err (head_errors.Find id)

-- ---- all of it

-- with a revision its commit; else with a ref name that name and its id; else what the advertised `HEAD` says
abbrev pub head_target_in : RefMap → Graph → Option (List ℕ) → Option Spec → Result HeadTarget HeadError
head_target_in map graph ref_name (Some revision) = of_id graph (revision_id map revision)
head_target_in map graph (Some name) None = of_named_ref (ref_named_in map.mappings name)
head_target_in map graph None None = of_advertised (advertised_head map)

-- out of memory
abbrev pub is_memory : HeadError → Bool
is_memory head_errors.NoMemory = true
is_memory (head_errors.Name e) = Rattle.fetch_init.specs.NamedRefs.is_memory e
is_memory e = false

-- whether memory is taken to find or to tell it: for a name, or for what was wanted and isn't there
abbrev pub takes_memory : Result HeadTarget HeadError → Bool
takes_memory (Ok Nothing) = false
takes_memory (Ok (Id id)) = false
takes_memory (Ok (Name name id)) = true
takes_memory (Err (head_errors.Name e)) = true
takes_memory (Err (head_errors.InvalidHead name)) = true
takes_memory (Err head_errors.Revision) = true
takes_memory (Err (head_errors.Find id)) = false
takes_memory (Err (head_errors.Peel id)) = false
takes_memory (Err head_errors.NoMemory) = true

-- what is found and told, but for want of memory where some is taken
abbrev pub IsFound : Result HeadTarget HeadError → Result HeadTarget HeadError → Type 0
IsFound expected result = AnswersUnless (λ e. takes_memory expected && is_memory e) expected result

-- ---- the edits

-- an edit that writes a value and expects nothing
abbrev pub update_of : RefLog → List ℕ → List ℕ → Target → RefEdit
update_of mode message name new = record {
  change = Update (record { mode = mode; force_create_reflog = false; message = message }) Any new;
  name = name;
}

-- the same, of the reference and its reflog
abbrev pub update : List ℕ → List ℕ → Target → RefEdit
update message name new = update_of AndReference message name new

-- Where there is an id, the name gets it, and `HEAD` gets a line in its reflog.
abbrev pub named_edits : List ℕ → List ℕ → Option ObjectId → List RefEdit
named_edits message name None = []
named_edits message name (Some id) = update message name (targets.Object id)
    ∷ update_of Only message (codes "HEAD") (targets.Object id) ∷ []

-- `HEAD` takes the id, or leads to the name.
abbrev pub edits_of : List ℕ → HeadTarget → List RefEdit
edits_of message Nothing = []
edits_of message (Id id) = update message (codes "HEAD") (targets.Object id) ∷ []
edits_of message (Name name id) = update message (codes "HEAD") (targets.Symbolic name) ∷ named_edits message name id
