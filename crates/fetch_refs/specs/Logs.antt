-- The reflogs after edits.
use Rattle.std.specs.Prelude.{ℕ, Bool, true, false, not, ◌&&◌, ◌||◌, List, [], ◌∷◌, ◌++◌, Option, Some, None, if◌then◌else◌, unwrap_or}
use Rattle.std.specs.Prelude.{codes, nat_eq, replicate}
use Rattle.std.specs.FinMap as map
use Rattle.std.specs.List.{starts_with}
use Rattle.std.specs.Str.{bytes_eq}
use Rattle.fetch_base.specs.Id.{byte_len, id_of_bytes}
use Rattle.fetch_base.specs.declared.id.Kind.{Kind}
use Rattle.fetch_base.specs.declared.id.ObjectId.{ObjectId}
use Rattle.fetch_refs.specs.declared.apply.Logger.{Logger}
use Rattle.fetch_refs.specs.declared.edit.Change.{Change}
use Rattle.fetch_refs.specs.declared.edit.Change.TheVariants.{Update, Delete}
use Rattle.fetch_refs.specs.declared.edit.LogChange.{LogChange}
use Rattle.fetch_refs.specs.declared.edit.PackedRefs.{PackedRefs}
use Rattle.fetch_refs.specs.declared.edit.RefEdit.{RefEdit}
use Rattle.fetch_refs.specs.declared.edit.RefLog.{RefLog}
use Rattle.fetch_refs.specs.declared.edit.RefLog.TheVariants as modes
use Rattle.fetch_refs.specs.declared.log.LogLine.{LogLine}
use Rattle.fetch_refs.specs.declared.log.Signature.{Signature}
use Rattle.fetch_refs.specs.declared.target.Target.{Target}
use Rattle.fetch_refs.specs.declared.target.Target.TheVariants.{Object, Symbolic}
use Rattle.fetch_refs.specs.Edits.{changed, refs_after}
use Rattle.fetch_refs.specs.Names.{Names, Logs, RefsValue}
use Rattle.fetch_refs.specs.Packed.{packed_after, packed_changed}
use Rattle.fetch_refs.specs.Targets.{is_same}

-- who writes the lines of a repository of this hash, and whether it logs the usual names
pub record Logging : Type 0 where
  pub hash : Kind
  pub committer : Signature
  pub enabled : Bool

-- `HEAD`, branches, remote branches and notes
unfoldable pub is_logged : List ℕ → Bool
is_logged name = bytes_eq name (codes "HEAD")
    || (starts_with nat_eq name (codes "refs/heads/")
    || (starts_with nat_eq name (codes "refs/remotes/") || starts_with nat_eq name (codes "refs/notes/")))

-- whether a mode is of the reflog alone
abbrev pub is_only : RefLog → Bool
is_only modes.Only = true
is_only modes.AndReference = false

-- whether this is the value found
abbrev pub is_found : Target → Option Target → Bool
is_found new None = false
is_found new (Some found) = is_same found new

-- whether an update gets a line: for the reflog alone, or with another value than the one found; where it is forced, or the name is logged
unfoldable pub gets_line : Bool → List ℕ → LogChange → Option Target → Target → Bool
gets_line enabled name log found new = (is_only log.mode || not (is_found new found))
    && (log.force_create_reflog || (enabled && is_logged name))

-- the id of zeros
abbrev pub null_id : Kind → ObjectId
null_id kind = id_of_bytes kind (replicate (byte_len kind) 0)

-- the id that a reference has by itself, or else the null id
abbrev pub old_id : Kind → Option Target → ObjectId
old_id kind (Some (Object id)) = id
old_id kind (Some (Symbolic name)) = null_id kind
old_id kind None = null_id kind

-- the lines of a name's reflog
abbrev pub lines_of : Logs → List ℕ → List LogLine
lines_of logs name = unwrap_or (map.get logs name) []

-- the reflogs with one line more
abbrev pub with_line : Logs → List ℕ → LogLine → Logs
with_line logs name line = map.insert logs name (lines_of logs name ++ line ∷ [])

-- Ids alone are logged.
abbrev pub updated : Logging → Logs → List ℕ → LogChange → Option Target → Target → Logs
updated how logs name log found (Symbolic target) = logs
updated how logs name log found (Object id) =
    if gets_line how.enabled name log found (Object id)
    then with_line logs name (record {
      old = old_id how.hash found;
      new = id;
      committer = how.committer;
      message = log.message;
    }) else logs

-- the reflogs after an edit of a reference that had this value
abbrev pub logged : Logging → Logs → List ℕ → Option Target → Change → Logs
logged how logs name found (Update log expected new) = updated how logs name log found new
logged how logs name found (Delete expected log) = map.remove logs name

-- the reflogs after the edits, in their order
abbrev pub logs_after : Logging → Names → Logs → List RefEdit → Logs
logs_after how names logs [] = logs
logs_after how names logs (e ∷ es) = logs_after how (changed names e) (logged how logs e.name (map.get names e.name) e.change) es

-- references, reflogs and the packed list after the edits
abbrev pub after : Signature → Bool → PackedRefs → RefsValue → List RefEdit → RefsValue
after committer logging packed refs edits =
    record {
      hash = refs.hash;
      names = refs_after refs.names edits;
      logs = logs_after (record { hash = refs.hash; committer = committer; enabled = logging }) refs.names refs.logs edits;
      packed = packed_after packed refs.packed edits;
    }

-- the same after one edit
abbrev pub applied : Signature → Bool → PackedRefs → RefsValue → RefEdit → RefsValue
applied committer logging packed refs e =
    record {
      hash = refs.hash;
      names = changed refs.names e;
      logs = logged (record { hash = refs.hash; committer = committer; enabled = logging }) refs.logs e.name
          (map.get refs.names e.name) e.change;
      packed = packed_changed packed refs.packed e;
    }

-- how a logger of the code logs
abbrev pub logging_of : Logger → Logging
logging_of l = record { hash = l.hash; committer = l.committer.now; enabled = l.enabled }
