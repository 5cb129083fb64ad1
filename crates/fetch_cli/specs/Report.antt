-- The report of a scene.
use Rattle.std.specs.Prelude.{◌≡◌, ◌≢◌, ℕ, pos, List, [], ◌∷◌, ◌++◌, codes, Option, Some, None, Result, Ok, Err, if◌then◌else◌}
use Rattle.std.specs.FinMap as map
use Rattle.std.specs.List.{concat, flat_map, slice_get}
use Rattle.fetch_config.specs.Contents.{Contents}
use Rattle.fetch_base.specs.declared.id.Kind.{Kind}
use Rattle.fetch_store.specs.Borders.{IdSet, ids_of}
use Rattle.fetch_store.specs.Stores.{Entries, add_all}
use Rattle.fetch_specs.specs.Names.{is_full_name}
use Rattle.fetch_specs.specs.Specs.{Spec}
use Rattle.fetch_refs.specs.Logs.{lines_of}
use Rattle.fetch_refs.specs.Names.{Names, Logs, RefsValue}
use Rattle.fetch_refs.specs.declared.log.Signature.{Signature}
use Rattle.fetch_lines.specs.Written.{lines_text}
use Rattle.fetch_lines.specs.declared.lines.line.Line.{Line}
use Rattle.fetch_map.specs.declared.mapping.Mapping.{Mapping}
use Rattle.fetch_update.specs.declared.update.Outcome.{Outcome as Updates}
use Rattle.fetch_update.specs.declared.update.Update.{Update}
use Rattle.fetch_remote.specs.Fetching.{fetched_in, requests_in, left_in, keep_left_in}
use Rattle.fetch_remote.specs.Form.{Given}
use Rattle.fetch_remote.specs.Keeping.{keep_in}
use Rattle.fetch_remote.specs.Remotes.{nameless}
use Rattle.fetch_remote.specs.Repositories.{State, Setup, logging_of}
use Rattle.fetch_remote.specs.declared.fetching.fetch_error.FetchError.{FetchError}
use Rattle.fetch_remote.specs.declared.fetching.fetch_error.FetchError.TheVariants as errors
use Rattle.fetch_remote.specs.declared.fetching.options.FetchOptions.{FetchOptions}
use Rattle.fetch_remote.specs.declared.fetching.outcome.Outcome.{Outcome}
use Rattle.fetch_remote.specs.declared.fetching.outcome.Status.{Status}
use Rattle.fetch_remote.specs.declared.fetching.outcome.Status.TheVariants as statuses
use Rattle.fetch_cli.specs.Heard.{lines_heard}
use Rattle.fetch_cli.specs.MapLines.{map_line}
use Rattle.fetch_scene.specs.Scene.{local_in}
use Rattle.fetch_cli.specs.ReportLines.{sent_line, ref_line, log_line, border_line, id_line, keep_line, refused_line}
use Rattle.fetch_cli.specs.Tokens.{token}
use Rattle.fetch_scene.specs.declared.head.Head.{Head}
use Rattle.fetch_scene.specs.declared.options.SceneOptions.{SceneOptions}
use Rattle.fetch_scene.specs.declared.references.Reference.{Reference}
use Rattle.fetch_scene.specs.declared.scene.Scene.{Scene}

-- ---- what a scene says

-- who writes the lines of reflogs
unfoldable pub committer : Signature
committer = record { name = codes "fetch"; email = codes "fetch@localhost"; seconds = 0; offset_minutes = pos 0 }

-- the options of a scene's fetch
abbrev pub fetch_options : SceneOptions → List Spec → FetchOptions
fetch_options o extra = record {
  map = record {
    prefix_from_spec_as_filter_on_remote = o.filter;
    handshake_parameters = o.parameters;
    extra_refspecs = extra;
    max_reply_bytes = o.bound;
  };
  dry_run = o.dry_run;
  write_packed_refs_only = o.packed_only;
  reflog_message = o.message;
  shallow = o.shallow;
}

-- what is read of a repository with this head and this configuration, which is all it has
abbrev pub setup_in : Head → Contents → Setup
setup_in head config = record {
  base = record { meta = config.meta; sections = [] };
  local = config;
  overrides = [];
  workdir = head.workdir;
  settings = record { kind = head.hash; config = config; lenient = head.lenient; git_dir = head.git_dir; committer = committer };
  logging = logging_of config head.workdir;
}

-- the remote with its one address, the options, and what is read of the repository
abbrev pub given_of : Scene → Given
given_of s = record {
  remote = nameless (s.address ∷ []) s.specs s.tags;
  options = fetch_options s.options s.extra;
  setup = setup_in (local_in s).head s.config;
}

-- with each reference at its name
abbrev pub with_references : Names → List Reference → Names
with_references names [] = names
with_references names (r ∷ rs) = with_references (map.insert names r.name r.target) rs

-- the objects, the border and the references, and no reflogs
abbrev pub found_in : Kind → Entries → IdSet → List Reference → State
found_in hash objects border refs = record {
  hash = hash;
  objects = add_all map.empty objects;
  border = border;
  refs = record { hash = hash; names = with_references map.empty refs; logs = map.empty; packed = map.empty };
}

-- the state of the repository that a scene says
abbrev pub found_of : Scene → State
found_of s = found_in s.hash s.objects s.border s.refs

-- all that the peer says
abbrev pub stream_of : Scene → List ℕ
stream_of s = concat s.pieces

-- what the fetch of a scene gives
abbrev pub fetched_by : Scene → Result (Outcome × State) FetchError
fetched_by s = fetched_in (given_of s) s.worktrees (found_of s) (stream_of s)

-- the requests of a scene's fetch
abbrev pub requests_of : Scene → List ℕ
requests_of s = lines_text (requests_in (given_of s) (found_of s) (stream_of s))

-- the state that a scene's fetch leaves at a refusal
abbrev pub left_by : Scene → State
left_by s = left_in (given_of s) (found_of s) (stream_of s)

-- the keep file that a refusal leaves
abbrev pub keep_left_by : Scene → Option (List ℕ)
keep_left_by s = keep_left_in (given_of s) (found_of s) (stream_of s)

-- ---- the lines of a report

-- the lines that were sent
abbrev pub sent_lines : List Line → List ℕ
sent_lines lines = flat_map sent_line lines

-- the line of an update, where its mapping is there
abbrev pub map_line_at : Update → Option Mapping → List ℕ
map_line_at update None = []
map_line_at update (Some mapping) = map_line update mapping

-- the line of an update of one of these mappings
abbrev pub update_line : List Mapping → Update → List ℕ
update_line mappings update = map_line_at update (slice_get mappings update.mapping_index)

-- a line for each update
abbrev pub map_lines : List Mapping → List Update → List ℕ
map_lines mappings updates = flat_map (update_line mappings) updates

-- a line for each reference
abbrev pub ref_lines : Names → List ℕ
ref_lines names = flat_map (λ e. ref_line e.0 e.1) (map.entries names)

-- Full names alone have reflogs.
abbrev pub log_lines_at : Logs → List ℕ → List ℕ
log_lines_at logs name = if is_full_name name then flat_map (log_line name) (lines_of logs name) else []

-- the reflogs of the references
abbrev pub log_lines : RefsValue → List ℕ
log_lines refs = flat_map (λ e. log_lines_at refs.logs e.0) (map.entries refs.names)

-- references, reflogs, border and ids, each in ascending order
unfoldable pub state_lines : State → List ℕ
state_lines s = ref_lines s.refs.names ++ log_lines s.refs ++ flat_map border_line (ids_of s.border)
    ++ flat_map id_line (map.keys s.objects)

-- the updates of a status
abbrev pub updates_of : Status → Updates
updates_of (statuses.NoPackReceived dry_run negotiate updates) = updates
updates_of (statuses.Change negotiate pack updates) = updates

-- the keep file, where one stays
abbrev pub keep_lines : Option (List ℕ) → List ℕ
keep_lines None = []
keep_lines (Some path) = keep_line path

-- the report of a fetch that was done
unfoldable pub done_text : List Line → Outcome → State → List ℕ
done_text sent outcome after =
    sent_lines sent ++ map_lines outcome.ref_map.mappings (updates_of outcome.status).updates ++ state_lines after
    ++ keep_lines (keep_in outcome.status) ++ codes "ok\n"

-- the report of a fetch that was refused
unfoldable pub refused_text : List Line → FetchError → State → Option (List ℕ) → List ℕ
refused_text sent e left keep = sent_lines sent ++ refused_line (token e) ++ state_lines left ++ keep_lines keep

-- ---- the report

-- the status, and the report with these lines sent; a refusal left this state and this keep file
abbrev pub report_with : List Line → Result (Outcome × State) FetchError → State → Option (List ℕ) → ℕ × List ℕ
report_with sent (Ok x) left keep = (0, done_text sent x.0 x.1)
report_with sent (Err (errors.Prepare e)) left keep = (1, refused_text sent (errors.Prepare e) left keep)
report_with sent (Err (errors.Receive e)) left keep = (1, refused_text sent (errors.Receive e) left keep)
report_with sent (Err errors.NoMemory) left keep = (1, refused_text sent errors.NoMemory left keep)

-- what was answered, with the state that was left
abbrev pub beside : State → Result Outcome FetchError → Result (Outcome × State) FetchError
beside left (Ok outcome) = Ok (outcome, left)
beside left (Err e) = Err e

-- the report of a fetch that answered this, left this state and this keep file, and whose peer heard these bytes
pub record Tells (old new : List ℕ) (status : ℕ) (result : Result Outcome FetchError) (left : State) (keep : Option (List ℕ))
    (heard : List ℕ) : Type 0 where
  pub text : List ℕ
  pub is : report_with (lines_heard heard) (beside left result) left keep ≡ (status, text)
  pub known : result ≢ Err errors.NoMemory
  pub added : new ≡ old ++ text

-- the report of a scene: the requests for all that its peer says were sent
unfoldable pub report_of : Scene → ℕ × List ℕ
report_of s = report_with (requests_in (given_of s) (found_of s) (stream_of s)) (fetched_by s) (left_by s) (keep_left_by s)

-- The status and the text are the report of the scene.
pub record IsReport (s : Scene) (status : ℕ) (text : List ℕ) : Type 0 where
  pub whole : report_of s ≡ (status, text)

-- The report of the scene stands after what was there.
pub record Reports (s : Scene) (old new : List ℕ) (status : ℕ) : Type 0 where
  pub text : List ℕ
  pub reported : IsReport s status text
  pub added : new ≡ old ++ text
