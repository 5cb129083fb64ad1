-- A whole fetch, from a peer that says this and nothing else.
use Rattle.std.specs.Prelude.{ℕ, Bool, true, false, List, Option, None, unwrap_or, Result, Ok, Err}
use Rattle.fetch_refs.specs.declared.edit.PackedRefs.{PackedRefs}
use Rattle.fetch_refs.specs.declared.edit.PackedRefs.TheVariants as places
use Rattle.fetch_update.specs.declared.message.RefLogMessage.{RefLogMessage}
use Rattle.fetch_update.specs.declared.worktrees.Worktree.{Worktree}
use Rattle.fetch_specs.specs.declared.tags.Tags.{Tags}
use Rattle.fetch_lines.specs.declared.lines.line.Line.{Line}
use Rattle.fetch_conversation.specs.Conversation.{map_refusal, sent_in, answer_in}
use Rattle.fetch_conversation.specs.declared.fetch.Error.{Error as ReceiveError}
use Rattle.fetch_remote.specs.Errors.{receiving}
use Rattle.fetch_remote.specs.Form.{Given}
use Rattle.fetch_remote.specs.Repositories.{State}
use Rattle.fetch_remote.specs.Applying.{to_take, keep_of, taken, applied, kept_or, standing, usual_message}
use Rattle.fetch_remote.specs.Stages.{Told, bound_of, wants_in, conversation}
use Rattle.fetch_remote.specs.declared.fetching.fetch_error.FetchError.{FetchError}
use Rattle.fetch_remote.specs.declared.fetching.options.FetchOptions.{FetchOptions}
use Rattle.fetch_remote.specs.declared.fetching.outcome.Outcome.{Outcome}
use Rattle.fetch_remote.specs.declared.fetching.applying.ApplyOptions.{ApplyOptions}

-- where references are written
abbrev pub places_of : Bool → PackedRefs
places_of true = places.Only
places_of false = places.Never

-- what reflogs say
abbrev pub message_of : Option RefLogMessage → RefLogMessage
message_of message = unwrap_or message usual_message

-- how what is received is to be applied
abbrev pub apply_options_of : Tags → FetchOptions → ApplyOptions
apply_options_of tags o = record {
  tags = tags;
  dry_run = o.dry_run;
  packed = places_of o.write_packed_refs_only;
  message = message_of o.reflog_message;
}

-- how what a fetch receives is applied
abbrev pub apply_options_in : Given → ApplyOptions
apply_options_in g = apply_options_of g.remote.tags g.options

-- the state once what was received is taken
abbrev pub taken_in : Given → State → Told → Result State ReceiveError
taken_in g s t = taken s (wants_in g s t.listed.ref_map) (to_take g.options.dry_run t.received)

-- the keep file that is made
abbrev pub keep_made : Given → Told → Option (List ℕ)
keep_made g t = keep_of g.setup (apply_options_in g) t.received

-- what is done with what was told, and what is left
abbrev pub applied_in : Given → List Worktree → State → Told → Result (Outcome × State) ReceiveError
applied_in g trees s t = applied g.setup (apply_options_in g) trees s (wants_in g s t.listed.ref_map) t.listed t.received

-- the same, of a conversation's answer
abbrev pub applied_by : Given → List Worktree → State → Result (Told × List ℕ) FetchError → Result (Outcome × State) FetchError
applied_by g trees s (Err e) = Err e
applied_by g trees s (Ok x) = map_refusal receiving (applied_in g trees s x.0)

-- the outcome and the state that is left, or the refusal, where these worktrees are checked out
unfoldable pub fetched_in : Given → List Worktree → State → List ℕ → Result (Outcome × State) FetchError
fetched_in g trees s stream = applied_by g trees s (answer_in (bound_of g) (conversation g s) stream)

-- the lines that are sent to it
unfoldable pub requests_in : Given → State → List ℕ → List Line
requests_in g s stream = sent_in (bound_of g) (conversation g s) stream

-- the state that a refusal leaves: as found, or with all that was received where what comes after the taking is refused
abbrev pub left_by : Given → State → Result (Told × List ℕ) FetchError → State
left_by g s (Err e) = s
left_by g s (Ok x) = kept_or s (taken_in g s x.0)

-- the state that a refusal leaves, by what the peer says
unfoldable pub left_in : Given → State → List ℕ → State
left_in g s stream = left_by g s (answer_in (bound_of g) (conversation g s) stream)

-- the keep file that a refusal leaves: the one that was made, where what comes after the taking is refused
abbrev pub keep_left_by : Given → State → Result (Told × List ℕ) FetchError → Option (List ℕ)
keep_left_by g s (Err e) = None
keep_left_by g s (Ok x) = standing (taken_in g s x.0) (keep_made g x.0)

-- the keep file that a refusal leaves, by what the peer says
unfoldable pub keep_left_in : Given → State → List ℕ → Option (List ℕ)
keep_left_in g s stream = keep_left_by g s (answer_in (bound_of g) (conversation g s) stream)
