-- A fetch that was done.
use Rattle.std.specs.Option.{option_and_then}
use Rattle.std.specs.List.{range_with_len}
use Rattle.std.specs.Prelude.{◌≡◌, ℕ, Bool, true, false, ◌&&◌, List, [], ◌++◌, map, Option, Some, None, Ok, Contains, length}
use Rattle.fetch_base.specs.declared.id.ObjectId.{ObjectId}
use Rattle.fetch_store.specs.Borders.{IdSet, merged}
use Rattle.fetch_store.specs.Closed.{IsClosed, IsStored}
use Rattle.fetch_store.specs.Honest.{Request}
use Rattle.fetch_store.specs.Stores.{ObjectMap, add_all}
use Rattle.fetch_files.specs.Trees.{Tree}
use Rattle.fetch_refs.specs.Edits.{refs_after}
use Rattle.fetch_refs.specs.Logs.{logs_after}
use Rattle.fetch_refs.specs.Packed.{packed_after}
use Rattle.fetch_refs.specs.declared.edit.PackedRefs.{PackedRefs}
use Rattle.fetch_refs.specs.declared.edit.RefEdit.{RefEdit}
use Rattle.fetch_update.specs.Accepted.{HasOneEach, AcceptsExactly, GuessesExactly, RejectsExactly, EditsCarryOut}
use Rattle.fetch_update.specs.Outcomes.{outcome_of}
use Rattle.fetch_update.specs.Policy.{Policy}
use Rattle.fetch_update.specs.Telling.{EditsSay, TellsTypeChanges}
use Rattle.fetch_update.specs.declared.update.Outcome.{Outcome as Updates}
use Rattle.fetch_update.specs.declared.worktrees.Worktree.{Worktree}
use Rattle.fetch_negotiate.specs.Requests.{is_included}
use Rattle.fetch_negotiate.specs.Wants.{is_tag_index}
use Rattle.fetch_lines.specs.Talks.{Talk, Talks}
use Rattle.fetch_lines.specs.Written.{lines_text}
use Rattle.fetch_lines.specs.References.{source_id}
use Rattle.fetch_map.specs.declared.mapping.Mapping.{Mapping}
use Rattle.fetch_map.specs.declared.mapping.RefMap.{RefMap}
use Rattle.fetch_conversation.specs.Conversation.{answer_in, IsAwaited}
use Rattle.fetch_conversation.specs.ListStage.{ListedValue, all_specs, extra_specs}
use Rattle.fetch_conversation.specs.Mapped.{ref_mappings}
use Rattle.fetch_conversation.specs.declared.conversing.Received.{Received}
use Rattle.fetch_remote.specs.Fetching.{apply_options_in, fetched_in, requests_in}
use Rattle.fetch_remote.specs.Form.{Given}
use Rattle.fetch_remote.specs.Judging.{IsTold}
use Rattle.fetch_remote.specs.Negotiated.{AreHeld}
use Rattle.fetch_remote.specs.Keeping.{AreFiles, kept, keep_in, left_tree}
use Rattle.fetch_remote.specs.Repositories.{State, Setup, held}
use Rattle.fetch_remote.specs.Applying.{to_take, pack_read, policy_in, status_of}
use Rattle.fetch_remote.specs.Stages.{bound_of, wants_in, inquiry_in, listing_stage, pack_stage, conversation}
use Rattle.fetch_remote.specs.declared.fetching.outcome.Outcome.{Outcome}

-- what the outcome tells of the listing
abbrev pub listed_in : Outcome → ListedValue
listed_in outcome = record { ref_map = outcome.ref_map; handshake = outcome.handshake }

-- ---- what was heard

-- What the peer gave in the call is what it said. It heard exactly the requests for that, whatever comes after.
pub record HasHeard (answers : Bool) (old new : Option Talk) (g : Given) (before : State) (said : List ℕ) : Type 0 where
  pub passed : Talks answers old new (lines_text (requests_in g before said)) said
  pub same_requests : (more : List ℕ) → lines_text (requests_in g before (said ++ more)) ≡ lines_text (requests_in g before said)
  -- Each receive was made where it had heard all that was to be sent so far, and a reply was still awaited.
  pub needed : IsAwaited (bound_of g) old new [] (conversation g before)

-- ---- what was read

-- The greeting, the listing and the reply are read in what the peer said.
pub record HasRead (g : Given) (before : State) (said : List ℕ) (outcome : Outcome) : Type 0 where
  -- The greeting and the listing are read in what it said,
  pub behind : List ℕ
  pub listed : (more : List ℕ) → answer_in (bound_of g) (listing_stage g) (said ++ more) ≡ Ok (listed_in outcome, behind ++ more)
  -- and the reply, where a pack is asked for, in the rest.
  pub received : Option Received
  pub rest : List ℕ
  pub replied : (more : List ℕ) → answer_in (bound_of g) (pack_stage g before (listed_in outcome)) (behind ++ more)
      ≡ Ok (received, rest ++ more)
  -- The mappings are those of the remote's refspecs and the extra ones, with that of the tags, over what was listed.
  pub mappings : outcome.ref_map.mappings ≡ ref_mappings (length g.remote.fetch_specs)
      (all_specs (inquiry_in g)) outcome.handshake.object_hash outcome.ref_map.remote_refs
  pub specs : outcome.ref_map.refspecs ≡ g.remote.fetch_specs
  pub extra : outcome.ref_map.extra_refspecs ≡ extra_specs (inquiry_in g)

-- ---- what became of the mappings

-- the policy of the fetch, over the references found, the objects left and these worktrees
abbrev pub policy_at : Given → List Worktree → State → State → Policy
policy_at g trees before after = policy_in (record before { objects = after.objects }) (apply_options_in g) trees

-- What became of the mappings, by the policy.
pub record IsJudged (g : Given) (trees : List Worktree) (before after : State) (received : Option Received)
    (outcome : Outcome) : Type 0 where
  -- Each mapping is judged by the policy.
  pub updates : Updates
  pub verdicts : outcome_of (policy_at g trees before after) outcome.ref_map.refspecs outcome.ref_map.extra_refspecs
      outcome.ref_map.mappings ≡ Ok updates
  -- There is one update for each mapping whose refspec is found, in order.
  pub one_each : HasOneEach outcome.ref_map.refspecs outcome.ref_map.extra_refspecs outcome.ref_map.mappings updates
  -- It tells an accepting mode exactly where that mode's row holds; in a dry run its row for a dry run.
  pub accepts : g.options.dry_run ≡ false → AcceptsExactly
      (policy_at g trees before after) outcome.ref_map.refspecs outcome.ref_map.extra_refspecs outcome.ref_map.mappings updates
  pub guesses : g.options.dry_run ≡ true → GuessesExactly
      (policy_at g trees before after) outcome.ref_map.refspecs outcome.ref_map.extra_refspecs outcome.ref_map.mappings updates
  -- It tells a rejecting mode exactly where that mode's row holds.
  pub rejects : RejectsExactly (policy_at g trees before after) outcome.ref_map.refspecs outcome.ref_map.extra_refspecs
      outcome.ref_map.mappings updates
  -- The outcome tells the pack, the rounds and the updates.
  pub status : outcome.status ≡ status_of g.setup.settings.git_dir g.options.dry_run received updates

-- What is written for the mappings.
pub record IsWritten (g : Given) (trees : List Worktree) (before after : State) (outcome : Outcome) (updates : Updates) : Type 0 where
  -- Each edit expects what was found, and writes what the remote has.
  pub carried : EditsCarryOut (policy_at g trees before after) outcome.ref_map.mappings updates
  -- What reflogs get to say of it is what its row says.
  pub says : EditsSay (policy_at g trees before after) outcome.ref_map.refspecs outcome.ref_map.extra_refspecs
      outcome.ref_map.mappings updates
  -- A change from symbolic to direct is told, and nothing else is.
  pub turns : TellsTypeChanges (policy_at g trees before after) updates

-- ---- what is left

-- the objects with those of the reply
abbrev pub objects_with : ObjectMap → Option Received → ObjectMap
objects_with objects None = objects
objects_with objects (Some r) = add_all objects r.objects

-- the border with the reply's shallow lines
abbrev pub border_with : IdSet → Option Received → IdSet
border_with border None = border
border_with border (Some r) = merged border r.shallow r.unshallow

-- a dry run carries out no edit
abbrev pub carried_out : Bool → List RefEdit → List RefEdit
carried_out true edits = []
carried_out false edits = edits

-- What is left of the repository.
pub record IsLeft (dry_run : Bool) (packed_refs : PackedRefs) (setup : Setup) (before after : State) (received : Option Received)
    (updates : Updates) : Type 0 where
  -- The objects and the border are those found with the reply's objects and shallow lines; in a dry run those found.
  pub objects : after.objects ≡ objects_with before.objects (to_take dry_run received)
  pub border : after.border ≡ border_with before.border (to_take dry_run received)
  pub hash : after.hash ≡ before.hash
  -- The references are those found with the edits, and so are their logs; in a dry run those found.
  pub refs : after.refs.names ≡ refs_after before.refs.names (carried_out dry_run updates.edits)
  pub logs : after.refs.logs ≡ logs_after (record {
    hash = before.refs.hash;
    committer = setup.settings.committer;
    enabled = setup.logging;
  }) before.refs.names before.refs.logs (carried_out dry_run updates.edits)
  -- The packed list is the one found with what the edits put into it, where references are written packed, and without
  -- what they take out of it.
  pub packed : after.refs.packed ≡ packed_after packed_refs before.refs.packed (carried_out dry_run updates.edits)
  pub dry : dry_run ≡ true → after ≡ before

-- The keep file of a pack.
pub record IsKept (g : Given) (files left : Option Tree) (received : Option Received) (updates : Updates) (outcome : Outcome) : Type 0 where
  -- The outcome tells the keep file of the pack that was read, where it stays: where no edit stands and the pack has objects.
  pub keep : keep_in outcome.status ≡ option_and_then (kept g.setup.settings.git_dir updates) (pack_read g.options.dry_run received)
  -- The files are those found, with the keep file of the pack, and without it where it doesn't stay.
  pub tree : AreFiles files left (left_tree g.setup.settings.git_dir outcome.status)

-- ---- what is safe

-- what the fetch requests were made of, with the haves of all rounds
abbrev pub request_in : Given → State → RefMap → List ObjectId → Request
request_in g s m haves = record { held = held s; wants = wants_in g s m; haves = haves }

-- a mapping of the tags that come with the history
abbrev pub is_aside : Given → RefMap → Mapping → Bool
is_aside g m mapping = is_included g.remote.tags && is_tag_index mapping.spec_index m.extra_refspecs

-- the id of each mapping is stored, implicit tags aside
pub record HoldsMapped (g : Given) (m : RefMap) (objects : ObjectMap) : Type 0 where
  pub each : (mapping : Mapping) (id : ObjectId) → Contains m.mappings mapping → is_aside g m mapping ≡ false
      → source_id mapping.remote ≡ Some id → IsStored objects id

-- A closed repository stays closed, whatever the peer sent; and, but for a dry run, it holds each id that is mapped.
pub record IsSafe (g : Given) (before after : State) (m : RefMap) : Type 0 where
  pub closed : IsClosed (held before) → IsClosed (held after)
  pub holds : g.options.dry_run ≡ false → HoldsMapped g m after.objects

-- What became of what was received: of the mappings and the edits, of the repository and the files; and that it is safe.
pub record IsCarriedOut (known : Option (List Worktree)) (files files_left : Option Tree) (g : Given) (before after : State)
    (received : Option Received) (outcome : Outcome) : Type 0 where
  -- The worktrees' list is the one that is told.
  pub trees : List Worktree
  pub listed_trees : IsTold known trees
  pub judged : IsJudged g trees before after received outcome
  pub written : IsWritten g trees before after outcome judged.updates
  pub left : IsLeft g.options.dry_run (apply_options_in g).packed g.setup before after received judged.updates
  pub kept : IsKept g files files_left received judged.updates outcome
  pub safe : IsSafe g before after outcome.ref_map

-- ---- the headline

-- What holds after a fetch that was done.
pub record IsFetched (answers : Bool) (old new : Option Talk) (known : Option (List Worktree)) (files files_left : Option Tree) (g : Given)
    (before after : State) (outcome : Outcome) : Type 0 where
  pub said : List ℕ
  pub heard : HasHeard answers old new g before said
  pub read : HasRead g before said outcome
  -- One round a request was held, and told what is there.
  pub rounds : AreHeld g before (listed_in outcome) read.behind read.received
  pub carried : IsCarriedOut known files files_left g before after read.received outcome
  -- Each mapping has one update, in order.
  pub one_each : map (λ u. u.mapping_index) carried.judged.updates.updates ≡ range_with_len 0 (length outcome.ref_map.mappings)
  -- All of it is what the whole fetch gives, so that no other refusal stood against it.
  pub whole : (more : List ℕ) → fetched_in g carried.trees before (said ++ more) ≡ Ok (outcome, after)
