-- What a fetch does with what it received.
use Rattle.std.specs.Prelude.{◌≡◌, ◌≢◌, ◌⊎◌, ◌||◌, ℕ, Bool, true, false, if◌then◌else◌, List, Option, Some, None, Result, Ok, Err, codes}
use Rattle.std.specs.Prelude.{slice_get}
use Rattle.std.specs.Option.{option_map, option_and_then}
use Rattle.fetch_base.specs.declared.id.ObjectId.{ObjectId}
use Rattle.fetch_store.specs.declared.missing.Missing.{Missing}
use Rattle.fetch_store.specs.Borders.{merged}
use Rattle.fetch_store.specs.Graph.{graph_of}
use Rattle.fetch_store.specs.Honest.{Pack}
use Rattle.fetch_store.specs.Missing.{missing}
use Rattle.fetch_store.specs.Stores.{collision}
use Rattle.fetch_refs.specs.Logs.{after}
use Rattle.fetch_refs.specs.declared.edit.PackedRefs.{PackedRefs}
use Rattle.fetch_refs.specs.declared.edit.RefEdit.{RefEdit}
use Rattle.fetch_update.specs.Policy.{Policy, policy_over}
use Rattle.fetch_update.specs.declared.message.RefLogMessage.{RefLogMessage}
use Rattle.fetch_update.specs.declared.message.RefLogMessage.TheVariants.{Prefixed}
use Rattle.fetch_update.specs.declared.update.Error.{Error as UpdateError}
use Rattle.fetch_update.specs.declared.update.Outcome.{Outcome as Updates}
use Rattle.fetch_update.specs.declared.worktrees.Worktree.{Worktree}
use Rattle.fetch_conversation.specs.Errors.{is_client, is_stopped, is_worktree_fault}
use Rattle.fetch_conversation.specs.ListStage.{ListedValue}
use Rattle.fetch_conversation.specs.declared.conversing.Received.{Received}
use Rattle.fetch_conversation.specs.declared.fetch.Error.{Error}
use Rattle.fetch_conversation.specs.declared.fetch.Error.TheVariants as errors
use Rattle.fetch_conversation.specs.declared.negotiate.Negotiate.{Negotiate}
use Rattle.fetch_files.specs.Trees.{Tree}
use Rattle.fetch_remote.specs.declared.fetching.keep.Kept.{Kept}
use Rattle.fetch_remote.specs.declared.fetching.outcome.Outcome.{Outcome}
use Rattle.fetch_remote.specs.declared.fetching.outcome.PackOutcome.{PackOutcome}
use Rattle.fetch_remote.specs.declared.fetching.outcome.Status.{Status}
use Rattle.fetch_remote.specs.declared.fetching.outcome.Status.TheVariants as statuses
use Rattle.fetch_remote.specs.declared.fetching.applying.ApplyOptions.{ApplyOptions}
use Rattle.fetch_remote.specs.declared.fetching.applying.TakenReply.{TakenReply}
use Rattle.fetch_remote.specs.Errors.{is_unlisted}
use Rattle.fetch_remote.specs.Judging.{judged_of, IsTold}
use Rattle.fetch_remote.specs.Keeping.{stays, kept, made, removed_in, with_keep, AreFiles}
use Rattle.fetch_remote.specs.Paths.{keep_path}
use Rattle.fetch_remote.specs.Repositories.{State, Setup, held, with_pack}

infixl 10 ◌>>=◌
-- one step after the other, unless the first is refused
abbrev pub ◌>>=◌ : {A B : Type 0} → Result A Error → (A → Result B Error) → Result B Error
(Ok x) >>= f = f x
(Err e) >>= f = Err e

-- what is said of a fetch where nothing else is told
unfoldable pub usual_action : List ℕ
usual_action = codes "fetch"

-- what reflogs say where the caller says nothing
abbrev pub usual_message : RefLogMessage
usual_message = Prefixed usual_action

-- ---- taking

-- what was received, as a pack with its lines
abbrev pub pack_of : Received → Pack
pack_of r = record { objects = r.objects; shallow = r.shallow; unshallow = r.unshallow }

-- what is to be taken: in a dry run nothing
abbrev pub to_take : Bool → Option Received → Option Received
to_take true r = None
to_take false r = r

-- the pack that was read: its count and its digest
abbrev pub pack_read : Bool → Option Received → Option (ℕ × ObjectId)
pack_read dry_run r = option_and_then (λ x. x.pack) (to_take dry_run r)

-- the keep file that is made for it
abbrev pub keep_of : Setup → ApplyOptions → Option Received → Option (List ℕ)
keep_of setup options r = made setup.settings.git_dir (pack_read options.dry_run r)

-- unless an id has two objects
abbrev pub unless_hit : Option ObjectId → Result (Unit {0}) Error
unless_hit None = Ok tt
unless_hit (Some id) = Err (errors.Collision id)

-- unless a link would be missing
abbrev pub unless_missing : Option Missing → Result (Unit {0}) Error
unless_missing None = Ok tt
unless_missing (Some link) = Err (errors.Disconnected link)

-- no id has another object
abbrev pub checked : State → Pack → Result (Unit {0}) Error
checked s pack = unless_hit (collision s.objects pack.objects)

-- no link is missing of what was wanted, and of the pack; or the first that is
abbrev pub connected : State → List ObjectId → Pack → Result (Unit {0}) Error
connected s wants pack = unless_missing (slice_get (missing (held s) wants pack) 0)

-- with the objects, and the border merged with the shallow and the unshallow lines
abbrev pub after_take : State → Pack → State
after_take s pack = with_pack s pack.objects (merged s.border pack.shallow pack.unshallow)

-- with all that was received, unless an id has another object or a link is missing; as found where nothing was asked for
abbrev pub taken : State → List ObjectId → Option Received → Result State Error
taken s wants None = Ok s
taken s wants (Some r) = checked s (pack_of r) >>= λ _. connected s wants (pack_of r) >>= λ _. Ok (after_take s (pack_of r))

-- ---- judging and moving

-- what the mappings are judged by, where these worktrees are checked out
abbrev pub policy_in : State → ApplyOptions → List Worktree → Policy
policy_in s options trees = policy_over s.refs.names (graph_of s.objects) options.message options.tags options.dry_run trees

-- with the references after the edits
abbrev pub with_edits : PackedRefs → Setup → State → List RefEdit → State
with_edits packed setup s edits = record s { refs = after setup.settings.committer setup.logging packed s.refs edits }

-- in a dry run nothing moves
abbrev pub moved : Bool → PackedRefs → Setup → State → List RefEdit → State
moved true packed setup s edits = s
moved false packed setup s edits = with_edits packed setup s edits

-- ---- what is told

-- the pack, and its keep file where that stays
abbrev pub pack_told : List ℕ → Updates → ℕ × ObjectId → PackOutcome
pack_told git_dir updates pack = record { num_objects = pack.0; digest = pack.1; keep_path = kept git_dir updates pack }

-- the status of a fetch outside a dry run that was answered
abbrev pub told_with : List ℕ → Negotiate → Option (ℕ × ObjectId) → Updates → Status
told_with git_dir negotiate None updates = statuses.NoPackReceived false (Some negotiate) updates
told_with git_dir negotiate (Some pack) updates = statuses.Change negotiate (pack_told git_dir updates pack) updates

-- Whether a pack came, and what became of the mappings. Rounds are told where a request was sent; a dry run takes no pack.
abbrev pub status_of : List ℕ → Bool → Option Received → Updates → Status
status_of git_dir true r updates = statuses.NoPackReceived true (option_map (λ x. x.negotiate) r) updates
status_of git_dir false None updates = statuses.NoPackReceived false None updates
status_of git_dir false (Some r) updates = told_with git_dir r.negotiate r.pack updates

-- the outcome of a fetch
abbrev pub outcome_in : List ℕ → ApplyOptions → ListedValue → Option Received → Updates → Outcome
outcome_in git_dir options listed r updates = record {
  ref_map = listed.ref_map;
  handshake = listed.handshake;
  status = status_of git_dir options.dry_run r updates;
}

-- ---- all of it

-- the outcome, and the state that is left
abbrev pub done : Setup → ApplyOptions → ListedValue → Option Received → State → Updates → Outcome × State
done setup options listed r s updates = (
  outcome_in setup.settings.git_dir options listed r updates,
  moved options.dry_run options.packed setup s updates.edits,
)

-- The objects are taken, the mappings are judged over the state with them and these worktrees, and the references move.
unfoldable pub applied : Setup → ApplyOptions → List Worktree → State → List ObjectId → ListedValue → Option Received
    → Result (Outcome × State) Error
applied setup options trees before wants listed r =
    taken before wants (to_take options.dry_run r) >>= λ s. judged_of (policy_in s options trees) listed.ref_map >>= λ updates.
    Ok (done setup options listed r s updates)

-- It was applied over a list of worktrees, which is the one that is told.
pub record IsApplied (known : Option (List Worktree)) (setup : Setup) (options : ApplyOptions) (before : State) (wants : List ObjectId)
    (listed : ListedValue) (r : Option Received) (outcome : Outcome) (now : State) : Type 0 where
  pub trees : List Worktree
  pub listed_trees : IsTold known trees
  pub by : applied setup options trees before wants listed r ≡ Ok (outcome, now)

-- ---- what the code keeps between the steps

-- a pack, whose keep file was made
abbrev pub pack_kept : List ℕ → ℕ × ObjectId → Kept
pack_kept git_dir pack = record { num_objects = pack.0; digest = pack.1; path = keep_path git_dir pack.1 }

-- what was taken
abbrev pub told_of : List ℕ → Bool → Option Received → Option TakenReply
told_of git_dir dry_run None = None
told_of git_dir dry_run (Some r) = Some (record {
  negotiate = r.negotiate;
  pack = option_map (pack_kept git_dir) (pack_read dry_run (Some r));
})

-- what is told of it
abbrev pub kept_told : Updates → Kept → PackOutcome
kept_told updates k = record {
  num_objects = k.num_objects;
  digest = k.digest;
  keep_path = if stays updates k.num_objects
      then Some k.path else None;
}

-- the status of a fetch that took this
abbrev pub told_by : Bool → Negotiate → Option Kept → Updates → Status
told_by dry_run negotiate None updates = statuses.NoPackReceived dry_run (Some negotiate) updates
told_by dry_run negotiate (Some k) updates = statuses.Change negotiate (kept_told updates k) updates

-- the status of a fetch, by what was taken
abbrev pub status_by : Bool → Option TakenReply → Updates → Status
status_by dry_run None updates = statuses.NoPackReceived dry_run None updates
status_by dry_run (Some t) updates = told_by dry_run t.negotiate t.pack updates

-- the keep file that goes
abbrev pub released : Updates → Option Kept → Option (List ℕ)
released updates None = None
released updates (Some k) = if stays updates k.num_objects then None else Some k.path

-- the keep file of what was taken
abbrev pub kept_of : Option TakenReply → Option Kept
kept_of taken = option_and_then (λ t. t.pack) taken

-- the keep file that is removed
abbrev pub released_of : Updates → Option TakenReply → Option (List ℕ)
released_of updates taken = released updates (kept_of taken)

-- it couldn't be removed
abbrev pub IsUnreleased : Option (List ℕ) → Error → Type 0
IsUnreleased keep e = (path : List ℕ) × (e ≡ errors.RemovePackKeepFile path) × (keep ≡ Some path)

-- ---- what a refusal leaves

-- the state where the taking was refused, or where what comes after it was
abbrev pub kept_or : State → Result State Error → State
kept_or before (Ok s) = s
kept_or before (Err e) = before

-- the keep file that stands then
abbrev pub standing : Result State Error → Option (List ℕ) → Option (List ℕ)
standing (Ok s) path = path
standing (Err e) path = None

-- a refusal of judging
abbrev pub IsOfJudging : Error → Type 0
IsOfJudging e = (e ≡ errors.NoMemory) ⊎ ((cause : UpdateError) × (e ≡ errors.UpdateRefs cause))

-- What was received could be taken, and its keep file couldn't be made: the files are those found.
pub record LacksKeepFile (taking : Result State Error) (keep : Option (List ℕ)) (path : List ℕ) (files left : Option Tree) : Type 0 where
  pub state : State
  pub took : taking ≡ Ok state
  pub made : keep ≡ Some path
  pub same_files : left ≡ files

-- What was received could be taken, and its keep file stands.
pub record HasKeepFile (taking : Result State Error) (keep : Option (List ℕ)) (path : List ℕ) (files left : Option Tree) : Type 0 where
  pub state : State
  pub took : taking ≡ Ok state
  pub made : keep ≡ Some path
  pub stands : AreFiles files left (with_keep (Some path))

-- What was received is taken, and its keep file stands.
pub record IsReplyTaken (taking : Result State Error) (keep : Option (List ℕ)) (files left : Option Tree) (now : State) : Type 0 where
  pub took : taking ≡ Ok now
  pub kept : AreFiles files left (with_keep keep)

-- ---- a taking that was refused

-- whether a refusal of the taking is a free one
abbrev pub is_free_taking : Error → Bool
is_free_taking (errors.KeepFile path) = true
is_free_taking errors.NoMemory = true
is_free_taking e = false

-- Nothing was taken: for its reason, with the files as found; or the keep file couldn't be made; or memory ran out, and the
-- keep file stands where it was made.
pub record IsUntaken (took : Result State Error) (keep : Option (List ℕ)) (files left : Option Tree) (e : Error) : Type 0 where
  pub why : is_free_taking e ≡ false → (took ≡ Err e) × (left ≡ files)
  pub making : (path : List ℕ) → e ≡ errors.KeepFile path → LacksKeepFile took keep path files left
  pub stands : (left ≡ files) ⊎ ((path : List ℕ) × HasKeepFile took keep path files left)

-- ---- a fetch that was refused after its conversation

-- a refusal before the keep file is made
abbrev pub is_early : Error → Bool
is_early (errors.KeepFile path) = false
is_early (errors.UpdateRefs e) = false
is_early (errors.RemovePackKeepFile path) = false
is_early errors.NoMemory = false
is_early e = true

-- the keep file couldn't be removed
abbrev pub is_late : Error → Bool
is_late (errors.RemovePackKeepFile path) = true
is_late e = false

-- A refusal of the taking or of judging has a cause, unless the files or the worktrees failed or memory ran out.
abbrev pub is_free_applying : Error → Bool
is_free_applying e = is_free_taking e || (is_client e || (is_stopped e || (is_late e || is_unlisted e)))

-- All is as found, but for the keep file where that was made, or all that was received is taken.
abbrev pub IsLeftBy : State → Result State Error → Option (List ℕ) → Option Tree → Option Tree → State → Type 0
IsLeftBy before took keep files left now =
    ((now ≡ before) × ((left ≡ files) ⊎ ((path : List ℕ) × HasKeepFile took keep path files left))) ⊎ IsReplyTaken took keep files left now

-- The references have moved, and the keep file that was to go couldn't be removed: it stands.
pub record AreRefsMoved (all : Result (Outcome × State) Error) (git_dir path : List ℕ) (files left : Option Tree)
    (now : State) : Type 0 where
  pub outcome : Outcome
  pub by : all ≡ Ok (outcome, now)
  pub removed : removed_in git_dir outcome.status ≡ Some path
  pub stands : AreFiles files left (with_keep (Some path))

-- Why it was refused, and what that leaves: of all of it, of the taking, and of the keep file that is made.
pub record IsUnappliedBy (all : Result (Outcome × State) Error) (took : Result State Error) (keep : Option (List ℕ)) (git_dir : List ℕ)
    (files left : Option Tree) (before now : State) (e : Error) : Type 0 where
  pub why : is_free_applying e ≡ false → (all ≡ Err e) × (now ≡ kept_or before took) × AreFiles files left (with_keep (standing took keep))
  pub stands : is_late e ≡ false → IsLeftBy before took keep files left now
  pub unlisted : (fault : UpdateError) → is_worktree_fault fault ≡ true → e ≡ errors.UpdateRefs fault
      → IsReplyTaken took keep files left now
  pub making : (path : List ℕ) → e ≡ errors.KeepFile path → (now ≡ before) × LacksKeepFile took keep path files left
  pub moved : (path : List ℕ) → e ≡ errors.RemovePackKeepFile path → AreRefsMoved all git_dir path files left now
  -- No conversation is held here.
  pub unheard : (e ≢ errors.Client) × (e ≢ errors.Interrupted)

-- It was refused: for its reason, over a list of worktrees, which is the one that is told.
pub record IsUnapplied (known : Option (List Worktree)) (files left : Option Tree) (setup : Setup) (options : ApplyOptions) (before : State)
    (wants : List ObjectId) (listed : ListedValue) (r : Option Received) (now : State) (e : Error) : Type 0 where
  pub trees : List Worktree
  pub listed_trees : IsTold known trees
  pub by : IsUnappliedBy (applied setup options trees before wants listed r) (taken before wants (to_take options.dry_run r))
      (keep_of setup options r) setup.settings.git_dir files left before now e
