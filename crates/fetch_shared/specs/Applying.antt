-- What a fetch does with what it received, over a shared repository.
use Rattle.std.specs.Prelude.{◌≡◌, ◌≤◌, ◌<◌, ◌⊎◌, ℕ, Bool, true, false, List, [], ◌∷◌, ◌++◌, length, Option, Some, None, Ok, Err, slice_get}
use Rattle.std.specs.Prelude.{⊤}
use Rattle.std.specs.Option.{option_map}
use Rattle.fetch_base.specs.Answers.{AnswersUnless}
use Rattle.fetch_store.specs.Stores.{AreOf}
use Rattle.fetch_files.specs.Trees.{Tree}
use Rattle.fetch_base.specs.declared.id.ObjectId.{ObjectId}
use Rattle.fetch_pack.specs.Once.{AreNamed}
use Rattle.fetch_refs.specs.declared.edit.RefEdit.{RefEdit}
use Rattle.fetch_refs.specs.declared.log.Signature.{Signature}
use Rattle.fetch_update.specs.Policy.{Policy, policy_over}
use Rattle.fetch_update.specs.declared.update.Error.{Error as UpdateError}
use Rattle.fetch_update.specs.declared.update.Error.TheVariants as update
use Rattle.fetch_update.specs.declared.update.Outcome.{Outcome as Updates}
use Rattle.fetch_update.specs.declared.worktrees.Worktree.{Worktree}
use Rattle.fetch_map.specs.declared.mapping.RefMap.{RefMap}
use Rattle.fetch_conversation.specs.Errors.{is_worktree_fault}
use Rattle.fetch_conversation.specs.ListStage.{ListedValue}
use Rattle.fetch_conversation.specs.declared.conversing.Received.{Received}
use Rattle.fetch_conversation.specs.declared.fetch.Error.{Error as ReceiveError}
use Rattle.fetch_conversation.specs.declared.fetch.Error.TheVariants as receive
use Rattle.fetch_remote.specs.Judging.{IsTold, is_free_judging, judged_of}
use Rattle.fetch_remote.specs.Keeping.{AreFiles, IsUnmade, left_tree, made, removed_in, with_keep}
use Rattle.fetch_remote.specs.Repositories.{State}
use Rattle.fetch_remote.specs.RepositoryValues.{RepositoryValue, Setup}
use Rattle.fetch_remote.specs.Applying.{to_take, keep_of, outcome_in, pack_kept, pack_of, policy_in, status_of}
use Rattle.fetch_remote.specs.Applying as remote
use Rattle.fetch_remote.specs.Stages.{Told}
use Rattle.fetch_remote.specs.declared.fetching.fetch_error.FetchError.TheVariants as fetch
use Rattle.fetch_remote.specs.declared.fetching.outcome.Outcome.{Outcome}
use Rattle.fetch_remote.specs.declared.fetching.applying.ApplyOptions.{ApplyOptions}
use Rattle.fetch_remote.specs.declared.fetching.applying.TakenReply.{TakenReply}
use Rattle.fetch_shared.specs.declared.pack_taken.PackTaken.{PackTaken}
use Rattle.fetch_journal.specs.declared.entry.Entry.{Entry}
use Rattle.fetch_journal.specs.declared.entry.Entry.TheVariants as entries
use Rattle.fetch_journal.specs.declared.error.SharedError.{SharedError}
use Rattle.fetch_journal.specs.declared.error.SharedError.TheVariants as errors
use Rattle.fetch_shared.specs.declared.applying.Stop.{Stop}
use Rattle.fetch_shared.specs.declared.applying.Verdicts.{Verdicts}
use Rattle.fetch_shared.specs.PackTaken.{take_entries}
use Rattle.fetch_journal.specs.Journals.{entries_of}
use Rattle.fetch_journal.specs.Machine.Event.{Take, Commit}
use Rattle.fetch_shared.specs.Passes.{Holder}
use Rattle.fetch_shared.specs.Seen.{IsStateAt, IsRefusedAt, AllowsTake}
use Rattle.fetch_journal.specs.Shared.{SharedValue}

-- what is applied: with which setup, by which options, what was wanted, and what was told
pub record Matter : Type 0 where
  pub setup : Setup
  pub options : ApplyOptions
  pub wants : List ObjectId
  pub told : Told

-- the same, of its parts
abbrev pub matter_of : Setup → ApplyOptions → List ObjectId → ListedValue → Option Received → Matter
matter_of setup options wants listed received =
    record { setup = setup; options = options; wants = wants; told = record { listed = listed; received = received } }

-- The course of it: what the shared repository opened as, the pass's number and its entries so far; the journal that the
-- plan saw, and the one that the pass has seen in the end; the list of work trees that is told, and the files before and
-- after, where they tell a tree.
pub record Course : Type 0 where
  pub opening : RepositoryValue
  pub number : ℕ
  pub own : List Entry
  pub planned : List Entry
  pub front : List Entry
  pub known : Option (List Worktree)
  pub files : Option Tree
  pub left : Option Tree

-- the course from a pass as it was to the pass as it came back
abbrev pub course_of : Holder → Holder → Option (List Worktree) → Option Tree → Option Tree → Course
course_of before after known files left = record {
  opening = before.shared.opening;
  number = before.number;
  own = entries_of before.number before.front;
  planned = before.front;
  front = after.front;
  known = known;
  files = files;
  left = left;
}

-- what is to be taken: in a dry run nothing
abbrev pub reply_in : Matter → Option Received
reply_in m = to_take m.options.dry_run m.told.received

-- the keep file that is made
abbrev pub keep_in : Matter → Option (List ℕ)
keep_in m = keep_of m.setup m.options m.told.received

-- ---- done

-- All that was to be taken is, by an entry of the pass, as the state that was found allowed it, and this is the state that
-- the verdicts see.
pub record HasTaken (m : Matter) (c : Course) (judged : ℕ) : Type 0 where
  pub seen : SharedValue
  pub at : IsStateAt c.opening c.planned c.front judged seen
  pub allowed : AllowsTake c.opening c.planned c.front c.number m.wants (reply_in m) seen
  pub added : entries_of c.number seen.journal ≡ c.own ++ take_entries c.number (reply_in m)

-- The mappings are judged over that state, and over a list of work trees, which is the one that they tell.
pub record HasJudged (m : Matter) (c : Course) (judged : ℕ) (updates : Updates) : Type 0 where
  pub taken : HasTaken m c judged
  pub trees : List Worktree
  pub listed_trees : IsTold c.known trees
  pub verdicts : judged_of (policy_in taken.seen.repository.state m.options trees) m.told.listed.ref_map ≡ Ok updates

-- The entry stands at its place, after what the verdicts saw, as the pass's next one.
pub record HasCommitted (number judged : ℕ) (own front : List Entry) (entry : Entry) (place : Option ℕ) : Type 0 where
  pub at : ℕ
  pub place_is : place ≡ Some at
  pub behind : judged ≤ at
  pub within : at < length front
  pub entry_is : slice_get front at ≡ Some entry
  pub added : entries_of number front ≡ own ++ entry ∷ []

-- in a dry run nothing is entered
abbrev pub Commits : Bool → ℕ → ℕ → List Entry → List Entry → Entry → Option ℕ → Type 0
Commits true number judged own front entry place = (place ≡ None) × (entries_of number front ≡ own)
Commits false number judged own front entry place = HasCommitted number judged own front entry place

-- the entry of the commit
abbrev pub commit_entry : Matter → ℕ → Updates → Entry
commit_entry m number updates = entries.Commit number updates.edits m.setup.settings.committer

-- The edits of the verdicts are committed, but in a dry run, and the keep file is removed unless it stays.
pub record IsApplied (m : Matter) (c : Course) (judged : ℕ) (place : Option ℕ) (outcome : Outcome) : Type 0 where
  pub updates : Updates
  pub by : HasJudged m c judged updates
  pub commits : Commits m.options.dry_run c.number judged (entries_of c.number by.taken.seen.journal) c.front
      (commit_entry m c.number updates) place
  pub outcome_is : outcome ≡ outcome_in m.setup.settings.git_dir m.options m.told.listed m.told.received updates
  pub kept : AreFiles c.files c.left (left_tree m.setup.settings.git_dir outcome.status)

-- ---- refused

-- What was received, and is to be taken: its ids and objects are of the repository's hash, and each id is its object's.
pub record IsReply (m : Matter) (c : Course) (reply : Received) : Type 0 where
  pub is : reply_in m ≡ Some reply
  pub of_kind : AreOf c.opening.state.hash reply.objects
  pub named : AreNamed reply.objects

-- What was received is refused as it is taken: nothing is entered, and no file is touched.
pub record IsUntaken (m : Matter) (c : Course) (judged place : Option ℕ) (e : SharedError) : Type 0 where
  pub unjudged : judged ≡ None
  pub unplaced : place ≡ None
  pub none : entries_of c.number c.front ≡ c.own
  pub files_same : c.left ≡ c.files
  pub reply : Received
  pub came : IsReply m c reply
  pub refused : IsRefusedAt c.opening c.planned c.front (Take c.number m.wants (pack_of reply)) e

-- What was received is taken, and its keep file couldn't be made: the files are those found.
pub record IsUnkept (m : Matter) (c : Course) (judged place : Option ℕ) (path : List ℕ) : Type 0 where
  pub unjudged : judged ≡ None
  pub unplaced : place ≡ None
  pub added : entries_of c.number c.front ≡ c.own ++ take_entries c.number (reply_in m)
  pub keep : keep_in m ≡ Some path
  pub files_same : c.left ≡ c.files

-- The mappings are refused over this state: by the policy with the list of work trees that is told, or the work trees failed.
pub record IsJudgingRefused (m : Matter) (known : Option (List Worktree)) (state : State) (cause : UpdateError) : Type 0 where
  pub trees : List Worktree
  pub listed_trees : IsTold known trees
  pub why : is_worktree_fault cause ≡ false → judged_of (policy_in state m.options trees) m.told.listed.ref_map
      ≡ Err (receive.UpdateRefs cause)

-- What was received is taken, its keep file stands, and the mappings are refused: by the policy, or the work trees failed.
pub record IsUnjudged (m : Matter) (c : Course) (judged place : Option ℕ) (cause : UpdateError) : Type 0 where
  pub count : ℕ
  pub judged_is : judged ≡ Some count
  pub unplaced : place ≡ None
  pub taken : HasTaken m c count
  pub none : entries_of c.number c.front ≡ entries_of c.number taken.seen.journal
  pub by : IsJudgingRefused m c.known taken.seen.repository.state cause
  pub kept : AreFiles c.files c.left (with_keep (keep_in m))

-- What was received is taken, its keep file stands, and the edits of the verdicts are refused as they are committed, in no
-- dry run.
pub record IsUncommitted (m : Matter) (c : Course) (judged place : Option ℕ) (e : SharedError) : Type 0 where
  pub count : ℕ
  pub judged_is : judged ≡ Some count
  pub unplaced : place ≡ None
  pub updates : Updates
  pub by : HasJudged m c count updates
  pub none : entries_of c.number c.front ≡ entries_of c.number by.taken.seen.journal
  pub refused : (m.options.dry_run ≡ false)
      × IsRefusedAt c.opening c.planned c.front (Commit c.number updates.edits m.setup.settings.committer) e
  pub kept : AreFiles c.files c.left (with_keep (keep_in m))

-- All is done, but the keep file that was to go couldn't be removed: it stands.
pub record IsUnremoved (m : Matter) (c : Course) (judged place : Option ℕ) (path : List ℕ) : Type 0 where
  pub count : ℕ
  pub judged_is : judged ≡ Some count
  pub updates : Updates
  pub by : HasJudged m c count updates
  pub commits : Commits m.options.dry_run c.number count (entries_of c.number by.taken.seen.journal) c.front
      (commit_entry m c.number updates) place
  pub removed : removed_in m.setup.settings.git_dir
      (status_of m.setup.settings.git_dir m.options.dry_run m.told.received updates) ≡ Some path
  pub kept : AreFiles c.files c.left (with_keep (keep_in m))

-- Memory ran out before anything was taken.
pub record ForgotEarly (c : Course) (judged : Option ℕ) : Type 0 where
  pub unjudged : judged ≡ None
  pub none : entries_of c.number c.front ≡ c.own
  pub files_same : c.left ≡ c.files

-- What was received is taken, and memory ran out before its keep file was made: the files are those found.
pub record ForgotMaking (m : Matter) (c : Course) (judged : Option ℕ) : Type 0 where
  pub unjudged : judged ≡ None
  pub added : entries_of c.number c.front ≡ c.own ++ take_entries c.number (reply_in m)
  pub path : List ℕ
  pub keep : keep_in m ≡ Some path
  pub files_same : c.left ≡ c.files

-- What was received is taken, its keep file stands, and memory ran out after that: the state after the taking was to be
-- judged.
pub record ForgotLate (m : Matter) (c : Course) (judged : Option ℕ) : Type 0 where
  pub count : ℕ
  pub judged_is : judged ≡ Some count
  pub taken : HasTaken m c count
  pub added : entries_of c.number c.front ≡ c.own ++ take_entries c.number (reply_in m)
  pub kept : AreFiles c.files c.left (with_keep (keep_in m))

-- Memory ran out, before the taking or after it; no commit is entered.
pub record IsForgotten (m : Matter) (c : Course) (judged place : Option ℕ) : Type 0 where
  pub unplaced : place ≡ None
  pub stands : ForgotEarly c judged ⊎ (ForgotMaking m c judged ⊎ ForgotLate m c judged)

-- Why it was refused, and what that leaves.
abbrev pub IsUnapplied : Matter → Course → Option ℕ → Option ℕ → SharedError → Type 0
IsUnapplied m c judged place (errors.Collision id) = IsUntaken m c judged place (errors.Collision id)
IsUnapplied m c judged place (errors.Disconnected link) = IsUntaken m c judged place (errors.Disconnected link)
IsUnapplied m c judged place (errors.EditReferences name found) = IsUncommitted m c judged place (errors.EditReferences name found)
IsUnapplied m c judged place (errors.Fetch (fetch.Receive (receive.KeepFile path))) = IsUnkept m c judged place path
IsUnapplied m c judged place (errors.Fetch (fetch.Receive (receive.UpdateRefs cause))) = IsUnjudged m c judged place cause
IsUnapplied m c judged place (errors.Fetch (fetch.Receive (receive.RemovePackKeepFile path))) = IsUnremoved m c judged place path
IsUnapplied m c judged place errors.NoMemory = IsForgotten m c judged place
IsUnapplied m c judged place e = ⊥

-- ---- refusals that have a count

-- the keep file couldn't be made
abbrev pub unmade : List ℕ → SharedError
unmade path = errors.Fetch (fetch.Receive (receive.KeepFile path))

-- the keep file couldn't be removed
abbrev pub unremoved : List ℕ → SharedError
unremoved path = errors.Fetch (fetch.Receive (receive.RemovePackKeepFile path))

-- the work trees couldn't be listed
abbrev pub unlisted : SharedError
unlisted = errors.Fetch (fetch.Receive (receive.UpdateRefs update.WorktreeListing))

-- the repository of a work tree couldn't be opened
abbrev pub unopened : SharedError
unopened = errors.Fetch (fetch.Receive (receive.UpdateRefs update.OpenWorktreeRepo))

-- a symbolic reference of a work tree couldn't be followed
abbrev pub unfollowed : SharedError
unfollowed = errors.Fetch (fetch.Receive (receive.UpdateRefs update.FollowSymref))

-- a refusal before a keep file is made
abbrev pub is_early : SharedError → Bool
is_early (errors.Collision id) = true
is_early (errors.Disconnected link) = true
is_early (errors.Fetch (fetch.Prepare cause)) = true
is_early (errors.Fetch (fetch.Receive cause)) = remote.is_early cause
is_early e = false

-- what comes after the taking: the keep file, the work trees, and the policy
abbrev pub IsOfJudging : ReceiveError → Type 0
IsOfJudging (receive.KeepFile path) = ⊤
IsOfJudging (receive.UpdateRefs cause) = ⊤
IsOfJudging receive.NoMemory = ⊤
IsOfJudging e = ⊥

-- ---- what the code keeps between the steps

-- what is kept of what was taken
abbrev pub kept_of : List ℕ → PackTaken → Option TakenReply
kept_of git_dir b = option_map (λ n. record { negotiate = n; pack = option_map (pack_kept git_dir) b.pack }) b.negotiate

-- what is judged by
abbrev pub policy_by : PackTaken → ApplyOptions → List Worktree → Policy
policy_by b options trees = policy_over b.taken.refs.names b.taken.graph options.message options.tags options.dry_run trees

-- The keep file stands where one was made, and each mapping has its verdict over what the taking left.
pub record HasVerdicts (known : Option (List Worktree)) (files left : Option Tree) (git_dir : List ℕ) (options : ApplyOptions)
    (map : RefMap)
    (b : PackTaken) (v : Verdicts) : Type 0 where
  pub taken : v.taken ≡ kept_of git_dir b
  pub count : v.judged ≡ b.taken.place
  pub kept : AreFiles files left (with_keep (made git_dir b.pack))
  pub trees : List Worktree
  pub listed_trees : IsTold known trees
  pub by : judged_of (policy_by b options trees) map ≡ Ok v.updates

-- the keep file couldn't be made
pub record StopsMaking (files left : Option Tree) (git_dir : List ℕ) (b : PackTaken) (s : Stop) : Type 0 where
  pub unjudged : s.judged ≡ None
  pub unmade : IsUnmade (made git_dir b.pack) files left s.cause

-- it was made, and the mappings are refused
pub record StopsJudging (known : Option (List Worktree)) (files left : Option Tree) (git_dir : List ℕ) (options : ApplyOptions)
    (map : RefMap)
    (b : PackTaken) (s : Stop) : Type 0 where
  pub judged : s.judged ≡ Some b.taken.place
  pub kept : AreFiles files left (with_keep (made git_dir b.pack))
  pub trees : List Worktree
  pub listed_trees : IsTold known trees
  pub by : AnswersUnless {A = Updates} is_free_judging (judged_of (policy_by b options trees) map) (Err s.cause)

-- why there are no verdicts
abbrev pub IsStop : Option (List Worktree) → Option Tree → Option Tree → List ℕ → ApplyOptions → RefMap → PackTaken → Stop → Type 0
IsStop known files left git_dir options map b s = StopsMaking files left git_dir b s ⊎ StopsJudging known files left git_dir options map b s

-- the edits are committed by a pass, but in a dry run
abbrev pub Moves : Bool → Holder → Holder → List RefEdit → Signature → Option ℕ → Type 0
Moves dry_run before after edits committer place =
    Commits dry_run before.number (length before.front) (entries_of before.number before.front) after.front
    (entries.Commit before.number edits committer) place

-- they are refused by the state that the pass has seen then, or memory ran out
pub record IsUnmoved (dry_run : Bool) (before after : Holder) (edits : List RefEdit) (committer : Signature)
    (e : SharedError) : Type 0 where
  pub none : entries_of before.number after.front ≡ entries_of before.number before.front
  pub why : (e ≡ errors.NoMemory) ⊎ ((dry_run ≡ false)
      × IsRefusedAt before.shared.opening before.front after.front (Commit before.number edits committer) e)
