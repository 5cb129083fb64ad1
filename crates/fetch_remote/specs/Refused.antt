-- A fetch that was refused.
use Rattle.std.specs.Prelude.{◌≡◌, ◌⊎◌, ℕ, Bool, true, false, List, [], ◌++◌, Option, Some, Ok, Err}
use Rattle.fetch_files.specs.Trees.{Tree}
use Rattle.fetch_update.specs.declared.update.Error.{Error as UpdateError}
use Rattle.fetch_update.specs.declared.worktrees.Worktree.{Worktree}
use Rattle.fetch_lines.specs.Talks.{Talk, Talks, IsFront, IsDrained}
use Rattle.fetch_lines.specs.Written.{lines_text}
use Rattle.fetch_conversation.specs.Conversation.{sent_in, answer_in, IsAwaited}
use Rattle.fetch_conversation.specs.Errors.{is_worktree_fault}
use Rattle.fetch_conversation.specs.ListStage.{ListedValue}
use Rattle.fetch_conversation.specs.declared.fetch.Error.TheVariants as receive
use Rattle.fetch_conversation.specs.declared.prepare.Error.TheVariants as prepare
use Rattle.fetch_conversation.specs.declared.ref_map.Error.TheVariants as ref_map
use Rattle.fetch_remote.specs.Errors.{is_free}
use Rattle.fetch_remote.specs.Fetching.{fetched_in, requests_in, left_in, keep_left_in, taken_in, keep_made}
use Rattle.fetch_remote.specs.Form.{Given}
use Rattle.fetch_remote.specs.Judging.{IsTold}
use Rattle.fetch_remote.specs.Keeping.{AreFiles, with_keep, removed_in}
use Rattle.fetch_remote.specs.Repositories.{State}
use Rattle.fetch_remote.specs.Applying as applying
use Rattle.fetch_remote.specs.Stages.{Told, bound_of, listing_stage, pack_stage, conversation}
use Rattle.fetch_remote.specs.declared.fetching.outcome.Outcome.{Outcome}
use Rattle.fetch_remote.specs.declared.fetching.fetch_error.FetchError.{FetchError}
use Rattle.fetch_remote.specs.declared.fetching.fetch_error.FetchError.TheVariants as errors

-- ---- the cause

-- With these worktrees, and from a peer that says this and nothing else, the fetch is refused so; the peer hears these
-- bytes, which are all requests, and this is left; of the files those found, with the keep file where that was made.
pub record RefusesWith (g : Given) (trees : List Worktree) (before after : State) (files files_left : Option Tree) (stream heard : List ℕ)
    (e : FetchError) : Type 0 where
  pub refused : fetched_in g trees before stream ≡ Err e
  pub requests : lines_text (requests_in g before stream) ≡ heard
  pub left : left_in g before stream ≡ after
  pub kept : AreFiles files files_left (with_keep (keep_left_in g before stream))

-- The refusal is that of what was said, whatever comes after; or nothing is to come, and it is that of all that was said.
abbrev pub IsRefusedBy : Option Talk → Given → List Worktree → State → State → Option Tree → Option Tree → List ℕ → List ℕ
    → FetchError → Type 0
IsRefusedBy now g trees before after files files_left said heard e =
    ((more : List ℕ) → RefusesWith g trees before after files files_left (said ++ more) heard e)
    ⊎ (IsDrained now × RefusesWith g trees before after files files_left said heard e)

-- ---- where it stands

-- The conversation came to its end, with this told, whatever comes after.
pub record HasEnded (g : Given) (before : State) (said : List ℕ) (told : Told) : Type 0 where
  pub rest : List ℕ
  pub answered : (more : List ℕ) → answer_in (bound_of g) (conversation g before) (said ++ more) ≡ Ok (told, rest ++ more)

-- All is as found.
pub record IsFound (before after : State) (files files_left : Option Tree) : Type 0 where
  pub same_state : after ≡ before
  pub same_files : files_left ≡ files

-- After the conversation, with a pack that could be taken: its keep file couldn't be made. All is as found.
pub record IsMaking (g : Given) (before after : State) (files files_left : Option Tree) (said path : List ℕ) : Type 0 where
  pub told : Told
  pub ended : HasEnded g before said told
  pub state : State
  pub took : taken_in g before told ≡ Ok state
  pub keep : keep_made g told ≡ Some path
  pub found : IsFound before after files files_left

-- After the conversation, with a pack that could be taken: its keep file stands. The state is as found.
pub record IsMade (g : Given) (before after : State) (files files_left : Option Tree) (said path : List ℕ) : Type 0 where
  pub told : Told
  pub ended : HasEnded g before said told
  pub state : State
  pub took : taken_in g before told ≡ Ok state
  pub keep : keep_made g told ≡ Some path
  pub found : after ≡ before
  pub stands : AreFiles files files_left (with_keep (Some path))

-- After the conversation: all that was received was taken, and its keep file stands. The references are as found.
pub record IsTaken (g : Given) (before after : State) (files files_left : Option Tree) (said : List ℕ) : Type 0 where
  pub told : Told
  pub ended : HasEnded g before said told
  pub state : taken_in g before told ≡ Ok after
  pub kept : AreFiles files files_left (with_keep (keep_made g told))
  pub refs : after.refs ≡ before.refs

-- The references have moved, and references, objects and border are as at Ok. The keep file stands.
pub record IsMoved (g : Given) (trees : List Worktree) (before after : State) (files files_left : Option Tree)
    (said path : List ℕ) : Type 0 where
  pub outcome : Outcome
  pub fetched : (more : List ℕ) → fetched_in g trees before (said ++ more) ≡ Ok (outcome, after)
  pub removed : removed_in g.setup.settings.git_dir outcome.status ≡ Some path
  pub stands : AreFiles files files_left (with_keep (Some path))

-- All is as found, but for the keep file where that was made, or all that was received is taken.
abbrev pub IsStanding : Given → State → State → Option Tree → Option Tree → List ℕ → Type 0
IsStanding g before after files files_left said =
    IsFound before after files files_left ⊎ (((path : List ℕ) × IsMade g before after files files_left said path)
    ⊎ IsTaken g before after files files_left said)

-- ---- counted refusals

-- The peer failed while the references were listed: it heard a prefix of that stage's lines, and all is as found.
pub record IsCutListing (g : Given) (before after : State) (files files_left : Option Tree) (said heard : List ℕ) : Type 0 where
  pub front : IsFront heard (lines_text (sent_in (bound_of g) (listing_stage g) said))
  pub found : IsFound before after files files_left

-- The peer failed after the listing: it heard all lines of that stage, and a prefix of the fetch request. All is as found.
pub record IsCutReceiving (g : Given) (before after : State) (files files_left : Option Tree) (said heard : List ℕ) : Type 0 where
  pub listed : ListedValue
  pub behind : List ℕ
  pub answered : answer_in (bound_of g) (listing_stage g) said ≡ Ok (listed, behind)
  pub later : List ℕ
  pub heard_all : heard ≡ lines_text (sent_in (bound_of g) (listing_stage g) said) ++ later
  pub front : IsFront later (lines_text (sent_in (bound_of g) (pack_stage g before listed) behind))
  pub found : IsFound before after files files_left

-- the refusals of a yes of the interrupt
abbrev pub interrupted_listing : FetchError
interrupted_listing = errors.Prepare (prepare.RefMap ref_map.Interrupted)

-- the interrupt said yes from the fetch request on
abbrev pub interrupted_receiving : FetchError
interrupted_receiving = errors.Receive receive.Interrupted

-- the refusal of a verdict, or of a fault of the worktrees
abbrev pub unjudged : UpdateError → FetchError
unjudged e = errors.Receive (receive.UpdateRefs e)

-- a fault of the files: the keep file couldn't be made, or not removed
abbrev pub unmade : List ℕ → FetchError
unmade path = errors.Receive (receive.KeepFile path)

-- the keep file couldn't be removed
abbrev pub unremoved : List ℕ → FetchError
unremoved path = errors.Receive (receive.RemovePackKeepFile path)

-- a refusal after the references' move
abbrev pub is_late : FetchError → Bool
is_late (errors.Prepare e) = false
is_late (errors.Receive e) = applying.is_late e
is_late errors.NoMemory = false

-- a refusal before the keep file is made
abbrev pub is_early : FetchError → Bool
is_early (errors.Prepare e) = true
is_early (errors.Receive e) = applying.is_early e
is_early errors.NoMemory = false

-- What is said of a counted refusal in place of a cause. Where the worktrees fail, all that was received is taken.
pub record IsCounted (g : Given) (trees : List Worktree) (before after : State) (files files_left : Option Tree) (said heard : List ℕ)
    (e : FetchError) : Type 0 where
  pub transport : e ≡ errors.Prepare (prepare.RefMap ref_map.Transport) → IsCutListing g before after files files_left said heard
  pub interrupted : e ≡ interrupted_listing → IsCutListing g before after files files_left said heard
  pub client : e ≡ errors.Receive receive.Client → IsCutReceiving g before after files files_left said heard
  pub stopped : e ≡ interrupted_receiving → IsCutReceiving g before after files files_left said heard
  pub making : (path : List ℕ) → e ≡ unmade path → IsMaking g before after files files_left said path
  pub worktrees : (fault : UpdateError) → is_worktree_fault fault ≡ true → e ≡ unjudged fault → IsTaken g before after files files_left said
  pub removing : (path : List ℕ) → e ≡ unremoved path → IsMoved g trees before after files files_left said path

-- ---- the refusal

-- What the peer gave in the call is what it said, and it heard a prefix of the requests for that.
pub record HasHeardSome (answers : Bool) (old new : Option Talk) (g : Given) (before : State) (said heard : List ℕ) : Type 0 where
  pub passed : Talks answers old new heard said
  pub front : IsFront heard (lines_text (requests_in g before said))
  -- Each receive was made where it had heard all that was to be sent so far, and a reply was still awaited.
  pub needed : IsAwaited (bound_of g) old new [] (conversation g before)

-- What holds after a fetch that was refused.
pub record IsRefused (answers : Bool) (old new : Option Talk) (known : Option (List Worktree)) (files files_left : Option Tree) (g : Given)
    (before after : State) (e : FetchError) : Type 0 where
  pub said : List ℕ
  pub heard : List ℕ
  pub exchanged : HasHeardSome answers old new g before said heard
  -- The worktrees' list is the one that is told.
  pub trees : List Worktree
  pub listed_trees : IsTold known trees
  -- Unless the refusal is a free one, it is the one of this fetch from this peer and with these worktrees; the peer heard
  -- all requests up to it.
  pub why : is_free e ≡ false → IsRefusedBy new g trees before after files files_left said heard e
  -- Unless the references have moved, they are as found.
  pub stands : is_late e ≡ false → IsStanding g before after files files_left said
  pub counted : IsCounted g trees before after files files_left said heard e
