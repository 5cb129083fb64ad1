-- Input that is promised a fetch over a shared repository. It is asked for as far as the call came: with the states at the
-- places that the receipt tells.
use Rattle.std.specs.Prelude.{◌≡◌, ◌⊎◌, ℕ, Bool, true, false, List, ◌++◌, Option, Some, None, Ok, IfSome}
use Rattle.fetch_update.specs.declared.worktrees.Worktree.{Worktree}
use Rattle.fetch_lines.specs.Talks.{Talk}
use Rattle.fetch_map.specs.declared.mapping.RefMap.{RefMap}
use Rattle.fetch_conversation.specs.Conversation.{answer_in, HasExchanged, IsUnheard}
use Rattle.fetch_conversation.specs.ListStage.{ListedValue}
use Rattle.fetch_remote.specs.Errors as remote
use Rattle.fetch_remote.specs.Fetching.{apply_options_in}
use Rattle.fetch_remote.specs.Form.{Given}
use Rattle.fetch_remote.specs.Judging.{IsTold}
use Rattle.fetch_remote.specs.Repositories.{State}
use Rattle.fetch_remote.specs.Applying.{policy_in}
use Rattle.fetch_remote.specs.Stages.{Told, bound_of, listing_stage, conversation}
use Rattle.fetch_remote.specs.Valid.{AreJudgeable}
use Rattle.fetch_journal.specs.declared.error.SharedError.{SharedError}
use Rattle.fetch_journal.specs.declared.error.SharedError.TheVariants as errors
use Rattle.fetch_shared.specs.declared.receipt.Receipt.{Receipt}
use Rattle.fetch_shared.specs.Fetching.{Call}
use Rattle.fetch_shared.specs.Seen.{IsStateAt}
use Rattle.fetch_journal.specs.Shared.{SharedValue}
use Rattle.fetch_shared.specs.Conversed.{Line}

-- The references are listed by replies to the requests for that, by their grammar, and nothing stands against it.
pub record HasListing (g : Given) (stream : List ℕ) : Type 0 where
  pub listed : ListedValue
  pub behind : List ℕ
  pub replies : answer_in (bound_of g) (listing_stage g) stream ≡ Ok (listed, behind)

-- No mapping is refused over the state at `judged`, where that place is told, and over the list of work trees.
abbrev pub AreJudgeableAt : Call → Option ℕ → RefMap → Type 0
AreJudgeableAt c judged map =
    IfSome judged (λ count. (v : SharedValue) (trees : List Worktree)
    → IsStateAt c.before.shared.opening c.before.front c.after.front count v → IsTold c.known trees
    → AreJudgeable (policy_in v.repository.state (apply_options_in c.given) trees) map)

-- The bytes are replies to the requests for a plan over this state, by their grammar, and neither the settings nor what
-- the server offers stand against it.
pub record HasReplies (c : Call) (judged : Option ℕ) (planned : State) (stream : List ℕ) : Type 0 where
  pub told : Told
  pub behind : List ℕ
  pub replies : answer_in (bound_of c.given) (conversation c.given planned) stream ≡ Ok (told, behind)
  pub mappings : AreJudgeableAt c judged told.listed.ref_map

-- The bytes are valid, at least the replies to each request that was heard whole: for the listing alone where no plan was
-- made, and else for each state at `planned`.
abbrev pub IsValidFrom : Call → Option ℕ → List ℕ → List ℕ → Option ℕ → Type 0
IsValidFrom c judged heard stream None = HasListing c.given stream ⊎ IsUnheard (bound_of c.given) (listing_stage c.given) heard stream
IsValidFrom c judged heard stream (Some count) =
    (v : SharedValue) → IsStateAt c.before.shared.opening c.before.front c.after.front count v
    → HasReplies c judged v.repository.state stream ⊎ IsUnheard (bound_of c.given) (conversation c.given v.repository.state) heard stream

-- The input of a call is valid: what the peer gave in it, with what is still to come at its end.
pub record HasValidInput (line : Line) (c : Call) (receipt : Receipt) : Type 0 where
  -- how the peer stands at the end of the call
  pub after : Talk
  -- what it heard in the call
  pub heard : List ℕ
  -- what it gave in the call
  pub said : List ℕ
  -- These passed in the call.
  pub exchanged : HasExchanged line.old line.new after heard said
  -- They are valid at the places that the receipt tells.
  pub valid : IsValidFrom c receipt.judged heard (said ++ after.to_come) receipt.planned

-- A refusal that valid input may meet: one that has a count, out of memory, or that of an event by what others entered.
abbrev pub is_free : SharedError → Bool
is_free (errors.Fetch e) = remote.is_free e
is_free (errors.Collision id) = true
is_free (errors.Disconnected link) = true
is_free (errors.EditReferences name found) = true
is_free errors.NoMemory = true
is_free e = false
