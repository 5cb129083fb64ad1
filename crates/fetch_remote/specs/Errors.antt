-- How a refusal of a stage is told by the fetch, and which refusals have a count or nothing in place of a cause.
use Rattle.std.specs.Prelude.{Bool, true, false, ◌||◌}
use Rattle.fetch_conversation.specs.Errors.{is_transport, is_interrupted, is_client, is_stopped, is_worktree_fault}
use Rattle.fetch_conversation.specs.declared.fetch.Error.{Error as ReceiveError}
use Rattle.fetch_conversation.specs.declared.fetch.Error.TheVariants as fetch
use Rattle.fetch_conversation.specs.declared.prepare.Error.{Error as PrepareError}
use Rattle.fetch_conversation.specs.declared.prepare.Error.TheVariants as prepare
use Rattle.fetch_remote.specs.declared.fetching.fetch_error.FetchError.{FetchError}
use Rattle.fetch_remote.specs.declared.fetching.fetch_error.FetchError.TheVariants as errors

-- out of memory stays what it is
abbrev pub preparing : PrepareError → FetchError
preparing prepare.NoMemory = errors.NoMemory
preparing e = errors.Prepare e

-- a refusal from the fetch request on, as one of the fetch
abbrev pub receiving : ReceiveError → FetchError
receiving fetch.NoMemory = errors.NoMemory
receiving e = errors.Receive e

-- out of memory, from the fetch request on
abbrev pub is_memory : ReceiveError → Bool
is_memory fetch.NoMemory = true
is_memory e = false

-- a fault of the worktrees
abbrev pub is_unlisted : ReceiveError → Bool
is_unlisted (fetch.UpdateRefs e) = is_worktree_fault e
is_unlisted e = false

-- a fault of the files
abbrev pub is_unkept : ReceiveError → Bool
is_unkept (fetch.KeepFile path) = true
is_unkept (fetch.RemovePackKeepFile path) = true
is_unkept e = false

-- A free refusal has no cause in what was said: out of memory has none at all, and a fault of the peer, of the files or of
-- the worktrees and a yes of the interrupt have a count.
abbrev pub is_free : FetchError → Bool
is_free (errors.Prepare e) = is_transport e || is_interrupted e
is_free (errors.Receive e) = is_client e || (is_stopped e || (is_unkept e || is_unlisted e))
is_free errors.NoMemory = true

-- a yes of the interrupt, while listing or after it
abbrev pub is_yes : FetchError → Bool
is_yes (errors.Prepare e) = is_interrupted e
is_yes (errors.Receive e) = is_stopped e
is_yes errors.NoMemory = false

-- the peer's fault
abbrev pub is_of_peer : FetchError → Bool
is_of_peer (errors.Prepare e) = is_transport e
is_of_peer (errors.Receive e) = is_client e
is_of_peer errors.NoMemory = false
