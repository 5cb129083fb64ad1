-- Input that is promised a fetch.
use Rattle.std.specs.Prelude.{◌≡◌, ◌⊎◌, ℕ, List, [], ◌++◌, Option, None, Ok, IfSome, Contains}
use Rattle.fetch_store.specs.Missing.{missing}
use Rattle.fetch_store.specs.Stores.{collision}
use Rattle.fetch_base.specs.declared.id.ObjectId.{ObjectId}
use Rattle.fetch_update.specs.Policy.{Policy}
use Rattle.fetch_update.specs.Refusing.{Refuses}
use Rattle.fetch_update.specs.declared.update.Error.{Error as UpdateError}
use Rattle.fetch_update.specs.declared.worktrees.Worktree.{Worktree}
use Rattle.fetch_lines.specs.Talks.{Talk}
use Rattle.fetch_map.specs.declared.mapping.Mapping.{Mapping}
use Rattle.fetch_map.specs.declared.mapping.RefMap.{RefMap}
use Rattle.fetch_conversation.specs.Conversation.{answer_in, HasExchanged, IsUnheard}
use Rattle.fetch_conversation.specs.declared.conversing.Received.{Received}
use Rattle.fetch_remote.specs.Fetched.{objects_with}
use Rattle.fetch_remote.specs.Fetching.{apply_options_in}
use Rattle.fetch_remote.specs.Form.{Given}
use Rattle.fetch_remote.specs.Judging.{IsTold}
use Rattle.fetch_remote.specs.Repositories.{State, held}
use Rattle.fetch_remote.specs.Applying.{to_take, pack_of, policy_in}
use Rattle.fetch_remote.specs.Stages.{Told, bound_of, wants_in, conversation}

-- What was received may be taken: no id of it has another object, and nothing is missing of what was wanted and of what
-- it links to.
pub record IsTakeable (s : State) (wants : List ObjectId) (r : Received) : Type 0 where
  pub one_object : collision s.objects r.objects ≡ None
  pub linked : missing (held s) wants (pack_of r) ≡ []

-- No mapping is refused: destinations are names, and so are the targets that would be written; what stands at a
-- destination leads to a stored object or to an absent name.
pub record AreJudgeable (p : Policy) (m : RefMap) : Type 0 where
  pub each : (mapping : Mapping) (e : UpdateError) → Contains m.mappings mapping → Refuses p mapping e → ⊥

-- what is judged by: the references found, and the objects with what was received
abbrev pub policy_with : Given → List Worktree → State → Told → Policy
policy_with g trees s told = policy_in (record s { objects = objects_with s.objects (to_take g.options.dry_run told.received) })
    (apply_options_in g) trees

-- What the peer says is valid input of this fetch.
pub record IsValidInput (g : Given) (trees : List Worktree) (s : State) (stream : List ℕ) : Type 0 where
  -- The peer's bytes are replies to the requests of this fetch, by their grammar, and neither the settings nor what the
  -- server offers stand against it.
  pub told : Told
  pub behind : List ℕ
  pub replies : answer_in (bound_of g) (conversation g s) stream ≡ Ok (told, behind)
  -- Outside a dry run what was received may be taken.
  pub pack : IfSome (to_take g.options.dry_run told.received) (IsTakeable s (wants_in g s told.listed.ref_map))
  pub mappings : AreJudgeable (policy_with g trees s told) told.listed.ref_map

-- The input of a call is valid: what the peer gave in it, with what is still to come at its end, and the list of worktrees,
-- where that is told.
pub record HasValidInput (old new : Option Talk) (known : Option (List Worktree)) (g : Given) (s : State) : Type 0 where
  -- how the peer stands at the end of the call
  pub after : Talk
  -- what it heard in the call
  pub heard : List ℕ
  -- what it gave in the call
  pub said : List ℕ
  -- These passed in the call.
  pub exchanged : HasExchanged old new after heard said
  -- They are replies to all requests of the fetch, or at least to each that was heard whole.
  pub valid : (trees : List Worktree) → IsTold known trees → IsValidInput g trees s (said ++ after.to_come)
      ⊎ IsUnheard (bound_of g) (conversation g s) heard (said ++ after.to_come)
