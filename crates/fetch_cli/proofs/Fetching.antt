-- A fetch from a peer, over files that begin with nothing and with worktrees, none of which ever fail, seen from the whole of what it says.
use Rattle.std.proofs.Common.{◌≡◌, ℕ, false, List, [], ◌++◌, Option, Some, None, Result, Ok, Err, IfOk, IfErr, refl, sym, ap, ◌∙◌, arith, inl, inr}
use Rattle.std.proofs.lemmas.List.{append-nil}
use Rattle.std.specs.FinMap as map
use Rattle.fetch_base.specs.Faults.{Faults, Rose, Counts}
use Rattle.fetch_files.specs.Paths.{parts_of}
use Rattle.fetch_files.specs.Trees.{Tree, written}
use Rattle.fetch_update.specs.declared.update.Error.{Error as UpdateError}
use Rattle.fetch_update.specs.declared.update.Error.TheVariants as update
use Rattle.fetch_update.specs.declared.worktrees.Worktree.{Worktree}
use Rattle.fetch_lines.specs.Talks.{Talk, Passes}
use Rattle.fetch_conversation.specs.declared.fetch.Error.{Error as ReceiveError}
use Rattle.fetch_conversation.specs.declared.fetch.Error.TheVariants as receive
use Rattle.fetch_conversation.specs.declared.prepare.Error.{Error as PrepareError}
use Rattle.fetch_conversation.specs.declared.prepare.Error.TheVariants as prepare
use Rattle.fetch_conversation.specs.declared.ref_map.Error.{Error as RefMapError}
use Rattle.fetch_conversation.specs.declared.ref_map.Error.TheVariants as ref_map
use Rattle.fetch_remote.specs.Errors.{is_free}
use Rattle.fetch_remote.specs.Fetched.{IsFetched}
use Rattle.fetch_remote.specs.Form.{Given}
use Rattle.fetch_remote.specs.Refused.{RefusesWith, IsRefusedBy, IsRefused}
use Rattle.fetch_remote.specs.Repositories.{State}
use Rattle.fetch_remote.specs.declared.fetching.fetch_error.FetchError.{FetchError}
use Rattle.fetch_remote.specs.declared.fetching.fetch_error.FetchError.TheVariants as errors
use Rattle.fetch_remote.specs.declared.fetching.outcome.Outcome.{Outcome}
use Rattle.fetch_cli.specs.Fetched.{HasDone, HasRefused, HasRefusedBy, HasFetched}
use Rattle.fetch_cli.proofs.KeepFiles.{never_unmade}

-- ---- all that the peer says

-- what it gave and has still to give
whole : (a b : Talk) (heard said stream : List ℕ) → a ≡ record { heard = []; given = []; to_come = stream; receives = []; rule = None } → Passes false a b heard said → stream ≡ said ++ b.to_come
whole a b heard said stream told p =
    let e : a.to_come ≡ stream = ap (λ (t : Talk). t.to_come) told in
    let none : p.added ≡ [] = p.fixed refl in
    sym e ∙ sym (append-nil a.to_come) ∙ (rw none at p.in_order)

-- what it heard
heard_is : (a b : Talk) (heard said stream : List ℕ) → a ≡ record { heard = []; given = []; to_come = stream; receives = []; rule = None } → Passes false a b heard said → b.heard ≡ heard
heard_is a b heard said stream told p =
    let none : a.heard ≡ [] = ap (λ (t : Talk). t.heard) told in
    p.heard_more ∙ ap (λ (l : List ℕ). l ++ heard) none

same_talk : (a : Talk) (t : Talk) → Some a ≡ Some t → a ≡ t
same_talk a t e = cc

done : (g : Given) (trees : List Worktree) (before after : State) (files : Tree) (outcome : Outcome) (a b : Talk) (stream : List ℕ) → Some a ≡ Some (record { heard = []; given = []; to_come = stream; receives = []; rule = None })
    → IsFetched false (Some a) (Some b) (Some trees) (Some map.empty) (Some files) g before after outcome → HasDone g trees before stream outcome after b.heard
done g trees before after files outcome a b stream told h =
    let same = same_talk a _ told in
    let all = whole a b _ h.said stream same h.heard.passed in
    record {
      fetched = rw (all, ← h.carried.listed_trees) (h.whole b.to_come);
      requests = heard_is a b _ h.said stream same h.heard.passed ∙ rw all (sym (h.heard.same_requests b.to_come));
    }

refused_with : (g : Given) (trees : List Worktree) (before after : State) (files : Tree) (e : FetchError) (stream heard bytes : List ℕ) → bytes ≡ heard → RefusesWith g trees before after (Some map.empty) (Some files) stream heard e
    → HasRefused g trees before stream e after files bytes
refused_with g trees before after files e stream heard bytes is h = record { fetched = h.refused; left = sym h.left; kept = h.kept.1; requests = is ∙ sym h.requests }

refused_by : (g : Given) (trees : List Worktree) (before after : State) (files : Tree) (e : FetchError) (b : Talk) (said heard stream : List ℕ) → stream ≡ said ++ b.to_come → b.heard ≡ heard
    → IsRefusedBy (Some b) g trees before after (Some map.empty) (Some files) said heard e → HasRefused g trees before stream e after files b.heard
refused_by g trees before after files e b said heard stream all is (inl every) = rw all (refused_with g trees before after files e (said ++ b.to_come) heard b.heard is (every b.to_come))
refused_by g trees before after files e b said heard stream all is (inr last) =
    let none : stream ≡ said = all ∙ ap (λ (l : List ℕ). said ++ l) last.0 ∙ append-nil said in
    rw none (refused_with g trees before after files e said heard b.heard is last.1)

refused_for : (g : Given) (trees : List Worktree) (before after : State) (files : Tree) (e : FetchError) (a b : Talk) (stream : List ℕ) → a ≡ record { heard = []; given = []; to_come = stream; receives = []; rule = None }
    → is_free e ≡ false → IsRefused false (Some a) (Some b) (Some trees) (Some map.empty) (Some files) g before after e → HasRefused g trees before stream e after files b.heard
refused_for g trees before after files e a b stream same sure h =
    refused_by g trees before after files e b h.said h.heard stream (whole a b _ h.said stream same h.exchanged.passed) (heard_is a b _ h.said stream same h.exchanged.passed) (rw h.listed_trees at (h.why sure))

-- No fault of the peer or of the worktrees is told, and no yes of the interrupt. A keep file that couldn't be made has
-- something in its way, and none couldn't be removed.
pub record IsCalm (result : Result Outcome FetchError) : Type 0 where
  pub transport : result ≡ Err (errors.Prepare (prepare.RefMap ref_map.Transport)) → ⊥
  pub interrupted : result ≡ Err (errors.Prepare (prepare.RefMap ref_map.Interrupted)) → ⊥
  pub client : result ≡ Err (errors.Receive receive.Client) → ⊥
  pub stopped : result ≡ Err (errors.Receive receive.Interrupted) → ⊥
  pub listing : result ≡ Err (errors.Receive (receive.UpdateRefs update.WorktreeListing)) → ⊥
  pub open_repo : result ≡ Err (errors.Receive (receive.UpdateRefs update.OpenWorktreeRepo)) → ⊥
  pub follow_symref : result ≡ Err (errors.Receive (receive.UpdateRefs update.FollowSymref)) → ⊥
  pub unmade : (path : List ℕ) → result ≡ Err (errors.Receive (receive.KeepFile path)) → written map.empty (parts_of path) [] ≡ None
  pub unremoved : (path : List ℕ) → result ≡ Err (errors.Receive (receive.RemovePackKeepFile path)) → ⊥

-- so that the refusal has a cause
sure_map : (e : RefMapError) → IsCalm (Err (errors.Prepare (prepare.RefMap e))) → is_free (errors.Prepare (prepare.RefMap e)) ≡ false
sure_map (ref_map.Handshake e) c = refl
sure_map ref_map.Transport c = absurd (c.transport refl)
sure_map ref_map.Interrupted c = absurd (c.interrupted refl)
sure_map (ref_map.InitRefMap conflicts) c = refl
sure_map ref_map.NoMemory c = refl

sure_listing : (e : PrepareError) → IsCalm (Err (errors.Prepare e)) → is_free (errors.Prepare e) ≡ false
sure_listing prepare.MissingRefSpecs c = refl
sure_listing (prepare.RefMap e) c = sure_map e c
sure_listing prepare.NoMemory c = refl

sure_judging : (e : UpdateError) → IsCalm (Err (errors.Receive (receive.UpdateRefs e))) → is_free (errors.Receive (receive.UpdateRefs e)) ≡ false
sure_judging (update.FindReference name) c = refl
sure_judging (update.InvalidRefName name) c = refl
sure_judging (update.FindCommit id) c = refl
sure_judging (update.PeelToId name cause) c = refl
sure_judging update.WorktreeListing c = absurd (c.listing refl)
sure_judging update.OpenWorktreeRepo c = absurd (c.open_repo refl)
sure_judging update.FollowSymref c = absurd (c.follow_symref refl)
sure_judging update.NoMemory c = refl

sure_receiving : (e : ReceiveError) → IsCalm (Err (errors.Receive e)) → ((path : List ℕ) → e ≡ receive.KeepFile path → ⊥) → is_free (errors.Receive e) ≡ false
sure_receiving receive.Client c k = absurd (c.client refl)
sure_receiving receive.Interrupted c k = absurd (c.stopped refl)
sure_receiving receive.NoMemory c k = refl
sure_receiving (receive.NoMapping specs count) c k = refl
sure_receiving (receive.IncompatibleObjectHash local remote) c k = refl
sure_receiving (receive.Disconnected link) c k = refl
sure_receiving (receive.RejectShallowRemoteConfig value) c k = refl
sure_receiving (receive.NegotiationAlgorithmConfig value) c k = refl
sure_receiving (receive.PackThreads value) c k = refl
sure_receiving (receive.Fetch e) c k = refl
sure_receiving (receive.RejectShallowRemote id) c k = refl
sure_receiving (receive.Pack e) c k = refl
sure_receiving (receive.Collision id) c k = refl
sure_receiving (receive.KeepFile path) c k = absurd (k path refl)
sure_receiving (receive.UpdateRefs e) c k = sure_judging e c
sure_receiving (receive.RemovePackKeepFile path) c k = absurd (c.unremoved path refl)

-- what is in the way of a file in a tree that is empty
pub in_nothing : (t : Tree) (path : List ℕ) → Some t ≡ Some map.empty → written t (parts_of path) [] ≡ None → written map.empty (parts_of path) [] ≡ None
in_nothing t path same is = let e : t ≡ map.empty = cc in rw e at is

never_kept : (g : Given) (trees : List Worktree) (before after : State) (files : Tree) (e : ReceiveError) (a b : Talk) → IsCalm (Err (errors.Receive e)) → IsRefused false (Some a) (Some b) (Some trees) (Some map.empty) (Some files) g before after (errors.Receive e)
    → (path : List ℕ) → e ≡ receive.KeepFile path → ⊥
never_kept g trees before after files e a b c h path is =
    let m = h.counted.making path (ap (λ (x : ReceiveError). errors.Receive x) is) in
    never_unmade g m.told path m.keep (c.unmade path (ap (λ (x : ReceiveError). Err (errors.Receive x)) is))

refused : (g : Given) (trees : List Worktree) (before after : State) (files : Tree) (e : FetchError) (a b : Talk) (stream : List ℕ) → Some a ≡ Some (record { heard = []; given = []; to_come = stream; receives = []; rule = None }) → IsCalm (Err e)
    → IsRefused false (Some a) (Some b) (Some trees) (Some map.empty) (Some files) g before after e → HasRefusedBy g trees before stream e after files b.heard
refused g trees before after files errors.NoMemory a b stream told c h = tt
refused g trees before after files (errors.Prepare e) a b stream told c h = refused_for g trees before after files (errors.Prepare e) a b stream (same_talk a _ told) (sure_listing e c) h
refused g trees before after files (errors.Receive e) a b stream told c h =
    refused_for g trees before after files (errors.Receive e) a b stream (same_talk a _ told) (sure_receiving e c (never_kept g trees before after files e a b c h)) h

fetched_told : (g : Given) (trees : List Worktree) (before after : State) (files : Tree) (a b : Talk) (stream : List ℕ) (result : Result Outcome FetchError) → Some a ≡ Some (record { heard = []; given = []; to_come = stream; receives = []; rule = None })
    → IfOk result (λ outcome. IsFetched false (Some a) (Some b) (Some trees) (Some map.empty) (Some files) g before after outcome) → IfErr result (λ e. IsRefused false (Some a) (Some b) (Some trees) (Some map.empty) (Some files) g before after e)
    → IsCalm result → HasFetched g trees before stream result after files b.heard
fetched_told g trees before after files a b stream (Ok outcome) told h r c = record { by = done g trees before after files outcome a b stream told h }
fetched_told g trees before after files a b stream (Err e) told h r c = record { by = refused g trees before after files e a b stream told c r }

-- the same from what is told of the worktrees and the files before
pub fetched : (g : Given) (trees : List Worktree) (before after : State) (files : Tree) (a b : Talk) (stream : List ℕ) (result : Result Outcome FetchError) (listed : Option (List Worktree)) (stood : Option Tree)
    → Some a ≡ Some (record { heard = []; given = []; to_come = stream; receives = []; rule = None }) → listed ≡ Some trees → stood ≡ Some map.empty
    → IfOk result (λ outcome. IsFetched false (Some a) (Some b) listed stood (Some files) g before after outcome) → IfErr result (λ e. IsRefused false (Some a) (Some b) listed stood (Some files) g before after e)
    → IsCalm result → HasFetched g trees before stream result after files b.heard
fetched g trees before after files a b stream result listed stood told trees_are nothing h r c = fetched_told g trees before after files a b stream result told (rw (trees_are, nothing) at h) (rw (trees_are, nothing) at r) c

-- a count that rose, where none is possible
pub no_fault : (before now : Faults) → before ≡ record { count = 0; possible = false } → Counts before now → Rose before now → ⊥
no_fault before now is counts rose =
    let none : now.count ≡ before.count = counts.none (ap (λ (f : Faults). f.possible) is) in
    let zero : before.count ≡ 0 = ap (λ (f : Faults). f.count) is in
    omega (arith, none, zero, rose)
