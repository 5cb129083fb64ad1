-- Files, work trees and an interrupt that never fail have no fault and no yes.
use Rattle.std.proofs.Common.{◌≡◌, ℕ, Bool, true, false, List, Option, Some, None, refl, ap, ◌∙◌, subst, arith}
use Rattle.std.specs.Prelude.{if◌then◌else◌}
use Rattle.std.specs.FinMap as finmap
use Rattle.fetch_base.specs.Faults.{Faults, Rose, Counts}
use Rattle.fetch_files.specs.FileCalls.{IsRefused as IsBlocked}
use Rattle.fetch_files.specs.Trees.{Tree}
use Rattle.fetch_update.specs.declared.update.Error.{Error as UpdateError}
use Rattle.fetch_update.specs.declared.update.Error.TheVariants as update
use Rattle.fetch_lines.specs.Talks.{Talk}
use Rattle.fetch_conversation.specs.Blame.{BlamesInterrupt}
use Rattle.fetch_conversation.specs.declared.fetch.Error.{Error as ReceiveError}
use Rattle.fetch_conversation.specs.declared.fetch.Error.TheVariants as receive
use Rattle.fetch_remote.specs.Keeping.{with_keep}
use Rattle.fetch_remote.specs.Applying.{pack_read}
use Rattle.fetch_remote.specs.declared.fetching.fetch_error.FetchError.TheVariants as fetch
use Rattle.fetch_journal.specs.declared.error.SharedError.{SharedError}
use Rattle.fetch_journal.specs.declared.error.SharedError.TheVariants as errors
use Rattle.fetch_shared.specs.declared.receipt.Receipt.{Receipt}
use Rattle.fetch_journal.specs.Errors.{is_yes}
use Rattle.fetch_shared.specs.Fetching.{Call, IsSharedRefused, course_in, matter_in, IsStopped}
use Rattle.fetch_shared.specs.Applying as settling
use Rattle.fetch_shared.specs.Applying.{IsUnkept}
use Rattle.fetch_shared.specs.Conversed.{Line}
use Rattle.fetch_race.specs.Racing.{is_of_files}
use Rattle.fetch_race.proofs.Keeps.{never_unmade}

-- a count that rose, where none is possible
pub no_fault : (before now : Faults) → before.possible ≡ false → Counts before now → (before.count ≡ 0) → Rose before now → ⊥
no_fault before now none counts zero rose = let same : now.count ≡ before.count = counts.none none in omega (arith, same, zero, rose)

-- the same of a count that is told whole
pub no_count : (before now : Faults) (possible : Bool) → before ≡ record { count = 0; possible = possible } → possible ≡ false → Counts before now → Rose before now → ⊥
no_count before now possible is none counts rose = no_fault before now (ap (λ (f : Faults). f.possible) is ∙ none) counts (ap (λ (f : Faults). f.count) is) rose

-- an interrupt that never says yes isn't told
pub no_yes : (before now : Faults) (will will' : ℕ → Type 0) (a b : Option Talk) (e : SharedError) → before ≡ record { count = 0; possible = false } → BlamesInterrupt before now will will' a b (if is_yes e then 1 else 0) → is_yes e ≡ false
no_yes before now will will' a b e none h = by (is_yes e) refl
  where
    by : (told : Bool) → is_yes e ≡ told → told ≡ false
    by false same = refl
    by true same = absurd (no_count before now false none refl h.counts (h.cause (ap (λ (x : Bool). if x then 1 else 0) same)))

-- None of these is told.
pub record IsCalm (e : SharedError) : Type 0 where
  pub listing : e ≡ settling.unlisted → ⊥
  pub open_repo : e ≡ settling.unopened → ⊥
  pub follow_symref : e ≡ settling.unfollowed → ⊥
  pub unmade : (path : List ℕ) → e ≡ settling.unmade path → ⊥
  pub unremoved : (path : List ℕ) → e ≡ settling.unremoved path → ⊥

calm_judging : (e : UpdateError) → IsCalm (errors.Fetch (fetch.Receive (receive.UpdateRefs e))) → is_of_files (errors.Fetch (fetch.Receive (receive.UpdateRefs e))) ≡ false
calm_judging (update.FindReference name) c = refl
calm_judging (update.InvalidRefName name) c = refl
calm_judging (update.FindCommit id) c = refl
calm_judging (update.PeelToId name cause) c = refl
calm_judging update.WorktreeListing c = absurd (c.listing refl)
calm_judging update.OpenWorktreeRepo c = absurd (c.open_repo refl)
calm_judging update.FollowSymref c = absurd (c.follow_symref refl)
calm_judging update.NoMemory c = refl

calm_receiving : (e : ReceiveError) → IsCalm (errors.Fetch (fetch.Receive e)) → is_of_files (errors.Fetch (fetch.Receive e)) ≡ false
calm_receiving (receive.NoMapping specs count) c = refl
calm_receiving (receive.IncompatibleObjectHash local remote) c = refl
calm_receiving (receive.Disconnected link) c = refl
calm_receiving (receive.RejectShallowRemoteConfig value) c = refl
calm_receiving (receive.NegotiationAlgorithmConfig value) c = refl
calm_receiving (receive.PackThreads value) c = refl
calm_receiving (receive.Fetch e) c = refl
calm_receiving receive.Client c = refl
calm_receiving receive.Interrupted c = refl
calm_receiving (receive.RejectShallowRemote id) c = refl
calm_receiving (receive.Pack e) c = refl
calm_receiving (receive.Collision id) c = refl
calm_receiving receive.NoMemory c = refl
calm_receiving (receive.KeepFile path) c = absurd (c.unmade path refl)
calm_receiving (receive.UpdateRefs e) c = calm_judging e c
calm_receiving (receive.RemovePackKeepFile path) c = absurd (c.unremoved path refl)

-- so no fault of the files or of the work trees is
pub calm : (e : SharedError) → IsCalm e → is_of_files e ≡ false
calm (errors.NotClosed link) c = refl
calm (errors.Disconnected link) c = refl
calm (errors.Collision id) c = refl
calm (errors.EditReferences name found) c = refl
calm (errors.Fetch (fetch.Prepare e)) c = refl
calm (errors.Fetch (fetch.Receive e)) c = calm_receiving e c
calm (errors.Fetch fetch.NoMemory) c = refl
calm (errors.Delete e) c = refl
calm errors.NoMemory c = refl

-- Files that begin with nothing, and don't fail by themselves, take each keep file.
pub never_kept : (line : Line) (c : Call) (receipt : Receipt) (e : SharedError) (files : Option Tree) → files ≡ Some finmap.empty → IsSharedRefused line c receipt e
    → (path : List ℕ) → e ≡ settling.unmade path → IsBlocked false files (with_keep (Some path)) → ⊥
never_kept line c receipt e files nothing h path is blocked = kept (subst (λ (x : SharedError). IsSharedRefused line c receipt x) is h) (subst (λ (o : Option Tree). IsBlocked false o (with_keep (Some path))) nothing blocked refl)
  where
    kept : IsStopped line c receipt (settling.unmade path) → with_keep (Some path) finmap.empty ≡ None → ⊥
    kept s none =
        let m = matter_in c.given s.conversed.seen.repository.state s.told in
        let u : IsUnkept m (course_in c s.conversed.seen.journal) s.judged s.place path = s.unapplied in
        never_unmade m.setup.settings.git_dir path (pack_read m.options.dry_run m.told.received) u.keep none
