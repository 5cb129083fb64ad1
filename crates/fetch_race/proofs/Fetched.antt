-- The fetch of a job, from what a fetch over a shared repository says.
use Rattle.std.proofs.Common.{◌≡◌, true, false, List, Option, Some, None, Ok, Err, refl, sym, subst}
use Rattle.std.specs.FinMap as map
use Rattle.fetch_base.specs.Faults.{Counts-none}
use Rattle.fetch_files.specs.Trees.{Tree}
use Rattle.fetch_update.specs.declared.worktrees.Worktree.{Worktree}
use Rattle.fetch_conversation.specs.Blame.{BlamesPeer}
use Rattle.fetch_remote.specs.declared.fetching.options.FetchOptions.{FetchOptions}
use Rattle.fetch_remote.specs.declared.fetching.outcome.Outcome.{Outcome}
use Rattle.fetch_journal.specs.declared.error.SharedError.{SharedError}
use Rattle.fetch_journal.specs.declared.error.SharedError.TheVariants as errors
use Rattle.fetch_shared.specs.declared.receipt.Receipt.{Receipt}
use Rattle.fetch_journal.specs.Errors.{is_of_peer, is_yes}
use Rattle.fetch_shared.specs.Fetching.{Call, IsSharedFetch, IsSharedRefused, receipt_of}
use Rattle.fetch_shared.specs.Passes.{Holder, IsBack}
use Rattle.fetch_shared.specs.Receipts.{IsReceipt}
use Rattle.fetch_shared.specs.Conversed.{Line, given_to}
use Rattle.fetch_shared.specs.Valid.{HasValidInput, is_free}
use Rattle.fetch_shared.proofs.Fetched.{silent, ran_out}
use Rattle.fetch_shared.proofs.Places.{receipt_none}
use Rattle.fetch_shared.proofs.Saw.{back_self}
use Rattle.fetch_race.specs.declared.job.Job.{Job}
use Rattle.fetch_race.specs.Racing.{Race, IsDone}
use Rattle.fetch_race.proofs.Calm.{IsCalm, calm}

module _ {P : Type 0} (race : Race P) (job : Job P) (peer : P) (before after : Holder) (receipt : Receipt) (left : Option Tree) where
  abbrev pub line : Line
  line = record { answers = race.answers; old = race.told job.peer; new = race.told peer }

  abbrev pub call : FetchOptions → Option (List Worktree) → Option Tree → Call
  call options known files = record { given = given_to job.remote options before; before = before; after = after; known = known; files = files; left = left }

  same_call : (options : FetchOptions) (known : Option (List Worktree)) (files : Option Tree) → options ≡ job.options → known ≡ Some race.trees → files ≡ Some map.empty → call options known files ≡ call job.options (Some race.trees) (Some map.empty)
  same_call options known files chosen told nothing = λ i. call (chosen i) (told i) (nothing i)

  pub done : (options : FetchOptions) (known : Option (List Worktree)) (files : Option Tree) (outcome : Outcome) → options ≡ job.options → known ≡ Some race.trees → files ≡ Some map.empty → IsBack before after → IsReceipt before after receipt → BlamesPeer (race.faults job.peer) (race.faults peer) false
      → IsSharedFetch line (call options known files) receipt outcome → IsDone race job peer before after receipt (Ok outcome)
  done options known files outcome chosen told nothing back order blames fetched = record {
    left = left;
    back = back;
    in_order = order;
    answered = subst (λ (c : Call). IsSharedFetch line c receipt outcome) (same_call options known files chosen told nothing) fetched;
    blames = blames;
    never = tt;
    complete = tt;
  }

  pub refused : (options : FetchOptions) (known : Option (List Worktree)) (files : Option Tree) (e : SharedError) → options ≡ job.options → known ≡ Some race.trees → files ≡ Some map.empty → IsBack before after → IsReceipt before after receipt → BlamesPeer (race.faults job.peer) (race.faults peer) (is_of_peer e)
      → IsSharedRefused line (call options known files) receipt e → is_yes e ≡ false → IsCalm e → (HasValidInput line (call options known files) receipt → is_free e ≡ true)
      → IsDone race job peer before after receipt (Err e)
  refused options known files e chosen told nothing back order blames why unasked quiet complete = record {
    left = left;
    back = back;
    in_order = order;
    answered = subst (λ (c : Call). IsSharedRefused line c receipt e) (same_call options known files chosen told nothing) why;
    blames = blames;
    never = (unasked, calm e quiet);
    complete = λ v. complete (subst (λ (c : Call). HasValidInput line c receipt) (sym (same_call options known files chosen told nothing)) v);
  }

-- Memory ran out before anything was asked.
pub forgot : {P : Type 0} (race : Race P) (job : Job P) (before : Holder) → IsDone race job job.peer before before (receipt_of before None None None) (Err errors.NoMemory)
forgot {P} race job before = record {
  left = Some map.empty;
  back = back_self before;
  in_order = receipt_none before before;
  answered = ran_out (line race job job.peer before before (receipt_of before None None None) (Some map.empty)) (call race job job.peer before before (receipt_of before None None None) (Some map.empty) job.options (Some race.trees) (Some map.empty)) refl refl refl
      (λ s. silent race.answers (race.told job.peer) (given_to job.remote job.options before) s);
  blames = record { counts = Counts-none (race.faults job.peer); cause = λ h. absurd cc };
  never = (refl, refl);
  complete = λ v. refl;
}
