-- Nothing that a mirror asks for its references is refused, where nothing is too long.
use Rattle.std.proofs.Common.{◌≡◌, ℕ, ◌<◌, Bool, true, false, ◌||◌, List, [], length, map, Err, refl, sym, ◌∙◌, subst, ⊎_elim, arith, sum_by}
use Rattle.std.proofs.lemmas.Option.{slice_get_within}
use Rattle.fetch_refs.specs.declared.log.Signature.{Signature}
use Rattle.fetch_lines.specs.Lines.{line_len}
use Rattle.fetch_conversation.specs.declared.prepare.Error.{Error as PrepareError}
use Rattle.fetch_conversation.specs.declared.prepare.Error.TheVariants as prepare
use Rattle.fetch_conversation.specs.declared.ref_map.Error.{Error as ListError}
use Rattle.fetch_conversation.specs.Errors.{is_interrupted, is_transport}
use Rattle.fetch_remote.specs.Form.{Given}
use Rattle.fetch_remote.specs.Conversed.{BreaksListing}
use Rattle.fetch_remote.specs.declared.fetching.fetch_error.FetchError.TheVariants as fetch
use Rattle.fetch_race.specs.Racing.{HasRaced}
use Rattle.fetch_serve.specs.Peers.{ServedPeer, told_by}
use Rattle.fetch_serve.specs.Replies.{reply_lines}
use Rattle.fetch_serve.specs.Servable.{IsServable}
use Rattle.fetch_serve.specs.Served.{Data}
use Rattle.fetch_asked.specs.declared.asked.Asked.TheVariants.{First, Listing}
use Rattle.fetch_shared.specs.Conversed.{given_to}
use Rattle.fetch_journal.specs.declared.entry.Entry.{Entry}
use Rattle.fetch_journal.specs.declared.error.SharedError.TheVariants as shared
use Rattle.fetch_mirror.specs.Copying.{fresh, given_by}
use Rattle.fetch_mirror.specs.Limits.{AreWithin, IsShare, IsWithin, worker_given}
use Rattle.fetch_mirror.specs.Mirroring.{IsFew, IsUnlisted, IsWorkerRefused, worker_job}
use Rattle.fetch_mirror.specs.Shares.{as_itself, dealt_to}
use Rattle.fetch_mirror.proofs.ListerRefused.{unlisted_so}
use Rattle.fetch_mirror.proofs.WorkerAt as worker
use Rattle.fetch_mirror.proofs.WorkerHeld.{race_over}
use Rattle.fetch_mirror.proofs.WorkerUnrefused.{listed_always}

-- ---- the lister

pub lister_lists : (d : Data) → IsServable d → (committer : Signature) (workers bound : ℕ) → AreWithin d workers bound → (lister : ServedPeer) (peers : List ServedPeer) (e : ListError) → IsUnlisted (given_by d committer workers bound lister peers).asking e → ⊥
lister_lists d servable committer workers bound within lister peers e h =
    ⊎_elim
    (λ (long : bound < sum_by line_len (reply_lines d First)). let least = within.greeting in absurd (omega (arith, long, least)))
    (λ (long : bound < sum_by line_len (reply_lines d (Listing true []))). let least = within.listing in absurd (omega (arith, long, least)))
    (unlisted_so d servable committer workers bound lister peers e h).long

-- ---- a worker

or_first : (a b : Bool) → (a || b) ≡ true → b ≡ false → a ≡ true
or_first true b is other = refl
or_first false b is other = absurd (let both : true ≡ false = sym is ∙ other in cc)

module _ (d : Data) (servable : IsServable d) (committer : Signature) (bound : ℕ) (share : List (List ℕ)) (sh : IsShare d share) (within : IsWithin d bound share) (journal : List Entry) (number : ℕ) (peer : ServedPeer) where
  by_cause : (cause : PrepareError) → HasRaced (race_over d committer) journal number (worker_job bound (map as_itself share) (fresh d)) (Err (shared.Fetch (fetch.Prepare cause))) peer
      → BreaksListing true (told_by (fresh d)) (told_by peer) (worker_given d committer bound share) (fetch.Prepare cause) → ⊥
  by_cause cause h broke = listed_always d servable committer bound share sh within peer (fetch.Prepare cause)
      (record { alone = λ free. or_first (is_transport cause) (is_interrupted cause) free h.done.never.0; rose = h.done.blames.cause }) broke

  given_so : (cause : PrepareError) (h : HasRaced (race_over d committer) journal number (worker_job bound (map as_itself share) (fresh d)) (Err (shared.Fetch (fetch.Prepare cause))) peer)
      → BreaksListing true (told_by (fresh d)) (told_by peer) (given_to (worker_job bound (map as_itself share) (fresh d)).remote (worker_job bound (map as_itself share) (fresh d)).options h.before) (fetch.Prepare cause)
      → BreaksListing true (told_by (fresh d)) (told_by peer) (worker_given d committer bound share) (fetch.Prepare cause)
  given_so cause h broke = subst (λ (g : Given). BreaksListing true (told_by (fresh d)) (told_by peer) g (fetch.Prepare cause))
      (λ i. record { remote = (worker_given d committer bound share).remote; options = (worker_given d committer bound share).options; setup = (h.fresh.opened i).setup }) broke

  pub lists : (cause : PrepareError) → HasRaced (race_over d committer) journal number (worker_job bound (map as_itself share) (fresh d)) (Err (shared.Fetch (fetch.Prepare cause))) peer → ⊥
  lists prepare.MissingRefSpecs h = by_cause prepare.MissingRefSpecs h (given_so prepare.MissingRefSpecs h h.done.answered.broke)
  lists (prepare.RefMap x) h = by_cause (prepare.RefMap x) h (given_so (prepare.RefMap x) h h.done.answered.broke)
  lists prepare.NoMemory h = h.done.answered

pub worker_lists : (d : Data) → IsServable d → (committer : Signature) (workers bound : ℕ) → IsFew workers → AreWithin d workers bound → (lister : ServedPeer) (peers : List ServedPeer) (index : ℕ) (cause : PrepareError)
    → IsWorkerRefused (given_by d committer workers bound lister peers) index (shared.Fetch (fetch.Prepare cause)) → ⊥
worker_lists d servable committer workers bound few within lister peers index cause r =
    let low : index < length r.fetched.jobs = subst (λ (k : ℕ). index < k) r.fetched.raced.jobs_done.answered (slice_get_within r.answers index (Err (shared.Fetch (fetch.Prepare cause))) r.first.refused) in
    let w = worker.at_place d servable committer workers bound lister peers r.names r.listed r.repo r.journal r.answers r.fetched index (Err (shared.Fetch (fetch.Prepare cause))) low r.first.refused in
    lists d servable committer bound (dealt_to workers index r.names) (worker.is_share d servable committer workers bound lister peers r.names r.listed r.repo r.journal r.answers r.fetched index low)
    (worker.fits d servable committer workers bound lister peers r.names r.listed r.repo r.journal r.answers r.fetched within index low) r.journal index w.peer cause w.raced
