-- The workers of a mirror of a server: each has a share of what is born there, and did its job, or was refused.
use Rattle.std.proofs.Common.{◌≡◌, ℕ, ◌<◌, List, length, map, take, Some, Result, refl, sym, ap, ◌∙◌, subst, arith, Contains}
use Rattle.std.specs.Prelude.{slice_get}
use Rattle.fetch_base.specs.declared.id.ObjectId.{ObjectId}
use Rattle.fetch_refs.specs.declared.log.Signature.{Signature}
use Rattle.fetch_remote.specs.RepositoryValues.{RepositoryValue}
use Rattle.fetch_remote.specs.declared.fetching.outcome.Outcome.{Outcome}
use Rattle.fetch_journal.specs.declared.entry.Entry.{Entry}
use Rattle.fetch_journal.specs.declared.error.SharedError.{SharedError}
use Rattle.fetch_race.specs.Racing.{HasRaced}
use Rattle.fetch_race.specs.declared.job.Job.{Job}
use Rattle.fetch_race.proofs.Rows.{there}
use Rattle.fetch_serve.specs.Peers.{ServedPeer, heard_by, talk_with, told_by}
use Rattle.fetch_serve.specs.Replies.{replies_of}
use Rattle.fetch_serve.specs.Servable.{IsServable}
use Rattle.fetch_serve.specs.Served.{Data}
use Rattle.fetch_mirror.specs.Born.{born_names, born_of}
use Rattle.fetch_mirror.specs.Copying.{fresh, given_by}
use Rattle.fetch_mirror.specs.Limits.{AreWithin, IsShare, IsWithin}
use Rattle.fetch_mirror.specs.Mirroring.{HasListed, HaveFetched, worker_job}
use Rattle.fetch_mirror.specs.Shares.{AreOwnNames, as_itself, dealt_to}
use Rattle.fetch_mirror.proofs.Divided.{divided}
use Rattle.fetch_mirror.proofs.ListerAlong.{follows_rule, fresh_peer, names_so}
use Rattle.fetch_mirror.proofs.NamesOwn.{listed_own}
use Rattle.fetch_mirror.proofs.Numbered.{first_of, same_replicated, small}
use Rattle.fetch_mirror.proofs.OfferedOwn.{pair}
use Rattle.fetch_mirror.proofs.Places.{contains_at, unmapped}
use Rattle.fetch_mirror.proofs.WorkerHeld.{race_over}

module _ (d : Data) (servable : IsServable d) (committer : Signature) (workers bound : ℕ) (lister : ServedPeer) (peers : List ServedPeer) (names : List (List ℕ)) (listed : HasListed (given_by d committer workers bound lister peers).asking names)
    (repo : RepositoryValue) (journal : List Entry) (answers : List (Result Outcome SharedError)) (f : HaveFetched (given_by d committer workers bound lister peers) names repo journal answers) where
  names_are : names ≡ born_names d
  names_are =
      let heard = heard_by lister.served lister.heard in
      listed.names_are ∙ names_so d servable bound (told_by (fresh d)) (talk_with lister heard (replies_of lister.served heard)) listed.listed listed.behind (fresh_peer d)
      (follows_rule d lister (talk_with lister heard (replies_of lister.served heard)) refl listed.heard.passed.same_rule) listed.heard

  abbrev pub jobs : List (Job ServedPeer)
  jobs = f.jobs

  abbrev pub share : ℕ → List (List ℕ)
  share n = dealt_to workers n names

  pub owned : AreOwnNames names
  owned = listed_own (given_by d committer workers bound lister peers).asking names listed

  below : (n : ℕ) → n < length jobs → n < workers
  below n low = let count = f.jobs_are.count in omega (arith, count, low)

  first_name : (n : ℕ) → n < length jobs → (first : List ℕ) × (slice_get (share n) 0 ≡ Some first)
  first_name n low =
      let count = f.jobs_are.count in
      let name = there names n (omega (arith, count, low)) in
      first_of (share n) name.0 (subst (λ (w : ℕ). Contains (dealt_to workers w names) name.0) (small n workers (below n low)) ((divided workers names).each n name.0 name.1))

  name_born : (k : ℕ) (name : List ℕ) → slice_get names k ≡ Some name → (id : ObjectId) × Contains (born_of d) (name, id)
  name_born k name at =
      let u = unmapped (λ (e : List ℕ × ObjectId). e.0) (born_of d) k name (ap (λ (l : List (List ℕ)). slice_get l k) (sym names_are) ∙ at) in
      (u.0.1, contains_at (born_of d) k (pair name u.0.1) (u.1 ∙ ap (λ (n : List ℕ). Some (pair n u.0.1)) u.2))

  pub is_share : (n : ℕ) → n < length jobs → IsShare d (share n)
  is_share n low = record {
    own = (divided workers names).own n owned;
    born = λ k name at. let a = (divided workers names).among n name (contains_at (share n) k name at) in name_born a.0 name a.1;
    first = (first_name n low).0;
    some = (first_name n low).1;
  }

  pub fits : AreWithin d workers bound → (n : ℕ) → n < length jobs → IsWithin d bound (share n)
  fits within n low =
      subst (λ (l : List (List ℕ)). IsShare d (dealt_to workers n l) → IsWithin d bound (dealt_to workers n l)) (sym names_are) (within.shares n (below n low)) (is_share n low)

  -- what became of one
  pub record IsAt (n : ℕ) (answer : Result Outcome SharedError) : Type 0 where
    pub peer : ServedPeer
    pub raced : HasRaced (race_over d committer) journal n (worker_job bound (map as_itself (share n)) (fresh d)) answer peer

  pub at_place : (n : ℕ) (answer : Result Outcome SharedError) → n < length jobs → slice_get answers n ≡ Some answer → IsAt n answer
  at_place n answer low at =
      let raced = f.raced.jobs_done in
      let job = there jobs n low in
      let peer = there (take (length jobs) peers) n (subst (λ (k : ℕ). n < k) (sym raced.given_back) low) in
      let j = f.jobs_are.each n job.0 job.1 in
      let lent : j.0 ≡ fresh d = same_replicated workers n (fresh d) j.0 j.1 in
      let job_is : job.0 ≡ worker_job bound (map as_itself (share n)) (fresh d) = j.2 ∙ ap (worker_job bound (map as_itself (share n))) lent in
      record {
        peer = peer.0;
        raced = subst (λ (x : Job ServedPeer). HasRaced (race_over d committer) journal n x answer peer.0) job_is (raced.each n job.0 answer peer.0 job.1 at peer.1);
      }
