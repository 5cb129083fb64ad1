-- No take changes the border, also of a worker that was refused behind it: whatever border a request tells, a server changes it only
-- where a depth is asked for.
use Rattle.std.proofs.Common.{◌≡◌, ℕ, ◌<◌, ◌≤◌, ◌==◌, List, [], length, map, Some, Result, refl, sym, ap, ◌∙◌, subst, ⊎_elim}
use Rattle.std.specs.Prelude.{slice_get}
use Rattle.std.specs.FinSet as set
use Rattle.std.proofs.lemmas.Bool.{cases_lt}
use Rattle.fetch_store.specs.Borders.{ids_of}
use Rattle.fetch_base.specs.declared.id.ObjectId.{ObjectId}
use Rattle.fetch_refs.specs.declared.log.Signature.{Signature}
use Rattle.fetch_conversation.specs.declared.conversing.Received.{Received}
use Rattle.fetch_remote.specs.RepositoryValues.{RepositoryValue}
use Rattle.fetch_remote.specs.Stages.{Told, terms_in}
use Rattle.fetch_remote.specs.declared.fetching.outcome.Outcome.{Outcome}
use Rattle.fetch_journal.specs.declared.entry.Entry.{Entry}
use Rattle.fetch_journal.specs.declared.error.SharedError.{SharedError}
use Rattle.fetch_shared.specs.Fetching.{HasConversed}
use Rattle.fetch_journal.specs.Journals.{entries_of, pass_of}
use Rattle.fetch_journal.specs.Replays.{Outline, outline}
use Rattle.fetch_shared.specs.Seen.{IsStateAt}
use Rattle.fetch_journal.specs.Shared.{SharedValue}
use Rattle.fetch_race.specs.Racing.{HasRaced}
use Rattle.fetch_race.proofs.Rows.{there}
use Rattle.fetch_serve.specs.Peers.{ServedPeer}
use Rattle.fetch_serve.specs.Servable.{IsServable}
use Rattle.fetch_serve.specs.Served.{Data}
use Rattle.fetch_mirror.specs.Copying.{fresh, given_by}
use Rattle.fetch_mirror.specs.Fetches.{AreAbove}
use Rattle.fetch_mirror.specs.Limits.{IsShare, worker_given}
use Rattle.fetch_mirror.specs.Mirroring.{HasListed, HaveFetched, worker_job}
use Rattle.fetch_mirror.specs.Opening.{empty_mirror}
use Rattle.fetch_mirror.specs.Shares.{as_itself}
use Rattle.fetch_mirror.proofs.BorderIds.{border_above}
use Rattle.fetch_mirror.proofs.Journaled.{HasNoLines, replays_border}
use Rattle.fetch_mirror.proofs.NeverEdits.{in_filter, own_number}
use Rattle.fetch_mirror.proofs.Numbered.{front_at, nothing_at}
use Rattle.fetch_mirror.proofs.PackIds.{received_is}
use Rattle.fetch_mirror.proofs.WorkerAt as worker
use Rattle.fetch_mirror.proofs.WorkerAt.{at_place}
use Rattle.fetch_mirror.proofs.WorkerHeld as held
use Rattle.fetch_mirror.proofs.WorkerHeld.{IsToldTake, race_over}
use Rattle.fetch_mirror.proofs.WorkerTold.{HasTold, is_told, no_border}

module _ (d : Data) (servable : IsServable d) (committer : Signature) (bound : ℕ) (share : List (List ℕ)) (sh : IsShare d share) (number : ℕ) (journal : List Entry) (answer : Result Outcome SharedError) (peer : ServedPeer)
    (h : HasRaced (race_over d committer) journal number (worker_job bound (map as_itself share) (fresh d)) answer peer) where
  module _ (count : ℕ) (t : Told) (c : HasConversed (held.line d committer bound share number journal answer peer h) (held.call d committer bound share number journal answer peer h) count t) where
    -- the border that its plan saw can be told
    above : AreAbove d.hash [] (ids_of c.seen.repository.state.border)
    above =
        let opened = c.at.opened ∙ h.fresh.opened in
        border_above d.hash c.seen c.at.kept (ap (λ (r : RepositoryValue). r.state.objects) opened) (ap (λ (r : RepositoryValue). r.state.hash) opened)

    -- what a conversation told
    told : HasTold d committer bound share c.seen.repository.state (ids_of c.seen.repository.state.border) t
    told = is_told d servable committer bound share sh.own sh.born sh.first sh.some c.seen.repository.state above t (held.along_it d committer bound share number journal answer peer h count t c)

    lineless : (x : Received) → t.received ≡ Some x → (x.shallow ≡ []) × (x.unshallow ≡ [])
    lineless x is =
        let lines = received_is d (ids_of c.seen.repository.state.border) (terms_in (worker_given d committer bound share) c.seen.repository.state t.listed).view.wants t.received x told.received is in
        (lines.1, lines.2)

    -- and over a state without a border
    pub told_so : c.seen.repository.state.border ≡ set.empty → HasTold d committer bound share c.seen.repository.state [] t
    told_so none = subst (λ (b : List ObjectId). HasTold d committer bound share c.seen.repository.state b t) (no_border c.seen.repository.state none) told

  -- none of its entries has a line
  pub plain : (j : ℕ) (e : Entry) → slice_get (entries_of number journal) j ≡ Some e → HasNoLines e
  plain j e at =
      ⊎_elim
      (λ (none : HasNoLines e). none)
      (λ (t : IsToldTake d committer bound share number journal answer peer h e). subst HasNoLines (sym t.entry) (lineless t.count t.told t.conversed t.reply t.is))
      (held.brought d committer bound share number journal answer peer h j e at)

  -- a state that its pass has seen has no border, where no entry has a line
  pub unbordered : (earlier : List Entry) (count : ℕ) (v : SharedValue) → IsStateAt h.before.shared.opening earlier h.after.front count v → ((k : ℕ) (e : Entry) → slice_get journal k ≡ Some e → HasNoLines e)
      → v.repository.state.border ≡ set.empty
  unbordered earlier count v at none =
      let begins = held.begins d committer bound share number journal answer peer h earlier count v at in
      ap (λ (o : Outline). o.border) (held.tells d committer bound share number journal answer peer h earlier count v at)
      ∙ replays_border (outline (empty_mirror d.hash committer)) v.journal refl (λ q x there_at. none q x (front_at v.journal begins.rest journal begins.is q x there_at))

module _ (d : Data) (servable : IsServable d) (committer : Signature) (workers bound : ℕ) (lister : ServedPeer) (peers : List ServedPeer) (names : List (List ℕ)) (listed : HasListed (given_by d committer workers bound lister peers).asking names)
    (repo : RepositoryValue) (journal : List Entry) (answers : List (Result Outcome SharedError)) (f : HaveFetched (given_by d committer workers bound lister peers) names repo journal answers) where
  -- an entry of a worker
  entry_plain : (n : ℕ) → n < length f.jobs → (j : ℕ) (e : Entry) → slice_get (entries_of n journal) j ≡ Some e → HasNoLines e
  entry_plain n low j e placed =
      let answer = there answers n (subst (λ (m : ℕ). n < m) (sym f.raced.jobs_done.answered) low) in
      let w = at_place d servable committer workers bound lister peers names listed repo journal answers f n answer.0 low answer.1 in
      plain d servable committer bound (worker.share d servable committer workers bound lister peers names listed repo journal answers f n)
      (worker.is_share d servable committer workers bound lister peers names listed repo journal answers f n low) n journal answer.0 w.peer w.raced j e placed

  pub no_lines : (k : ℕ) (e : Entry) → slice_get journal k ≡ Some e → HasNoLines e
  no_lines k e at =
      let n = pass_of e in
      let placed = in_filter (λ (x : Entry). pass_of x == n) journal k e at (own_number n) in
      ⊎_elim
      (λ (busy : n < length f.jobs). entry_plain n busy placed.0 e placed.1)
      (λ (idle : length f.jobs ≤ n). absurd (nothing_at (entries_of n journal) placed.0 e (f.raced.jobs_done.others n idle) placed.1))
      (cases_lt n (length f.jobs))
