-- What a worker brought, also one that was refused: what a conversation told it, and a commit.
use Rattle.std.proofs.Common.{◌≡◌, ◌≢◌, ℕ, zero, suc, ◌==◌, Bool, true, false, List, [], ◌∷◌, ◌++◌, map, Option, Some, None, Result, Ok, Err, refl, sym, ap, ◌∙◌, subst, inl, inr, ⊎_elim, append_assoc}
use Rattle.std.specs.Prelude.{◌⊎◌, slice_get}
use Rattle.std.specs.FinMap as finmap
use Rattle.fetch_base.specs.declared.id.ObjectId.{ObjectId}
use Rattle.fetch_store.specs.declared.missing.Missing.{Missing}
use Rattle.fetch_refs.specs.Names.{name_cmp}
use Rattle.fetch_refs.specs.declared.edit.RefEdit.{RefEdit}
use Rattle.fetch_refs.specs.declared.log.Signature.{Signature}
use Rattle.fetch_refs.specs.declared.target.Target.{Target}
use Rattle.fetch_update.specs.declared.update.Error.{Error as UpdateError}
use Rattle.fetch_update.specs.declared.update.Outcome.{Outcome as Updates}
use Rattle.fetch_lines.specs.Talks.{Talk}
use Rattle.fetch_lines.specs.declared.lines.line.Line.{Line as WireLine}
use Rattle.fetch_conversation.specs.declared.conversing.Received.{Received}
use Rattle.fetch_conversation.specs.declared.fetch.Error.{Error as ReceiveError}
use Rattle.fetch_conversation.specs.declared.fetch.Error.TheVariants as receive
use Rattle.fetch_conversation.specs.declared.prepare.Error.{Error as PrepareError}
use Rattle.fetch_conversation.specs.declared.prepare.Error.TheVariants as prepare
use Rattle.fetch_remote.specs.Fetched.{HasHeard}
use Rattle.fetch_remote.specs.Form.{Given}
use Rattle.fetch_remote.specs.Refused.{HasEnded}
use Rattle.fetch_remote.specs.Repositories.{State}
use Rattle.fetch_remote.specs.RepositoryValues.{RepositoryValue}
use Rattle.fetch_remote.specs.Stages.{Told, conversation}
use Rattle.fetch_remote.specs.declared.fetching.fetch_error.FetchError.{FetchError}
use Rattle.fetch_remote.specs.declared.fetching.fetch_error.FetchError.TheVariants as fetch
use Rattle.fetch_remote.specs.declared.fetching.outcome.Outcome.{Outcome}
use Rattle.fetch_journal.specs.declared.entry.Entry.{Entry}
use Rattle.fetch_journal.specs.declared.entry.Entry.TheVariants.{Take, Commit}
use Rattle.fetch_journal.specs.declared.error.SharedError.{SharedError}
use Rattle.fetch_journal.specs.declared.error.SharedError.TheVariants as errors
use Rattle.fetch_shared.specs.PackTaken.{take_entries}
use Rattle.fetch_shared.specs.Fetching.{Call, HasConversed, IsSharedRefused, IsStopped, RanOut, course_in, matter_in, own}
use Rattle.fetch_journal.specs.Journals.{Begins, entries_of, pass_of}
use Rattle.fetch_journal.specs.Replays.{Outline, outline, replay}
use Rattle.fetch_shared.specs.Seen.{IsStateAt}
use Rattle.fetch_shared.specs.Applying.{Commits, Course, ForgotEarly, ForgotLate, ForgotMaking, HasJudged, HasTaken, IsForgotten, IsUncommitted, IsUnjudged, IsUnkept, IsUnremoved, IsUntaken, Matter, commit_entry}
use Rattle.fetch_journal.specs.Shared.{SharedValue}
use Rattle.fetch_shared.specs.Conversed.{Line, given_to}
use Rattle.fetch_race.specs.Racing.{HasRaced, IsAnswered, Race}
use Rattle.fetch_serve.specs.Peers.{ServedPeer, faults_of, heard_by, talk_with, told_by}
use Rattle.fetch_serve.specs.Replies.{replies_of}
use Rattle.fetch_serve.specs.Served.{Data}
use Rattle.fetch_serve.proofs.Growing.{nothing_first}
use Rattle.fetch_mirror.specs.Copying.{fresh}
use Rattle.fetch_mirror.specs.GoingAlong.{GoesAlong}
use Rattle.fetch_mirror.specs.Limits.{worker_given}
use Rattle.fetch_mirror.specs.Mirroring.{worker_job}
use Rattle.fetch_mirror.specs.Opening.{empty_mirror}
use Rattle.fetch_mirror.specs.Shares.{as_itself}
use Rattle.fetch_mirror.proofs.FetchAlong as along
use Rattle.fetch_mirror.proofs.Journaled.{HasNoLines}
use Rattle.fetch_mirror.proofs.ListerAlong.{follows_rule, fresh_peer}
use Rattle.fetch_mirror.proofs.NeverEdits.{in_filter, number_passes}
use Rattle.fetch_mirror.proofs.Numbered.{front_at}
use Rattle.fetch_mirror.proofs.PackIds.{ids_in}
use Rattle.fetch_mirror.proofs.Quiet.{IsOff, replays}
use Rattle.fetch_mirror.proofs.ServedAlong.{grows}

-- the servers as peers, over the empty mirror
abbrev pub race_over : Data → Signature → Race ServedPeer
race_over d committer = record { answers = true; told = told_by; faults = faults_of; trees = []; opening = empty_mirror d.hash committer }

-- ---- entries

take_off : (name : List ℕ) (n : ℕ) (r : Option Received) (j : ℕ) (e : Entry) → slice_get (take_entries n r) j ≡ Some e → IsOff name e
take_off name n None j e at = absurd cc
take_off name n (Some x) zero e at = let same : Take n (map (λ e. e.0) x.objects) x.shallow x.unshallow ≡ e = cc in subst (IsOff name) same tt
take_off name n (Some x) (suc j) e at = absurd cc

-- each of the entries is so
abbrev pub EachIs : (Entry → Type 0) → List Entry → Type 0
EachIs P entries = (j : ℕ) (e : Entry) → slice_get entries j ≡ Some e → P e

none_is : (P : Entry → Type 0) → EachIs P []
none_is P j e at = absurd cc

one_is : (P : Entry → Type 0) (x : Entry) → P x → EachIs P (x ∷ [])
one_is P x h zero e at = let same : x ≡ e = cc in subst P same h
one_is P x h (suc j) e at = absurd cc

both_are : (P : Entry → Type 0) (xs ys : List Entry) → EachIs P xs → EachIs P ys → EachIs P (xs ++ ys)
both_are P [] ys f h = h
both_are P (x ∷ xs) ys f h = there (both_are P xs ys (λ j y is. f (suc j) y is) h)
  where
    there : EachIs P (xs ++ ys) → EachIs P (x ∷ (xs ++ ys))
    there more zero e at = f 0 e at
    there more (suc j) e at = more j e at

module _ (d : Data) (committer : Signature) (bound : ℕ) (share : List (List ℕ)) (number : ℕ) (journal : List Entry) (answer : Result Outcome SharedError) (peer : ServedPeer)
    (h : HasRaced (race_over d committer) journal number (worker_job bound (map as_itself share) (fresh d)) answer peer) where
  abbrev talk : Talk
  talk = let heard = heard_by peer.served peer.heard in talk_with peer heard (replies_of peer.served heard)

  abbrev pub line : Line
  line = record { answers = true; old = told_by (fresh d); new = told_by peer }

  abbrev pub call : Call
  call = record {
    given = given_to (worker_job bound (map as_itself share) (fresh d)).remote (worker_job bound (map as_itself share) (fresh d)).options h.before;
    before = h.before;
    after = h.after;
    known = Some [];
    files = Some finmap.empty;
    left = h.done.left;
  }

  pub given_is : call.given ≡ worker_given d committer bound share
  given_is = λ i. record {
    remote = (worker_given d committer bound share).remote;
    options = (worker_given d committer bound share).options;
    setup = (h.fresh.opened i).setup;
  }

  none_before : own call ≡ []
  none_before = ap (entries_of h.before.number) h.fresh.front_is

  -- ---- a state that the pass has seen

  module _ (earlier : List Entry) (count : ℕ) (v : SharedValue) (at : IsStateAt h.before.shared.opening earlier h.after.front count v) where
    pub begins : Begins v.journal journal
    begins = record {
      rest = at.begins.rest ++ h.seen.rest;
      is = sym (append_assoc v.journal at.begins.rest h.seen.rest) ∙ ap (λ (l : List Entry). l ++ h.seen.rest) at.begins.is ∙ h.seen.is;
    }

    pub tells : outline v.repository ≡ replay (outline (empty_mirror d.hash committer)) v.journal
    tells = at.kept.state.told ∙ ap (λ (r : RepositoryValue). replay (outline r) v.journal) (at.opened ∙ h.fresh.opened)

  -- ---- a conversation that was held to its end

  module _ (count : ℕ) (t : Told) (c : HasConversed line call count t) where
    abbrev seen : State
    seen = c.seen.repository.state

    pub along_it : (sent : List WireLine) (last : Result Told FetchError) → GoesAlong bound (replies_of d) [] (conversation (worker_given d committer bound share) seen) sent last → last ≡ Ok t
    along_it sent last g =
        let given = worker_given d committer bound share in
        let heard : HasHeard true (told_by (fresh d)) (told_by peer) given seen c.said = subst (λ (x : Given). HasHeard true (told_by (fresh d)) (told_by peer) x seen c.said) given_is c.heard in
        let over : HasEnded given seen c.said t = subst (λ (x : Given). HasEnded x seen c.said t) given_is c.ended in
        sym g.is
        ∙ along.ended (replies_of d) true (told_by (fresh d)) talk given seen c.said t (grows d) (nothing_first d) g.so (fresh_peer d) (follows_rule d peer talk refl heard.passed.same_rule) heard over

    -- what it told was taken
    module _ (judged : ℕ) (taken : HasTaken (matter_in call.given seen t) (course_in call c.seen.journal) judged) where
      pub taken_entries : entries_of h.before.number taken.seen.journal ≡ take_entries h.before.number t.received
      taken_entries = taken.added ∙ ap (λ (l : List Entry). l ++ take_entries h.before.number t.received) none_before

      -- a name that no other worker's entry is on isn't there then
      pub absent_then : (name : List ℕ) → ((k : ℕ) (e : Entry) → slice_get journal k ≡ Some e → pass_of e ≢ number → IsOff name e) → finmap.get taken.seen.repository.state.refs.names name ≡ None
      absent_then name others =
          ap (λ (o : Outline). finmap.get o.refs.names name) (tells c.seen.journal judged taken.seen taken.at)
          ∙ replays (outline (empty_mirror d.hash committer)) name taken.seen.journal (λ q e at. by q e at (pass_of e == h.before.number) refl)
          ∙ finmap.get-empty name_cmp name
        where
          by : (q : ℕ) (e : Entry) → slice_get taken.seen.journal q ≡ Some e → (b : Bool) → (pass_of e == h.before.number) ≡ b → IsOff name e
          by q e at true mine =
              let placed = in_filter (λ (x : Entry). pass_of x == h.before.number) taken.seen.journal q e at mine in
              take_off name h.before.number t.received placed.0 e (ap (λ (l : List Entry). slice_get l placed.0) (sym taken_entries) ∙ placed.1)
          by q e at false other =
              let b = begins c.seen.journal judged taken.seen taken.at in
              others q e (front_at taken.seen.journal b.rest journal b.is q e at)
              (λ same. let yes = number_passes h.before.number e (same ∙ sym h.fresh.number_is) in absurd cc)

  -- ---- its entries

  -- a take of what a conversation told
  pub record IsToldTake (e : Entry) : Type 0 where
    pub count : ℕ
    pub told : Told
    pub conversed : HasConversed line call count told
    pub reply : Received
    pub is : told.received ≡ Some reply
    pub entry : e ≡ Take h.before.number (ids_in reply.objects) reply.shallow reply.unshallow

  -- an entry without lines, or such a take
  abbrev pub IsBrought : Entry → Type 0
  IsBrought e = HasNoLines e ⊎ IsToldTake e

  abbrev front : List Entry
  front = entries_of h.before.number h.after.front

  nothing : front ≡ own call → EachIs IsBrought front
  nothing is = subst (EachIs IsBrought) (sym (is ∙ none_before)) (none_is IsBrought)

  module _ (count : ℕ) (t : Told) (c : HasConversed line call count t) where
    took : (r : Option Received) → t.received ≡ r → EachIs IsBrought (take_entries h.before.number r)
    took None is = none_is IsBrought
    took (Some x) is =
        let entry : Entry = Take h.before.number (ids_in x.objects) x.shallow x.unshallow in
        one_is IsBrought entry (inr (record { count = count; told = t; conversed = c; reply = x; is = is; entry = refl }))

    added : front ≡ own call ++ take_entries h.before.number t.received → EachIs IsBrought front
    added is = subst (EachIs IsBrought) (sym (is ∙ ap (λ (l : List Entry). l ++ take_entries h.before.number t.received) none_before)) (took t.received refl)

    committed : (before : List Entry) (edits : List RefEdit) (who : Signature) → before ≡ own call ++ take_entries h.before.number t.received → front ≡ before ++ Commit h.before.number edits who ∷ [] → EachIs IsBrought front
    committed before edits who took_is is =
        subst (EachIs IsBrought) (sym (is ∙ ap (λ (l : List Entry). l ++ Commit h.before.number edits who ∷ []) (took_is ∙ ap (λ (l : List Entry). l ++ take_entries h.before.number t.received) none_before)))
        (both_are IsBrought (take_entries h.before.number t.received) (Commit h.before.number edits who ∷ []) (took t.received refl) (one_is IsBrought (Commit h.before.number edits who) (inl tt)))

    settled : (judged : ℕ) (updates : Updates) (place : Option ℕ) (by : HasJudged (matter_in call.given c.seen.repository.state t) (course_in call c.seen.journal) judged updates)
        → Commits false h.before.number judged (entries_of h.before.number by.taken.seen.journal) h.after.front (commit_entry (matter_in call.given c.seen.repository.state t) h.before.number updates) place → EachIs IsBrought front
    settled judged updates place by commits = committed (entries_of h.before.number by.taken.seen.journal) updates.edits call.given.setup.settings.committer by.taken.added commits.added

  disconnected : (link : Missing) → IsStopped line call h.receipt (errors.Disconnected link) → EachIs IsBrought front
  disconnected link s =
      let u : IsUntaken (matter_in call.given s.conversed.seen.repository.state s.told) (course_in call s.conversed.seen.journal) s.judged s.place (errors.Disconnected link) = s.unapplied in
      nothing u.none

  collided : (id : ObjectId) → IsStopped line call h.receipt (errors.Collision id) → EachIs IsBrought front
  collided id s =
      let u : IsUntaken (matter_in call.given s.conversed.seen.repository.state s.told) (course_in call s.conversed.seen.journal) s.judged s.place (errors.Collision id) = s.unapplied in
      nothing u.none

  uncommitted : (name : List ℕ) (found : Option Target) → IsStopped line call h.receipt (errors.EditReferences name found) → EachIs IsBrought front
  uncommitted name found s =
      let u : IsUncommitted (matter_in call.given s.conversed.seen.repository.state s.told) (course_in call s.conversed.seen.journal) s.judged s.place (errors.EditReferences name found) = s.unapplied in
      added s.count s.told s.conversed (u.none ∙ u.by.taken.added)

  unkept : (path : List ℕ) → IsStopped line call h.receipt (errors.Fetch (fetch.Receive (receive.KeepFile path))) → EachIs IsBrought front
  unkept path s =
      let u : IsUnkept (matter_in call.given s.conversed.seen.repository.state s.told) (course_in call s.conversed.seen.journal) s.judged s.place path = s.unapplied in
      added s.count s.told s.conversed u.added

  unjudged : (cause : UpdateError) → IsStopped line call h.receipt (errors.Fetch (fetch.Receive (receive.UpdateRefs cause))) → EachIs IsBrought front
  unjudged cause s =
      let u : IsUnjudged (matter_in call.given s.conversed.seen.repository.state s.told) (course_in call s.conversed.seen.journal) s.judged s.place cause = s.unapplied in
      added s.count s.told s.conversed (u.none ∙ u.taken.added)

  unremoved : (path : List ℕ) → IsStopped line call h.receipt (errors.Fetch (fetch.Receive (receive.RemovePackKeepFile path))) → EachIs IsBrought front
  unremoved path s =
      let u : IsUnremoved (matter_in call.given s.conversed.seen.repository.state s.told) (course_in call s.conversed.seen.journal) s.judged s.place path = s.unapplied in
      settled s.count s.told s.conversed u.count u.updates s.place u.by u.commits

  forgotten : IsStopped line call h.receipt errors.NoMemory → EachIs IsBrought front
  forgotten s =
      let m : Matter = matter_in call.given s.conversed.seen.repository.state s.told in
      let k : Course = course_in call s.conversed.seen.journal in
      let u : IsForgotten m k s.judged s.place = s.unapplied in
      ⊎_elim
      (λ (early : ForgotEarly k s.judged). nothing early.none)
      (λ (others : ForgotMaking m k s.judged ⊎ ForgotLate m k s.judged). ⊎_elim
      (λ (making : ForgotMaking m k s.judged). added s.count s.told s.conversed making.added)
      (λ (late : ForgotLate m k s.judged). added s.count s.told s.conversed late.added)
      others)
      u.stands

  received : (e : ReceiveError) → IsSharedRefused line call h.receipt (errors.Fetch (fetch.Receive e)) → EachIs IsBrought front
  received (receive.NoMapping specs count) s = nothing s.none
  received (receive.IncompatibleObjectHash local remote) s = nothing s.none
  received (receive.Disconnected link) s = absurd s
  received (receive.RejectShallowRemoteConfig value) s = nothing s.none
  received (receive.NegotiationAlgorithmConfig value) s = nothing s.none
  received (receive.PackThreads value) s = nothing s.none
  received (receive.Fetch e) s = nothing s.none
  received receive.Client s = nothing s.none
  received receive.Interrupted s = nothing s.none
  received (receive.RejectShallowRemote id) s = nothing s.none
  received (receive.Pack e) s = nothing s.none
  received (receive.Collision id) s = nothing s.none
  received receive.NoMemory s = absurd s
  received (receive.KeepFile path) s = unkept path s
  received (receive.UpdateRefs e) s = unjudged e s
  received (receive.RemovePackKeepFile path) s = unremoved path s

  prepared : (e : PrepareError) → IsSharedRefused line call h.receipt (errors.Fetch (fetch.Prepare e)) → EachIs IsBrought front
  prepared prepare.MissingRefSpecs s = nothing s.none
  prepared (prepare.RefMap e) s = nothing s.none
  prepared prepare.NoMemory s = absurd s

  refused : (e : SharedError) → IsSharedRefused line call h.receipt e → EachIs IsBrought front
  refused (errors.NotClosed link) s = absurd s
  refused (errors.Disconnected link) s = disconnected link s
  refused (errors.Collision id) s = collided id s
  refused (errors.EditReferences name found) s = uncommitted name found s
  refused (errors.Fetch (fetch.Prepare e)) s = prepared e s
  refused (errors.Fetch (fetch.Receive e)) s = received e s
  refused (errors.Fetch fetch.NoMemory) s = absurd s
  refused (errors.Delete e) s = absurd s
  refused errors.NoMemory s = ⊎_elim (λ (r : RanOut line call h.receipt). nothing r.none) (λ (stopped : IsStopped line call h.receipt errors.NoMemory). forgotten stopped) s

  answered : (a : Result Outcome SharedError) → IsAnswered line call h.receipt a → EachIs IsBrought front
  answered (Ok outcome) f = settled f.count f.told f.conversed f.judged f.applied.updates f.place f.applied.by f.applied.commits
  answered (Err e) s = refused e s

  -- So is each entry of it.
  pub brought : EachIs IsBrought (entries_of number journal)
  brought = subst (EachIs IsBrought) (sym (h.entries ∙ ap (λ (n : ℕ). entries_of n h.after.front) (sym h.fresh.number_is))) (answered answer h.done.answered)
