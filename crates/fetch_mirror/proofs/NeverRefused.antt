-- Where nothing is too long, a worker is refused only where memory runs out or two texts have one id.
use Rattle.std.proofs.Common.{◌≡◌, ℕ, ◌<◌, Bool, true, false, ◌||◌, List, [], ◌∷◌, ◌++◌, length, map, take, replicate, get_or, Option, Some, Result, Ok, Err, refl, sym, ap, ◌∙◌, subst, ⊎_elim, All, Contains}
use Rattle.std.specs.FinMap as finmap
use Rattle.std.specs.FinSet as set
use Rattle.std.proofs.lemmas.List.Elements.{Contains-get_or}
use Rattle.fetch_store.specs.Closed.{IsStored}
use Rattle.fetch_store.specs.Collisions.{IsFirstToDiffer}
use Rattle.fetch_store.specs.Graph.{graph_of}
use Rattle.fetch_store.specs.Honest.{Pack}
use Rattle.fetch_store.specs.Missing.{missing}
use Rattle.fetch_objects.specs.Objects.{Stored}
use Rattle.fetch_store.specs.Stores.{Entries, collision}
use Rattle.fetch_base.specs.Id.{id_cmp}
use Rattle.fetch_base.specs.declared.id.ObjectId.{ObjectId}
use Rattle.fetch_store.specs.declared.missing.Missing.{Missing}
use Rattle.fetch_store.proofs.Collided.{first_differs}
use Rattle.fetch_store.proofs.Members.{first_in}
use Rattle.fetch_reach.specs.Named.{own_id}
use Rattle.fetch_reach.specs.Whole.{without_lines}
use Rattle.fetch_refs.specs.declared.log.Signature.{Signature}
use Rattle.fetch_refs.specs.declared.target.Target.{Target}
use Rattle.fetch_update.specs.Outcomes.{outcome_of}
use Rattle.fetch_update.specs.Policy.{Policy}
use Rattle.fetch_update.specs.declared.update.Error.{Error as UpdateError}
use Rattle.fetch_update.specs.declared.update.Outcome.{Outcome as Updates}
use Rattle.fetch_update.proofs.Refused.{refused_with}
use Rattle.fetch_map.specs.declared.mapping.Mapping.{Mapping}
use Rattle.fetch_map.specs.declared.mapping.RefMap.{RefMap}
use Rattle.fetch_conversation.specs.Errors.{is_client, is_stopped, is_worktree_fault}
use Rattle.fetch_conversation.specs.declared.conversing.Received.{Received}
use Rattle.fetch_conversation.specs.declared.fetch.Error.{Error as ReceiveError}
use Rattle.fetch_conversation.specs.declared.fetch.Error.TheVariants as receive
use Rattle.fetch_remote.specs.Errors.{is_unkept, is_unlisted}
use Rattle.fetch_remote.specs.Form.{Given}
use Rattle.fetch_remote.specs.Judging.{judged_as, judged_of}
use Rattle.fetch_remote.specs.RepositoryValues.{RepositoryValue}
use Rattle.fetch_remote.specs.Applying as settling
use Rattle.fetch_remote.specs.Applying.{policy_in}
use Rattle.fetch_remote.specs.Stages.{Told, terms_in}
use Rattle.fetch_remote.specs.Conversed.{BreaksReceiving}
use Rattle.fetch_remote.specs.declared.fetching.fetch_error.FetchError.TheVariants as fetch
use Rattle.fetch_remote.specs.declared.fetching.outcome.Outcome.{Outcome}
use Rattle.fetch_journal.specs.declared.entry.Entry.{Entry}
use Rattle.fetch_journal.specs.declared.error.SharedError.{SharedError}
use Rattle.fetch_journal.specs.declared.error.SharedError.TheVariants as shared
use Rattle.fetch_shared.specs.Fetching.{Call, HasConversed, IsStopped, IsUnanswered, course_in, matter_in}
use Rattle.fetch_journal.specs.Machine.{held as held_in}
use Rattle.fetch_shared.specs.Seen.{IsStateAt}
use Rattle.fetch_shared.specs.Applying.{IsUnjudged, IsUntaken, Matter}
use Rattle.fetch_journal.specs.Shared.{SharedValue}
use Rattle.fetch_shared.specs.Conversed.{Line}
use Rattle.fetch_journal.proofs.Refusals as refusals
use Rattle.fetch_race.specs.Racing.{HasRaced}
use Rattle.fetch_serve.specs.Packs.{pack_of}
use Rattle.fetch_serve.specs.Peers.{ServedPeer, told_by}
use Rattle.fetch_serve.specs.Servable.{IsServable}
use Rattle.fetch_serve.specs.Served.{Data}
use Rattle.fetch_serve.proofs.Reached.{in_first, in_second}
use Rattle.fetch_serve.proofs.References.{id_stored}
use Rattle.fetch_mirror.specs.Completeness.{HasCollided, HasTwin}
use Rattle.fetch_mirror.specs.Copying.{fresh, given_by}
use Rattle.fetch_mirror.specs.Fetches.{wanting_all}
use Rattle.fetch_mirror.specs.Limits.{AreWithin, IsPeersFault, IsShare, IsWithin, worker_given}
use Rattle.fetch_mirror.specs.Mirroring.{HasListed, HaveFetched, worker_job}
use Rattle.fetch_mirror.specs.Shares.{as_itself}
use Rattle.fetch_mirror.proofs.ListsAll.{lists}
use Rattle.fetch_mirror.proofs.NeverEdits.{entry_own, others_off}
use Rattle.fetch_mirror.proofs.Numbered.{nothing_at}
use Rattle.fetch_mirror.proofs.OfferedOwn.{born_at}
use Rattle.fetch_mirror.proofs.PlainTakes.{no_lines, told_so, unbordered}
use Rattle.fetch_mirror.proofs.Settles.{new_unrefused, nothing_lacks, stands}
use Rattle.fetch_mirror.proofs.WantedOwn.{is_wanted}
use Rattle.fetch_mirror.proofs.WorkerAt as worker
use Rattle.fetch_mirror.proofs.WorkerHeld as held
use Rattle.fetch_mirror.proofs.WorkerHeld.{race_over}
use Rattle.fetch_mirror.proofs.WorkerTold.{HasTold, IsBornMapping, IsReceivedOf, each_born}
use Rattle.fetch_mirror.proofs.WorkerUnrefused.{received_always}

-- ---- what is told

-- a refusal that is neither a yes nor of the files is of the peer, where it is free
of_peer : (peer stopped files : Bool) → (peer || (stopped || files)) ≡ true → stopped ≡ false → files ≡ false → peer ≡ true
of_peer true stopped files free never none = refl
of_peer false stopped files free never none = absurd (let both : true ≡ false = sym free ∙ ap (λ (b : Bool). b || files) never ∙ none in cc)

-- what was received, as a pack
pack_is : (d : Data) (wants : List ObjectId) (r : Option Received) (x : Received) → IsReceivedOf d wants r → r ≡ Some x → settling.pack_of x ≡ without_lines (pack_of d (wanting_all wants)).objects
pack_is d [] r x h is = let none = sym h ∙ is in absurd cc
pack_is d (id ∷ wants) r x h is =
    let same : h.0 ≡ x = (let both : Some h.0 ≡ Some x = sym h.1 ∙ is in cc) in
    let parts : settling.pack_of h.0 ≡ without_lines (pack_of d (wanting_all (id ∷ wants))).objects = (λ i. record { objects = h.2 i; shallow = h.3 i; unshallow = h.4 i }) in
    ap (λ (y : Received). settling.pack_of y) (sym same) ∙ parts

-- a refusal of the mappings is one of the policy
unjudged_by : (r : Result Updates UpdateError) (e : ReceiveError) → judged_as r ≡ Err e → (x : UpdateError) × (r ≡ Err x)
unjudged_by (Ok o) e is = absurd cc
unjudged_by (Err x) e is = (x, refl)

refused_by : (p : Policy) (m : RefMap) (e : ReceiveError) → judged_of p m ≡ Err e → (x : UpdateError) × (outcome_of p m.refspecs m.extra_refspecs m.mappings ≡ Err x)
unfolding judged_of
refused_by p m e is = unjudged_by (outcome_of p m.refspecs m.extra_refspecs m.mappings) e is

-- an element between two lists is in the whole
in_middle : (X : Type 0) (x : X) (xs ys all : List X) → all ≡ xs ++ x ∷ ys → Contains all x
in_middle X x xs ys all is = subst (λ (l : List X). Contains l x) (sym is) (in_second x xs (x ∷ ys) (first_in x ys))

module _ (d : Data) (servable : IsServable d) (committer : Signature) (workers bound : ℕ) (within : AreWithin d workers bound) (lister : ServedPeer) (peers : List ServedPeer) (names : List (List ℕ)) (listed : HasListed (given_by d committer workers bound lister peers).asking names)
    (repo : RepositoryValue) (journal : List Entry) (answers : List (Result Outcome SharedError)) (f : HaveFetched (given_by d committer workers bound lister peers) names repo journal answers)
    (index : ℕ) (low : index < length f.jobs) (peer : ServedPeer) where
  abbrev share : List (List ℕ)
  share = worker.share d servable committer workers bound lister peers names listed repo journal answers f index

  sh : IsShare d share
  sh = worker.is_share d servable committer workers bound lister peers names listed repo journal answers f index low

  fits : IsWithin d bound share
  fits = worker.fits d servable committer workers bound lister peers names listed repo journal answers f within index low

  abbrev Raced : SharedError → Type 0
  Raced e = HasRaced (race_over d committer) journal index (worker_job bound (map as_itself share) (fresh d)) (Err e) peer

  abbrev line : (e : SharedError) → Raced e → Line
  line e h = held.line d committer bound share index journal (Err e) peer h

  abbrev call : (e : SharedError) → Raced e → Call
  call e h = held.call d committer bound share index journal (Err e) peer h

  -- a state that it has seen has no border
  no_border : (e : SharedError) (h : Raced e) (earlier : List Entry) (count : ℕ) (v : SharedValue) → IsStateAt h.before.shared.opening earlier h.after.front count v → v.repository.state.border ≡ set.empty
  no_border e h earlier count v at =
      unbordered d servable committer bound share sh index journal (Err e) peer h earlier count v at
      (λ k x there_at. no_lines d servable committer workers bound lister peers names listed repo journal answers f k x there_at)

  -- ---- while it talks

  unanswered : (cause : ReceiveError) (h : Raced (shared.Fetch (fetch.Receive cause))) → IsUnanswered (line (shared.Fetch (fetch.Receive cause)) h) (call (shared.Fetch (fetch.Receive cause)) h) h.receipt (fetch.Receive cause) → ⊥
  unanswered cause h u =
      let fault : IsPeersFault d peer (fetch.Receive cause) = record {
        alone = λ free. of_peer (is_client cause) (is_stopped cause) (is_unkept cause || is_unlisted cause) free h.done.never.0 h.done.never.1;
        rose = h.done.blames.cause;
      } in
      received_always d servable committer bound share sh fits peer (fetch.Receive cause) fault u.seen.repository.state (no_border (shared.Fetch (fetch.Receive cause)) h h.before.front u.count u.seen u.at)
      (subst (λ (g : Given). BreaksReceiving true (told_by (fresh d)) (told_by peer) g u.seen.repository.state (fetch.Receive cause))
      (held.given_is d committer bound share index journal (Err (shared.Fetch (fetch.Receive cause))) peer h) u.broke)

  -- ---- behind its conversation

  module _ (e : SharedError) (h : Raced e) (count : ℕ) (t : Told) (c : HasConversed (line e h) (call e h) count t) where
    told : HasTold d committer bound share c.seen.repository.state [] t
    told = told_so d servable committer bound share sh index journal (Err e) peer h count t c (no_border e h h.before.front count c.seen c.at)

    abbrev wants : List ObjectId
    wants = (terms_in (worker_given d committer bound share) c.seen.repository.state t.listed).view.wants

    abbrev es : Entries
    es = (pack_of d (wanting_all wants)).objects

    born : (y : Mapping) → Contains t.listed.ref_map.mappings y → IsBornMapping d share y
    born y among = each_born d servable committer bound share sh.own sh.born sh.first sh.some t.listed told.maps y among

    want_stored : (id : ObjectId) → Contains wants id → IsStored d.objects id
    want_stored id among =
        let w = is_wanted t.listed.ref_map (graph_of c.seen.repository.state.objects) id among in
        let b = born w.mapping w.among in
        let at = born_at d b.name b.id b.born in
        let same : b.id ≡ id = (let both : Some b.id ≡ Some id = sym b.source ∙ w.source in cc) in
        subst (IsStored d.objects) same (id_stored d at.entry b.id servable at.among at.id_is)

    stored : All (IsStored d.objects) wants
    stored = λ k x lt. want_stored (get_or wants k x) (Contains-get_or wants k x lt)

    pack : (x : Received) → t.received ≡ Some x → settling.pack_of x ≡ without_lines es
    pack x is = pack_is d wants t.received x told.received is

    whole : (x : Received) (now : RepositoryValue) → t.received ≡ Some x → missing (held_in now) wants (settling.pack_of x) ≡ []
    whole x now is = ap (λ (p : Pack). missing (held_in now) wants p) (pack x is) ∙ nothing_lacks d servable wants stored (held_in now)

    -- what differs from what stands at its id differs from the server's object
    twin : (x : Received) (now : SharedValue) → t.received ≡ Some x → ((id : ObjectId) (o : Stored) → finmap.get now.repository.state.objects id ≡ Some o → id ≡ own_id o)
        → (id : ObjectId) → collision now.repository.state.objects x.objects ≡ Some id → HasTwin d id
    twin x now is own id hit =
        let objects : x.objects ≡ es = ap (λ (p : Pack). p.objects) (pack x is) in
        let first : IsFirstToDiffer now.repository.state.objects es id = first_differs now.repository.state.objects es id (ap (λ (l : Entries). collision now.repository.state.objects l) (sym objects) ∙ hit) in
        let there = stands d servable wants (id, first.object) (in_middle (ObjectId × Stored) (id, first.object) first.front first.rest es first.whole) in
        ⊎_elim
        (λ (at : finmap.get now.repository.state.objects id ≡ Some first.differs.other). record { own = first.object; stored = there; other = first.differs.other; same = own id first.differs.other at; differs = first.differs.differs })
        (λ (among : Contains first.front (id, first.differs.other)).
        let also = stands d servable wants (id, first.differs.other) (subst (λ (l : Entries). Contains l (id, first.differs.other)) (sym first.whole) (in_first (id, first.differs.other) first.front ((id, first.object) ∷ first.rest) among)) in
        let same : first.differs.other ≡ first.object = (let both : Some first.differs.other ≡ Some first.object = sym also ∙ there in cc) in
        absurd (first.differs.differs (ap (λ (o : Stored). o.kind) same, ap (λ (o : Stored). o.bytes) same)))
        first.differs.at

  -- ---- by its cause

  disconnected : (link : Missing) → Raced (shared.Disconnected link) → ⊥
  disconnected link h =
      let e : SharedError = shared.Disconnected link in
      let s : IsStopped (line e h) (call e h) h.receipt (shared.Disconnected link) = h.done.answered in
      let u : IsUntaken (matter_in (call e h).given s.conversed.seen.repository.state s.told) (course_in (call e h) s.conversed.seen.journal) s.judged s.place (shared.Disconnected link) = s.unapplied in
      let now = u.refused.found.repository in
      let ids = wants e h s.count s.told s.conversed in
      let lacks = refusals.disconnected (held_in now) ids (settling.pack_of u.reply) link u.refused.cause in
      nothing_at (missing (held_in now) ids (settling.pack_of u.reply)) 0 link (whole e h s.count s.told s.conversed u.reply now u.came.is) lacks.1

  collided : (id : ObjectId) → Raced (shared.Collision id) → HasTwin d id
  collided id h =
      let e : SharedError = shared.Collision id in
      let s : IsStopped (line e h) (call e h) h.receipt (shared.Collision id) = h.done.answered in
      let u : IsUntaken (matter_in (call e h).given s.conversed.seen.repository.state s.told) (course_in (call e h) s.conversed.seen.journal) s.judged s.place (shared.Collision id) = s.unapplied in
      let now = u.refused.found in
      let opened = u.refused.opened ∙ h.fresh.opened in
      twin e h s.count s.told s.conversed u.reply now u.came.is
      (λ key o at. u.refused.kept.state.pinned.named key o (ap (λ (r : RepositoryValue). finmap.get r.state.objects key) opened ∙ finmap.get-empty id_cmp key) at)
      id (refusals.collided (held_in now.repository) (wants e h s.count s.told s.conversed) (settling.pack_of u.reply) id u.refused.cause)

  unjudged : (cause : UpdateError) → Raced (shared.Fetch (fetch.Receive (receive.UpdateRefs cause))) → ⊥
  unjudged cause h =
      let e : SharedError = shared.Fetch (fetch.Receive (receive.UpdateRefs cause)) in
      let s : IsStopped (line e h) (call e h) h.receipt (shared.Fetch (fetch.Receive (receive.UpdateRefs cause))) = h.done.answered in
      let m : Matter = matter_in (call e h).given s.conversed.seen.repository.state s.told in
      let u : IsUnjudged m (course_in (call e h) s.conversed.seen.journal) s.judged s.place cause = s.unapplied in
      let fault : is_worktree_fault cause ≡ false = h.done.never.1 in
      let p : Policy = policy_in u.taken.seen.repository.state m.options u.by.trees in
      let shown : RefMap = s.told.listed.ref_map in
      let x = refused_by p shown (receive.UpdateRefs cause) (u.by.why fault) in
      let r = refused_with p shown.refspecs shown.extra_refspecs shown.mappings x.0 x.1 in
      let b = born e h s.count s.told s.conversed r.mapping (in_middle Mapping r.mapping r.before r.after shown.mappings r.whole) in
      let back = take (length f.jobs) peers in
      let given = replicate workers (fresh d) in
      let owned = worker.owned d servable committer workers bound lister peers names listed repo journal answers f in
      let absent = held.absent_then d committer bound share index journal (Err e) peer h s.count s.told s.conversed u.count u.taken b.name (λ k y there_at apart.
      others_off (race_over d committer) workers bound names owned given f.jobs f.jobs_are journal answers back f.raced.jobs_done index b.name (record { at = b.index; there = b.shared }) y apart
      (entry_own (race_over d committer) workers bound names owned given f.jobs f.jobs_are journal answers back f.raced.jobs_done k y there_at)) in
      new_unrefused p r.mapping b.name b.id x.0 b.local (sh.own.under b.index b.name b.shared).full b.value absent r.refuses

  received : (cause : ReceiveError) → Raced (shared.Fetch (fetch.Receive cause)) → ⊥
  received (receive.NoMapping specs count) h = unanswered (receive.NoMapping specs count) h h.done.answered
  received (receive.IncompatibleObjectHash local remote) h = unanswered (receive.IncompatibleObjectHash local remote) h h.done.answered
  received (receive.Disconnected link) h = h.done.answered
  received (receive.RejectShallowRemoteConfig value) h = unanswered (receive.RejectShallowRemoteConfig value) h h.done.answered
  received (receive.NegotiationAlgorithmConfig value) h = unanswered (receive.NegotiationAlgorithmConfig value) h h.done.answered
  received (receive.PackThreads value) h = unanswered (receive.PackThreads value) h h.done.answered
  received (receive.Fetch e) h = unanswered (receive.Fetch e) h h.done.answered
  received receive.Client h = unanswered receive.Client h h.done.answered
  received receive.Interrupted h = unanswered receive.Interrupted h h.done.answered
  received (receive.RejectShallowRemote id) h = unanswered (receive.RejectShallowRemote id) h h.done.answered
  received (receive.Pack e) h = unanswered (receive.Pack e) h h.done.answered
  received (receive.Collision id) h = unanswered (receive.Collision id) h h.done.answered
  received receive.NoMemory h = h.done.answered
  received (receive.KeepFile path) h = (let no : true ≡ false = h.done.never.1 in absurd cc)
  received (receive.UpdateRefs cause) h = unjudged cause h
  received (receive.RemovePackKeepFile path) h = (let no : true ≡ false = h.done.never.1 in absurd cc)

  -- All other refusals never come.
  pub only_collides : (e : SharedError) → (e ≡ shared.NoMemory → ⊥) → ((name : List ℕ) (found : Option Target) → e ≡ shared.EditReferences name found → ⊥) → Raced e → HasCollided d e
  only_collides (shared.NotClosed link) some untouched h = h.done.answered
  only_collides (shared.Disconnected link) some untouched h = disconnected link h
  only_collides (shared.Collision id) some untouched h = collided id h
  only_collides (shared.EditReferences name found) some untouched h = untouched name found refl
  only_collides (shared.Fetch (fetch.Prepare cause)) some untouched h = lists d servable committer bound share sh fits journal index peer cause h
  only_collides (shared.Fetch (fetch.Receive cause)) some untouched h = received cause h
  only_collides (shared.Fetch fetch.NoMemory) some untouched h = h.done.answered
  only_collides (shared.Delete e) some untouched h = h.done.answered
  only_collides shared.NoMemory some untouched h = some refl
