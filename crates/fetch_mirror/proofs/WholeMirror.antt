-- The mirror of a server is what the server has under `refs/`, and all that it reaches.
use Rattle.std.proofs.Common.{◌≡◌, ℕ, ◌<◌, ◌≤◌, ◌%◌, ◌==◌, true, false, List, [], ◌∷◌, ◌++◌, length, map, get_or, replicate, take, Option, Some, None, Result, Ok, Err, refl, sym, ap, ◌∙◌, subst, inl, inr, ⊎_elim, arith, All, Contains}
use Rattle.std.specs.Prelude.{◌⊎◌, ◌↔◌, IsOk, is_some, option_map, slice_get}
use Rattle.std.specs.FinMap as finmap
use Rattle.std.specs.FinSet as set
use Rattle.std.proofs.lemmas.Bool.{cases_lt}
use Rattle.std.proofs.lemmas.List.Elements.{Contains-get_or}
use Rattle.std.proofs.lemmas.Nat.{mod_below}
use Rattle.std.proofs.lemmas.Option.{slice_get_within}
use Rattle.fetch_store.specs.Closed.{IsStored, Reached}
use Rattle.fetch_store.specs.Graph.{Node, graph_of, node_of}
use Rattle.fetch_objects.specs.Objects.{Stored}
use Rattle.fetch_base.specs.Id.{id_cmp}
use Rattle.fetch_base.specs.declared.id.ObjectId.{ObjectId}
use Rattle.fetch_store.proofs.Graphs.{get-graph_of}
use Rattle.fetch_store.proofs.Members.{first_in, none_in}
use Rattle.fetch_store.proofs.Reaching.{reached_more, reached_on}
use Rattle.fetch_refs.specs.declared.edit.RefEdit.{RefEdit}
use Rattle.fetch_refs.specs.declared.log.Signature.{Signature}
use Rattle.fetch_refs.specs.declared.target.Target.{Target}
use Rattle.fetch_refs.specs.declared.target.Target.TheVariants.{Object}
use Rattle.fetch_update.specs.Outcomes.{outcome_of}
use Rattle.fetch_update.specs.Policy.{is_stored, value_of}
use Rattle.fetch_update.specs.declared.update.Outcome.{Outcome as Updates}
use Rattle.fetch_lines.specs.References.{source_id}
use Rattle.fetch_map.specs.declared.mapping.Mapping.{Mapping}
use Rattle.fetch_conversation.specs.declared.conversing.Received.{Received}
use Rattle.fetch_remote.specs.RepositoryValues.{RepositoryValue}
use Rattle.fetch_remote.specs.Stages.{Told, terms_in}
use Rattle.fetch_remote.specs.declared.fetching.outcome.Outcome.{Outcome}
use Rattle.fetch_journal.specs.declared.entry.Entry.{Entry}
use Rattle.fetch_journal.specs.declared.entry.Entry.TheVariants.{Take, Commit}
use Rattle.fetch_journal.specs.declared.error.SharedError.{SharedError}
use Rattle.fetch_shared.specs.PackTaken.{take_entries}
use Rattle.fetch_journal.specs.Journals.{entries_of, pass_of}
use Rattle.fetch_journal.specs.Replays.{Outline, outline}
use Rattle.fetch_journal.proofs.Replays.{contains-ids, replay_hash}
use Rattle.fetch_race.specs.Racing.{HasRaced}
use Rattle.fetch_race.specs.declared.job.Job.{Job}
use Rattle.fetch_race.proofs.Rows.{there}
use Rattle.fetch_serve.specs.Peers.{ServedPeer}
use Rattle.fetch_serve.specs.Servable.{IsServable}
use Rattle.fetch_serve.specs.Served.{Data}
use Rattle.fetch_serve.proofs.Reached.{filtered}
use Rattle.fetch_mirror.specs.Born.{born_names, born_of}
use Rattle.fetch_mirror.specs.Copying.{fresh, given_by}
use Rattle.fetch_mirror.specs.Limits.{worker_given}
use Rattle.fetch_mirror.specs.Mirroring.{HasMirrored, IsFew, worker_job}
use Rattle.fetch_mirror.specs.Mirrors.{HasTakenNames, IsJournal, IsMirrored, born_ids, mirrored, mirrored_of}
use Rattle.fetch_mirror.specs.Opening.{empty_mirror}
use Rattle.fetch_mirror.specs.Shares.{AreOwnNames, as_itself, dealt_to}
use Rattle.fetch_mirror.proofs.Divided.{divided}
use Rattle.fetch_mirror.proofs.Journaled.{AllGive, EntryGives, HasNoLines, IsEdited, IsTaken, replays_border, replays_id, replays_value, taken_ids, taken_there}
use Rattle.fetch_mirror.proofs.NamesOwn.{listed_own}
use Rattle.fetch_mirror.proofs.NeverEdits.{entry_own, in_filter, others_off, own_number}
use Rattle.fetch_mirror.proofs.NewEdits.{all_give, edits_shared, is_edited, one_id}
use Rattle.fetch_mirror.proofs.OfferedOwn.{pair}
use Rattle.fetch_mirror.proofs.Places.{at_contains, contains_at, mapped_at, unmapped}
use Rattle.fetch_mirror.proofs.WantedOwn.{is_wanted, stored_or_wanted}
use Rattle.fetch_mirror.proofs.WorkerSo as worker
use Rattle.fetch_mirror.proofs.PlainTakes as plain
use Rattle.fetch_mirror.proofs.WorkerHeld.{race_over}
use Rattle.fetch_mirror.proofs.WorkerSo.{IsWorker}
use Rattle.fetch_mirror.proofs.WorkerTold.{AreBorn, HasTold, IsBornMapping, each_mapped}
use Rattle.fetch_mirror.proofs.Numbered.{small, mod_within, below_both, front_at, same_replicated, nothing_at, first_of, first_some, in_or_not}
use Rattle.fetch_mirror.proofs.PackIds.{ids_in, whole, pack_reached, reached_packed, walk_starts, one_all, entry_cases, commit_at, take_at, received_is, wanted_received}

-- a name beside a value
abbrev beside : List ℕ → Target → List ℕ × Target
beside name target = (name, target)

module _ (d : Data) (servable : IsServable d) (committer : Signature) (workers bound : ℕ) (few : IsFew workers) (lister : ServedPeer) (peers : List ServedPeer) (repo : RepositoryValue) (journal : List Entry)
    (m : HasMirrored (given_by d committer workers bound lister peers) repo journal) (names_are : m.names ≡ born_names d) where
  abbrev names : List (List ℕ)
  names = m.names

  abbrev share : ℕ → List (List ℕ)
  share i = dealt_to workers i names

  abbrev jobs : List (Job ServedPeer)
  jobs = m.fetched.jobs

  abbrev opening : Outline
  opening = outline (empty_mirror d.hash committer)

  -- the peers as they came back
  abbrev back : List ServedPeer
  back = take (length jobs) peers

  owned : AreOwnNames names
  owned = listed_own (given_by d committer workers bound lister peers).asking names m.listed

  born_once : AreOwnNames (born_names d)
  born_once = subst AreOwnNames names_are owned

  share_owned : (i : ℕ) → AreOwnNames (share i)
  share_owned i = (divided workers names).own i owned

  -- a name of the mirror is born, by some id
  name_born : (k : ℕ) (name : List ℕ) → slice_get names k ≡ Some name → (id : ObjectId) × Contains (born_of d) (name, id)
  name_born k name at =
      let u = unmapped (λ (e : List ℕ × ObjectId). e.0) (born_of d) k name (ap (λ (l : List (List ℕ)). slice_get l k) (sym names_are) ∙ at) in
      (u.0.1, contains_at (born_of d) k (pair name u.0.1) (u.1 ∙ ap (λ (n : List ℕ). Some (pair n u.0.1)) u.2))

  share_born : (i : ℕ) → AreBorn d (share i)
  share_born i index name at =
      let a = (divided workers names).among i name (contains_at (share i) index name at) in
      name_born a.0 name a.1

  -- ---- the workers

  by_answer : (i : ℕ) (answer : Result Outcome SharedError) (job : Job ServedPeer) (peer : ServedPeer) → job ≡ worker_job bound (map as_itself (share i)) (fresh d)
      → HasRaced (race_over d committer) journal i job answer peer → IsOk answer → IsWorker d committer bound (share i) i journal
  by_answer i (Ok outcome) job peer job_is h ok = record { outcome = outcome; peer = peer; raced = subst (λ (j : Job ServedPeer). HasRaced (race_over d committer) journal i j (Ok outcome) peer) job_is h }
  by_answer i (Err e) job peer job_is h ok = absurd cc

  did : (i : ℕ) → i < length jobs → IsWorker d committer bound (share i) i journal
  did i low =
      let raced = m.fetched.raced.jobs_done in
      let job = there jobs i low in
      let answer = there m.answers i (subst (λ (k : ℕ). i < k) (sym raced.answered) low) in
      let peer = there back i (subst (λ (k : ℕ). i < k) (sym raced.given_back) low) in
      let j = m.fetched.jobs_are.each i job.0 job.1 in
      let lent : j.0 ≡ fresh d = same_replicated workers i (fresh d) j.0 j.1 in
      by_answer i answer.0 job.0 peer.0 (j.2 ∙ ap (worker_job bound (map as_itself (share i))) lent) (raced.each i job.0 answer.0 peer.0 job.1 answer.1 peer.1) (m.done i answer.0 answer.1)

  -- a worker with a job has a share
  first_name : (i : ℕ) → i < length jobs → (first : List ℕ) × (slice_get (share i) 0 ≡ Some first)
  first_name i low =
      let few_jobs = m.fetched.jobs_are.count in
      let name = there names i (omega (arith, few_jobs, low)) in
      let own = small i workers (omega (arith, few_jobs, low)) in
      first_of (share i) name.0 (subst (λ (w : ℕ). Contains (dealt_to workers w names) name.0) own ((divided workers names).each i name.0 name.1))

  -- the worker of a name
  owner : (k : ℕ) (name : List ℕ) → slice_get names k ≡ Some name → (i : ℕ) × (i < length jobs) × ((index : ℕ) × (slice_get (share i) index ≡ Some name))
  owner k name at =
      let some : 0 < workers = omega (arith, few.0) in
      let within = slice_get_within names k name at in (
        k % workers,
        below_both (k % workers) k workers (length names) (length jobs) m.fetched.jobs_are.count (mod_below k workers some) (mod_within k workers some) within,
        at_contains (share (k % workers)) name ((divided workers names).each k name at),
      )

  -- ---- entries

  -- what an entry of the journal is
  record IsOf (e : Entry) : Type 0 where
    pub number : ℕ
    pub low : number < length jobs
    pub is : ((x : Received) × ((worker.told d committer bound (share number) number journal (did number low)).received ≡ Some x) × (e ≡ Take number (ids_in x.objects) x.shallow x.unshallow))
        ⊎ (e ≡ Commit number (worker.updates d committer bound (share number) number journal (did number low)).edits committer)
    pub own : pass_of e ≡ number

  entry_of : (k : ℕ) (e : Entry) → slice_get journal k ≡ Some e → IsOf e
  entry_of k e at =
      let n = pass_of e in
      let placed = in_filter (λ (x : Entry). pass_of x == n) journal k e at (own_number n) in
      ⊎_elim
      (λ (low : n < length jobs).
      let w = did n low in
      record {
        number = n;
        low = low;
        is = entry_cases n (worker.told d committer bound (share n) n journal w).received (worker.updates d committer bound (share n) n journal w).edits committer placed.0 e
            (ap (λ (l : List Entry). slice_get l placed.0) (sym (worker.entries_are d committer bound (share n) n journal w)) ∙ placed.1);
        own = refl;
      })
      (λ (high : length jobs ≤ n). absurd (nothing_at (entries_of n journal) placed.0 e (m.fetched.raced.jobs_done.others n high) placed.1))
      (cases_lt n (length jobs))

  -- an entry of a worker stands in the journal
  in_journal : (i : ℕ) (low : i < length jobs) (j : ℕ) (e : Entry)
      → slice_get (take_entries i (worker.told d committer bound (share i) i journal (did i low)).received ++ Commit i (worker.updates d committer bound (share i) i journal (did i low)).edits committer ∷ []) j ≡ Some e
      → (k : ℕ) × (slice_get journal k ≡ Some e)
  in_journal i low j e at =
      let among = filtered (λ (x : Entry). pass_of x == i) e journal
      (contains_at (entries_of i journal) j e (ap (λ (l : List Entry). slice_get l j) (worker.entries_are d committer bound (share i) i journal (did i low)) ∙ at)) in
      at_contains journal e among.0

  -- ---- the border

  no_lines : (k : ℕ) (e : Entry) → slice_get journal k ≡ Some e → HasNoLines e
  no_lines k e at = plain.no_lines d servable committer workers bound lister peers names m.listed repo journal m.answers m.fetched k e at

  -- what a plan saw has no border
  border_none : (i : ℕ) (low : i < length jobs) → (worker.seen d committer bound (share i) i journal (did i low)).border ≡ set.empty
  border_none i low =
      let w = did i low in
      let planned = worker.planned d committer bound (share i) i journal w in
      let begins = worker.planned_begins d committer bound (share i) i journal w in
      ap (λ (o : Outline). o.border) (worker.planned_tells d committer bound (share i) i journal w)
      ∙ replays_border opening planned.journal refl (λ q e at. no_lines q e (front_at planned.journal begins.rest journal begins.is q e at))

  -- what a worker wanted
  abbrev wants : (i : ℕ) → i < length jobs → List ObjectId
  wants i low = (terms_in (worker_given d committer bound (share i)) (worker.seen d committer bound (share i) i journal (did i low)) (worker.told d committer bound (share i) i journal (did i low)).listed).view.wants

  told_by : (i : ℕ) (low : i < length jobs) → (worker.seen d committer bound (share i) i journal (did i low)).border ≡ set.empty
      → HasTold d committer bound (share i) (worker.seen d committer bound (share i) i journal (did i low)) [] (worker.told d committer bound (share i) i journal (did i low))
  told_by i low border =
      let first = first_name i low in
      worker.has_told d committer bound (share i) i journal (did i low) servable (share_owned i) (share_born i) first.0 first.1 border

  told_all : (i : ℕ) (low : i < length jobs) → HasTold d committer bound (share i) (worker.seen d committer bound (share i) i journal (did i low)) [] (worker.told d committer bound (share i) i journal (did i low))
  told_all i low = told_by i low (border_none i low)

  -- ---- ids

  -- the ids of a take are what its wants reach
  take_reaches : (i : ℕ) (low : i < length jobs) (x : Received) (id : ObjectId) → (worker.told d committer bound (share i) i journal (did i low)).received ≡ Some x → Contains (ids_in x.objects) id → Reached (whole d) (wants i low) id
  take_reaches i low x id is among =
      let r = received_is d [] (wants i low) (worker.told d committer bound (share i) i journal (did i low)).received x (told_all i low).received is in
      pack_reached d (wants i low) id servable (subst (λ (ids : List ObjectId). Contains ids id) r.0 among)

  -- an id that an entry took is reached from some worker's wants
  record IsReachedBy (id : ObjectId) : Type 0 where
    pub number : ℕ
    pub low : number < length jobs
    pub reached : Reached (whole d) (wants number low) id

  reached_by : (k : ℕ) (e : Entry) (id : ObjectId) → slice_get journal k ≡ Some e → Contains (taken_ids e) id → IsReachedBy id
  reached_by k e id at among = by (entry_of k e at)
    where
      by : IsOf e → IsReachedBy id
      by o = ⊎_elim
          (λ (t : (x : Received) × ((worker.told d committer bound (share o.number) o.number journal (did o.number o.low)).received ≡ Some x) × (e ≡ Take o.number (ids_in x.objects) x.shallow x.unshallow)).
          record { number = o.number; low = o.low; reached = take_reaches o.number o.low t.0 id t.1 (subst (λ (y : Entry). Contains (taken_ids y) id) t.2 among) })
          (λ (commit : e ≡ Commit o.number (worker.updates d committer bound (share o.number) o.number journal (did o.number o.low)).edits committer).
          absurd (none_in id (subst (λ (y : Entry). Contains (taken_ids y) id) commit among)))
          o.is

  -- what a worker's wants reach is stored
  reached_there : (i : ℕ) (low : i < length jobs) (id : ObjectId) → Reached (whole d) (wants i low) id → IsStored repo.state.objects id
  reached_there i low id reached =
      let t = worker.told d committer bound (share i) i journal (did i low) in
      let edits = (worker.updates d committer bound (share i) i journal (did i low)).edits in
      let x = wanted_received d (wants i low) t.received reached.start (told_all i low).received reached.among in
      let r = received_is d [] (wants i low) t.received x.0 (told_all i low).received x.1 in
      let j = take_at i t.received x.0 edits committer x.1 in
      let place = in_journal i low j.0 (Take i (ids_in x.0.objects) x.0.shallow x.0.unshallow) j.1 in
      let among : Contains (ids_in x.0.objects) id = subst (λ (ids : List ObjectId). Contains ids id) (sym r.0) (reached_packed d (wants i low) id servable reached) in
      let taken = taken_there opening journal place.0 (Take i (ids_in x.0.objects) x.0.shallow x.0.unshallow) id place.1 among in
      sym (contains-ids repo.state.objects id) ∙ ap (λ (o : Outline). set.contains o.ids id) m.fetched.raced.kept.state.told ∙ taken

  nothing_stored : (id : ObjectId) → set.contains opening.ids id ≡ true → ⊥
  nothing_stored id is =
      let none : set.contains opening.ids id ≡ false = contains-ids finmap.empty id ∙ ap (λ (o : Option Stored). is_some o) (finmap.get-empty id_cmp id) in
      absurd cc

  -- what is stored was taken
  stored_taken : (id : ObjectId) → IsStored repo.state.objects id → IsTaken journal id
  stored_taken id stored =
      ⊎_elim (λ (old : set.contains opening.ids id ≡ true). absurd (nothing_stored id old)) (λ (taken : IsTaken journal id). taken)
      (replays_id opening journal id (ap (λ (o : Outline). set.contains o.ids id) (sym m.fetched.raced.kept.state.told) ∙ contains-ids repo.state.objects id ∙ stored))

  -- each want is the id of a reference that is born
  want_born : (i : ℕ) (low : i < length jobs) (id : ObjectId) → Contains (wants i low) id → Contains (born_ids d) id
  want_born i low id among =
      let first = first_name i low in
      let t = worker.told d committer bound (share i) i journal (did i low) in
      let w = is_wanted t.listed.ref_map (graph_of (worker.seen d committer bound (share i) i journal (did i low)).objects) id among in
      let b = worker.born_each d committer bound (share i) i journal (did i low) servable (share_owned i) (share_born i) first.0 first.1 (border_none i low) w.mapping w.among in
      let same : b.id ≡ id = (let both : Some b.id ≡ Some id = sym b.source ∙ w.source in cc) in
      let at = at_contains (born_of d) (b.name, b.id) b.born in
      contains_at (born_ids d) at.0 id (mapped_at (λ (e : List ℕ × ObjectId). e.1) (born_of d) at.0 (b.name, b.id) at.1 ∙ ap (λ (x : ObjectId). Some x) same)

  stored_reached : (id : ObjectId) → IsStored repo.state.objects id → Reached (whole d) (born_ids d) id
  stored_reached id stored =
      let taken = stored_taken id stored in
      let by = reached_by taken.at taken.entry id taken.there taken.among in
      let all : All (Contains (born_ids d)) (wants by.number by.low) = (λ k e lt. want_born by.number by.low (get_or (wants by.number by.low) k e) (Contains-get_or (wants by.number by.low) k e lt)) in
      reached_more (whole d) (wants by.number by.low) (born_ids d) id all by.reached

  -- the mapping of a name in its worker's listing
  record IsFetched (name : List ℕ) (id : ObjectId) : Type 0 where
    pub number : ℕ
    pub low : number < length jobs
    pub mapping : Mapping
    pub among : Contains (worker.told d committer bound (share number) number journal (did number low)).listed.ref_map.mappings mapping
    pub source : source_id mapping.remote ≡ Some id
    pub local : mapping.local ≡ Some name

  fetched : (name : List ℕ) (id : ObjectId) → Contains (born_of d) (name, id) → IsFetched name id
  fetched name id born =
      let at = at_contains (born_of d) (name, id) born in
      let place : slice_get names at.0 ≡ Some name = ap (λ (l : List (List ℕ)). slice_get l at.0) names_are ∙ mapped_at (λ (e : List ℕ × ObjectId). e.0) (born_of d) at.0 (name, id) at.1 in
      let o = owner at.0 name place in
      let i = o.0 in
      let low = o.1 in
      let first = first_name i low in
      let t = worker.told d committer bound (share i) i journal (did i low) in
      let y = each_mapped d servable committer bound (share i) (share_owned i) (share_born i) first.0 first.1 t.listed (told_all i low).maps o.2.0 name o.2.1 in
      let b = worker.born_each d committer bound (share i) i journal (did i low) servable (share_owned i) (share_born i) first.0 first.1 (border_none i low) y.0 y.1 in
      let named : b.name ≡ name = (let both : Some b.name ≡ Some name = sym b.local ∙ y.2 in cc) in
      let same : b.id ≡ id = one_id d born_once.once name b.id id (subst (λ (n : List ℕ). Contains (born_of d) (n, b.id)) named b.born) born in
      record { number = i; low = low; mapping = y.0; among = y.1; source = b.source ∙ ap (λ (x : ObjectId). Some x) same; local = y.2 }

  -- what was stored before a plan was taken before it
  seen_taken : (i : ℕ) (low : i < length jobs) (id : ObjectId) → IsStored (worker.seen d committer bound (share i) i journal (did i low)).objects id → IsReachedBy id
  seen_taken i low id stored =
      let w = did i low in
      let planned = worker.planned d committer bound (share i) i journal w in
      let begins = worker.planned_begins d committer bound (share i) i journal w in
      ⊎_elim
      (λ (old : set.contains opening.ids id ≡ true). absurd (nothing_stored id old))
      (λ (taken : IsTaken planned.journal id). reached_by taken.at taken.entry id (front_at planned.journal begins.rest journal begins.is taken.at taken.entry taken.there) taken.among)
      (replays_id opening planned.journal id
      (ap (λ (o : Outline). set.contains o.ids id) (sym (worker.planned_tells d committer bound (share i) i journal w)) ∙ contains-ids planned.repository.state.objects id ∙ stored))

  -- the id of a born reference is wanted by its worker, or another worker took it before
  born_reached : (name : List ℕ) (id : ObjectId) → Contains (born_of d) (name, id) → IsStored d.objects id → IsReachedBy id
  born_reached name id born there_it =
      let f = fetched name id born in
      let t = worker.told d committer bound (share f.number) f.number journal (did f.number f.low) in
      let seen = worker.seen d committer bound (share f.number) f.number journal (did f.number f.low) in
      ⊎_elim
      (λ (stored : finmap.contains_key (graph_of seen.objects) id ≡ true). seen_taken f.number f.low id (stored_by id (finmap.get seen.objects id) (sym (ap (λ (o : Option Node). is_some o) (get-graph_of seen.objects id)) ∙ stored)))
      (λ (wanted : Contains (wants f.number f.low) id). record { number = f.number; low = f.low; reached = record { start = id; among = wanted; rest = []; walk = (there_it, refl) } })
      (stored_or_wanted t.listed.ref_map (graph_of seen.objects) f.mapping id f.among f.source)
    where
      stored_by : (id : ObjectId) (o : Option Stored) → is_some (option_map node_of o) ≡ true → is_some o ≡ true
      stored_by id None is = absurd cc
      stored_by id (Some o) is = refl

  reached_stored_too : (id : ObjectId) → Reached (whole d) (born_ids d) id → IsStored repo.state.objects id
  reached_stored_too id r =
      let at = at_contains (born_ids d) r.start r.among in
      let u = unmapped (λ (e : List ℕ × ObjectId). e.1) (born_of d) at.0 r.start at.1 in
      let born : Contains (born_of d) (u.0.0, r.start) = contains_at (born_of d) at.0 (pair u.0.0 r.start) (u.1 ∙ ap (λ (x : ObjectId). Some (pair u.0.0 x)) u.2) in
      let start = born_reached u.0.0 r.start born (walk_starts (whole d) r.start r.rest id r.walk) in
      let on : Reached (whole d) (r.start ∷ []) id = record { start = r.start; among = first_in r.start []; rest = r.rest; walk = r.walk } in
      reached_there start.number start.low id (reached_on (whole d) (wants start.number start.low) (r.start ∷ []) id (one_all (Reached (whole d) (wants start.number start.low)) r.start start.reached) on)

  -- ---- references

  -- a name of a share wasn't there when the worker's verdicts saw the references
  absent : (i : ℕ) (low : i < length jobs) (index : ℕ) (name : List ℕ) → slice_get (share i) index ≡ Some name
      → finmap.get (worker.policy d committer bound (share i) i journal (did i low)).names name ≡ None
  absent i low index name at =
      worker.judged_absent d committer bound (share i) i journal (did i low) name (λ k e there_at apart.
      others_off (race_over d committer) workers bound names owned (replicate workers (fresh d)) jobs m.fetched.jobs_are journal m.answers back m.fetched.raced.jobs_done i name (record { at = index; there = at }) e apart
      (entry_own (race_over d committer) workers bound names owned (replicate workers (fresh d)) jobs m.fetched.jobs_are journal m.answers back m.fetched.raced.jobs_done k e there_at))

  module _ (i : ℕ) (low : i < length jobs) where
    abbrev w : IsWorker d committer bound (share i) i journal
    w = did i low

    abbrev t : Told
    t = worker.told d committer bound (share i) i journal w

    abbrev updates : Updates
    updates = worker.updates d committer bound (share i) i journal w

    abbrev mappings : List Mapping
    mappings = t.listed.ref_map.mappings

    first : (name : List ℕ) × (slice_get (share i) 0 ≡ Some name)
    first = first_name i low

    judged_so : outcome_of (worker.policy d committer bound (share i) i journal w) (map as_itself (share i)) t.listed.ref_map.extra_refspecs mappings ≡ Ok updates
    judged_so = worker.verdicts d committer bound (share i) i journal w servable (share_owned i) (share_born i) first.0 first.1 (border_none i low)

    each : (y : Mapping) → Contains mappings y → IsBornMapping d (share i) y
    each y among = worker.born_each d committer bound (share i) i journal w servable (share_owned i) (share_born i) first.0 first.1 (border_none i low) y among

    held : (y : Mapping) (id : ObjectId) → Contains mappings y → value_of y.remote ≡ Object id → is_stored (worker.policy d committer bound (share i) i journal w).graph id ≡ true
    held y id among value = worker.held_each d committer bound (share i) i journal w servable (share_owned i) (share_born i) first.0 first.1 (border_none i low) y id among value

    gives_all : (name : List ℕ) (id : ObjectId) → Contains (born_of d) (name, id) → AllGive name (Object id) updates.edits
    gives_all name id born =
        all_give d born_once.once (share i) (share_owned i) (worker.policy d committer bound (share i) i journal w) refl t.listed.ref_map.extra_refspecs mappings updates judged_so each held (absent i low) name id born

    edited : (y : Mapping) (name : List ℕ) → Contains mappings y → y.local ≡ Some name → IsEdited name updates.edits
    edited y name among local =
        is_edited d born_once.once (share i) (share_owned i) (worker.policy d committer bound (share i) i journal w) refl t.listed.ref_map.extra_refspecs mappings updates judged_so each held (absent i low) y name among local

    shared_edits : (k : ℕ) (e : RefEdit) → slice_get updates.edits k ≡ Some e → Contains (share i) e.name
    shared_edits k e at =
        edits_shared d born_once.once (share i) (share_owned i) (worker.policy d committer bound (share i) i journal w) refl t.listed.ref_map.extra_refspecs mappings updates judged_so each held (absent i low) k e at

    -- the names that are edited are those of the share
    edits_are : (name : List ℕ) → Contains (share i) name ↔ Contains (map (λ (e : RefEdit). e.name) updates.edits) name
    edits_are name = (
      λ among. (let at = at_contains (share i) name among in
          let y = each_mapped d servable committer bound (share i) (share_owned i) (share_born i) first.0 first.1 t.listed (told_all i low).maps at.0 name at.1 in
          let e = edited y.0 name y.1 y.2 in
          contains_at (map (λ (e : RefEdit). e.name) updates.edits) e.at name (mapped_at (λ (e : RefEdit). e.name) updates.edits e.at e.edit e.there ∙ ap (λ (n : List ℕ). Some n) (sym e.named))),
      λ among. (let at = at_contains (map (λ (e : RefEdit). e.name) updates.edits) name among in
          let u = unmapped (λ (e : RefEdit). e.name) updates.edits at.0 name at.1 in
          subst (Contains (share i)) u.2 (shared_edits at.0 u.0 u.1)),
    )

    entries_by : (r : Option Received) → t.received ≡ r → (entries_of i journal ≡ Commit i updates.edits committer ∷ []) ⊎ ((ids : List ObjectId) × (entries_of i journal ≡ Take i ids [] [] ∷ Commit i updates.edits committer ∷ []))
    entries_by None is = inl (worker.entries_are d committer bound (share i) i journal w ∙ ap (λ (r : Option Received). take_entries i r ++ Commit i updates.edits committer ∷ []) is)
    entries_by (Some x) is =
        let lines = received_is d [] (wants i low) t.received x (told_all i low).received is in
        inr (
          ids_in x.objects,
          worker.entries_are d committer bound (share i) i journal w ∙ ap (λ (r : Option Received). take_entries i r ++ Commit i updates.edits committer ∷ []) is
              ∙ ap (λ (l : List ObjectId). Take i (ids_in x.objects) l x.unshallow ∷ Commit i updates.edits committer ∷ []) lines.1
              ∙ ap (λ (l : List ObjectId). Take i (ids_in x.objects) [] l ∷ Commit i updates.edits committer ∷ []) lines.2,
        )

    taken_names : HasTakenNames i (share i) committer (entries_of i journal)
    taken_names = record { edits = updates.edits; each = edits_are; is = entries_by t.received refl }

  -- each entry gives a born name its id
  entry_gives : (name : List ℕ) (id : ObjectId) → Contains (born_of d) (name, id) → (k : ℕ) (e : Entry) → slice_get journal k ≡ Some e → EntryGives name (Object id) e
  entry_gives name id born k e at = by (entry_of k e at)
    where
      by : IsOf e → EntryGives name (Object id) e
      by o = ⊎_elim
          (λ (taken : (x : Received) × ((worker.told d committer bound (share o.number) o.number journal (did o.number o.low)).received ≡ Some x) × (e ≡ Take o.number (ids_in x.objects) x.shallow x.unshallow)).
          subst (EntryGives name (Object id)) (sym taken.2) tt)
          (λ (commit : e ≡ Commit o.number (worker.updates d committer bound (share o.number) o.number journal (did o.number o.low)).edits committer).
          subst (EntryGives name (Object id)) (sym commit) (gives_all o.number o.low name id born))
          o.is

  value_there : (name : List ℕ) (id : ObjectId) → Contains (born_of d) (name, id) → finmap.get repo.state.refs.names name ≡ Some (Object id)
  value_there name id born =
      let f = fetched name id born in
      let received = (worker.told d committer bound (share f.number) f.number journal (did f.number f.low)).received in
      let edits = (worker.updates d committer bound (share f.number) f.number journal (did f.number f.low)).edits in
      let j = commit_at f.number received edits committer in
      let place = in_journal f.number f.low j.0 (Commit f.number edits committer) j.1 in
      ap (λ (o : Outline). finmap.get o.refs.names name) m.fetched.raced.kept.state.told
      ∙ replays_value opening name (Object id) journal place.0 (Commit f.number edits committer) (entry_gives name id born) place.1 (edited f.number f.low f.mapping name f.among f.local)

  names_so : (name : List ℕ) (target : Target) → (finmap.get repo.state.refs.names name ≡ Some target) ↔ Contains (mirrored_of d) (name, target)
  names_so name target = (
    λ is. ⊎_elim
        (λ (among : Contains names name).
        let k = at_contains names name among in
        let b = name_born k.0 name k.1 in
        let same : Object b.0 ≡ target = (let both : Some (Object b.0) ≡ Some target = sym (value_there name b.0 b.1) ∙ is in cc) in
        let at = at_contains (born_of d) (name, b.0) b.1 in
        contains_at (mirrored_of d) at.0 (name, target) (mapped_at mirrored (born_of d) at.0 (pair name b.0) at.1 ∙ ap (λ (x : Target). Some (beside name x)) same))
        (λ (no : Contains names name → ⊥). let none = sym (m.within name no) ∙ is in absurd cc)
        (in_or_not names name),
    λ among. (let at = at_contains (mirrored_of d) (name, target) among in
        let u = unmapped mirrored (born_of d) at.0 (name, target) at.1 in
        let there_it = value_there u.0.0 u.0.1 (contains_at (born_of d) at.0 u.0 u.1) in
        ap (finmap.get repo.state.refs.names) (sym (ap (λ (x : List ℕ × Target). x.0) u.2)) ∙ there_it ∙ ap (λ (x : List ℕ × Target). Some x.1) u.2),
  )

  -- ---- all of it

  low_of : (i : ℕ) → (share i ≡ [] → ⊥) → i < length jobs
  low_of i some =
      let x = first_some (share i) some in
      let a = (divided workers names).among i x.0 x.1 in
      let nonzero : 0 < workers = omega (arith, few.0) in
      subst (λ (n : ℕ). n < length jobs) a.2
      (below_both (a.0 % workers) a.0 workers (length names) (length jobs) m.fetched.jobs_are.count (mod_below a.0 workers nonzero) (mod_within a.0 workers nonzero) (slice_get_within names a.0 x.0 a.1))

  journal_so : IsJournal workers names committer journal
  journal_so = record {
    each = λ i low some. taken_names i (low_of i some);
    none = λ i low none. ⊎_elim
        (λ (busy : i < length jobs). let first = first_name i busy in absurd (nothing_at (share i) 0 first.0 none first.1))
        (λ (idle : length jobs ≤ i). m.fetched.raced.jobs_done.others i idle)
        (cases_lt i (length jobs));
    others = λ i beyond. ⊎_elim
        (λ (busy : i < length jobs). absurd (beyond (omega (arith, m.fetched.jobs_are.count, busy))))
        (λ (idle : length jobs ≤ i). m.fetched.raced.jobs_done.others i idle)
        (cases_lt i (length jobs));
  }

  pub is_mirrored : IsMirrored d workers committer journal repo
  is_mirrored = record {
    names = names_so;
    ids = λ id. (stored_reached id, reached_stored_too id);
    border = ap (λ (o : Outline). o.border) m.fetched.raced.kept.state.told ∙ replays_border opening journal refl no_lines;
    own = record { each = λ id o is. m.fetched.raced.kept.state.pinned.named id o (finmap.get-empty id_cmp id) is };
    sound = m.fetched.raced.kept.sound;
    hash = ap (λ (o : Outline). o.hash) m.fetched.raced.kept.state.told ∙ replay_hash opening journal;
    journal_is = subst (λ (l : List (List ℕ)). IsJournal workers l committer journal) names_are journal_so;
  }
