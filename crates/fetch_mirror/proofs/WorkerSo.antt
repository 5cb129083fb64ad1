-- What a worker that isn't refused did: what it took, and what it committed.
use Rattle.std.proofs.Common.{◌≡◌, ◌≢◌, ℕ, true, List, [], ◌∷◌, ◌++◌, map, Option, Some, None, Result, Ok, refl, sym, ap, ◌∙◌, subst, Contains}
use Rattle.std.specs.Prelude.{is_some, option_map, slice_get}
use Rattle.std.specs.FinMap as finmap
use Rattle.std.specs.FinSet as set
use Rattle.fetch_store.specs.Graph.{Node, node_of}
use Rattle.fetch_objects.specs.Objects.{Stored}
use Rattle.fetch_store.specs.Closed.{IsStored}
use Rattle.fetch_base.specs.declared.id.ObjectId.{ObjectId}
use Rattle.fetch_store.proofs.Graphs.{get-graph_of}
use Rattle.fetch_specs.specs.Specs.{Spec}
use Rattle.fetch_refs.specs.declared.log.Signature.{Signature}
use Rattle.fetch_refs.specs.declared.target.Target.TheVariants.{Object}
use Rattle.fetch_lines.specs.declared.lines.line.Line.{Line as WireLine}
use Rattle.fetch_map.specs.declared.mapping.Mapping.{Mapping}
use Rattle.fetch_map.specs.declared.mapping.RefMap.{RefMap}
use Rattle.fetch_update.specs.Outcomes.{outcome_of}
use Rattle.fetch_update.specs.Policy.{Policy, is_stored, value_of}
use Rattle.fetch_update.specs.declared.update.Outcome.{Outcome as Updates}
use Rattle.fetch_remote.specs.Form.{Given}
use Rattle.fetch_remote.specs.Repositories.{State}
use Rattle.fetch_remote.specs.Applying.{policy_in}
use Rattle.fetch_remote.specs.Stages.{Told, conversation, inquiry_in}
use Rattle.fetch_remote.specs.declared.fetching.fetch_error.FetchError.{FetchError}
use Rattle.fetch_remote.specs.declared.fetching.outcome.Outcome.{Outcome}
use Rattle.fetch_journal.specs.declared.entry.Entry.{Entry}
use Rattle.fetch_journal.specs.declared.entry.Entry.TheVariants.{Commit}
use Rattle.fetch_shared.specs.PackTaken.{take_entries}
use Rattle.fetch_shared.specs.Fetching.{Call, IsSharedFetch, matter_in}
use Rattle.fetch_journal.specs.Journals.{Begins, entries_of, pass_of}
use Rattle.fetch_journal.specs.Replays.{outline, replay}
use Rattle.fetch_shared.specs.Applying.{HasCommitted}
use Rattle.fetch_journal.specs.Shared.{SharedValue}
use Rattle.fetch_race.specs.Racing.{HasRaced}
use Rattle.fetch_serve.specs.Peers.{ServedPeer}
use Rattle.fetch_serve.specs.Replies.{replies_of}
use Rattle.fetch_serve.specs.Servable.{IsServable}
use Rattle.fetch_serve.specs.Served.{Data}
use Rattle.fetch_mirror.specs.Copying.{fresh}
use Rattle.fetch_mirror.specs.GoingAlong.{GoesAlong}
use Rattle.fetch_mirror.specs.Listings.{greeting_of}
use Rattle.fetch_mirror.specs.Limits.{worker_given}
use Rattle.fetch_mirror.specs.Mirroring.{worker_job}
use Rattle.fetch_mirror.specs.Opening.{empty_mirror}
use Rattle.fetch_mirror.specs.Shares.{AreOwnNames, as_itself}
use Rattle.fetch_mirror.proofs.OwnEntries.{judged_so}
use Rattle.fetch_mirror.proofs.OwnNames.{map_is}
use Rattle.fetch_mirror.proofs.Quiet.{IsOff}
use Rattle.fetch_mirror.proofs.WorkerHeld as held
use Rattle.fetch_mirror.proofs.WorkerHeld.{race_over}
use Rattle.fetch_mirror.proofs.WorkerTold.{AreBorn, HasTold, IsBornMapping, each_born, is_told, no_border, none_above, offered_to}

-- A worker did its share in a race with this journal, and wasn't refused.
pub record IsWorker (d : Data) (committer : Signature) (bound : ℕ) (share : List (List ℕ)) (number : ℕ) (journal : List Entry) : Type 0 where
  pub outcome : Outcome
  pub peer : ServedPeer
  pub raced : HasRaced (race_over d committer) journal number (worker_job bound (map as_itself share) (fresh d)) (Ok outcome) peer

module _ (d : Data) (committer : Signature) (bound : ℕ) (share : List (List ℕ)) (number : ℕ) (journal : List Entry) (w : IsWorker d committer bound share number journal) where
  abbrev h : HasRaced (race_over d committer) journal number (worker_job bound (map as_itself share) (fresh d)) (Ok w.outcome) w.peer
  h = w.raced

  abbrev call : Call
  call = held.call d committer bound share number journal (Ok w.outcome) w.peer h

  pub fetch : IsSharedFetch (held.line d committer bound share number journal (Ok w.outcome) w.peer h) call h.receipt w.outcome
  fetch = h.done.answered

  -- what the plan saw, and what was told
  abbrev pub planned : SharedValue
  planned = fetch.conversed.seen

  abbrev pub seen : State
  seen = planned.repository.state

  abbrev pub told : Told
  told = fetch.told

  abbrev pub updates : Updates
  updates = fetch.applied.updates

  -- what the verdicts saw
  abbrev judged : SharedValue
  judged = fetch.applied.by.taken.seen

  along_it : (sent : List WireLine) (answer : Result Told FetchError) → GoesAlong bound (replies_of d) [] (conversation (worker_given d committer bound share) seen) sent answer → answer ≡ Ok told
  along_it sent answer g = held.along_it d committer bound share number journal (Ok w.outcome) w.peer h fetch.count told fetch.conversed sent answer g

  -- ---- the entries

  taken_entries : entries_of h.before.number judged.journal ≡ take_entries h.before.number told.received
  taken_entries = held.taken_entries d committer bound share number journal (Ok w.outcome) w.peer h fetch.count told fetch.conversed fetch.judged fetch.applied.by.taken

  committed : HasCommitted h.before.number fetch.judged (entries_of h.before.number judged.journal) h.after.front (Commit h.before.number updates.edits call.given.setup.settings.committer) fetch.place
  committed = fetch.applied.commits

  committer_is : call.given.setup.settings.committer ≡ committer
  committer_is = ap (λ (g : Given). g.setup.settings.committer) (held.given_is d committer bound share number journal (Ok w.outcome) w.peer h)

  pub entries_are : entries_of number journal ≡ take_entries number told.received ++ Commit number updates.edits committer ∷ []
  entries_are =
      h.entries ∙ ap (λ (n : ℕ). entries_of n h.after.front) (sym h.fresh.number_is) ∙ committed.added
      ∙ ap (λ (l : List Entry). l ++ Commit h.before.number updates.edits call.given.setup.settings.committer ∷ []) taken_entries
      ∙ ap (λ (c : Signature). take_entries h.before.number told.received ++ Commit h.before.number updates.edits c ∷ []) committer_is
      ∙ ap (λ (n : ℕ). take_entries n told.received ++ Commit n updates.edits committer ∷ []) h.fresh.number_is

  -- ---- what the plan saw

  -- it is a front of the journal
  pub planned_begins : Begins planned.journal journal
  planned_begins = held.begins d committer bound share number journal (Ok w.outcome) w.peer h h.before.front fetch.count planned fetch.conversed.at

  pub planned_tells : outline planned.repository ≡ replay (outline (empty_mirror d.hash committer)) planned.journal
  planned_tells = held.tells d committer bound share number journal (Ok w.outcome) w.peer h h.before.front fetch.count planned fetch.conversed.at

  -- a name that no other worker's entry is on wasn't there when the verdicts saw the references
  pub judged_absent : (name : List ℕ) → ((k : ℕ) (e : Entry) → slice_get journal k ≡ Some e → pass_of e ≢ number → IsOff name e) → finmap.get judged.repository.state.refs.names name ≡ None
  judged_absent name others = held.absent_then d committer bound share number journal (Ok w.outcome) w.peer h fetch.count told fetch.conversed fetch.judged fetch.applied.by.taken name others

  -- what the verdicts went by
  abbrev pub policy : Policy
  policy = policy_in judged.repository.state (matter_in call.given seen told).options fetch.applied.by.trees

  -- ---- where all of it is the server's

  module _ (servable : IsServable d) (owned : AreOwnNames share) (born : AreBorn d share) (first : List ℕ) (some : slice_get share 0 ≡ Some first) (border : seen.border ≡ set.empty) where
    pub has_told : HasTold d committer bound share seen [] told
    has_told =
        subst (λ (b : List ObjectId). HasTold d committer bound share seen b told) (no_border seen border)
        (is_told d servable committer bound share owned born first some seen (none_above d.hash seen border) told along_it)

    -- what is mapped
    abbrev mappings : List Mapping
    mappings = told.listed.ref_map.mappings

    pub born_each : (y : Mapping) → Contains mappings y → IsBornMapping d share y
    born_each y among = each_born d servable committer bound share owned born first some told.listed has_told.maps y among

    specs_are : told.listed.ref_map.refspecs ≡ map as_itself share
    specs_are = sym (ap (λ (m : RefMap). m.refspecs) (map_is (inquiry_in (worker_given d committer bound share)) (greeting_of d.hash) (offered_to d committer bound share) told.listed has_told.maps))

    pub verdicts : outcome_of policy (map as_itself share) told.listed.ref_map.extra_refspecs mappings ≡ Ok updates
    verdicts = subst (λ (specs : List Spec). outcome_of policy specs told.listed.ref_map.extra_refspecs mappings ≡ Ok updates) specs_are (judged_so policy told.listed.ref_map updates fetch.applied.by.verdicts)

    -- each id that is mapped is held
    pub held_each : (y : Mapping) (id : ObjectId) → Contains mappings y → value_of y.remote ≡ Object id → is_stored policy.graph id ≡ true
    held_each y id among value =
        let b = born_each y among in
        let same : b.id ≡ id = (let both : Object b.id ≡ Object id = sym b.value ∙ value in cc) in
        let map_same : w.outcome.ref_map ≡ told.listed.ref_map = ap (λ (o : Outcome). o.ref_map) fetch.applied.outcome_is in
        let there : IsStored judged.repository.state.objects id =
        (fetch.tells.held refl).each y id (subst (λ (m : RefMap). Contains m.mappings y) (sym map_same) among) refl (b.source ∙ ap (λ (i : ObjectId). Some i) same) in
        ap (λ (o : Option Node). is_some o) (get-graph_of judged.repository.state.objects id) ∙ by (finmap.get judged.repository.state.objects id) there
      where
        by : (o : Option Stored) → is_some o ≡ true → is_some (option_map node_of o) ≡ true
        by None none = absurd cc
        by (Some o) none = refl
