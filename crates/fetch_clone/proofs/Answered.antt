-- What each step of a clone's fetch makes of the calls before it.
use Rattle.std.proofs.Common.{◌≡◌, ℕ, Bool, true, false, List, [], ◌∷◌, Option, Some, None, Result, Ok, Err, refl, inl, inr}
use Rattle.std.specs.Prelude.{IfErr, IfOk, OnOk}
use Rattle.fetch_base.specs.Faults.{Faults, Rose}
use Rattle.fetch_files.specs.Trees.{Tree}
use Rattle.fetch_lookup.specs.declared.direction.Direction.TheVariants.{Fetch}
use Rattle.fetch_update.specs.declared.worktrees.Worktree.{Worktree}
use Rattle.fetch_lines.specs.Talks.{Talk}
use Rattle.fetch_map.specs.declared.mapping.RefMap.{RefMap}
use Rattle.fetch_conversation.specs.declared.ref_map.Error.{Error as MapError}
use Rattle.fetch_conversation.specs.declared.ref_map.Error.TheVariants as ref_map
use Rattle.fetch_remote.specs.Connecting.{IsMissing, Makes, MakesAtFirst, TakesBack}
use Rattle.fetch_remote.specs.Remotes.{RemoteValue}
use Rattle.fetch_remote.specs.RepositoryValues.{RepositoryValue}
use Rattle.fetch_remote.specs.declared.connect.Error.{Error as ConnectError}
use Rattle.fetch_remote.specs.declared.connect.Error.TheVariants as connect
use Rattle.fetch_remote.specs.declared.fetching.outcome.Outcome.{Outcome}
use Rattle.fetch_remote.specs.declared.fetching.prepared.Prepared.{Prepared}
use Rattle.fetch_clone.specs.Counted.{Meters, IsCounted}
use Rattle.fetch_clone.specs.Heeded.{IsHeededOver}
use Rattle.fetch_clone.specs.Reached.{Ways, Line, IsTurnedAway, IsUnreached, line, turned_away}
use Rattle.fetch_init.specs.Refusals.{connecting, listing}
use Rattle.fetch_clone.specs.Received.{IsNotTaken, IsOfReceiving, IsReceived, IsTaken, IsUnreceived}
use Rattle.fetch_clone.specs.declared.choices.CloneTarget.{CloneTarget}
use Rattle.fetch_init.specs.declared.clone.fetch.Error.{Error}
use Rattle.fetch_init.specs.declared.clone.fetch.Error.TheVariants as errors
use Rattle.fetch_clone.specs.declared.clone_state.CloneState.{CloneState}
use Rattle.fetch_clone.specs.declared.prepare_fetch.ConfigureFault.{ConfigureFault}
use Rattle.fetch_clone.specs.declared.prepare_fetch.ConfigureFault.TheVariants as faults
use Rattle.fetch_clone.proofs.StepsCounted.{received-recounted}

-- ---- peers

-- No peer was made.
pub none-made : {P E : Type 0} (before after : Option (List P)) (e : E) → Makes before after (Err e) → after ≡ before
none-made None after e made = made
none-made (Some []) after e made = made
none-made (Some (first ∷ left)) after e made = made

pub none-at : (P : Type 0) {E : Type 0} (url : Option (List ℕ)) (before after : Option (List (List ℕ))) (e : E) → MakesAtFirst {P = P} url before after (Err e) → after ≡ before
none-at P None before after e made = made
none-at P (Some url) None after e made = made
none-at P (Some url) (Some addresses) after e made = made

-- the same peers and addresses
pub same-line : {G P : Type 0} (left left_after taken taken_after : Option (List P)) (addresses addresses_after : Option (List (List ℕ))) (closure : G) → left_after ≡ left → taken_after ≡ taken → addresses_after ≡ addresses
    → line left_after taken_after addresses_after closure ≡ line left taken addresses closure
same-line left left_after taken taken_after addresses addresses_after closure p q r = rw (p, q, r) refl

pub unreached : (P : Type 0) (refused : ConfigureFault → Type 0) (unmade : Type 0) (was is : Faults) (url : Option (List ℕ)) (e : ConnectError) → unmade → IsMissing {P = P} url Fetch (Err e) → (e ≡ connect.Connect → Rose was is) → IsUnreached refused unmade was is url (connecting e)
unreached P refused unmade was is None (connect.MissingUrl d) none missing rose = (refl, (let h : connect.MissingUrl d ≡ connect.MissingUrl Fetch = missing in cc), none)
unreached P refused unmade was is None connect.Connect none missing rose = (rose refl, none)
unreached P refused unmade was is None connect.NoMemory none missing rose = inl none
unreached P refused unmade was is (Some url) (connect.MissingUrl d) none missing rose = absurd missing
unreached P refused unmade was is (Some url) connect.Connect none missing rose = (rose refl, none)
unreached P refused unmade was is (Some url) connect.NoMemory none missing rose = inl none

pub turned : {G P : Type 0} (w : Ways G P) (unmade : Type 0) (was is : Faults) (before after : Line G P) (url : Option (List ℕ)) (made peer : P) (fault : ConfigureFault) → Makes {E = ConnectError} before.left after.left (Ok made)
    → MakesAtFirst {E = ConnectError} url before.addresses after.addresses (Ok made) → w.calls before.closure made (Err fault) after.closure peer → TakesBack before.taken after.taken peer → IsUnreached (IsTurnedAway w url before after) unmade was is url (turned_away fault)
turned w unmade was is before after url made peer (faults.Refused text) next at refused given = record { made = made; next = next; at = at; peer = peer; refused = refused; given = given }
turned w unmade was is before after url made peer faults.NoMemory next at refused given = inr (record { made = made; next = next; at = at; peer = peer; refused = refused; given = given })

-- ---- a refusal that is told

pub is-listing : (e cause : MapError) → listing e ≡ errors.RefMap cause → e ≡ cause
is-listing (ref_map.Handshake x) cause h = cc
is-listing ref_map.Transport cause h = cc
is-listing ref_map.Interrupted cause h = cc
is-listing (ref_map.InitRefMap x) cause h = cc
is-listing ref_map.NoMemory cause h = absurd cc

-- ---- what is taken

module _ {P : Type 0} (told : P → Option Talk) (answers : Bool) (before after : Option (List P)) (known : Option (List Worktree)) (may_fail : Bool) (files files_left : Option Tree) (draft : CloneState) (remote : RemoteValue) (prepared : Prepared) (found repo : RepositoryValue) (last : P) (H : Option Talk → Type 0)
    (returned : TakesBack before after last) where
  pub is-taken : (will will' : ℕ → Type 0) (now : Option Talk) (r : Result Outcome Error) → OnOk r (IsHeededOver will will' now (told last))
      → IfOk r (λ outcome. (begun : Option Talk) → H begun → IsReceived answers begun (told last) known files files_left draft remote prepared found repo outcome)
      → IfOk r (λ outcome. (begun : Option Talk) → H begun → (t : IsTaken told answers begun before after known files files_left draft remote prepared found repo outcome) × IsHeededOver will will' now (told t.last))
  is-taken will will' now (Ok x) heeded received = λ begun h. (record { last = last; received = received begun h; returned = returned }, heeded)
  is-taken will will' now (Err e) heeded received = tt

  pub not-taken : (r : Result Outcome Error)
      → IfErr r (λ e. (begun : Option Talk) → H begun → IsUnreceived answers begun (told last) known may_fail files files_left draft remote prepared found repo e)
      → IfErr r (λ e. (begun : Option Talk) → H begun → IsNotTaken told answers begun before after known may_fail files files_left draft remote prepared found repo e)
  not-taken (Ok x) refused = tt
  not-taken (Err e) refused = λ begun h. record { last = last; why = refused begun h; returned = returned }

-- The refusals that have a count come only where it rose, once the peer is taken back.
pub taken-counted : (was is here left : Meters) (wanted : CloneTarget) (map : RefMap) (r : Result Outcome Error) → IfErr r (IsOfReceiving wanted map) → (Rose here.lost left.lost → Rose was.lost is.lost) → (Rose here.yes left.yes → Rose was.yes is.yes) → (Rose here.files left.files → Rose was.files is.files)
    → (Rose here.trees.listing left.trees.listing → Rose was.trees.listing is.trees.listing) → (Rose here.trees.open_repo left.trees.open_repo → Rose was.trees.open_repo is.trees.open_repo) → (Rose here.trees.follow_symref left.trees.follow_symref → Rose was.trees.follow_symref is.trees.follow_symref)
    → IfErr r (IsCounted here left) → IfErr r (IsCounted was is)
taken-counted was is here left wanted map (Ok x) kind lost said files listed opened followed h = tt
taken-counted was is here left wanted map (Err e) kind lost said files listed opened followed h = received-recounted was is here left wanted map e kind lost said files listed opened followed h
