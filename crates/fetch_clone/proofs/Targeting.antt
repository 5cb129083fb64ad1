-- What a first connection lists, and what it aims at.
use Rattle.std.proofs.Common.{◌≡◌, ℕ, Bool, true, false, List, Option, Some, None, Result, Ok, Err, refl, sym, subst, inr}
use Rattle.std.specs.Prelude.{IfErr, IfOk}
use Rattle.fetch_base.specs.Faults.{Faults}
use Rattle.fetch_conversation.specs.ListStage.{ListedValue}
use Rattle.fetch_conversation.specs.declared.ref_map.Error.{Error as MapError}
use Rattle.fetch_conversation.specs.declared.ref_map.Options.{Options}
use Rattle.fetch_remote.specs.Connecting.{TakesBack}
use Rattle.fetch_remote.specs.Remotes.{RemoteValue}
use Rattle.fetch_remote.specs.RepositoryValues.{RepositoryValue}
use Rattle.fetch_remote.specs.Stages.{inquiry_of}
use Rattle.fetch_remote.specs.Steps.{HasInquired, IsUninquired}
use Rattle.fetch_init.specs.HeadUpdates.{head_target_of}
use Rattle.fetch_clone.specs.Heeded.{IsHeededOver, SaysNo}
use Rattle.fetch_clone.specs.Reached.{Ways, Line, IsReached}
use Rattle.fetch_clone.specs.Stages.{lists_first, ref_name_of}
use Rattle.fetch_clone.specs.Targets.{IsHeadTarget, AreFirstOptions, HasListedFirst, HasNoTarget, HasTarget, HasTargetBy, HeedsBy, HeedsFirst, HasHeadTarget, IsAsked, IsHeadTargetRefusedBy, IsUnlisted, IsUntargeted, bare}
use Rattle.fetch_init.specs.declared.clone.fetch.Error.{Error}
use Rattle.fetch_clone.specs.declared.clone_state.CloneState.{CloneState}
use Rattle.fetch_clone.proofs.Heeded.{heeded-ahead}

module _ {G P : Type 0} (w : Ways G P) (was is : Faults) (before between after : Line G P) (draft : CloneState) (repo : RepositoryValue) (remote : RemoteValue) (options : Options) (peer last : P)
    (a : AreFirstOptions draft.choices options)
    (is_bare : remote ≡ bare draft.url)
    (reached : IsReached w (Some draft.url) before between peer)
    (given : TakesBack between.taken after.taken last)
    (left : after.left ≡ between.left)
    (addresses : after.addresses ≡ between.addresses)
    (closure : after.closure ≡ between.closure) where
  abbrev asked : IsAsked w before after draft.url draft.choices
  asked = record { spec = a.0; says = a.1; between = between; peer = peer; reached = reached; last = last; returned = record { given = given; same_left = left; same_addresses = addresses; same_closure = closure } }

  abbrev listed-first : (l : ListedValue) → HasInquired w.answers (w.told peer) (w.told last) (inquiry_of remote repo.setup.settings options) l → HasListedFirst w before after draft repo.setup l
  listed-first l h =
      record {
        asked = asked;
        heard = subst (λ (o : Options). HasInquired w.answers (w.told peer) (w.told last) (inquiry_of (bare draft.url) repo.setup.settings o) l) a.2 (subst (λ (r : RemoteValue). HasInquired w.answers (w.told peer) (w.told last) (inquiry_of r repo.setup.settings options) l) is_bare h);
      }

  pub find_head_target-at : (l : ListedValue) → HasInquired w.answers (w.told peer) (w.told last) (inquiry_of remote repo.setup.settings options) l → (will will' : ℕ → Type 0) → IsHeededOver will will' (w.told peer) (w.told last) → (r : Result (Option (List ℕ)) Error)
      → IfOk r (IsHeadTarget (head_target_of repo.state l.ref_map (ref_name_of draft.choices.wanted) None))
      → IfOk r (λ target. (t : HasHeadTarget w before after draft repo target) × IsHeededOver will will' (w.told t.heard.asked.peer) (w.told t.heard.asked.last))
  find_head_target-at l h will will' heeded (Ok target) head_target_is = (record { listed = l; heard = listed-first l h; head_target = head_target_is.0; head_target_is = head_target_is.1; tells = head_target_is.2 }, heeded)
  find_head_target-at l h will will' heeded (Err e) head_target_is = tt

  pub not-find_head_target-at : (l : ListedValue) → HasInquired w.answers (w.told peer) (w.told last) (inquiry_of remote repo.setup.settings options) l → (r : Result (Option (List ℕ)) Error)
      → IfErr r (IsHeadTargetRefusedBy repo.state l.ref_map (ref_name_of draft.choices.wanted)) → IfErr r (IsUntargeted w was is before after draft repo)
  not-find_head_target-at l h (Ok target) why = tt
  not-find_head_target-at l h (Err e) why = inr (inr (record { listed = l; heard = listed-first l h; why = why }))

  pub unlisted : (e : MapError) → IsUninquired w.answers (w.told peer) (w.told last) (inquiry_of remote repo.setup.settings options) e → IsUnlisted w before after draft repo.setup e
  unlisted e h =
      record {
        asked = asked;
        broke = subst (λ (o : Options). IsUninquired w.answers (w.told peer) (w.told last) (inquiry_of (bare draft.url) repo.setup.settings o) e) a.2 (subst (λ (r : RemoteValue). IsUninquired w.answers (w.told peer) (w.told last) (inquiry_of r repo.setup.settings options) e) is_bare h);
      }

-- ---- whether a first connection is made

-- The first connection told a target.
pub told-first : {G P : Type 0} (will will' : ℕ → Type 0) (w : Ways G P) (before after : Line G P) (draft : CloneState) (repo : RepositoryValue) (r : Result (Option (List ℕ)) Error) → lists_first draft.choices ≡ true
    → IfOk r (λ target. (t : HasHeadTarget w before after draft repo target) × IsHeededOver will will' (w.told t.heard.asked.peer) (w.told t.heard.asked.last))
    → IfOk r (λ target. (t : HasTarget w before after draft repo target) × HeedsFirst will will' t)
told-first will will' w before after draft repo (Ok target) e h =
    let p = subst (λ (b : Bool). (t : HasTargetBy b w before after draft repo target) × HeedsBy will will' b w before after draft repo target t) (sym e) h in
    (record { by = p.0 }, record { heeds = p.1 })
told-first will will' w before after draft repo (Err x) e h = tt

-- The first connection was made, and told none.
pub untold-first : {G P : Type 0} (w : Ways G P) (was is : Faults) (before after : Line G P) (draft : CloneState) (repo : RepositoryValue) (r : Result (Option (List ℕ)) Error) → lists_first draft.choices ≡ true → IfErr r (IsUntargeted w was is before after draft repo)
    → IfErr r (HasNoTarget w was is before after draft repo)
untold-first w was is before after draft repo (Ok target) e h = tt
untold-first w was is before after draft repo (Err x) e h = record { first = e; why = h }

-- No first connection is made.
pub unasked : {G P : Type 0} (will : ℕ → Type 0) (w : Ways G P) (line : Line G P) (draft : CloneState) (repo : RepositoryValue) → lists_first draft.choices ≡ false → (t : HasTarget w line line draft repo None) × HeedsFirst will will t
unasked will w line draft repo e =
    let p = subst (λ (b : Bool). (t : HasTargetBy b w line line draft repo None) × HeedsBy will will b w line line draft repo None t) (sym e) ((refl, refl), tt) in
    (record { by = p.0 }, record { heeds = p.1 })

-- What is asked later changes nothing of it.
pub heeds-ahead : {G P : Type 0} (will will' will'' : ℕ → Type 0) (first : Bool) (w : Ways G P) (before after : Line G P) (draft : CloneState) (repo : RepositoryValue) (target : Option (List ℕ)) (t : HasTargetBy first w before after draft repo target) → SaysNo will' will''
    → HeedsBy will will' first w before after draft repo target t → HeedsBy will will'' first w before after draft repo target t
heeds-ahead will will' will'' false w before after draft repo target t says h = tt
heeds-ahead will will' will'' true w before after draft repo target t says h = heeded-ahead will will' will'' (w.told t.heard.asked.peer) (w.told t.heard.asked.last) h says
