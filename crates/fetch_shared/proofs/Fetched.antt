-- A fetch over a shared repository, from its stages.
use Rattle.std.proofs.Common.{◌≡◌, ℕ, Bool, false, List, [], ◌++◌, Option, None, Some, Ok, refl, sym, ap, ◌∙◌, subst, inl, inr}
use Rattle.std.proofs.lemmas.List.{append-nil}
use Rattle.fetch_store.specs.Graph.{graph_of}
use Rattle.fetch_update.specs.Outcomes.{outcome_of}
use Rattle.fetch_update.proofs.Wholes.{one_each, accepts_exactly, guesses_exactly, rejects_exactly, edits_carry_out, edits_say, tells_type_changes}
use Rattle.fetch_lines.specs.Talks.{Talk, Talks-then, Talks-none}
use Rattle.fetch_lines.specs.Written.{lines_text}
use Rattle.fetch_conversation.specs.Conversation.{sent_in, Concludes}
use Rattle.fetch_conversation.specs.Errors.{is_free_receiving}
use Rattle.fetch_conversation.specs.ListStage.{ListedValue, shown, pending_of}
use Rattle.fetch_conversation.proofs.Tied.{awaited_first}
use Rattle.fetch_conversation.specs.declared.fetch.Error.{Error as ReceiveError}
use Rattle.fetch_conversation.specs.declared.fetch.Error.TheVariants as receive
use Rattle.fetch_conversation.specs.declared.prepare.Error.{Error as PrepareError}
use Rattle.fetch_conversation.specs.declared.prepare.Error.TheVariants as prepare
use Rattle.fetch_remote.specs.Errors.{preparing, receiving}
use Rattle.fetch_remote.specs.Fetched.{HasRead}
use Rattle.fetch_remote.specs.Fetching.{apply_options_in, requests_in}
use Rattle.fetch_remote.specs.Form.{Given}
use Rattle.fetch_remote.specs.Keeping.{AreFiles, left_tree}
use Rattle.fetch_remote.specs.Repositories.{State}
use Rattle.fetch_remote.specs.Applying.{to_take, policy_in, outcome_in}
use Rattle.fetch_remote.specs.Stages.{Told, bound_of, terms_in, listing_stage, conversation}
use Rattle.fetch_remote.specs.Conversed.{BreaksListing, BreaksReceiving}
use Rattle.fetch_remote.specs.declared.fetching.fetch_error.FetchError.{FetchError}
use Rattle.fetch_remote.specs.declared.fetching.fetch_error.FetchError.TheVariants as fetch
use Rattle.fetch_remote.specs.declared.fetching.outcome.Outcome.{Outcome}
use Rattle.fetch_remote.proofs.Broken.{front_listing, front_receiving, Later}
use Rattle.fetch_remote.proofs.Fetched.{has_heard, has_read, in_form}
use Rattle.fetch_remote.proofs.Keeping.{keep_is}
use Rattle.fetch_remote.proofs.Negotiated.{are_held}
use Rattle.fetch_remote.proofs.Received.{is_received}
use Rattle.fetch_remote.proofs.Applied.{judged_is}
use Rattle.fetch_remote.proofs.Spoken.{said_in, told_spoken, needed_listing, needed_receiving}
use Rattle.fetch_remote.proofs.Unjudged.{IsOther, receives_no_other}
use Rattle.fetch_journal.specs.declared.error.SharedError.{SharedError}
use Rattle.fetch_journal.specs.declared.error.SharedError.TheVariants as errors
use Rattle.fetch_shared.specs.declared.receipt.Receipt.{Receipt}
use Rattle.fetch_shared.specs.declared.exchange.Exchange.{Exchange}
use Rattle.fetch_journal.specs.Errors.{fetching, keep_fault, tree_fault}
use Rattle.fetch_shared.specs.Fetching.{Call, own, course_in, matter_in, receipt_of, HasConversed, IsTold, IsSharedFetch, IsStopped, HasSpoken, IsSharedRefused}
use Rattle.fetch_journal.specs.Journals.{entries_of}
use Rattle.fetch_shared.specs.Passes.{Holder, IsBack}
use Rattle.fetch_shared.specs.Seen.{IsStateAt}
use Rattle.fetch_shared.specs.Applying.{Matter, Course, course_of, IsApplied, IsUnapplied}
use Rattle.fetch_journal.specs.Shared.{SharedValue}
use Rattle.fetch_shared.specs.Conversed.{Line, HasConversedOver, HasBroken}
use Rattle.fetch_shared.proofs.Holds.{received_none, stored_on, holds_mapped}
use Rattle.fetch_shared.proofs.Saw.{state_later}
use Rattle.fetch_shared.proofs.Owned.{keep_unless, trees_unless}
use Rattle.fetch_shared.proofs.Told.{listing_isnt, receiving_was, memory_never}

-- ---- what the peer heard when memory ran out

spoken_listing : (line : Line) (g : Given) (s : State) (e : FetchError) → BreaksListing line.answers line.old line.new g e → HasSpoken line g s
spoken_listing line g s e h = record {
  said = h.broke.said;
  heard = h.broke.heard;
  passed = h.broke.passed;
  front = rw (in_form g s h.broke.said) (front_listing g s h.broke.said h.broke.heard h.broke.front);
  needed = needed_listing g s line.old line.new h.broke.needed;
}

spoken_planning : (line : Line) (g : Given) (s : State) (l : ListedValue) (behind : List ℕ) → Concludes line.answers (bound_of g) line.old line.new [] (listing_stage g) l behind → HasSpoken line g s
spoken_planning line g s l behind h =
    let all : lines_text (sent_in (bound_of g) (listing_stage g) h.said) ≡ h.heard = rw append-nil at (h.asked []) in
    record {
      said = h.said;
      heard = h.heard;
      passed = h.passed;
      front = rw (in_form g s h.said) (front_listing g s h.said h.heard ([], all ∙ sym (append-nil h.heard)));
      needed = needed_listing g s line.old line.new h.needed;
    }

spoken_receiving : (line : Line) (g : Given) (s : State) (e : FetchError) → BreaksReceiving line.answers line.old line.new g s e → HasSpoken line g s
spoken_receiving line g s e h =
    let said = h.list.said ++ h.broke.said in
    let behind = h.behind ++ h.broke.said in
    let later : Later g s h.listed said behind h.list.heard h.broke.heard = record { asked = h.list.asked h.broke.said; answered = h.list.answered h.broke.said; front = h.broke.front } in
    record {
      said = said;
      heard = h.list.heard ++ h.broke.heard;
      passed = Talks-then line.answers line.old h.between line.new h.list.heard h.list.said h.broke.heard h.broke.said h.list.passed h.broke.passed;
      front = rw (in_form g s said) (front_receiving g s h.listed said behind h.list.heard h.broke.heard later);
      needed = needed_receiving line.answers g s line.old h.between line.new h.listed h.behind h.list h.broke.needed;
    }

-- nothing was said
pub silent : (answers : Bool) (now : Option Talk) (g : Given) (s : State) → HasSpoken (record { answers = answers; old = now; new = now }) g s
silent answers now g s = record { said = []; heard = []; passed = Talks-none answers now; front = (lines_text (requests_in g s []), refl); needed = awaited_first (bound_of g) now [] (conversation g s) }

-- ---- the conversation broke off

module _ (line : Line) (c : Call) (still : c.left ≡ c.files) (none : entries_of c.before.number c.after.front ≡ own c) where
  unlisted : (cause : PrepareError) → BreaksListing line.answers line.old line.new c.given (preparing cause) → IsSharedRefused line c (receipt_of c.before None None None) (fetching (preparing cause))
  unlisted prepare.MissingRefSpecs h = record { receipt_is = refl; none = none; files_same = still; broke = h }
  unlisted (prepare.RefMap e) h = record { receipt_is = refl; none = none; files_same = still; broke = h }
  unlisted prepare.NoMemory h = inl (record { planned = None; receipt_is = refl; none = none; files_same = still; spoke = λ s. spoken_listing line c.given s fetch.NoMemory h })

  unanswered : (count : ℕ) (seen : SharedValue) → IsStateAt c.before.shared.opening c.before.front c.after.front count seen → (cause : ReceiveError) → (h : BreaksReceiving line.answers line.old line.new c.given seen.repository.state (receiving cause)) → h.cause ≡ cause
      → IsSharedRefused line c (receipt_of c.before (Some count) None None) (fetching (receiving cause))
  unanswered count seen at (receive.NoMapping specs n) h is = record { count = count; receipt_is = refl; none = none; files_same = still; seen = seen; at = at; broke = h }
  unanswered count seen at (receive.IncompatibleObjectHash local remote) h is = record { count = count; receipt_is = refl; none = none; files_same = still; seen = seen; at = at; broke = h }
  unanswered count seen at (receive.Disconnected link) h is =
      absurd (receives_no_other line.answers line.old line.new c.given seen.repository.state (receiving (receive.Disconnected link)) h (receive.Disconnected link) (λ x. x) refl (ap receiving is))
  unanswered count seen at (receive.RejectShallowRemoteConfig value) h is = record { count = count; receipt_is = refl; none = none; files_same = still; seen = seen; at = at; broke = h }
  unanswered count seen at (receive.NegotiationAlgorithmConfig value) h is = record { count = count; receipt_is = refl; none = none; files_same = still; seen = seen; at = at; broke = h }
  unanswered count seen at (receive.PackThreads value) h is = record { count = count; receipt_is = refl; none = none; files_same = still; seen = seen; at = at; broke = h }
  unanswered count seen at (receive.Fetch e) h is = record { count = count; receipt_is = refl; none = none; files_same = still; seen = seen; at = at; broke = h }
  unanswered count seen at receive.Client h is = record { count = count; receipt_is = refl; none = none; files_same = still; seen = seen; at = at; broke = h }
  unanswered count seen at receive.Interrupted h is = record { count = count; receipt_is = refl; none = none; files_same = still; seen = seen; at = at; broke = h }
  unanswered count seen at (receive.RejectShallowRemote id) h is = record { count = count; receipt_is = refl; none = none; files_same = still; seen = seen; at = at; broke = h }
  unanswered count seen at (receive.Pack e) h is = record { count = count; receipt_is = refl; none = none; files_same = still; seen = seen; at = at; broke = h }
  unanswered count seen at (receive.Collision id) h is = record { count = count; receipt_is = refl; none = none; files_same = still; seen = seen; at = at; broke = h }
  unanswered count seen at (receive.KeepFile path) h is =
      absurd (receives_no_other line.answers line.old line.new c.given seen.repository.state (receiving (receive.KeepFile path)) h (receive.KeepFile path) (λ x. x) refl (ap receiving is))
  unanswered count seen at (receive.UpdateRefs e) h is =
      absurd (receives_no_other line.answers line.old line.new c.given seen.repository.state (receiving (receive.UpdateRefs e)) h (receive.UpdateRefs e) (λ x. x) refl (ap receiving is))
  unanswered count seen at (receive.RemovePackKeepFile path) h is =
      absurd (receives_no_other line.answers line.old line.new c.given seen.repository.state (receiving (receive.RemovePackKeepFile path)) h (receive.RemovePackKeepFile path) (λ x. x) refl (ap receiving is))
  unanswered count seen at receive.NoMemory h is =
      inl (record { planned = Some count; receipt_is = refl; none = none; files_same = still; spoke = (seen, at, spoken_receiving line c.given seen.repository.state (receiving receive.NoMemory) h) })

  abbrev Refused : Option ℕ → SharedError → Type 0
  Refused planned e = IsSharedRefused line c (receipt_of c.before planned None None) e

  pub broken : (planned : Option ℕ) (e : SharedError) → HasBroken line c.given c.before c.after planned e → Refused planned e
  broken planned e (inl h) =
      let cause = h.broke.cause in
      let is : e ≡ fetching (preparing cause) = h.told ∙ ap fetching h.broke.told in
      subst (λ (x : Option ℕ × SharedError). Refused x.0 x.1) (λ i. (sym h.unplanned i, sym is i))
      (unlisted cause (subst (λ (x : FetchError). BreaksListing line.answers line.old line.new c.given x) h.broke.told h.broke))
  broken planned e (inr (inl h)) =
      subst (λ (x : Option ℕ × SharedError). Refused x.0 x.1) (λ i. (sym h.unplanned i, sym h.memory i))
      (inl (record { planned = None; receipt_is = refl; none = none; files_same = still; spoke = λ s. spoken_planning line c.given s h.listed h.behind h.list }))
  broken planned e (inr (inr h)) =
      let cause = h.broke.cause in
      let is : e ≡ fetching (receiving cause) = h.told ∙ ap fetching h.broke.told in
      let b : BreaksReceiving line.answers line.old line.new c.given h.seen.repository.state (receiving cause) = record { between = h.broke.between; behind = h.broke.behind; listed = h.broke.listed; list = h.broke.list; cause = cause; told = refl; broke = h.broke.broke } in
      subst (λ (x : Option ℕ × SharedError). Refused x.0 x.1) (λ i. (sym h.planned_is i, sym is i)) (unanswered h.count h.seen h.at cause b refl)

-- it breaks off by no refusal of what stands behind it
pub broken_other : (line : Line) (g : Given) (before after : Holder) (planned : Option ℕ) (e : SharedError) → HasBroken line g before after planned e → (x : ReceiveError) → (IsOther x → ⊥) → is_free_receiving x ≡ false → e ≡ errors.Fetch (fetch.Receive x) → ⊥
broken_other line g before after planned e (inl h) x apart sure is = listing_isnt h.broke.cause x e (h.told ∙ ap fetching h.broke.told) is
broken_other line g before after planned e (inr (inl h)) x apart sure is = memory_never e (fetch.Receive x) h.memory is
broken_other line g before after planned e (inr (inr h)) x apart sure is =
    receives_no_other line.answers line.old line.new g h.seen.repository.state h.cause h.broke x apart sure (receiving_was h.broke.cause x e (h.told ∙ ap fetching h.broke.told) is)

-- nor a fault of the files or of the work trees
pub broken_keep : (line : Line) (g : Given) (before after : Holder) (planned : Option ℕ) (e : SharedError) → HasBroken line g before after planned e → keep_fault e ≡ None
broken_keep line g before after planned e h =
    keep_unless e (λ path is. broken_other line g before after planned e h (receive.KeepFile path) (λ x. x) refl is) (λ path is. broken_other line g before after planned e h (receive.RemovePackKeepFile path) (λ x. x) refl is)

pub broken_trees : (line : Line) (g : Given) (before after : Holder) (planned : Option ℕ) (e : SharedError) → HasBroken line g before after planned e → tree_fault e ≡ None
broken_trees line g before after planned e h = trees_unless e (λ cause is. broken_other line g before after planned e h (receive.UpdateRefs cause) (λ x. x) refl is)

-- memory ran out before anything was said
pub ran_out : (line : Line) (c : Call) → line.new ≡ line.old → c.left ≡ c.files → c.after ≡ c.before → ((s : State) → HasSpoken line c.given s) → IsSharedRefused line c (receipt_of c.before None None None) errors.NoMemory
ran_out line c silent still same spoke = inl (record {
  planned = None;
  receipt_is = refl;
  none = ap (λ (h : Holder). entries_of c.before.number h.front) same;
  files_same = still;
  spoke = spoke;
})

-- ---- behind the conversation

module _ (line : Line) (c : Call) (mid : Holder) (count : ℕ) (t : Exchange) (h : HasConversedOver line c.given c.before mid count t)
    (back : IsBack c.before mid) (none : entries_of c.before.number mid.front ≡ own c) (later : IsBack mid c.after) where
  abbrev told : Told
  told = record { listed = shown t.listed; received = t.received }

  abbrev state : State
  state = h.seen.repository.state

  conversed : HasConversed line c count told
  conversed =
      let k = told_spoken line.answers line.old line.new c.given state (shown t.listed) t.received (pending_of t.listed) h.told in record {
        seen = h.seen;
        at = state_later c.before.shared.opening c.before.front mid.front c.after.front count h.seen later.begins h.at;
        said = said_in line.answers line.old line.new c.given state (shown t.listed) t.received (pending_of t.listed) h.told;
        heard = has_heard line.answers line.old line.new c.given state (shown t.listed) t.received (pending_of t.listed) h.told;
        ended = record { rest = pending_of t.listed; answered = k.answered };
      }

  courses : course_of mid c.after c.known c.files c.left ≡ course_in c h.seen.journal
  courses = λ i. record {
    opening = (back.shared i).opening;
    number = back.number i;
    own = (ap (λ (n : ℕ). entries_of n mid.front) back.number ∙ none) i;
    planned = h.front i;
    front = c.after.front;
    known = c.known;
    files = c.files;
    left = c.left;
  }

  matters : (m : Matter) → m.setup ≡ c.given.setup → m.options ≡ apply_options_in c.given → m.wants ≡ t.wants → m.told ≡ told → m ≡ matter_in c.given state told
  matters m setup options wants is = λ i. record { setup = setup i; options = options i; wants = (wants ∙ h.wants) i; told = is i }

  as_refused : (receipt : Receipt) (e : SharedError) → IsStopped line c receipt e → IsSharedRefused line c receipt e
  as_refused receipt (errors.NotClosed link) s = absurd s.unapplied
  as_refused receipt (errors.Disconnected link) s = s
  as_refused receipt (errors.Collision id) s = s
  as_refused receipt (errors.EditReferences name found) s = s
  as_refused receipt (errors.Delete cause) s = absurd s.unapplied
  as_refused receipt errors.NoMemory s = inr s
  as_refused receipt (errors.Fetch (fetch.Prepare cause)) s = absurd s.unapplied
  as_refused receipt (errors.Fetch fetch.NoMemory) s = absurd s.unapplied
  as_refused receipt (errors.Fetch (fetch.Receive (receive.KeepFile path))) s = s
  as_refused receipt (errors.Fetch (fetch.Receive (receive.UpdateRefs cause))) s = s
  as_refused receipt (errors.Fetch (fetch.Receive (receive.RemovePackKeepFile path))) s = s
  as_refused receipt (errors.Fetch (fetch.Receive (receive.NoMapping specs n))) s = absurd s.unapplied
  as_refused receipt (errors.Fetch (fetch.Receive (receive.IncompatibleObjectHash local remote))) s = absurd s.unapplied
  as_refused receipt (errors.Fetch (fetch.Receive (receive.Disconnected link))) s = absurd s.unapplied
  as_refused receipt (errors.Fetch (fetch.Receive (receive.RejectShallowRemoteConfig value))) s = absurd s.unapplied
  as_refused receipt (errors.Fetch (fetch.Receive (receive.NegotiationAlgorithmConfig value))) s = absurd s.unapplied
  as_refused receipt (errors.Fetch (fetch.Receive (receive.PackThreads value))) s = absurd s.unapplied
  as_refused receipt (errors.Fetch (fetch.Receive (receive.Fetch e))) s = absurd s.unapplied
  as_refused receipt (errors.Fetch (fetch.Receive receive.Client)) s = absurd s.unapplied
  as_refused receipt (errors.Fetch (fetch.Receive receive.Interrupted)) s = absurd s.unapplied
  as_refused receipt (errors.Fetch (fetch.Receive (receive.RejectShallowRemote id))) s = absurd s.unapplied
  as_refused receipt (errors.Fetch (fetch.Receive (receive.Pack e))) s = absurd s.unapplied
  as_refused receipt (errors.Fetch (fetch.Receive (receive.Collision id))) s = absurd s.unapplied
  as_refused receipt (errors.Fetch (fetch.Receive receive.NoMemory)) s = absurd s.unapplied

  module _ (m : Matter) (setup : m.setup ≡ c.given.setup) (options : m.options ≡ apply_options_in c.given) (wants : m.wants ≡ t.wants) (is : m.told ≡ told) where
    pub stopped : (judged place : Option ℕ) (e : SharedError) → IsUnapplied m (course_of mid c.after c.known c.files c.left) judged place e → IsSharedRefused line c (receipt_of c.before (Some count) judged place) e
    unfolding conversed
    stopped judged place e u = as_refused (receipt_of c.before (Some count) judged place) e (record {
      count = count;
      told = told;
      conversed = conversed;
      judged = judged;
      place = place;
      receipt_is = refl;
      unapplied = subst (λ (x : Matter × Course). IsUnapplied x.0 x.1 judged place e) (λ i. (matters m setup options wants is i, courses i)) u;
    })

    applied : (judged : ℕ) (place : Option ℕ) (outcome : Outcome) → IsApplied m (course_of mid c.after c.known c.files c.left) judged place outcome → IsApplied (matter_in c.given state told) (course_in c h.seen.journal) judged place outcome
    applied judged place outcome s = subst (λ (x : Matter × Course). IsApplied x.0 x.1 judged place outcome) (λ i. (matters m setup options wants is i, courses i)) s

  tells : (judged : ℕ) (place : Option ℕ) (outcome : Outcome) → (s : IsApplied (matter_in c.given state told) (course_in c h.seen.journal) judged place outcome)
      → IsTold line c state s.by.taken.seen.repository.state s.by.trees (said_in line.answers line.old line.new c.given state (shown t.listed) t.received (pending_of t.listed) h.told) outcome
  unfolding has_read
  tells judged place outcome s =
      let g = c.given in
      let l = shown t.listed in
      let over = s.by.taken.seen.repository.state in
      let p = policy_in over (apply_options_in g) s.by.trees in
      let u = s.updates in
      let ok : outcome_of p l.ref_map.refspecs l.ref_map.extra_refspecs l.ref_map.mappings ≡ Ok u = judged_is p l.ref_map u s.by.verdicts in
      let said = said_in line.answers line.old line.new g state l t.received (pending_of t.listed) h.told in
      let read : HasRead g state said (outcome_in g.setup.settings.git_dir (apply_options_in g) l t.received u) = has_read line.answers line.old line.new g state l t.received (pending_of t.listed) u h.told in
      let kept : AreFiles c.files c.left (left_tree g.setup.settings.git_dir (outcome_in g.setup.settings.git_dir (apply_options_in g) l t.received u).status) =
      subst (λ (o : Outcome). AreFiles c.files c.left (left_tree g.setup.settings.git_dir o.status)) s.outcome_is s.kept in
      subst (λ (o : Outcome). IsTold line c state over s.by.trees said o) (sym s.outcome_is) (record {
        read = read;
        rounds = are_held g state l read.behind read.rest t.received read.replied;
        verdicts = record {
          updates = u;
          verdicts = ok;
          one_each = one_each _ _ _ _ _ ok;
          accepts = λ wet. accepts_exactly _ _ _ _ _ ok wet;
          guesses = λ dry. guesses_exactly _ _ _ _ _ ok dry;
          rejects = rejects_exactly _ _ _ _ _ ok;
          status = refl;
        };
        written = record { carried = edits_carry_out _ _ _ _ _ ok; says = edits_say _ _ _ _ _ ok; turns = tells_type_changes _ _ _ _ _ ok };
        kept = record { keep = keep_is g.setup.settings.git_dir g.options.dry_run t.received u; tree = kept };
        held = λ wet.
            holds_mapped c.before.shared.opening h.seen.journal c.after.front c.before.number g h.seen s.by.taken.seen l.ref_map (to_take g.options.dry_run t.received)
            (λ id. stored_on c.before.shared.opening h.seen s.by.taken.seen id h.at.opened s.by.taken.at.opened h.at.kept s.by.taken.at.kept s.by.taken.at.goes_on)
            s.by.taken.allowed (λ e. (is_received (bound_of g) (graph_of state.objects) (terms_in g state l) _ t.received _ (read.replied [])).none (received_none g.options.dry_run t.received wet e));
      })

  module _ (m : Matter) (setup : m.setup ≡ c.given.setup) (options : m.options ≡ apply_options_in c.given) (wants : m.wants ≡ t.wants) (is : m.told ≡ told) where
    pub fetched : (judged : ℕ) (place : Option ℕ) (outcome : Outcome) → IsApplied m (course_of mid c.after c.known c.files c.left) judged place outcome → IsSharedFetch line c (receipt_of c.before (Some count) (Some judged) place) outcome
    unfolding conversed
    fetched judged place outcome s =
        let k = applied m setup options wants is judged place outcome s in
        record { count = count; told = told; conversed = conversed; judged = judged; place = place; applied = k; tells = tells judged place outcome k; receipt_is = refl }
