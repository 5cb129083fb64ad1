-- Fetches that were refused.
use Rattle.std.proofs.Common.{◌≡◌, ℕ, Bool, true, false, List, [], ◌++◌, Option, Result, Ok, Err, refl, sym, ap, ◌∙◌, inl, inr}
use Rattle.std.specs.Prelude.{◌⊎◌}
use Rattle.std.proofs.lemmas.List.{append-nil}
use Rattle.fetch_update.specs.declared.worktrees.Worktree.{Worktree}
use Rattle.fetch_lines.specs.Talks.{Talk, Talks, IsFront, Talks-then}
use Rattle.fetch_lines.specs.Written.{lines_text}
use Rattle.fetch_conversation.specs.Conversation.{answer_in, IsAwaited, Breaks}
use Rattle.fetch_conversation.specs.Conversation as held
use Rattle.fetch_conversation.specs.Errors.{is_free_listing, is_interrupted}
use Rattle.fetch_conversation.specs.ListStage.{ListedValue}
use Rattle.fetch_conversation.specs.declared.conversing.Received.{Received}
use Rattle.fetch_conversation.specs.declared.fetch.Error.{Error as ReceiveError}
use Rattle.fetch_conversation.specs.declared.fetch.Error.TheVariants as receive
use Rattle.fetch_conversation.specs.declared.prepare.Error.{Error as PrepareError}
use Rattle.fetch_conversation.specs.declared.prepare.Error.TheVariants as prepare
use Rattle.fetch_remote.specs.declared.fetching.fetch_error.FetchError.{FetchError}
use Rattle.fetch_remote.specs.declared.fetching.fetch_error.FetchError.TheVariants as errors
use Rattle.fetch_remote.specs.Errors.{preparing, receiving, is_free, is_yes}
use Rattle.fetch_remote.specs.Fetching.{apply_options_in, taken_in, keep_made, applied_in, requests_in, left_by, left_in, keep_left_by, keep_left_in}
use Rattle.fetch_remote.specs.Form.{Given}
use Rattle.fetch_remote.specs.Keeping.{AreFiles, with_keep}
use Rattle.fetch_remote.specs.Refused.{RefusesWith, IsRefusedBy, HasEnded, IsFound, IsMaking, IsMade, IsTaken, IsStanding, unjudged, unmade, unremoved, is_late, IsCutListing, IsCutReceiving, IsCounted, IsRefused}
use Rattle.fetch_remote.specs.Repositories.{State}
use Rattle.fetch_files.specs.Trees.{Tree}
use Rattle.fetch_remote.specs.Applying.{kept_or, standing, is_free_applying, IsLeftBy, IsUnapplied}
use Rattle.fetch_remote.specs.Applying as applying
use Rattle.fetch_remote.specs.Stages.{Told, bound_of, wants_in, listing_stage, conversation}
use Rattle.fetch_remote.specs.Conversed.{HasTold, BreaksListing, BreaksReceiving}
use Rattle.fetch_remote.proofs.Broken.{whole_listing, whole_receiving, front_listing, front_receiving, Later}
use Rattle.fetch_remote.proofs.Fetched.{in_form, fetched_is}
use Rattle.fetch_remote.proofs.Keeping.{same_files}
use Rattle.fetch_remote.proofs.Applied.{takes, list_of, list_told}
use Rattle.fetch_remote.proofs.Spoken.{said_in, heard_in, told_spoken, needed_listing, needed_receiving}
use Rattle.fetch_remote.proofs.Unjudged.{refusal_is, receives_no_other}

left_is : (g : Given) (before : State) (stream : List ℕ) (answer : Result (Told × List ℕ) FetchError) → answer_in (bound_of g) (conversation g before) stream ≡ answer
    → left_in g before stream ≡ left_by g before answer
unfolding left_in
left_is g before stream answer is = rw is refl

keep_left_is : (g : Given) (before : State) (stream : List ℕ) (answer : Result (Told × List ℕ) FetchError) → answer_in (bound_of g) (conversation g before) stream ≡ answer → keep_left_in g before stream ≡ keep_left_by g before answer
unfolding keep_left_in
keep_left_is g before stream answer is = rw is refl

-- all is as found
found : (before : State) (files : Option Tree) → IsFound before before files files
found before files = record { same_state = refl; same_files = refl }

-- ---- no counted refusal

uncaused : (e x : FetchError) → is_free e ≡ false → is_free x ≡ true → e ≡ x → ⊥
uncaused e x sure free is = let h : true ≡ false = sym free ∙ sym (ap is_free is) ∙ sure in cc

uncounted : (g : Given) (trees : List Worktree) (before after : State) (files left : Option Tree) (said heard : List ℕ) (e : FetchError) → is_free e ≡ false → IsCounted g trees before after files left said heard e
uncounted g trees before after files left said heard e sure = record {
  transport = λ is. absurd (uncaused e _ sure refl is);
  interrupted = λ is. absurd (uncaused e _ sure refl is);
  client = λ is. absurd (uncaused e _ sure refl is);
  stopped = λ is. absurd (uncaused e _ sure refl is);
  making = λ path is. absurd (uncaused e (unmade path) sure refl is);
  worktrees = λ fault yes is. absurd (uncaused e (unjudged fault) sure yes is);
  removing = λ path is. absurd (uncaused e (unremoved path) sure refl is);
}

-- ---- a conversation that broke off

early_with : (g : Given) (trees : List Worktree) (before : State) (files : Option Tree) (stream heard : List ℕ) (e : FetchError) → held.RefusesWith (bound_of g) (conversation g before) stream heard e → RefusesWith g trees before before files files stream heard e
early_with g trees before files stream heard e h = record {
  refused = fetched_is g trees before stream (Err e) (Err e) h.answer refl;
  requests = ap lines_text (in_form g before stream) ∙ h.asked;
  left = left_is g before stream (Err e) h.answer;
  kept = rw (keep_left_is g before stream (Err e) h.answer) (same_files files);
}

early_by : (now : Option Talk) (g : Given) (trees : List Worktree) (before : State) (files : Option Tree) (said heard : List ℕ) (e : FetchError) → held.IsRefusedBy (bound_of g) now (conversation g before) said heard e → IsRefusedBy now g trees before before files files said heard e
early_by now g trees before files said heard e (inl all) = inl (λ more. early_with g trees before files (said ++ more) heard e (all more))
early_by now g trees before files said heard e (inr last) = inr (last.0, early_with g trees before files said heard e last.1)

-- with a cause
broken_for : (answers : Bool) (old new : Option Talk) (known : Option (List Worktree)) (files : Option Tree) (g : Given) (before : State) (e : FetchError) → is_free e ≡ false → Breaks is_free is_yes answers (bound_of g) old new [] (conversation g before) e
    → IsRefused answers old new known files files g before before e
broken_for answers old new known files g before e sure h = record {
  said = h.said;
  heard = h.heard;
  exchanged = record { passed = h.passed; front = rw (in_form g before h.said) h.front; needed = h.needed };
  trees = list_of known;
  listed_trees = list_told known;
  why = λ bound_to. early_by new g (list_of known) before files h.said h.heard e (h.why bound_to);
  stands = λ _. inl (found before files);
  counted = uncounted g (list_of known) before before files files h.said h.heard e sure;
}

-- one that is free
broken_free : (answers : Bool) (old new : Option Talk) (known : Option (List Worktree)) (files : Option Tree) (g : Given) (before : State) (said heard : List ℕ) (e : FetchError) → is_free e ≡ true → Talks answers old new heard said
    → IsFront heard (lines_text (held.sent_in (bound_of g) (conversation g before) said)) → IsAwaited (bound_of g) old new [] (conversation g before) → IsCounted g (list_of known) before before files files said heard e → IsRefused answers old new known files files g before before e
broken_free answers old new known files g before said heard e free passed front needed counted = record {
  said = said;
  heard = heard;
  exchanged = record { passed = passed; front = rw (in_form g before said) front; needed = needed };
  trees = list_of known;
  listed_trees = list_told known;
  why = λ sure. absurd (cc (free, sure));
  stands = λ _. inl (found before files);
  counted = counted;
}

-- the two refusals of a stage that have a count aren't told by the other
no_pack_listing : (e : PrepareError) (x : ReceiveError) → preparing e ≡ errors.Receive x → ⊥
no_pack_listing prepare.MissingRefSpecs x is = absurd (cc)
no_pack_listing (prepare.RefMap e) x is = absurd (cc)
no_pack_listing prepare.NoMemory x is = absurd (cc)

pub no_listing_pack : (e : ReceiveError) (x : PrepareError) → receiving e ≡ errors.Prepare x → ⊥
no_listing_pack (receive.NoMapping specs count) x is = absurd (cc)
no_listing_pack (receive.IncompatibleObjectHash local remote) x is = absurd (cc)
no_listing_pack (receive.Disconnected link) x is = absurd (cc)
no_listing_pack (receive.RejectShallowRemoteConfig value) x is = absurd (cc)
no_listing_pack (receive.NegotiationAlgorithmConfig value) x is = absurd (cc)
no_listing_pack (receive.PackThreads value) x is = absurd (cc)
no_listing_pack (receive.Fetch e) x is = absurd (cc)
no_listing_pack receive.Client x is = absurd (cc)
no_listing_pack receive.Interrupted x is = absurd (cc)
no_listing_pack (receive.RejectShallowRemote id) x is = absurd (cc)
no_listing_pack (receive.Pack e) x is = absurd (cc)
no_listing_pack (receive.Collision id) x is = absurd (cc)
no_listing_pack (receive.KeepFile path) x is = absurd (cc)
no_listing_pack (receive.UpdateRefs e) x is = absurd (cc)
no_listing_pack (receive.RemovePackKeepFile path) x is = absurd (cc)
no_listing_pack receive.NoMemory x is = absurd (cc)

listing_by : (answers : Bool) (old new : Option Talk) (known : Option (List Worktree)) (files : Option Tree) (g : Given) (before : State) (e : PrepareError) → Breaks is_free_listing is_interrupted answers (bound_of g) old new [] (listing_stage g) e → (b : Bool) → is_free (preparing e) ≡ b
    → IsRefused answers old new known files files g before before (preparing e)
listing_by answers old new known files g before e h false sure = broken_for answers old new known files g before (preparing e) sure (whole_listing answers old new g before e h)
listing_by answers old new known files g before e h true free =
    let cut : IsCutListing g before before files files h.said h.heard = record { front = h.front; found = found before files } in
    broken_free answers old new known files g before h.said h.heard (preparing e) free h.passed (front_listing g before h.said h.heard h.front) (needed_listing g before old new h.needed) (record {
      transport = λ _. cut;
      interrupted = λ _. cut;
      client = λ is. absurd (no_pack_listing e _ is);
      stopped = λ is. absurd (no_pack_listing e _ is);
      making = λ path is. absurd (no_pack_listing e _ is);
      worktrees = λ fault yes is. absurd (no_pack_listing e _ is);
      removing = λ path is. absurd (no_pack_listing e _ is);
    })

pub broken_listing : (answers : Bool) (old new : Option Talk) (known : Option (List Worktree)) (files : Option Tree) (g : Given) (before : State) (e : FetchError) → BreaksListing answers old new g e → IsRefused answers old new known files files g before before e
broken_listing answers old new known files g before e h = rw h.told (listing_by answers old new known files g before h.cause h.broke (is_free (preparing h.cause)) refl)

receiving_by : (answers : Bool) (old new : Option Talk) (known : Option (List Worktree)) (files : Option Tree) (g : Given) (before : State) (e : FetchError) → (h : BreaksReceiving answers old new g before e) → (b : Bool) → is_free (receiving h.cause) ≡ b
    → IsRefused answers old new known files files g before before (receiving h.cause)
receiving_by answers old new known files g before e h false sure =
    broken_for answers old new known files g before (receiving h.cause) sure (whole_receiving answers old h.between new g before h.listed h.behind h.cause h.list h.broke)
receiving_by answers old new known files g before e h true free =
    let said = h.list.said ++ h.broke.said in
    let heard = h.list.heard ++ h.broke.heard in
    let behind = h.behind ++ h.broke.said in
    let later : Later g before h.listed said behind h.list.heard h.broke.heard = record { asked = h.list.asked h.broke.said; answered = h.list.answered h.broke.said; front = h.broke.front } in
    let cut : IsCutReceiving g before before files files said heard = record {
      listed = h.listed;
      behind = behind;
      answered = later.answered;
      later = h.broke.heard;
      heard_all = ap (λ (l : List ℕ). l ++ h.broke.heard) (sym later.asked);
      front = h.broke.front;
      found = found before files;
    } in
    broken_free answers old new known files g before said heard (receiving h.cause) free (Talks-then answers old h.between new h.list.heard h.list.said h.broke.heard h.broke.said h.list.passed h.broke.passed)
    (front_receiving g before h.listed said behind h.list.heard h.broke.heard later) (needed_receiving answers g before old h.between new h.listed h.behind h.list h.broke.needed) (record {
      transport = λ is. absurd (no_listing_pack h.cause _ is);
      interrupted = λ is. absurd (no_listing_pack h.cause _ is);
      client = λ _. cut;
      stopped = λ _. cut;
      making = λ path is. absurd (receives_no_other answers old new g before e h (receive.KeepFile path) (λ x. x) refl is);
      worktrees = λ fault yes is. absurd (receives_no_other answers old new g before e h (receive.UpdateRefs fault) (λ x. x) refl is);
      removing = λ path is. absurd (receives_no_other answers old new g before e h (receive.RemovePackKeepFile path) (λ x. x) refl is);
    })

pub broken_receiving : (answers : Bool) (old new : Option Talk) (known : Option (List Worktree)) (files : Option Tree) (g : Given) (before : State) (e : FetchError) → BreaksReceiving answers old new g before e → IsRefused answers old new known files files g before before e
broken_receiving answers old new known files g before e h = rw h.told (receiving_by answers old new known files g before e h (is_free (receiving h.cause)) refl)

pub broken_off : (answers : Bool) (old new : Option Talk) (known : Option (List Worktree)) (files : Option Tree) (g : Given) (before : State) (e : FetchError) → BreaksListing answers old new g e ⊎ BreaksReceiving answers old new g before e
    → IsRefused answers old new known files files g before before e
broken_off answers old new known files g before e (inl h) = broken_listing answers old new known files g before e h
broken_off answers old new known files g before e (inr h) = broken_receiving answers old new known files g before e h

-- ---- refused after the conversation

-- the refusal's cause, and what it leaves
abbrev IsLate : Given → List Worktree → State → State → Option Tree → Option Tree → Told → ReceiveError → Type 0
IsLate g trees before after files left t e =
    (applied_in g trees before t ≡ Err e) × (after ≡ kept_or before (taken_in g before t)) × AreFiles files left (with_keep (standing (taken_in g before t) (keep_made g t)))

late_with : (g : Given) (trees : List Worktree) (before after : State) (files left : Option Tree) (stream heard : List ℕ) (t : Told) (rest : List ℕ) (e : ReceiveError) → answer_in (bound_of g) (conversation g before) stream ≡ Ok (t, rest)
    → lines_text (held.sent_in (bound_of g) (conversation g before) stream) ≡ heard → IsLate g trees before after files left t e → RefusesWith g trees before after files left stream heard (receiving e)
late_with g trees before after files left stream heard t rest e answered asked h = record {
  refused = fetched_is g trees before stream (Ok (t, rest)) (Err (receiving e)) answered (rw h.0 refl);
  requests = ap lines_text (in_form g before stream) ∙ asked;
  left = left_is g before stream (Ok (t, rest)) answered ∙ sym h.1;
  kept = rw (keep_left_is g before stream (Ok (t, rest)) answered) h.2;
}

front_all : (g : Given) (before : State) (said heard : List ℕ) → ((more : List ℕ) → lines_text (held.sent_in (bound_of g) (conversation g before) (said ++ more)) ≡ heard) → IsFront heard (lines_text (requests_in g before said))
front_all g before said heard asked =
    let same : lines_text (requests_in g before said) ≡ heard = ap lines_text (in_form g before said) ∙ rw append-nil at (asked []) in
    ([], same ∙ sym (append-nil heard))

taken_at : (g : Given) (before after : State) (files left : Option Tree) (said : List ℕ) (t : Told) → HasEnded g before said t → applying.IsReplyTaken (taken_in g before t) (keep_made g t) files left after → IsTaken g before after files left said
taken_at g before after files left said t ended h = record { told = t; ended = ended; state = h.took; kept = h.kept; refs = (takes before _ _ after h.took).refs }

making_at : (g : Given) (before after : State) (files left : Option Tree) (said path : List ℕ) (t : Told) → HasEnded g before said t → after ≡ before → applying.LacksKeepFile (taken_in g before t) (keep_made g t) path files left → IsMaking g before after files left said path
making_at g before after files left said path t ended is h = record { told = t; ended = ended; state = h.state; took = h.took; keep = h.made; found = record { same_state = is; same_files = h.same_files } }

made_at : (g : Given) (before after : State) (files left : Option Tree) (said path : List ℕ) (t : Told) → HasEnded g before said t → after ≡ before → applying.HasKeepFile (taken_in g before t) (keep_made g t) path files left → IsMade g before after files left said path
made_at g before after files left said path t ended is h = record { told = t; ended = ended; state = h.state; took = h.took; keep = h.made; found = is; stands = h.stands }

stands_at : (g : Given) (before after : State) (files left : Option Tree) (said : List ℕ) (t : Told) → HasEnded g before said t → IsLeftBy before (taken_in g before t) (keep_made g t) files left after → IsStanding g before after files left said
stands_at g before after files left said t ended (inl h) = unmoved h.0 h.1
  where
    unmoved : after ≡ before → (left ≡ files) ⊎ ((path : List ℕ) × applying.HasKeepFile (taken_in g before t) (keep_made g t) path files left) → IsStanding g before after files left said
    unmoved is (inl same) = inl (record { same_state = is; same_files = same })
    unmoved is (inr m) = inr (inl (m.0, made_at g before after files left said m.0 t ended is m.1))
stands_at g before after files left said t ended (inr h) = inr (inr (taken_at g before after files left said t ended h))

-- the refusals of the applying, seen from the fetch
record SaysSame (e : ReceiveError) : Type 0 where
  sure : is_free (receiving e) ≡ false → is_free_applying e ≡ false
  early : is_late (receiving e) ≡ false → applying.is_late e ≡ false

told_as : (e : ReceiveError) → SaysSame e
told_as (receive.NoMapping specs count) = record { sure = λ h. refl; early = λ h. refl }
told_as (receive.IncompatibleObjectHash local remote) = record { sure = λ h. refl; early = λ h. refl }
told_as (receive.Disconnected link) = record { sure = λ h. refl; early = λ h. refl }
told_as (receive.RejectShallowRemoteConfig value) = record { sure = λ h. refl; early = λ h. refl }
told_as (receive.NegotiationAlgorithmConfig value) = record { sure = λ h. refl; early = λ h. refl }
told_as (receive.PackThreads value) = record { sure = λ h. refl; early = λ h. refl }
told_as (receive.Fetch e) = record { sure = λ h. refl; early = λ h. refl }
told_as receive.Client = record { sure = λ h. absurd (cc); early = λ h. refl }
told_as receive.Interrupted = record { sure = λ h. absurd (cc); early = λ h. refl }
told_as (receive.RejectShallowRemote id) = record { sure = λ h. refl; early = λ h. refl }
told_as (receive.Pack e) = record { sure = λ h. refl; early = λ h. refl }
told_as (receive.Collision id) = record { sure = λ h. refl; early = λ h. refl }
told_as (receive.KeepFile path) = record { sure = λ h. absurd (cc); early = λ h. refl }
told_as (receive.UpdateRefs e) = record { sure = λ h. h; early = λ h. refl }
told_as (receive.RemovePackKeepFile path) = record { sure = λ h. absurd (cc); early = λ h. absurd (cc) }
told_as receive.NoMemory = record { sure = λ h. absurd (cc); early = λ h. refl }

pub not_applied : (answers : Bool) (old new : Option Talk) (known : Option (List Worktree)) (files left : Option Tree) (g : Given) (before after : State) (l : ListedValue) (r : Option Received) (rest : List ℕ) (e : ReceiveError) → HasTold answers old new g before l r rest
    → IsUnapplied known files left g.setup (apply_options_in g) before (wants_in g before l.ref_map) l r after e → IsRefused answers old new known files left g before after (receiving e)
not_applied answers old new known files left g before after l r rest e told u =
    let h = told_spoken answers old new g before l r rest told in
    let t : Told = record { listed = l; received = r } in
    let said = said_in answers old new g before l r rest told in
    let heard = heard_in answers old new g before l r rest told in
    let ended : HasEnded g before said t = record { rest = rest; answered = h.answered } in
    let b = u.by in
    record {
      said = said;
      heard = heard;
      exchanged = record { passed = h.passed; front = front_all g before said heard h.asked; needed = h.needed };
      trees = u.trees;
      listed_trees = u.listed_trees;
      why = λ sure.
          let k = b.why ((told_as e).sure sure) in
          inl (λ more. late_with g u.trees before after files left (said ++ more) heard t (rest ++ more) e (h.answered more) (h.asked more) k);
      stands = λ early. stands_at g before after files left said t ended (b.stands ((told_as e).early early));
      counted = record {
        transport = λ is. absurd (no_listing_pack e _ is);
        interrupted = λ is. absurd (no_listing_pack e _ is);
        client = λ is. absurd (b.unheard.0 (refusal_is e receive.Client is));
        stopped = λ is. absurd (b.unheard.1 (refusal_is e receive.Interrupted is));
        making = λ path is.
            let k = b.making path (refusal_is e (receive.KeepFile path) is) in
            making_at g before after files left said path t ended k.0 k.1;
        worktrees = λ fault yes is. taken_at g before after files left said t ended (b.unlisted fault yes (refusal_is e (receive.UpdateRefs fault) is));
        removing = λ path is.
            let k = b.moved path (refusal_is e (receive.RemovePackKeepFile path) is) in
            record { outcome = k.outcome; fetched = λ more. fetched_is g u.trees before (said ++ more) _ _ (h.answered more) (rw k.by refl); removed = k.removed; stands = k.stands };
      };
    }
