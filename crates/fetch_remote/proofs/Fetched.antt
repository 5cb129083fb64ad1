-- From the conversation to the fetch.
use Rattle.std.proofs.Common.{◌≡◌, ℕ, Bool, true, false, List, [], ◌++◌, Option, None, Result, Ok, refl, sym, ap, subst, ◌∙◌, append_assoc}
use Rattle.std.proofs.lemmas.List.{append-nil}
use Rattle.fetch_store.specs.Closed.{IsClosed}
use Rattle.fetch_store.specs.Graph.{graph_of}
use Rattle.fetch_base.specs.declared.id.ObjectId.{ObjectId}
use Rattle.fetch_refs.specs.declared.edit.PackedRefs.{PackedRefs}
use Rattle.fetch_refs.specs.declared.edit.RefEdit.{RefEdit}
use Rattle.fetch_map.specs.declared.mapping.RefMap.{RefMap}
use Rattle.fetch_lines.specs.Talks.{Talk}
use Rattle.fetch_lines.specs.Written.{lines_text}
use Rattle.fetch_update.specs.declared.update.Outcome.{Outcome as Updates}
use Rattle.fetch_update.specs.declared.worktrees.Worktree.{Worktree}
use Rattle.fetch_update.proofs.Wholes.{one_each, accepts_exactly, guesses_exactly, rejects_exactly, edits_carry_out, edits_say, tells_type_changes}
use Rattle.fetch_conversation.specs.Conversation.{sent_in, answer_in}
use Rattle.fetch_conversation.specs.ListStage.{ListedValue}
use Rattle.fetch_conversation.specs.declared.conversing.Received.{Received}
use Rattle.fetch_remote.specs.declared.fetching.fetch_error.FetchError.{FetchError}
use Rattle.fetch_remote.specs.declared.fetching.outcome.Outcome.{Outcome}
use Rattle.fetch_files.specs.Trees.{Tree}
use Rattle.fetch_remote.specs.Fetched.{HasHeard, HasRead, IsJudged, IsWritten, IsLeft, IsKept, IsSafe, IsCarriedOut, IsFetched, policy_at}
use Rattle.fetch_remote.specs.Fetching.{apply_options_in, taken_in, applied_in, applied_by, fetched_in, requests_in}
use Rattle.fetch_remote.specs.Form.{Given}
use Rattle.fetch_remote.specs.Judging.{IsTold, judged_of}
use Rattle.fetch_remote.specs.Keeping.{AreFiles, left_tree}
use Rattle.fetch_remote.specs.Repositories.{State, Setup, held}
use Rattle.fetch_remote.specs.Applying.{to_take, taken, applied, policy_in, moved, outcome_in, done, IsApplied}
use Rattle.fetch_remote.specs.Stages.{Told, bound_of, wants_in, inquiry_in, terms_in, listing_stage, conversation}
use Rattle.fetch_remote.specs.Conversed.{HasTold}
use Rattle.fetch_remote.proofs.Negotiated.{are_held}
use Rattle.fetch_remote.proofs.Keeping.{keep_is}
use Rattle.fetch_remote.proofs.Mapped.{each_found}
use Rattle.fetch_remote.proofs.Received.{is_mapped, is_received}
use Rattle.fetch_remote.proofs.Spoken.{said_in, heard_in, told_spoken}
use Rattle.fetch_remote.proofs.Applied.{applied_as, takes, judged_is, stays_closed, holds_mapped}

-- ---- the whole fetch

pub in_form : (g : Given) (before : State) (stream : List ℕ) → requests_in g before stream ≡ sent_in (bound_of g) (conversation g before) stream
unfolding requests_in
in_form g before stream = refl

pub fetched_is : (g : Given) (trees : List Worktree) (before : State) (stream : List ℕ) (answer : Result (Told × List ℕ) FetchError) (result : Result (Outcome × State) FetchError) → answer_in (bound_of g) (conversation g before) stream ≡ answer → applied_by g trees before answer ≡ result → fetched_in g trees before stream ≡ result
unfolding fetched_in
fetched_is g trees before stream answer result is by = rw is by

pub applied_from : (g : Given) (trees : List Worktree) (before : State) (l : ListedValue) (r : Option Received) (s : State) (u : Updates) → taken_in g before (record { listed = l; received = r }) ≡ Ok s → judged_of (policy_in s (apply_options_in g) trees) l.ref_map ≡ Ok u
    → applied_in g trees before (record { listed = l; received = r }) ≡ Ok (done g.setup (apply_options_in g) l r s u)
unfolding applied
applied_from g trees before l r s u took judged = rw (took, judged) refl

pub listed_in_all : {X : Type 0} (read : List ℕ → X) (found : List ℕ → X) (first second behind more : List ℕ) → read (first ++ (second ++ more)) ≡ found (behind ++ (second ++ more))
    → read ((first ++ (second ++ [])) ++ more) ≡ found ((behind ++ second) ++ more)
listed_in_all read found first second behind more is =
    let a : (first ++ (second ++ [])) ++ more ≡ first ++ (second ++ more) = rw append-nil (append_assoc first second more) in
    rw (a, append_assoc behind second more) is

-- ---- its parts

pub has_heard : (answers : Bool) (old new : Option Talk) (g : Given) (before : State) (l : ListedValue) (r : Option Received) (rest : List ℕ) → (told : HasTold answers old new g before l r rest)
    → HasHeard answers old new g before (said_in answers old new g before l r rest told)
has_heard answers old new g before l r rest told =
    let k = told_spoken answers old new g before l r rest told in
    let said = said_in answers old new g before l r rest told in
    let heard : (more : List ℕ) → lines_text (requests_in g before (said ++ more)) ≡ heard_in answers old new g before l r rest told = λ more. rw (in_form g before (said ++ more)) (k.asked more) in
    let same : lines_text (requests_in g before said) ≡ heard_in answers old new g before l r rest told = rw append-nil at (heard []) in
    record { passed = rw same k.passed; same_requests = λ more. heard more ∙ sym same; needed = k.needed }

abbrev pub at_outcome : Given → ListedValue → Option Received → Updates → Outcome
at_outcome g l r u = outcome_in g.setup.settings.git_dir (apply_options_in g) l r u

unfoldable pub has_read : (answers : Bool) (old new : Option Talk) (g : Given) (before : State) (l : ListedValue) (r : Option Received) (rest : List ℕ) (u : Updates) → (told : HasTold answers old new g before l r rest)
    → HasRead g before (said_in answers old new g before l r rest told) (at_outcome g l r u)
has_read answers old new g before l r rest u told =
    let m = (is_mapped (bound_of g) (inquiry_in g) _ l _ (told.list.answered [])).map in
    record {
      behind = told.behind ++ told.pack.said;
      listed = λ more. listed_in_all (answer_in (bound_of g) (listing_stage g)) (λ (bytes : List ℕ). Ok (l, bytes)) told.list.said told.pack.said told.behind more (told.list.answered (told.pack.said ++ more));
      received = r;
      rest = rest;
      replied = λ more. rw append_assoc (told.pack.answered more);
      mappings = ap (λ (x : RefMap). x.mappings) m;
      specs = ap (λ (x : RefMap). x.refspecs) m;
      extra = ap (λ (x : RefMap). x.extra_refspecs) m;
    }

moved_objects : (dry : Bool) (packed : PackedRefs) (setup : Setup) (s : State) (edits : List RefEdit) → (moved dry packed setup s edits).objects ≡ s.objects
moved_objects true packed setup s edits = refl
moved_objects false packed setup s edits = refl

-- the state after the edits of a fetch
abbrev pub moved_in : Given → State → List RefEdit → State
moved_in g s edits = moved g.options.dry_run (apply_options_in g).packed g.setup s edits

pub policy_same : (g : Given) (trees : List Worktree) (before s : State) (edits : List RefEdit) → s.refs ≡ before.refs → policy_at g trees before (moved_in g s edits) ≡ policy_in s (apply_options_in g) trees
policy_same g trees before s edits same = rw (moved_objects g.options.dry_run (apply_options_in g).packed g.setup s edits, ← same) refl

unfoldable pub is_judged : (g : Given) (trees : List Worktree) (before : State) (l : ListedValue) (r : Option Received) (s : State) (u : Updates) → s.refs ≡ before.refs → judged_of (policy_in s (apply_options_in g) trees) l.ref_map ≡ Ok u
    → IsJudged g trees before (moved_in g s u.edits) r (at_outcome g l r u)
is_judged g trees before l r s u same judged =
    let p = policy_same g trees before s u.edits same in
    let outcome = judged_is (policy_in s (apply_options_in g) trees) l.ref_map u judged in
    record {
      updates = u;
      verdicts = rw p outcome;
      one_each = one_each _ _ _ _ _ outcome;
      accepts = λ wet. rw p (accepts_exactly _ _ _ _ _ outcome wet);
      guesses = λ dry. rw p (guesses_exactly _ _ _ _ _ outcome dry);
      rejects = rw p (rejects_exactly _ _ _ _ _ outcome);
      status = refl;
    }

pub is_written : (g : Given) (trees : List Worktree) (before : State) (l : ListedValue) (r : Option Received) (s : State) (u : Updates) → s.refs ≡ before.refs → judged_of (policy_in s (apply_options_in g) trees) l.ref_map ≡ Ok u
    → IsWritten g trees before (moved_in g s u.edits) (at_outcome g l r u) u
is_written g trees before l r s u same judged =
    let p = policy_same g trees before s u.edits same in
    let outcome = judged_is (policy_in s (apply_options_in g) trees) l.ref_map u judged in
    record {
      carried = rw p (edits_carry_out _ _ _ _ _ outcome);
      says = rw p (edits_say _ _ _ _ _ outcome);
      turns = rw p (tells_type_changes _ _ _ _ _ outcome);
    }

pub has_left : (dry : Bool) (packed : PackedRefs) (g : Given) (before : State) (wants : List ObjectId) (r : Option Received) (s : State) (u : Updates) → taken before wants (to_take dry r) ≡ Ok s
    → IsLeft dry packed g.setup before (moved dry packed g.setup s u.edits) r u
has_left true packed g before wants r s u took =
    let e : before ≡ s = cc in
    rw (← e) (record { objects = refl; border = refl; hash = refl; refs = refl; logs = refl; packed = refl; dry = λ _. refl })
has_left false packed g before wants r s u took =
    let t = takes before wants r s took in
    record { objects = t.objects; border = t.border; hash = t.hash; refs = rw (← t.refs) refl; logs = rw (← t.refs) refl; packed = rw (← t.refs) refl; dry = λ yes. absurd (cc) }

moved_closed : (dry : Bool) (packed : PackedRefs) (g : Given) (s : State) (edits : List RefEdit) → IsClosed (held s) → IsClosed (held (moved dry packed g.setup s edits))
moved_closed true packed g s edits h = h
moved_closed false packed g s edits h = h

pub is_safe : (g : Given) (before : State) (m : RefMap) (r : Option Received) (s : State) (u : Updates) → taken before (wants_in g before m) (to_take g.options.dry_run r) ≡ Ok s → (r ≡ None → wants_in g before m ≡ [])
    → IsSafe g before (moved_in g s u.edits) m
is_safe g before m r s u took none = record {
  closed = λ closed. moved_closed g.options.dry_run (apply_options_in g).packed g s u.edits (stays_closed before (wants_in g before m) (to_take g.options.dry_run r) s took closed);
  holds = λ wet. rw (moved_objects g.options.dry_run (apply_options_in g).packed g.setup s u.edits) (holds_mapped g before m (to_take g.options.dry_run r) s took (λ e. none (rw wet at e)));
}

pub is_kept : (g : Given) (files left : Option Tree) (l : ListedValue) (r : Option Received) (u : Updates) → AreFiles files left (left_tree g.setup.settings.git_dir (at_outcome g l r u).status) → IsKept g files left r u (at_outcome g l r u)
is_kept g files left l r u h = record { keep = keep_is g.setup.settings.git_dir g.options.dry_run r u; tree = h }

-- what became of what was received
pub is_carried_out : (known : Option (List Worktree)) (files left : Option Tree) (g : Given) (trees : List Worktree) (before : State) (l : ListedValue) (r : Option Received) (s : State) (u : Updates) → IsTold known trees
    → taken_in g before (record { listed = l; received = r }) ≡ Ok s → judged_of (policy_in s (apply_options_in g) trees) l.ref_map ≡ Ok u → AreFiles files left (left_tree g.setup.settings.git_dir (at_outcome g l r u).status)
    → (r ≡ None → wants_in g before l.ref_map ≡ []) → IsCarriedOut known files left g before (moved_in g s u.edits) r (at_outcome g l r u)
unfolding is_judged
is_carried_out known files left g trees before l r s u listed took judged kept none = record {
  trees = trees;
  listed_trees = listed;
  judged = is_judged g trees before l r s u (takes before _ _ s took).refs judged;
  written = is_written g trees before l r s u (takes before _ _ s took).refs judged;
  left = has_left g.options.dry_run (apply_options_in g).packed g before _ r s u took;
  kept = is_kept g files left l r u kept;
  safe = is_safe g before l.ref_map r s u took none;
}

fetched_with : (answers : Bool) (old new : Option Talk) (known : Option (List Worktree)) (files left : Option Tree) (g : Given) (trees : List Worktree) (before : State) (l : ListedValue) (r : Option Received) (rest : List ℕ) (s : State) (u : Updates) → IsTold known trees
    → HasTold answers old new g before l r rest → taken_in g before (record { listed = l; received = r }) ≡ Ok s → judged_of (policy_in s (apply_options_in g) trees) l.ref_map ≡ Ok u
    → AreFiles files left (left_tree g.setup.settings.git_dir (at_outcome g l r u).status) → IsFetched answers old new known files left g before (moved_in g s u.edits) (at_outcome g l r u)
unfolding has_read is_judged is_carried_out
fetched_with answers old new known files left g trees before l r rest s u listed told took judged kept =
    let k = told_spoken answers old new g before l r rest told in
    let said = said_in answers old new g before l r rest told in
    let is = applied_from g trees before l r s u took judged in
    let none = (is_received (bound_of g) (graph_of before.objects) (terms_in g before l) _ r _ (told.pack.answered [])).none in
    let read : HasRead g before said (at_outcome g l r u) = has_read answers old new g before l r rest u told in
    let found = each_found (inquiry_in g) l (is_mapped (bound_of g) (inquiry_in g) _ l _ (told.list.answered [])) in
    let same_refs = (takes before _ _ s took).refs in
    record {
      said = said;
      heard = has_heard answers old new g before l r rest told;
      read = read;
      rounds = are_held g before l read.behind read.rest r read.replied;
      carried = is_carried_out known files left g trees before l r s u listed took judged kept none;
      one_each = (is_judged g trees before l r s u same_refs judged).one_each ∙ found;
      whole = λ more. fetched_is g trees before (said ++ more) _ _ (k.answered more) (rw is refl);
    }

pub is_fetched : (answers : Bool) (old new : Option Talk) (known : Option (List Worktree)) (files left : Option Tree) (g : Given) (before after : State) (outcome : Outcome) (l : ListedValue) (r : Option Received) (rest : List ℕ) → HasTold answers old new g before l r rest
    → IsApplied known g.setup (apply_options_in g) before (wants_in g before l.ref_map) l r outcome after → AreFiles files left (left_tree g.setup.settings.git_dir outcome.status) → IsFetched answers old new known files left g before after outcome
is_fetched answers old new known files left g before after outcome l r rest told is kept =
    let p = applied_as g.setup (apply_options_in g) is.trees before (wants_in g before l.ref_map) l r outcome after is.by in
    let there = subst (λ (o : Outcome). AreFiles files left (left_tree g.setup.settings.git_dir o.status)) p.outcome_is kept in
    let f = fetched_with answers old new known files left g is.trees before l r rest p.state p.updates is.listed_trees told p.took p.judged there in
    subst (λ (x : State). IsFetched answers old new known files left g before x outcome) (sym p.after_is)
    (subst (λ (o : Outcome). IsFetched answers old new known files left g before (moved_in g p.state p.updates.edits) o) (sym p.outcome_is) f)
