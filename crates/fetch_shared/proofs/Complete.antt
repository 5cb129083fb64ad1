-- Valid input is fetched, unless a refusal comes that has a count, or an event is refused by what others entered.
use Rattle.std.proofs.Common.{◌≡◌, ◌⊎◌, ℕ, true, List, ◌++◌, Option, Some, None, Result, Ok, Err, refl, sym, ap, subst, ◌∙◌, inl, inr}
use Rattle.std.proofs.lemmas.List.{append_cancel_left}
use Rattle.fetch_update.specs.declared.update.Error.{Error as UpdateError}
use Rattle.fetch_lines.specs.Talks.{Talks}
use Rattle.fetch_lines.specs.Written.{lines_text}
use Rattle.fetch_replies.specs.declared.replies.reply.ReplyError.{ReplyError}
use Rattle.fetch_replies.specs.declared.replies.reply.ParsedReply.{ParsedReply as Reply}
use Rattle.fetch_replies.specs.Awaited.{told_at}
use Rattle.fetch_conversation.specs.Conversation.{Conversation, ends, asks, after_reply, ends_in, answer_in, awaits_more, IsUnheard, HasValidReplies}
use Rattle.fetch_conversation.specs.Errors.{is_worktree_fault}
use Rattle.fetch_conversation.specs.declared.fetch.Error.TheVariants as receive
use Rattle.fetch_conversation.specs.declared.prepare.Error.TheVariants as prepare
use Rattle.fetch_remote.specs.Errors as remote
use Rattle.fetch_remote.specs.Fetching.{apply_options_in, requests_in}
use Rattle.fetch_remote.specs.Valid.{AreJudgeable}
use Rattle.fetch_remote.specs.Repositories.{State}
use Rattle.fetch_remote.specs.Applying.{policy_in}
use Rattle.fetch_remote.specs.Stages.{Told, bound_of, listing_stage, conversation}
use Rattle.fetch_remote.specs.declared.fetching.fetch_error.FetchError.{FetchError}
use Rattle.fetch_remote.specs.declared.fetching.fetch_error.FetchError.TheVariants as fetch
use Rattle.fetch_journal.specs.declared.error.SharedError.{SharedError}
use Rattle.fetch_journal.specs.declared.error.SharedError.TheVariants as errors
use Rattle.fetch_shared.specs.declared.receipt.Receipt.{Receipt}
use Rattle.fetch_shared.specs.Fetching.{Call, course_in, matter_in, IsUnlisted, IsUnanswered, IsStopped, IsSharedRefused}
use Rattle.fetch_shared.specs.Seen.{IsStateAt}
use Rattle.fetch_shared.specs.Applying.{IsUnjudged}
use Rattle.fetch_shared.specs.Conversed.{Line}
use Rattle.fetch_shared.specs.Valid.{HasListing, HasReplies, AreJudgeableAt, IsValidFrom, HasValidInput, is_free}
use Rattle.fetch_journal.proofs.Journals.{begins_trans}
use Rattle.fetch_shared.proofs.Replied.{listing_free, receiving_free, unjudged_free}

-- ---- one conversation

awaited_after : {X E : Type 0} (bound : ℕ) (failed : ReplyError → E) (next : Reply → Conversation X E) (reading : Result (Reply × List ℕ) ReplyError) (x : X × List ℕ) → ((t : Reply) (rest : List ℕ) → awaits_more bound (next t) rest ≡ true → answer_in bound (next t) rest ≡ Ok x → ⊥)
    → ends_in (λ told rest. awaits_more bound (next told) rest) reading ≡ true → after_reply (λ fault. Err (failed fault)) (λ told rest. answer_in bound (next told) rest) reading ≡ Ok x → ⊥
awaited_after bound failed next (Ok y) x again a is = again y.0 y.1 a is
awaited_after bound failed next (Err fault) x again a is = absurd (cc (is))

-- a reply that is awaited answers nothing
awaited_no : {X E : Type 0} (bound : ℕ) (c : Conversation X E) (stream : List ℕ) (x : X × List ℕ) → awaits_more bound c stream ≡ true → answer_in bound c stream ≡ Ok x → ⊥
unfolding answer_in awaits_more
awaited_no bound (ends answer) stream x a is = absurd (cc (a))
awaited_no bound (asks lines awaited failed next) stream x a is = awaited_after bound failed next (told_at bound awaited stream) x (λ t rest. awaited_no bound (next t) rest x) a is

ok_is : {A E : Type 0} (a b : A) → ◌≡◌ {A = Result A E} (Ok a) (Ok b) → a ≡ b
ok_is a b is = cc (is)

one_answer : {X E : Type 0} (r : Result (X × List ℕ) E) (x y : X) (rest behind : List ℕ) → r ≡ Ok (x, rest) → r ≡ Ok (y, behind) → x ≡ y
one_answer {X} {E} r x y rest behind p q = ap (λ (k : X × List ℕ). k.0) (ok_is {E = E} (x, rest) (y, behind) (sym p ∙ q))

-- it came to its end, or its next request wasn't heard
abbrev IsReplied : {X E : Type 0} → ℕ → Conversation X E → List ℕ → List ℕ → Type 0
IsReplied {X} bound c heard stream = ((x : X × List ℕ) × (answer_in bound c stream ≡ Ok x)) ⊎ IsUnheard bound c heard stream

module _ (line : Line) (c : Call) (receipt : Receipt) (v : HasValidInput line c receipt) where
  abbrev stream : List ℕ
  stream = v.said ++ v.after.to_come

  said_same : (heard said : List ℕ) → Talks line.answers line.old line.new heard said → said ≡ v.said
  said_same heard said p =
      let q : Talks line.answers (Some v.exchanged.before) (Some v.after) heard said = rw (v.exchanged.told_before, v.exchanged.told_after) at p in
      append_cancel_left v.exchanged.before.given said v.said (sym q.gave_more ∙ v.exchanged.gave)

  -- the replies are valid ones of a conversation
  valid_replies : {X E : Type 0} (bound : ℕ) (k : Conversation X E) → IsReplied bound k v.heard stream → HasValidReplies bound line.old line.new k
  valid_replies bound k replied = record {
    after = v.after;
    heard = v.heard;
    said = v.said;
    exchanged = v.exchanged;
    valid = replied;
  }

  -- ---- each refusal

  abbrev ValidBy : Receipt → Type 0
  ValidBy r = IsValidFrom c r.judged v.heard stream r.planned

  unlisted : (e : FetchError) → IsUnlisted line c receipt e → remote.is_free e ≡ true
  unlisted e h = listing_free line c receipt e h (valid_replies (bound_of c.given) (listing_stage c.given) (listed (subst ValidBy h.receipt_is v.valid)))
    where
      listed : HasListing c.given stream ⊎ IsUnheard (bound_of c.given) (listing_stage c.given) v.heard stream → IsReplied (bound_of c.given) (listing_stage c.given) v.heard stream
      listed (inl l) = inl ((l.listed, l.behind), l.replies)
      listed (inr u) = inr u

  replied : (judged : Option ℕ) (s : State) → HasReplies c judged s stream ⊎ IsUnheard (bound_of c.given) (conversation c.given s) v.heard stream → IsReplied (bound_of c.given) (conversation c.given s) v.heard stream
  replied judged s (inl r) = inl ((r.told, r.behind), r.replies)
  replied judged s (inr u) = inr u

  unanswered : (e : FetchError) → IsUnanswered line c receipt e → remote.is_free e ≡ true
  unanswered e h =
      let s = h.seen.repository.state in
      receiving_free line c receipt e h (valid_replies (bound_of c.given) (conversation c.given s) (replied None s ((subst ValidBy h.receipt_is v.valid) h.seen h.at)))

  module _ (cause : UpdateError) (h : IsStopped line c receipt (errors.Fetch (fetch.Receive (receive.UpdateRefs cause)))) (u : IsUnjudged (matter_in c.given h.conversed.seen.repository.state h.told) (course_in c h.conversed.seen.journal) h.judged h.place cause) where
    abbrev planned : State
    planned = h.conversed.seen.repository.state

    abbrev over : State
    over = u.taken.seen.repository.state

    -- the state that the verdicts saw, from the pass's own front on
    judged_at : IsStateAt c.before.shared.opening c.before.front c.after.front u.count u.taken.seen
    judged_at = record {
      opened = u.taken.at.opened;
      kept = u.taken.at.kept;
      goes_on = begins_trans c.before.front h.conversed.seen.journal u.taken.seen.journal h.conversed.at.goes_on u.taken.at.goes_on;
      begins = u.taken.at.begins;
      count_is = u.taken.at.count_is;
    }

    answered : answer_in (bound_of c.given) (conversation c.given planned) stream ≡ Ok (h.told, h.conversed.ended.rest ++ v.after.to_come)
    answered = ap (λ (l : List ℕ). answer_in (bound_of c.given) (conversation c.given planned) (l ++ v.after.to_come)) (sym (said_same (lines_text (requests_in c.given planned h.conversed.said)) h.conversed.said h.conversed.heard.passed)) ∙ h.conversed.ended.answered v.after.to_come

    judgeable : (r : HasReplies c h.judged planned stream) → AreJudgeable (policy_in over (apply_options_in c.given) u.by.trees) h.told.listed.ref_map
    judgeable r =
        let p = policy_in over (apply_options_in c.given) u.by.trees in
        let mappings : AreJudgeableAt c (Some u.count) r.told.listed.ref_map = subst (λ (o : Option ℕ). AreJudgeableAt c o r.told.listed.ref_map) u.judged_is r.mappings in
        let same : h.told ≡ r.told = one_answer (answer_in (bound_of c.given) (conversation c.given planned) stream) h.told r.told (h.conversed.ended.rest ++ v.after.to_come) r.behind answered r.replies in
        subst (λ (t : Told). AreJudgeable p t.listed.ref_map) (sym same) (mappings u.taken.seen u.by.trees judged_at u.by.listed_trees)

    judging : HasReplies c h.judged planned stream ⊎ IsUnheard (bound_of c.given) (conversation c.given planned) v.heard stream → is_worktree_fault cause ≡ true
    judging (inr n) = absurd (awaited_no (bound_of c.given) (conversation c.given planned) stream (h.told, h.conversed.ended.rest ++ v.after.to_come) n.awaited answered)
    judging (inl r) = unjudged_free (matter_in c.given planned h.told) (course_in c h.conversed.seen.journal) h.judged h.place cause u (judgeable r)

  unjudged : (cause : UpdateError) → IsStopped line c receipt (errors.Fetch (fetch.Receive (receive.UpdateRefs cause))) → is_worktree_fault cause ≡ true
  unjudged cause h = judging cause h h.unapplied ((subst ValidBy h.receipt_is v.valid) h.conversed.seen h.conversed.at)

  complete_at : (e : SharedError) → IsSharedRefused line c receipt e → is_free e ≡ true
  complete_at (errors.NotClosed link) h = absurd h
  complete_at (errors.Disconnected link) h = refl
  complete_at (errors.Collision id) h = refl
  complete_at (errors.EditReferences name found) h = refl
  complete_at (errors.Delete cause) h = absurd h
  complete_at errors.NoMemory h = refl
  complete_at (errors.Fetch fetch.NoMemory) h = absurd h
  complete_at (errors.Fetch (fetch.Prepare prepare.NoMemory)) h = absurd h
  complete_at (errors.Fetch (fetch.Prepare prepare.MissingRefSpecs)) h = unlisted (fetch.Prepare prepare.MissingRefSpecs) h
  complete_at (errors.Fetch (fetch.Prepare (prepare.RefMap cause))) h = unlisted (fetch.Prepare (prepare.RefMap cause)) h
  complete_at (errors.Fetch (fetch.Receive (receive.KeepFile path))) h = refl
  complete_at (errors.Fetch (fetch.Receive (receive.UpdateRefs cause))) h = unjudged cause h
  complete_at (errors.Fetch (fetch.Receive (receive.RemovePackKeepFile path))) h = refl
  complete_at (errors.Fetch (fetch.Receive (receive.NoMapping specs n))) h = unanswered (fetch.Receive (receive.NoMapping specs n)) h
  complete_at (errors.Fetch (fetch.Receive (receive.IncompatibleObjectHash ours theirs))) h = unanswered (fetch.Receive (receive.IncompatibleObjectHash ours theirs)) h
  complete_at (errors.Fetch (fetch.Receive (receive.Disconnected link))) h = absurd h
  complete_at (errors.Fetch (fetch.Receive (receive.RejectShallowRemoteConfig value))) h = unanswered (fetch.Receive (receive.RejectShallowRemoteConfig value)) h
  complete_at (errors.Fetch (fetch.Receive (receive.NegotiationAlgorithmConfig value))) h = unanswered (fetch.Receive (receive.NegotiationAlgorithmConfig value)) h
  complete_at (errors.Fetch (fetch.Receive (receive.PackThreads value))) h = unanswered (fetch.Receive (receive.PackThreads value)) h
  complete_at (errors.Fetch (fetch.Receive (receive.Fetch e))) h = unanswered (fetch.Receive (receive.Fetch e)) h
  complete_at (errors.Fetch (fetch.Receive receive.Client)) h = refl
  complete_at (errors.Fetch (fetch.Receive receive.Interrupted)) h = refl
  complete_at (errors.Fetch (fetch.Receive (receive.RejectShallowRemote id))) h = unanswered (fetch.Receive (receive.RejectShallowRemote id)) h
  complete_at (errors.Fetch (fetch.Receive (receive.Pack e))) h = unanswered (fetch.Receive (receive.Pack e)) h
  complete_at (errors.Fetch (fetch.Receive (receive.Collision id))) h = unanswered (fetch.Receive (receive.Collision id)) h
  complete_at (errors.Fetch (fetch.Receive receive.NoMemory)) h = absurd h

pub complete : {line : Line} {c : Call} {receipt : Receipt} (e : SharedError) → HasValidInput line c receipt → IsSharedRefused line c receipt e → is_free e ≡ true
complete {line} {c} {receipt} e v h = complete_at line c receipt v e h
