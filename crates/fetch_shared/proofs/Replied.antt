-- What is refused with valid replies, over the states that the refusal itself tells.
use Rattle.std.proofs.Common.{◌≡◌, ℕ, Bool, true, false, Option, Result, Ok, Err, refl, ap, ◌∙◌}
use Rattle.fetch_update.specs.declared.update.Error.{Error as UpdateError}
use Rattle.fetch_conversation.specs.Conversation.{HasValidReplies}
use Rattle.fetch_conversation.specs.Errors.{is_free_listing, is_interrupted, is_worktree_fault}
use Rattle.fetch_conversation.specs.declared.fetch.Error.TheVariants as receive
use Rattle.fetch_conversation.proofs.Valid.{never_refused}
use Rattle.fetch_remote.specs.Errors.{receiving, is_free, is_yes}
use Rattle.fetch_remote.specs.Fetching.{apply_options_in}
use Rattle.fetch_remote.specs.Judging.{judged_of}
use Rattle.fetch_remote.specs.Applying.{policy_in}
use Rattle.fetch_remote.specs.Stages.{bound_of, listing_stage, conversation}
use Rattle.fetch_remote.specs.Valid.{AreJudgeable}
use Rattle.fetch_remote.specs.declared.fetching.fetch_error.FetchError.{FetchError}
use Rattle.fetch_remote.specs.declared.fetching.fetch_error.FetchError.TheVariants as fetch
use Rattle.fetch_remote.proofs.Broken.{free_listing, whole_receiving}
use Rattle.fetch_remote.proofs.Complete.{judges_it}
use Rattle.fetch_journal.specs.declared.error.SharedError.TheVariants as errors
use Rattle.fetch_shared.specs.declared.receipt.Receipt.{Receipt}
use Rattle.fetch_shared.specs.Fetching.{Call, IsUnlisted, IsUnanswered, IsStopped}
use Rattle.fetch_shared.specs.Applying.{Matter, Course, IsUnjudged}
use Rattle.fetch_shared.specs.Conversed.{Line}

not_both : {X E : Type 0} (r : Result X E) (e : E) (x : X) → r ≡ Err e → r ≡ Ok x → ⊥
not_both r e x p q = absurd (cc (p, q))

pub listing_free : (line : Line) (c : Call) (receipt : Receipt) (e : FetchError) → IsUnlisted line c receipt e → HasValidReplies (bound_of c.given) line.old line.new (listing_stage c.given) → is_free e ≡ true
listing_free line c receipt e h v =
    ap is_free h.broke.told ∙ (free_listing h.broke.cause ∙ never_refused is_free_listing is_interrupted line.answers (bound_of c.given) line.old line.new (listing_stage c.given) h.broke.cause h.broke.broke v)

pub receiving_free : (line : Line) (c : Call) (receipt : Receipt) (e : FetchError) → (h : IsUnanswered line c receipt e) → HasValidReplies (bound_of c.given) line.old line.new (conversation c.given h.seen.repository.state) → is_free e ≡ true
receiving_free line c receipt e h v =
    let s = h.seen.repository.state in
    ap is_free h.broke.told
    ∙ never_refused is_free is_yes line.answers (bound_of c.given) line.old line.new (conversation c.given s) (receiving h.broke.cause)
    (whole_receiving line.answers line.old h.broke.between line.new c.given s h.broke.listed h.broke.behind h.broke.cause h.broke.list h.broke.broke) v

pub unjudged_free : (m : Matter) (c : Course) (judged place : Option ℕ) (cause : UpdateError) → (u : IsUnjudged m c judged place cause) → AreJudgeable (policy_in u.taken.seen.repository.state m.options u.by.trees) m.told.listed.ref_map → is_worktree_fault cause ≡ true
unjudged_free m c judged place cause u able = by (is_worktree_fault cause) refl
  where
    by : (b : Bool) → is_worktree_fault cause ≡ b → b ≡ true
    by true sure = refl
    by false sure =
        let p = policy_in u.taken.seen.repository.state m.options u.by.trees in
        let j = judges_it p m.told.listed.ref_map able in
        absurd (not_both (judged_of p m.told.listed.ref_map) (receive.UpdateRefs cause) j.0 (u.by.why sure) j.1)

pub judging_free : (line : Line) (c : Call) (receipt : Receipt) (cause : UpdateError) → (h : IsStopped line c receipt (errors.Fetch (fetch.Receive (receive.UpdateRefs cause))))
    → AreJudgeable (policy_in h.unapplied.taken.seen.repository.state (apply_options_in c.given) h.unapplied.by.trees) h.told.listed.ref_map → is_worktree_fault cause ≡ true
judging_free line c receipt cause h able = unjudged_free _ _ h.judged h.place cause h.unapplied able
