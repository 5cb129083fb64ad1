-- The conversation of a fetch over a plan, as its stages hold it.
use Rattle.std.proofs.Common.{◌≡◌, ℕ, Bool, List, [], Option, Some, None, Ok, Err, refl, sym, ap, ◌∙◌, subst, inl, inr}
use Rattle.std.specs.Prelude.{IfSome}
use Rattle.fetch_pack.specs.Once.{AreNamed}
use Rattle.fetch_store.specs.Graph.{graph_of}
use Rattle.fetch_lines.specs.Talks.{Talk}
use Rattle.fetch_conversation.specs.Conversation.{Converses}
use Rattle.fetch_conversation.specs.Errors.{is_free_listing, is_free_receiving, is_interrupted, is_stopped}
use Rattle.fetch_conversation.specs.ListStage.{ListedValue, shown, pending_of}
use Rattle.fetch_conversation.specs.declared.conversing.Received.{Received}
use Rattle.fetch_conversation.specs.declared.fetch.Error.{Error as ReceiveError}
use Rattle.fetch_conversation.specs.declared.listing.Listed.{Listed}
use Rattle.fetch_conversation.specs.declared.prepare.Error.{Error as PrepareError}
use Rattle.fetch_base.specs.declared.id.ObjectId.{ObjectId}
use Rattle.fetch_remote.specs.Errors.{preparing, receiving}
use Rattle.fetch_remote.specs.Form.{Given}
use Rattle.fetch_remote.specs.Stages.{bound_of, wants_in, terms_in, listing_stage, pack_stage}
use Rattle.fetch_remote.specs.Repositories.{State}
use Rattle.fetch_remote.specs.Conversed.{HasTold}
use Rattle.fetch_remote.proofs.Received.{is_received}
use Rattle.fetch_journal.specs.declared.error.SharedError.{SharedError}
use Rattle.fetch_journal.specs.declared.error.SharedError.TheVariants as errors
use Rattle.fetch_journal.specs.Errors.{fetching}
use Rattle.fetch_shared.specs.Passes.{Holder}
use Rattle.fetch_shared.specs.Seen.{IsStateAt}
use Rattle.fetch_journal.specs.Shared.{SharedValue}
use Rattle.fetch_shared.specs.Conversed.{Line, HasConversedOver, HasBroken}
use Rattle.fetch_shared.proofs.Named.{IsNamed, named_received}

abbrev line_of : Bool → Option Talk → Option Talk → Line
line_of answers old new = record { answers = answers; old = old; new = new }

-- both stages came to their ends
pub has_conversed_over : (answers : Bool) (old mid new : Option Talk) (g : Given) (before after : Holder) (count : ℕ) (seen : SharedValue) (listed now : Listed) (wants : List ObjectId) (r : Option Received)
    → IsStateAt before.shared.opening before.front after.front count seen → after.front ≡ seen.journal → shown now ≡ shown listed → wants ≡ wants_in g seen.repository.state (shown listed).ref_map
    → Converses is_free_listing is_interrupted answers (bound_of g) old mid [] (pending_of listed) (listing_stage g) (Ok (shown listed))
    → Converses is_free_receiving is_stopped answers (bound_of g) mid new (pending_of listed) (pending_of now) (pack_stage g seen.repository.state (shown listed)) (Ok r)
    → HasConversedOver (line_of answers old new) g before after count (record { listed = now; wants = wants; received = r })
has_conversed_over answers old mid new g before after count seen listed now wants r at front same wanted h k = record {
  seen = seen;
  at = at;
  front = front;
  told = subst (λ (l : ListedValue). HasTold answers old new g seen.repository.state l r (pending_of now)) (sym same) (record { between = mid; behind = pending_of listed; list = h.held; pack = k.held });
  wants = wanted ∙ sym (ap (λ (l : ListedValue). wants_in g seen.repository.state l.ref_map) same);
}

-- the references couldn't be listed
pub broke_listing : (answers : Bool) (old new : Option Talk) (g : Given) (before after : Holder) (cause : PrepareError) (e : SharedError) → e ≡ fetching (preparing cause)
    → Converses is_free_listing is_interrupted answers (bound_of g) old new [] [] (listing_stage g) (Err cause) → HasBroken (line_of answers old new) g before after None e
broke_listing answers old new g before after cause e is h = inl (record { unplanned = refl; cause = preparing cause; told = is; broke = record { cause = cause; told = refl; broke = h.held } })

pub broke_planning : (answers : Bool) (old new : Option Talk) (g : Given) (before after : Holder) (listed : Listed) (e : SharedError) → e ≡ errors.NoMemory
    → Converses is_free_listing is_interrupted answers (bound_of g) old new [] (pending_of listed) (listing_stage g) (Ok (shown listed)) → HasBroken (line_of answers old new) g before after None e
broke_planning answers old new g before after listed e is h = inr (inl (record { unplanned = refl; memory = is; listed = shown listed; behind = pending_of listed; list = h.held }))

pub broke_receiving : (answers : Bool) (old mid new : Option Talk) (g : Given) (before after : Holder) (count : ℕ) (seen : SharedValue) (listed : Listed) (rest : List ℕ) (cause : ReceiveError) (e : SharedError)
    → IsStateAt before.shared.opening before.front after.front count seen → e ≡ fetching (receiving cause)
    → Converses is_free_listing is_interrupted answers (bound_of g) old mid [] (pending_of listed) (listing_stage g) (Ok (shown listed))
    → Converses is_free_receiving is_stopped answers (bound_of g) mid new (pending_of listed) rest (pack_stage g seen.repository.state (shown listed)) (Err cause)
    → HasBroken (line_of answers old new) g before after (Some count) e
broke_receiving answers old mid new g before after count seen listed rest cause e at is h k =
    inr (inr (record {
      count = count;
      planned_is = refl;
      seen = seen;
      at = at;
      cause = receiving cause;
      told = is;
      broke = record { between = mid; behind = pending_of listed; listed = shown listed; list = h.held; cause = cause; told = refl; broke = k.held };
    }))

-- what was received is of the hash that the settings name
pub kind_received : (answers : Bool) (mid new : Option Talk) (g : Given) (s : State) (listed : Listed) (rest : List ℕ) (r : Option Received)
    → Converses is_free_receiving is_stopped answers (bound_of g) mid new (pending_of listed) rest (pack_stage g s (shown listed)) (Ok r) → listed.handshake.object_hash ≡ g.setup.settings.kind
kind_received answers mid new g s listed rest r k = sym (is_received (bound_of g) (graph_of s.objects) (terms_in g s (shown listed)) _ r _ (k.held.answered [])).kind

-- and each id is its object's hash
pub named_by : (answers : Bool) (mid new : Option Talk) (g : Given) (s : State) (listed : Listed) (rest : List ℕ) (r : Option Received)
    → Converses is_free_receiving is_stopped answers (bound_of g) mid new (pending_of listed) rest (pack_stage g s (shown listed)) (Ok r) → IfSome r (λ x. AreNamed x.objects)
named_by answers mid new g s listed rest r k = by r (named_received (bound_of g) (graph_of s.objects) (terms_in g s (shown listed)) _ r _ (k.held.answered []))
  where
    by : (r : Option Received) → IsNamed r → IfSome r (λ x. AreNamed x.objects)
    by None h = tt
    by (Some r) h = h
