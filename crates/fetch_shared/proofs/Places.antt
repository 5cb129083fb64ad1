-- The places that receipts tell are in order.
use Rattle.std.proofs.Common.{◌≡◌, ℕ, ◌≤◌, ◌<◌, Bool, true, false, List, length, Option, None, Some, refl, sym, ap, ◌∙◌, subst, inl, inr, arith}
use Rattle.std.specs.Prelude.{◌⊎◌, IfSome}
use Rattle.fetch_conversation.specs.declared.fetch.Error.TheVariants as receive
use Rattle.fetch_remote.specs.Form.{Given}
use Rattle.fetch_remote.specs.declared.fetching.fetch_error.FetchError.TheVariants as fetch
use Rattle.fetch_remote.specs.declared.fetching.outcome.Outcome.{Outcome}
use Rattle.fetch_journal.specs.declared.entry.Entry.{Entry}
use Rattle.fetch_journal.specs.declared.error.SharedError.{SharedError}
use Rattle.fetch_journal.specs.declared.error.SharedError.TheVariants as errors
use Rattle.fetch_shared.specs.declared.exchange.Exchange.{Exchange}
use Rattle.fetch_remote.specs.RepositoryValues.{RepositoryValue}
use Rattle.fetch_shared.specs.Fetching.{receipt_of}
use Rattle.fetch_shared.specs.Passes.{Holder, IsBack}
use Rattle.fetch_shared.specs.Receipts.{IsReceipt}
use Rattle.fetch_shared.specs.Seen.{IsStateAt}
use Rattle.fetch_shared.specs.Applying.{Matter, Course, HasTaken, Commits, IsApplied, ForgotEarly, ForgotMaking, ForgotLate, IsUnapplied}
use Rattle.fetch_journal.specs.Shared.{SharedValue}
use Rattle.fetch_shared.specs.Conversed.{Line, HasConversedOver, HasBroken}
use Rattle.fetch_journal.proofs.Journals.{begins_length}

-- so many entries lie between two fronts
abbrev Between : List Entry → List Entry → ℕ → Type 0
Between earlier front n = (length earlier ≤ n) × (n ≤ length front)

state_between : (opening : RepositoryValue) (earlier front : List Entry) (count : ℕ) (v : SharedValue) → IsStateAt opening earlier front count v → Between earlier front count
state_between opening earlier front count v s =
    let low : length earlier ≤ length v.journal = begins_length earlier v.journal s.goes_on in
    let high : length v.journal ≤ length front = begins_length v.journal front s.begins in
    let is : length v.journal ≡ count = s.count_is in
    (omega arith, omega arith)

-- a place behind what the verdicts saw
abbrev Behind : List Entry → Option ℕ → ℕ → Type 0
Behind front judged n = IfSome judged (λ m. m ≤ n) × (n < length front)

record Places (earlier front : List Entry) (seen at : Option ℕ) : Type 0 where
  pub judged : IfSome seen (Between earlier front)
  pub place : IfSome at (Behind front seen)

none_placed : (earlier front : List Entry) (judged place : Option ℕ) → IfSome judged (Between earlier front) → place ≡ None → Places earlier front judged place
none_placed earlier front judged place h is = record { judged = h; place = subst (λ (o : Option ℕ). IfSome o (Behind front judged)) (sym is) tt }

none_at_all : (earlier front : List Entry) (judged place : Option ℕ) → judged ≡ None → place ≡ None → Places earlier front judged place
none_at_all earlier front judged place j p = none_placed earlier front judged place (subst (λ (o : Option ℕ). IfSome o (Between earlier front)) (sym j) tt) p

taken_between : (m : Matter) (c : Course) (n : ℕ) → HasTaken m c n → Between c.planned c.front n
taken_between m c n h = state_between c.opening c.planned c.front n h.seen h.at

judged_between : (m : Matter) (c : Course) (judged : Option ℕ) (n : ℕ) → judged ≡ Some n → HasTaken m c n → IfSome judged (Between c.planned c.front)
judged_between m c judged n is h = subst (λ (o : Option ℕ). IfSome o (Between c.planned c.front)) (sym is) (taken_between m c n h)

committed_behind : (dry_run : Bool) (number judged : ℕ) (own front : List Entry) (entry : Entry) (place : Option ℕ) → Commits dry_run number judged own front entry place → IfSome place (Behind front (Some judged))
committed_behind true number judged own front entry place h = subst (λ (o : Option ℕ). IfSome o (Behind front (Some judged))) (sym h.0) tt
committed_behind false number judged own front entry place h = subst (λ (o : Option ℕ). IfSome o (Behind front (Some judged))) (sym h.place_is) (h.behind, h.within)

applied_places : (m : Matter) (c : Course) (judged : ℕ) (place : Option ℕ) (outcome : Outcome) → IsApplied m c judged place outcome → Places c.planned c.front (Some judged) place
applied_places m c judged place outcome s = record { judged = taken_between m c judged s.by.taken; place = committed_behind m.options.dry_run c.number judged _ c.front _ place s.commits }

forgotten_places : (m : Matter) (c : Course) (judged place : Option ℕ) → place ≡ None → ForgotEarly c judged ⊎ (ForgotMaking m c judged ⊎ ForgotLate m c judged) → Places c.planned c.front judged place
forgotten_places m c judged place is (inl h) = none_at_all c.planned c.front judged place h.unjudged is
forgotten_places m c judged place is (inr (inl h)) = none_at_all c.planned c.front judged place h.unjudged is
forgotten_places m c judged place is (inr (inr h)) = none_placed c.planned c.front judged place (judged_between m c judged h.count h.judged_is h.taken) is

unapplied_places : (m : Matter) (c : Course) (judged place : Option ℕ) (e : SharedError) → IsUnapplied m c judged place e → Places c.planned c.front judged place
unapplied_places m c judged place (errors.Disconnected link) u = none_at_all c.planned c.front judged place u.unjudged u.unplaced
unapplied_places m c judged place (errors.Collision id) u = none_at_all c.planned c.front judged place u.unjudged u.unplaced
unapplied_places m c judged place (errors.EditReferences name found) u = none_placed c.planned c.front judged place (judged_between m c judged u.count u.judged_is u.by.taken) u.unplaced
unapplied_places m c judged place errors.NoMemory u = forgotten_places m c judged place u.unplaced u.stands
unapplied_places m c judged place (errors.Fetch (fetch.Receive (receive.KeepFile path))) u = none_at_all c.planned c.front judged place u.unjudged u.unplaced
unapplied_places m c judged place (errors.Fetch (fetch.Receive (receive.UpdateRefs cause))) u = none_placed c.planned c.front judged place (judged_between m c judged u.count u.judged_is u.taken) u.unplaced
unapplied_places m c judged place (errors.Fetch (fetch.Receive (receive.RemovePackKeepFile path))) u = record {
  judged = judged_between m c judged u.count u.judged_is u.by.taken;
  place = subst (λ (o : Option ℕ). IfSome place (Behind c.front o)) (sym u.judged_is) (committed_behind m.options.dry_run c.number u.count _ c.front _ place u.commits);
}
unapplied_places m c judged place (errors.NotClosed link) u = absurd u
unapplied_places m c judged place (errors.Delete cause) u = absurd u
unapplied_places m c judged place (errors.Fetch (fetch.Prepare cause)) u = absurd u
unapplied_places m c judged place (errors.Fetch fetch.NoMemory) u = absurd u
unapplied_places m c judged place (errors.Fetch (fetch.Receive (receive.NoMapping specs n))) u = absurd u
unapplied_places m c judged place (errors.Fetch (fetch.Receive (receive.IncompatibleObjectHash local remote))) u = absurd u
unapplied_places m c judged place (errors.Fetch (fetch.Receive (receive.Disconnected link))) u = absurd u
unapplied_places m c judged place (errors.Fetch (fetch.Receive (receive.RejectShallowRemoteConfig value))) u = absurd u
unapplied_places m c judged place (errors.Fetch (fetch.Receive (receive.NegotiationAlgorithmConfig value))) u = absurd u
unapplied_places m c judged place (errors.Fetch (fetch.Receive (receive.PackThreads value))) u = absurd u
unapplied_places m c judged place (errors.Fetch (fetch.Receive (receive.Fetch e))) u = absurd u
unapplied_places m c judged place (errors.Fetch (fetch.Receive receive.Client)) u = absurd u
unapplied_places m c judged place (errors.Fetch (fetch.Receive receive.Interrupted)) u = absurd u
unapplied_places m c judged place (errors.Fetch (fetch.Receive (receive.RejectShallowRemote id))) u = absurd u
unapplied_places m c judged place (errors.Fetch (fetch.Receive (receive.Pack e))) u = absurd u
unapplied_places m c judged place (errors.Fetch (fetch.Receive (receive.Collision id))) u = absurd u
unapplied_places m c judged place (errors.Fetch (fetch.Receive receive.NoMemory)) u = absurd u

-- ---- receipts

pub receipt_none : (before after : Holder) → IsReceipt before after (receipt_of before None None None)
receipt_none before after = record { pass = refl; planned = tt; judged = tt; place = tt }

receipt_planned : (before after : Holder) (count : ℕ) (seen : SharedValue) → IsStateAt before.shared.opening before.front after.front count seen → IsReceipt before after (receipt_of before (Some count) None None)
receipt_planned before after count seen at = record { pass = refl; planned = state_between before.shared.opening before.front after.front count seen at; judged = tt; place = tt }

pub receipt_broken : (line : Line) (g : Given) (before after : Holder) (planned : Option ℕ) (e : SharedError) → HasBroken line g before after planned e → IsReceipt before after (receipt_of before planned None None)
receipt_broken line g before after planned e (inl h) = subst (λ (o : Option ℕ). IsReceipt before after (receipt_of before o None None)) (sym h.unplanned) (receipt_none before after)
receipt_broken line g before after planned e (inr (inl h)) = subst (λ (o : Option ℕ). IsReceipt before after (receipt_of before o None None)) (sym h.unplanned) (receipt_none before after)
receipt_broken line g before after planned e (inr (inr h)) = subst (λ (o : Option ℕ). IsReceipt before after (receipt_of before o None None)) (sym h.planned_is) (receipt_planned before after h.count h.seen h.at)

module _ (line : Line) (g : Given) (before mid after : Holder) (count : ℕ) (t : Exchange) (h : HasConversedOver line g before mid count t) (later : IsBack mid after) where
  receipt_with : (judged place : Option ℕ) → Places mid.front after.front judged place → IsReceipt before after (receipt_of before (Some count) judged place)
  receipt_with judged place p =
      let low = state_between before.shared.opening before.front mid.front count h.seen h.at in
      let more : length mid.front ≤ length after.front = begins_length mid.front after.front later.begins in
      let is : length mid.front ≡ count = ap length h.front ∙ h.at.count_is in
      record { pass = refl; planned = (low.0, omega arith); judged = by judged p.judged; place = p.place }
    where
      by : (judged : Option ℕ) → IfSome judged (Between mid.front after.front) → IfSome judged (λ n. IfSome (Some count) (λ m. m ≤ n) × (n ≤ length after.front))
      by None k = tt
      by (Some n) k = let is : length mid.front ≡ count = ap length h.front ∙ h.at.count_is in (omega arith, k.1)

  pub receipt_applied : (m : Matter) (c : Course) (judged : ℕ) (place : Option ℕ) (outcome : Outcome) → c.planned ≡ mid.front → c.front ≡ after.front → IsApplied m c judged place outcome → IsReceipt before after (receipt_of before (Some count) (Some judged) place)
  receipt_applied m c judged place outcome first last s = receipt_with (Some judged) place (subst (λ (x : List Entry × List Entry). Places x.0 x.1 (Some judged) place) (λ i. (first i, last i)) (applied_places m c judged place outcome s))

  pub receipt_unapplied : (m : Matter) (c : Course) (judged place : Option ℕ) (e : SharedError) → c.planned ≡ mid.front → c.front ≡ after.front → IsUnapplied m c judged place e → IsReceipt before after (receipt_of before (Some count) judged place)
  receipt_unapplied m c judged place e first last u = receipt_with judged place (subst (λ (x : List Entry × List Entry). Places x.0 x.1 judged place) (λ i. (first i, last i)) (unapplied_places m c judged place e u))
