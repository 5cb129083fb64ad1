-- What a pass brought in a turn.
use Rattle.std.proofs.Common.{◌≡◌, ◌⊎◌, Bool, true, false, List, ◌++◌, Option, None, Some, Result, Ok, Err, IfOk, refl, sym, ap, ◌∙◌, inl, inr}
use Rattle.std.proofs.lemmas.List.{append-nil}
use Rattle.fetch_base.specs.declared.id.ObjectId.{ObjectId}
use Rattle.fetch_conversation.specs.declared.conversing.Received.{Received}
use Rattle.fetch_conversation.specs.declared.negotiate.Negotiate.{Negotiate}
use Rattle.fetch_remote.specs.Applying.{to_take, pack_of}
use Rattle.fetch_shared.specs.declared.pack_taken.PackTaken.{PackTaken}
use Rattle.fetch_journal.specs.declared.error.SharedError.{SharedError}
use Rattle.fetch_journal.specs.declared.error.SharedError.TheVariants as errors
use Rattle.fetch_journal.specs.declared.plan.Taken.{Taken}
use Rattle.fetch_shared.specs.PackTaken.{take_entries, HasLooked, HasTakenPack, IsPackUntaken}
use Rattle.fetch_journal.specs.Journals.{entries_of}
use Rattle.fetch_journal.specs.Machine.Event.{Take, Snapshot}
use Rattle.fetch_shared.specs.Passes.{Holder, IsBack, IsTurn}
use Rattle.fetch_shared.specs.Seen.{IsRefusedAt}
use Rattle.fetch_journal.specs.Shared.{done, snapshot_of}
use Rattle.fetch_shared.proofs.Saw.{saw, refuses}

pub has_looked : (before after : Holder) (negotiate : Option Negotiate) (taken : Taken) → IsBack before after → IsTurn before after Snapshot snapshot_of (Ok taken) → entries_of before.number after.front ≡ entries_of before.number before.front
    → HasLooked before after negotiate (record { taken = taken; negotiate = negotiate; pack = None })
has_looked before after negotiate taken back t same = record {
  saw = record {
    seen = done t.found Snapshot;
    at = saw before after Snapshot snapshot_of taken taken.place back t (sym (ap (λ (x : Taken). x.place) t.tells));
    front = t.entered;
    taken = t.tells;
    added = same ∙ sym (append-nil (entries_of before.number before.front));
  };
  negotiate_is = refl;
  pack = refl;
}

pub has_taken : (before after : Holder) (wants : List ObjectId) (r : Received) (taken : Taken) → IsBack before after
    → IsTurn before after (Take before.number wants (pack_of r)) (λ v. snapshot_of (done v (Take before.number wants (pack_of r)))) (Ok taken)
    → entries_of before.number after.front ≡ entries_of before.number before.front ++ take_entries before.number (Some r)
    → HasTakenPack before after false wants (Some r) (record { taken = taken; negotiate = Some r.negotiate; pack = r.pack })
has_taken before after wants r taken back t added = record {
  saw = record {
    seen = done t.found (Take before.number wants (pack_of r));
    at = saw before after (Take before.number wants (pack_of r)) (λ v. snapshot_of (done v (Take before.number wants (pack_of r)))) taken taken.place back t (sym (ap (λ (x : Taken). x.place) t.tells));
    front = t.entered;
    taken = t.tells;
    added = added;
  };
  allowed = record {
    found = t.found;
    at = record { opened = t.meets.opening; kept = t.meets.kept; goes_on = t.meets.begins; begins = record { rest = take_entries before.number (Some r); is = sym t.entered }; count_is = refl };
    allowed = t.answers;
    left_is = refl;
  };
  negotiate_is = refl;
  pack = refl;
}

pub untaken : (before after : Holder) (wants : List ObjectId) (r : Received) (e : SharedError) → IsBack before after
    → IsTurn before after (Take before.number wants (pack_of r)) (λ v. snapshot_of (done v (Take before.number wants (pack_of r)))) (Err e)
    → entries_of before.number after.front ≡ entries_of before.number before.front → IsPackUntaken before after false wants (Some r) e
untaken before after wants r e back t none = record {
  none = none;
  why = by (refuses before after (Take before.number wants (pack_of r)) (λ v. snapshot_of (done v (Take before.number wants (pack_of r)))) e back t);
}
  where
    by : (e ≡ errors.NoMemory) ⊎ IsRefusedAt before.shared.opening before.front after.front (Take before.number wants (pack_of r)) e
        → (e ≡ errors.NoMemory) ⊎ ((reply : Received) × (to_take false (Some r) ≡ Some reply) × IsRefusedAt before.shared.opening before.front after.front (Take before.number wants (pack_of reply)) e)
    by (inl is) = inl is
    by (inr refused) = inr (r, refl, refused)

-- where nothing was received, nothing is taken
looked_none : (before after : Holder) (dry_run : Bool) (wants : List ObjectId) (b : PackTaken) → HasLooked before after None b → HasTakenPack before after dry_run wants None b
looked_none before after true wants b h = record { saw = h.saw; allowed = tt; negotiate_is = h.negotiate_is; pack = h.pack }
looked_none before after false wants b h = record { saw = h.saw; allowed = tt; negotiate_is = h.negotiate_is; pack = h.pack }

pub looked_so : {E : Type 0} (before : Holder) (dry_run : Bool) (wants : List ObjectId) (result : Result (Holder × PackTaken) E) → IfOk result (λ r. HasLooked before r.0 None r.1) → IfOk result (λ r. HasTakenPack before r.0 dry_run wants None r.1)
looked_so before dry_run wants (Ok r) h = looked_none before r.0 dry_run wants r.1 h
looked_so before dry_run wants (Err e) h = tt
