-- What was received enters a shared repository.
use Rattle.std.specs.Prelude.{◌≡◌, ◌⊎◌, ℕ, Bool, List, [], ◌∷◌, ◌++◌, map, Option, Some, None}
use Rattle.std.specs.Option.{option_map}
use Rattle.fetch_base.specs.declared.id.ObjectId.{ObjectId}
use Rattle.fetch_conversation.specs.declared.conversing.Received.{Received}
use Rattle.fetch_conversation.specs.declared.negotiate.Negotiate.{Negotiate}
use Rattle.fetch_remote.specs.Applying.{to_take, pack_of, pack_read}
use Rattle.fetch_shared.specs.declared.pack_taken.PackTaken.{PackTaken}
use Rattle.fetch_journal.specs.declared.entry.Entry.{Entry}
use Rattle.fetch_journal.specs.declared.entry.Entry.TheVariants as entries
use Rattle.fetch_journal.specs.declared.error.SharedError.{SharedError}
use Rattle.fetch_journal.specs.declared.error.SharedError.TheVariants as errors
use Rattle.fetch_journal.specs.Journals.{entries_of}
use Rattle.fetch_journal.specs.Machine.Event.{Take}
use Rattle.fetch_shared.specs.Passes.{Holder}
use Rattle.fetch_shared.specs.Seen.{IsStateAt, IsRefusedAt, AllowsTake}
use Rattle.fetch_journal.specs.Shared.{SharedValue, snapshot_of}

-- the entry of a take, where something is to be taken
abbrev pub take_entries : ℕ → Option Received → List Entry
take_entries number None = []
take_entries number (Some r) = entries.Take number (map (λ e. e.0) r.objects) r.shallow r.unshallow ∷ []

-- A turn told what stands, which the pass has seen whole: with these entries more of its own.
pub record HasSeen (before after : Holder) (more : List Entry) (b : PackTaken) : Type 0 where
  pub seen : SharedValue
  pub at : IsStateAt before.shared.opening before.front after.front b.taken.place seen
  pub front : after.front ≡ seen.journal
  pub taken : b.taken ≡ snapshot_of seen
  pub added : entries_of before.number after.front ≡ entries_of before.number before.front ++ more

-- Nothing was taken.
pub record HasLooked (before after : Holder) (negotiate : Option Negotiate) (b : PackTaken) : Type 0 where
  pub saw : HasSeen before after [] b
  pub negotiate_is : b.negotiate ≡ negotiate
  pub pack : b.pack ≡ None

-- What was received is taken, but in a dry run, as the state that the turn found allows it.
pub record HasTakenPack (before after : Holder) (dry_run : Bool) (wants : List ObjectId) (r : Option Received)
    (b : PackTaken) : Type 0 where
  pub saw : HasSeen before after (take_entries before.number (to_take dry_run r)) b
  pub allowed : AllowsTake before.shared.opening before.front after.front before.number wants (to_take dry_run r) saw.seen
  pub negotiate_is : b.negotiate ≡ option_map (λ x. x.negotiate) r
  pub pack : b.pack ≡ pack_read dry_run r

-- What was received is refused by the state that the pass has seen, for its first reason; or memory ran out. Nothing is
-- entered.
pub record IsPackUntaken (before after : Holder) (dry_run : Bool) (wants : List ObjectId) (r : Option Received)
    (e : SharedError) : Type 0 where
  pub none : entries_of before.number after.front ≡ entries_of before.number before.front
  pub why : (e ≡ errors.NoMemory) ⊎ ((reply : Received) × (to_take dry_run r ≡ Some reply)
      × IsRefusedAt before.shared.opening before.front after.front (Take before.number wants (pack_of reply)) e)
