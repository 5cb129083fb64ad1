-- Peers that a clone makes, lets a closure configure, and takes back.
use Rattle.std.specs.Prelude.{◌≡◌, ◌⊎◌, ℕ, Bool, List, Option, None, Result, Ok, Err}
use Rattle.fetch_base.specs.Faults.{Faults, Rose}
use Rattle.fetch_lines.specs.Talks.{Talk}
use Rattle.fetch_lookup.specs.declared.direction.Direction.TheVariants.{Fetch}
use Rattle.fetch_remote.specs.Connecting.{Makes, MakesAtFirst, TakesBack}
use Rattle.fetch_remote.specs.declared.connect.Error.{Error as ConnectError}
use Rattle.fetch_remote.specs.declared.connect.Error.TheVariants as connect
use Rattle.fetch_init.specs.declared.clone.fetch.Error.{Error}
use Rattle.fetch_init.specs.declared.clone.fetch.Error.TheVariants as errors
use Rattle.fetch_clone.specs.declared.prepare_fetch.ConfigureFault.{ConfigureFault}
use Rattle.fetch_clone.specs.declared.prepare_fetch.ConfigureFault.TheVariants as faults

-- ---- peers

-- what the closure's refusal of a peer is told as
abbrev pub turned_away : ConfigureFault → Error
turned_away (faults.Refused text) = errors.RemoteConnection text
turned_away faults.NoMemory = errors.NoMemory

-- what is told of peers, and what the closure for them may answer and leave
pub record Ways (G P : Type 0) : Type 1 where
  pub calls : G → P → Result (Unit {0}) ConfigureFault → G → P → Type 0
  pub told : P → Option Talk
  pub answers : Bool

-- the same from its parts
abbrev pub ways : {G P : Type 0} → (G → P → Result (Unit {0}) ConfigureFault → G → P → Type 0) → (P → Option Talk) → Bool → Ways G P
ways calls told answers = record { calls = calls; told = told; answers = answers }

-- at one moment: the peers still to be made, those taken back, and the addresses at which any were made, where the maker tells
-- them, and the closure for peers
pub record Line (G P : Type 0) : Type 0 where
  pub left : Option (List P)
  pub taken : Option (List P)
  pub addresses : Option (List (List ℕ))
  pub closure : G

-- the same from its parts
abbrev pub line : {G P : Type 0} → Option (List P) → Option (List P) → Option (List (List ℕ)) → G → Line G P
line left taken addresses closure = record { left = left; taken = taken; addresses = addresses; closure = closure }

-- The next peer was made, at this address.
pub record IsMade {G P : Type 0} (url : Option (List ℕ)) (before after : Line G P) (peer : P) : Type 0 where
  pub next : Makes {E = ConnectError} before.left after.left (Ok peer)
  pub at : MakesAtFirst {E = ConnectError} url before.addresses after.addresses (Ok peer)
  pub kept : after.taken ≡ before.taken

-- The next peer was made at this address, and the closure, called on it, agreed. It stands as the closure left it.
pub record IsReached {G P : Type 0} (w : Ways G P) (url : Option (List ℕ)) (before after : Line G P) (peer : P) : Type 0 where
  pub made : P
  pub next : IsMade url before after made
  pub agreed : w.calls before.closure made (Ok tt) after.closure peer

-- A peer was taken back, as it stands.
pub record IsReturned {G P : Type 0} (before after : Line G P) (peer : P) : Type 0 where
  pub given : TakesBack before.taken after.taken peer
  pub same_left : after.left ≡ before.left
  pub same_addresses : after.addresses ≡ before.addresses
  pub same_closure : after.closure ≡ before.closure

-- The next peer was made at this address, and the closure, called on it, refused so. The peer was taken back as the closure
-- left it.
pub record IsTurnedAway {G P : Type 0} (w : Ways G P) (url : Option (List ℕ)) (before after : Line G P)
    (fault : ConfigureFault) : Type 0 where
  pub made : P
  pub next : Makes {E = ConnectError} before.left after.left (Ok made)
  pub at : MakesAtFirst {E = ConnectError} url before.addresses after.addresses (Ok made)
  pub peer : P
  pub refused : w.calls before.closure made (Err fault) after.closure peer
  pub given : TakesBack before.taken after.taken peer

-- Why no peer was reached, by what the closure may have refused and by what holds where none was made: there is no address; the
-- maker failed, which has its count; or the closure refused.
abbrev pub IsUnreached : (ConfigureFault → Type 0) → Type 0 → Faults → Faults → Option (List ℕ) → Error → Type 0
IsUnreached refused unmade was is url (errors.Connect (connect.MissingUrl direction)) = (url ≡ None) × (direction ≡ Fetch) × unmade
IsUnreached refused unmade was is url (errors.Connect connect.Connect) = Rose was is × unmade
IsUnreached refused unmade was is url (errors.Connect connect.NoMemory) = ⊥
IsUnreached refused unmade was is url (errors.RemoteConnection text) = refused (faults.Refused text)
IsUnreached refused unmade was is url errors.NoMemory = unmade ⊎ refused faults.NoMemory
IsUnreached refused unmade was is url e = ⊥
