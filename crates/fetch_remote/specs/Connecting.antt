-- Peers that are made and taken back.
use Rattle.std.specs.Prelude.{◌≡◌, ℕ, ◌+◌, ◌-◌, ◌^◌, ◌==◌, min, max, Bool, true, false, not, length, filter, if◌then◌else◌}
use Rattle.std.specs.Prelude.{List, [], ◌∷◌, ◌++◌, ⊤, Option}
use Rattle.std.specs.Prelude.{Some, None, Result, Ok, Err}
use Rattle.fetch_base.specs.Calls.{CallList, one_more}
use Rattle.fetch_base.specs.Faults.{Faults, counted}
use Rattle.fetch_wire.specs.Scripts.{Script}
use Rattle.fetch_lines.specs.declared.peer.SendFault.{SendFault}
use Rattle.fetch_lines.specs.declared.peer.SendFault.TheVariants as sending
use Rattle.fetch_lookup.specs.declared.direction.Direction.{Direction}
use Rattle.fetch_remote.specs.declared.connect.Error.{Error}
use Rattle.fetch_remote.specs.declared.connect.Error.TheVariants as errors

-- one more peer is out where one was made
abbrev pub out_after : {P E : Type 0} → Result P E → ℕ → ℕ
out_after (Ok peer) out = out + 1
out_after (Err e) out = out

-- Where the peers still to be made are told, the first of them is made; after the last one any may be. None goes at a refusal.
abbrev pub Makes : {P E : Type 0} → Option (List P) → Option (List P) → Result P E → Type 0
Makes None now result = now ≡ None
Makes (Some left) now (Err e) = now ≡ Some left
Makes (Some []) now (Ok peer) = now ≡ Some []
Makes (Some (first ∷ left)) now (Ok peer) = (peer ≡ first) × (now ≡ Some left)

-- Where the peers taken back are told, the peer stands after them as it is.
abbrev pub TakesBack : {P : Type 0} → Option (List P) → Option (List P) → P → Type 0
TakesBack None now peer = now ≡ None
TakesBack (Some taken) now peer = now ≡ Some (taken ++ peer ∷ [])

-- Where the addresses of the peers that were made are told, this one's stands after them. None is added at a refusal.
abbrev pub MakesAt : {P E : Type 0} → List ℕ → Option (List (List ℕ)) → Option (List (List ℕ)) → Result P E → Type 0
MakesAt address None now result = now ≡ None
MakesAt address (Some addresses) now (Ok peer) = now ≡ Some (addresses ++ address ∷ [])
MakesAt address (Some addresses) now (Err e) = now ≡ Some addresses

-- The peer is made at the address, if there is one.
abbrev pub MakesAtFirst : {P E : Type 0} → Option (List ℕ) → Option (List (List ℕ)) → Option (List (List ℕ)) → Result P E → Type 0
MakesAtFirst None addresses now result = now ≡ addresses
MakesAtFirst (Some address) addresses now result = MakesAt address addresses now result

-- one more lost peer where this one had failed; a count at its type's end stays there
abbrev pub with_lost : Faults → Faults → Faults
with_lost peer lost = if peer.count == 0 then lost else record lost { count = max lost.count (one_more lost.count) }

-- why a maker failed, as a refusal of the connection
abbrev pub connecting : SendFault → Error
connecting sending.Failed = errors.Connect
connecting sending.NoMemory = errors.NoMemory

-- whether the maker failed
abbrev pub is_of_maker : Error → Bool
is_of_maker (errors.MissingUrl direction) = false
is_of_maker errors.Connect = true
is_of_maker errors.NoMemory = false

-- Without an address that is told, and else it isn't.
abbrev pub IsMissing : {P : Type 0} → Option (List ℕ) → Direction → Result P Error → Type 0
IsMissing None direction (Ok peer) = ⊥
IsMissing None direction (Err e) = e ≡ errors.MissingUrl direction
IsMissing (Some url) direction (Ok peer) = ⊤
IsMissing (Some url) direction (Err (errors.MissingUrl told)) = ⊥
IsMissing (Some url) direction (Err errors.Connect) = ⊤
IsMissing (Some url) direction (Err errors.NoMemory) = ⊤

-- a scripted maker: the peers still to be made, those taken back, the addresses at which any were made, how many are out, the calls that
-- fail, and how many failed
pub record Making : Type 0 where
  pub left : List Script
  pub taken : List Script
  pub addresses : List (List ℕ)
  pub out : ℕ
  pub calls : CallList
  pub failed : ℕ

-- a peer that never failed
abbrev pub is_fresh : Script → Bool
is_fresh peer = peer.failed == 0

-- the peers that were lost, in a count that stays at its type's end
unfoldable pub lost_in : List Script → Faults
lost_in taken = counted (min (length (filter (λ peer. not (is_fresh peer)) taken)) (2 ^ 64 - 1))
