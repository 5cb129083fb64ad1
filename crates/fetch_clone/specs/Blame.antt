-- Who a listing of a clone blames: the maker of its peers, or the interrupt, and only where its own count rose.
use Rattle.std.specs.Prelude.{◌≡◌, ◌≤◌, ℕ, Result, IsErrOf, OnOk}
use Rattle.fetch_base.specs.Faults.{Faults, Rose, Counts}
use Rattle.fetch_conversation.specs.declared.prepare.Error.TheVariants as prepare
use Rattle.fetch_conversation.specs.declared.ref_map.Error.TheVariants as ref_map
use Rattle.fetch_clone.specs.Heeded.{SaysNo}
use Rattle.fetch_init.specs.declared.clone.fetch.Error.{Error}
use Rattle.fetch_init.specs.declared.clone.fetch.Error.TheVariants as errors

-- what a first listing tells of a peer that failed
abbrev pub lost_first : Error
lost_first = errors.RefMap ref_map.Transport

-- what it tells of an interrupt that said yes
abbrev pub stopped_first : Error
stopped_first = errors.RefMap ref_map.Interrupted

-- the same of a peer, by the listing of what is fetched
abbrev pub lost_listing : Error
lost_listing = errors.PrepareFetch (prepare.RefMap ref_map.Transport)

-- and of the interrupt
abbrev pub stopped_listing : Error
stopped_listing = errors.PrepareFetch (prepare.RefMap ref_map.Interrupted)

-- what is told of a maker of peers that is lent: how often it failed, how often a peer of it did, and how many peers are out
pub record LentMaker : Type 0 where
  pub faults : Faults
  pub lost : Faults
  pub out : ℕ

-- the same, of a maker that is seen so
abbrev pub lent_maker : {C : Type 0} → (C → Faults) → (C → Faults) → (C → ℕ) → C → LentMaker
lent_maker faults lost out maker = record { faults = faults maker; lost = lost maker; out = out maker }

-- A maker that is lent: no count of it falls, that of lost peers rose where this refusal is told, and so many peers are out.
pub record BlamesMaker {C T : Type 0} (seen : C → LentMaker) (old new : C) (out : ℕ) (told : Error) (result : Result T Error) : Type 0 where
  pub counts : Counts (seen old).faults (seen new).faults
  pub out_is : (seen new).out ≡ out
  pub lost : (seen old).lost.count ≤ (seen new).lost.count
  pub cause : IsErrOf result told → Rose (seen old).lost (seen new).lost

-- An interrupt that is lent: its count of yes answers never falls, and rose where this refusal is told. Where the call is done,
-- it said no each time.
pub record BlamesStop {I T : Type 0} (yes : I → Faults) (will : I → ℕ → Type 0) (old new : I) (told : Error)
    (result : Result T Error) : Type 0 where
  pub counts : Counts (yes old) (yes new)
  pub cause : IsErrOf result told → Rose (yes old) (yes new)
  pub quiet : OnOk result ((yes new).count ≡ (yes old).count)
  pub noes : OnOk result (SaysNo (will old) (will new))
