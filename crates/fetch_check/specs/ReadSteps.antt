-- The steps of reading a bundle.
use Rattle.std.specs.Prelude.{◌≡◌, ℕ, Bool, true, false, List, [], ◌∷◌, ◌++◌, length, map, Err}
use Rattle.std.specs.List.{AllByRecursion, concat}
use Rattle.fetch_base.specs.declared.id.Kind.{Kind}
use Rattle.fetch_store.specs.Borders.{IdSet}
use Rattle.fetch_pack.specs.Reading.{Contents}
use Rattle.fetch_refs.specs.Names.{Names}
use Rattle.fetch_lines.specs.declared.lines.line.Line.TheVariants.{Payload}
use Rattle.fetch_check.specs.declared.error.BundleError.{BundleError}
use Rattle.fetch_check.specs.declared.error.BundleError.TheVariants.{Missing, Broken, NameTooLong, Malformed, Pack, NoMemory}
use Rattle.fetch_check.specs.declared.reading.Parts.{Parts}
use Rattle.fetch_check.specs.Bundles.{Said}
use Rattle.fetch_check.specs.Reading.{ArePieces, HoldsWhole, pack_read}
use Rattle.fetch_check.specs.Scanning.{Stand}

-- what the lines say that were read
abbrev pub said_by : Parts → Said
said_by x = record { hash = x.header.hash; names = x.header.refs.names; border = x.header.border; pack = x.pack.items }

-- why the pack isn't read
abbrev pub IsPackRefused : Kind → List ℕ → BundleError → Type 0
IsPackRefused hash pack (Pack e) = pack_read hash pack ≡ Err e
IsPackRefused hash pack NoMemory = Unit {0}
IsPackRefused hash pack (Malformed place) = ⊥
IsPackRefused hash pack (Missing link) = ⊥
IsPackRefused hash pack (Broken broken) = ⊥
IsPackRefused hash pack (NameTooLong name) = ⊥

-- why what the pack holds isn't taken: it is no whole repository, which is told at this place
abbrev pub IsPartRefused : Names → IdSet → Contents → ℕ → BundleError → Type 0
IsPartRefused names border c at (Malformed place) = (place ≡ at) × ¬ HoldsWhole names border c
IsPartRefused names border c at NoMemory = Unit {0}
IsPartRefused names border c at (Pack e) = ⊥
IsPartRefused names border c at (Missing link) = ⊥
IsPartRefused names border c at (Broken broken) = ⊥
IsPartRefused names border c at (NameTooLong name) = ⊥

-- The pieces of a pack that were read, joined, and whether all of them are full.
pub record AreReadTo (bytes : List ℕ) (place : ℕ) (pack : List ℕ) (next : ℕ) (are_full : Bool) : Type 0 where
  pub pieces : List (List ℕ)
  pub joined : pack ≡ concat pieces
  pub stand : Stand bytes place (map (λ (piece : List ℕ). Payload piece) pieces) next
  pub may : ArePieces pieces
  pub full : are_full ≡ true → AllByRecursion (λ piece. length piece ≡ 65000) pieces
  pub short : are_full ≡ false → (piece : List ℕ) → ArePieces (pieces ++ piece ∷ []) → ⊥
