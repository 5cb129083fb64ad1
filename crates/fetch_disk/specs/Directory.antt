-- A repository's directory, as what is kept of it.
use Rattle.std.specs.Prelude.{◌≡◌, ℕ, List}
use Rattle.std.specs.FinMap as map
use Rattle.fetch_base.specs.Id.{id_cmp}

-- the bytes of each pack, by its name
abbrev pub Packs : Type 0
Packs = map.FinMap id_cmp (List ℕ)

-- the bytes of the journal's file, and the packs
pub record Directory : Type 0 where
  pub journal : List ℕ
  pub packs : Packs

-- the directory with its journal changed, and the packs as they are
abbrev pub in_journal : (List ℕ → List ℕ) → Directory → Directory
in_journal change d = record { journal = change d.journal; packs = d.packs }

-- the directory with its packs changed, and the journal as it is
abbrev pub in_packs : (Packs → Packs) → Directory → Directory
in_packs change d = record { journal = d.journal; packs = change d.packs }

-- a step of the journal, beside which the packs stay
abbrev pub InJournal : (List ℕ → List ℕ → Type 0) → Directory → Directory → Type 0
InJournal Step old new = Step old.journal new.journal × (new.packs ≡ old.packs)

-- a step of the packs, beside which the journal stays
abbrev pub InPacks : (Packs → Packs → Type 0) → Directory → Directory → Type 0
InPacks Step old new = Step old.packs new.packs × (new.journal ≡ old.journal)
