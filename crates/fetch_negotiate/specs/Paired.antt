-- What the pairs of commits keep, step by step.
use Rattle.std.specs.Prelude.{◌≡◌, ℕ, ◌≤◌, length, take, unwrap_or}
use Rattle.std.specs.BTreeMap as tree
use Rattle.std.specs.BTreeMap.{BTreeMap}
use Rattle.fetch_base.specs.declared.id.ObjectId.{ObjectId}
use Rattle.fetch_base.specs.Id.{id_cmp}
use Rattle.fetch_negotiate.specs.declared.skip.Skip.{Skip}
use Rattle.fetch_negotiate.specs.declared.skips.Skips.{Skips}
use Rattle.fetch_negotiate.specs.Skips.{Pairs, no_skip, pair_of}

-- the pair that a commit was given, or 0 and 0
abbrev pub skip_in : BTreeMap ObjectId Skip → ObjectId → Skip
skip_in pairs id = unwrap_or (tree.get id_cmp pairs id) no_skip

-- Each commit has the pair of the first ones handed.
pub record AreEntered (handed : Pairs) (entered : ℕ) (pairs : BTreeMap ObjectId Skip) : Type 0 where
  pub entered_in : entered ≤ length handed
  pub each : (id : ObjectId) → skip_in pairs id ≡ pair_of (take entered handed) id

-- The map has the pairs that were handed on.
abbrev pub IsPaired : Skips → Type 0
IsPaired s = AreEntered s.handed.items s.entered s.pairs
