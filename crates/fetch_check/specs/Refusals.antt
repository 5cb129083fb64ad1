-- Why a bundle isn't written.
use Rattle.std.specs.Prelude.{◌↔◌, Bool, true, false, List, Option, Contains, option_map, slice_get}
use Rattle.std.specs.List.Sorted.{IsStrictlySortedBy}
use Rattle.std.specs.Option.{option_or}
use Rattle.fetch_base.specs.declared.id.ObjectId.{ObjectId}
use Rattle.fetch_store.specs.Closed.{Holding, Reached}
use Rattle.fetch_base.specs.Id.{id_cmp}
use Rattle.fetch_refs.specs.Names.{Names}
use Rattle.fetch_check.specs.declared.error.BundleError.{BundleError}
use Rattle.fetch_check.specs.declared.error.BundleError.TheVariants.{Missing, Broken, NameTooLong, NoMemory}
use Rattle.fetch_check.specs.Bundles.{first_long}
use Rattle.fetch_check.specs.Finding.{missing_pairs, broken_of, direct_ids}

-- out of memory
abbrev pub is_memory : BundleError → Bool
is_memory NoMemory = true
is_memory _ = false

-- first a missing link, then a broken reference, then a line that would be too long
abbrev pub write_trouble : Names → Holding → Option BundleError
write_trouble names h =
    option_or (option_map (λ link. Missing link) (slice_get (missing_pairs h) 0))
    (option_or (option_map (λ broken. Broken broken) (slice_get (broken_of names h.objects) 0))
    (option_map (λ name. NameTooLong name) (first_long names)))

-- the ids that the direct references reach, ascending
pub record AreReached (names : Names) (h : Holding) (ids : List ObjectId) : Type 0 where
  pub each : (id : ObjectId) → Contains ids id ↔ Reached h (direct_ids names) id
  pub ascending : IsStrictlySortedBy id_cmp ids
