-- A peer that is taken back counts as lost where it failed.
use Rattle.std.proofs.Common.{◌≡◌, ◌≤◌, Bool, true, false, refl, arith, eqb-true}
use Rattle.std.specs.Prelude.{◌==◌, if◌then◌else◌, max}
use Rattle.fetch_base.specs.Calls.{one_more}
use Rattle.fetch_base.specs.Faults.{Faults, Rose}
use Rattle.fetch_remote.specs.Connecting.{with_lost}

later-at : (lost : Faults) (fresh : Bool) → lost.count ≤ (if fresh then lost else record lost { count = max lost.count (one_more lost.count) }).count
later-at lost true = omega arith
later-at lost false = omega arith

pub lost_later : (peer lost : Faults) → lost.count ≤ (with_lost peer lost).count
lost_later peer lost = later-at lost (peer.count == 0)

rose-at : (was is lost : Faults) (fresh : Bool) → (is.count == 0) ≡ fresh → Rose was is → Rose lost (if fresh then lost else record lost { count = max lost.count (one_more lost.count) })
rose-at was is lost true e r = absurd (omega (arith, r, eqb-true is.count 0 e))
rose-at was is lost false e r = omega arith

pub lost_rose : (was is lost : Faults) → Rose was is → Rose lost (with_lost is lost)
lost_rose was is lost r = rose-at was is lost (is.count == 0) refl r
