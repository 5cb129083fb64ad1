-- Inputs that are longer than a scene may be.
use Rattle.std.proofs.Common.{◌≡◌, ℕ, suc, ◌<◌, true, List, length, replicate, Option, Some, None, Err, nat_lt, refl, arith}
use Rattle.std.proofs.lemmas.List.{length-replicate}
use Rattle.std.proofs.lemmas.Bool.Decides.{nat_tests}
use Rattle.fetch_cli.specs.Io.{IsLongerThan}
use Rattle.fetch_scene.specs.Scene.{limit}
use Rattle.race_cli.specs.RaceInputs.{IsRaceInput}
use Rattle.race_cli.specs.RaceScenes.{race_scene_of}

long : (bytes : List ℕ) → limit < length bytes → race_scene_of bytes ≡ Err limit
unfolding race_scene_of
long bytes h =
    let t : nat_lt limit (length bytes) ≡ true = grind (arith, nat_tests) in
    rw t refl

next : (n : ℕ) → n < suc n
next n = omega arith

-- a source that tells nothing may have had any bytes
untold : (n : ℕ) → limit < n → IsRaceInput None (Err limit)
untold n h =
    let far : limit < length (replicate {A = ℕ} n 0) = rw (length-replicate {A = ℕ} n 0) h in
    record { bytes = replicate {A = ℕ} n 0; read = tt; is = long (replicate {A = ℕ} n 0) far }

pub too_long : (input : Option (List ℕ)) → IsLongerThan limit input → IsRaceInput input (Err limit)
too_long None h = untold (suc limit) (next limit)
too_long (Some bytes) h = record { bytes = bytes; read = refl; is = long bytes h }
