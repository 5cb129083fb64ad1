-- The workers that have a share.
use Rattle.std.proofs.Common.{◌≡◌, ℕ, zero, suc, min, List, [], ◌∷◌, length, map, take, Some, sym, ap, ◌∙◌, arith}
use Rattle.std.specs.Prelude.{slice_get}
use Rattle.std.proofs.lemmas.List.{length-map}
use Rattle.fetch_specs.specs.Specs.{Spec}
use Rattle.fetch_race.specs.declared.job.JobRun.{JobRun}
use Rattle.fetch_race.proofs.Rows.{unmapped}
use Rattle.fetch_mirror.specs.Mirroring.{AreWorkers, worker}
use Rattle.fetch_mirror.specs.Shares.{AreShares}

taken_count : {X : Type 0} (n : ℕ) (xs : List X) → length (take n xs) ≡ min n (length xs)
taken_count zero xs = omega arith
taken_count (suc n) [] = omega arith
taken_count (suc n) (x ∷ xs) = omega (arith, taken_count n xs)

of_taken : {X : Type 0} (n : ℕ) (xs : List X) (i : ℕ) (x : X) → slice_get (take n xs) i ≡ Some x → slice_get xs i ≡ Some x
of_taken zero xs i x at = absurd cc
of_taken (suc n) [] i x at = absurd cc
of_taken (suc n) (z ∷ xs) zero x at = at
of_taken (suc n) (z ∷ xs) (suc i) x at = of_taken n xs i x at

-- the workers of the first shares, as many as there are names
pub manned : (workers bound : ℕ) (names : List (List ℕ)) (shares : List (List Spec)) (job_runs : List (JobRun (Unit {0}))) → AreShares workers names shares → job_runs ≡ map (worker bound) (take (length names) shares) → AreWorkers workers bound names job_runs
manned workers bound names shares job_runs h is = record {
  count = omega (arith, ap length is, length-map (take (length names) shares) (worker bound), taken_count (length names) shares, h.count);
  each = λ i job_run at.
      let u = unmapped (worker bound) (take (length names) shares) i job_run (ap (λ (rs : List (JobRun (Unit {0}))). slice_get rs i) (sym is) ∙ at) in
      sym u.2 ∙ ap (worker bound) (h.each i u.0 (of_taken (length names) shares i u.0 u.1));
}
