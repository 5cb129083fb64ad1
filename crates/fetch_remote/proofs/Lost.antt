-- One more peer among those taken back.
use Rattle.std.proofs.Common.{◌≡◌, ℕ, ◌+◌, ◌-◌, ◌^◌, Bool, true, false, not, cond, List, [], ◌∷◌, ◌++◌, length, ap, ◌∙◌, arith, length-append}
use Rattle.std.specs.Prelude.{◌==◌, if◌then◌else◌, min, max}
use Rattle.std.specs.List.{filter}
use Rattle.std.proofs.lemmas.List.Elements.{filter-append}
use Rattle.fetch_base.specs.Calls.{faults_of, one_more}
use Rattle.fetch_base.specs.Faults.{counted}
use Rattle.fetch_wire.specs.Scripts.{Script}
use Rattle.fetch_remote.specs.Connecting.{is_fresh, lost_in, with_lost}

-- as many as before, or one more, where the count stands still at its type's end
counts-on : (n : ℕ) (peer : Script) (fresh : Bool) → counted (min (n + length (cond (not fresh) (peer ∷ []) [])) (2 ^ 64 - 1)) ≡ (if fresh then counted (min n (2 ^ 64 - 1)) else record (counted (min n (2 ^ 64 - 1))) { count = max (min n (2 ^ 64 - 1)) (one_more (min n (2 ^ 64 - 1))) })
counts-on n peer true = ap counted (omega arith)
counts-on n peer false = ap counted (omega arith)

pub one_more_lost : (taken : List Script) (peer : Script) → lost_in (taken ++ peer ∷ []) ≡ with_lost (faults_of peer.calls peer.failed) (lost_in taken)
unfolding lost_in
one_more_lost taken peer =
    let lost = λ (p : Script). not (is_fresh p) in
    ap (λ (n : ℕ). counted (min n (2 ^ 64 - 1))) (ap length (filter-append lost taken (peer ∷ [])) ∙ length-append (filter lost taken) (filter lost (peer ∷ [])))
    ∙ counts-on (length (filter lost taken)) peer (peer.failed == 0)
