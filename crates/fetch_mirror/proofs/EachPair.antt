-- What the calls did, in a relation of the caller's.
use Rattle.std.proofs.Common.{ℕ, ◌<◌, List, length, subst}
use Rattle.std.specs.Prelude.{slice_index_or}
use denote.Ref.{MutBor}
use denote.Param.Members.{Shared}
use Rattle.fetch_mirror.specs.Pairs.{ChangesPairs}

-- What each call does with two values holds of what stands at each place.
pub at_each_place : {F A B : Type 0} (g : Shared F (MutBor A × (MutBor B × Unit {0})) ((Unit {0}) × (MutBor A × (MutBor B × Unit {0})))) (f : F) (xs : List A) (ys : List B) (xs_now : List A) (ys_now : List B)
    → ChangesPairs g f xs ys xs_now ys_now → (Does : A → B → A → B → Type 0)
    → ((p : MutBor A) (q : MutBor B) (p_now : MutBor A) (q_now : MutBor B) → g.post f (p, (q, tt)) (tt, (p_now, (q_now, tt))) → Does p.now q.now p_now.now q_now.now)
    → (i : ℕ) (x : A) (y : B) → i < length xs → Does (slice_index_or xs i x) (slice_index_or ys i y) (slice_index_or xs_now i x) (slice_index_or ys_now i y)
at_each_place {F} {A} {B} g f xs ys xs_now ys_now changes Does does i x y low =
    let h = changes.each i x y low in
    subst (λ (z : A × B × A × B). Does z.0 z.1 z.2 z.3) (λ j. (h.left_is j, h.right_is j, h.left_now j, h.right_now j)) (does h.left h.right h.left_after h.right_after h.call)
