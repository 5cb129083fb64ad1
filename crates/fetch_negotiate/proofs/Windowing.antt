-- A window, one commit further.
use Rattle.std.proofs.Common.{◌≡◌, ℕ, zero, suc, ◌+◌, ◌-◌, ◌<◌, ◌≤◌, List, [], ◌∷◌, ◌++◌, length, Option, Some, None, refl, sym, ap, ◌∙◌, arith, append_assoc, append-nil}
use Rattle.fetch_base.specs.declared.id.ObjectId.{ObjectId}
use Rattle.fetch_store.specs.Graph.{Graph}
use Rattle.fetch_negotiate.specs.declared.algorithm.Algorithm.{Algorithm}
use Rattle.fetch_negotiate.specs.Any.{offer_of}
use Rattle.fetch_negotiate.specs.Haves.{Negotiation}
use Rattle.fetch_negotiate.specs.Skips.{Offer}
use Rattle.fetch_negotiate.specs.Windows.{Window, beginning, window_of, IsBroken}

module _ (g : Graph) (algorithm : Algorithm) where
  pub window_none : (n : Negotiation) → window_of g algorithm 0 n ≡ record { haves = []; later = n }
  unfolding window_of
  window_none n = refl

  pub window_more : (more : ℕ) (n : Negotiation) → window_of g algorithm (suc more) n ≡ beginning (offer_of g algorithm n).have (offer_of g algorithm n).later (window_of g algorithm more)
  unfolding window_of
  window_more more n = refl

  -- What was told so far, and the window of what is left.
  pub record IsTelling (size i : ℕ) (before now : Negotiation) (told : List ObjectId) : Type 0 where
    pub haves : (window_of g algorithm size before).haves ≡ told ++ (window_of g algorithm (size - i) now).haves
    pub later : (window_of g algorithm size before).later ≡ (window_of g algorithm (size - i) now).later

  pub telling_start : (size : ℕ) (n : Negotiation) → IsTelling size 0 n n []
  telling_start size n =
      let whole : size ≡ size - 0 = omega arith in
      record { haves = ap (λ (k : ℕ). (window_of g algorithm k n).haves) whole; later = ap (λ (k : ℕ). (window_of g algorithm k n).later) whole }

  -- the window of what is left, where something is
  pub window_at : (size i : ℕ) (n : Negotiation) → i < size → window_of g algorithm (size - i) n ≡ beginning (offer_of g algorithm n).have (offer_of g algorithm n).later (window_of g algorithm (size - (i + 1)))
  window_at size i n lt =
      let left : size - i ≡ suc (size - (i + 1)) = omega arith in
      ap (λ (k : ℕ). window_of g algorithm k n) left ∙ window_more (size - (i + 1)) n

  pub telling_further : (size i : ℕ) (before now next : Negotiation) (told : List ObjectId) (id : ObjectId) → i < size → IsTelling size i before now told
      → Some id ≡ (offer_of g algorithm now).have → next ≡ (offer_of g algorithm now).later → IsTelling size (i + 1) before next (told ++ id ∷ [])
  telling_further size i before now next told id lt t have later =
      let at : window_of g algorithm (size - i) now ≡ beginning (Some id) next (window_of g algorithm (size - (i + 1))) =
      window_at size i now lt ∙ ap (λ (o : Option ObjectId). beginning o (offer_of g algorithm now).later (window_of g algorithm (size - (i + 1)))) (sym have)
      ∙ ap (λ (m : Negotiation). beginning (Some id) m (window_of g algorithm (size - (i + 1)))) (sym later) in
      record {
        haves = t.haves ∙ ap (λ (w : Window). told ++ w.haves) at ∙ sym (append_assoc told (id ∷ []) (window_of g algorithm (size - (i + 1)) next).haves);
        later = t.later ∙ ap (λ (w : Window). w.later) at;
      }

  pub ended_at : (size i : ℕ) (now next : Negotiation) → i < size → None ≡ (offer_of g algorithm now).have → next ≡ (offer_of g algorithm now).later → window_of g algorithm (size - i) now ≡ record { haves = []; later = next }
  ended_at size i now next lt have later =
      window_at size i now lt ∙ ap (λ (o : Option ObjectId). beginning o (offer_of g algorithm now).later (window_of g algorithm (size - (i + 1)))) (sym have)
      ∙ ap (λ (m : Negotiation). beginning None m (window_of g algorithm (size - (i + 1)))) (sym later)

  pub full_at : (size i : ℕ) (now : Negotiation) → size ≤ i → window_of g algorithm (size - i) now ≡ record { haves = []; later = now }
  full_at size i now le = let left : size - i ≡ 0 = omega arith in ap (λ (k : ℕ). window_of g algorithm k now) left ∙ window_none now

  -- nothing is left to tell
  pub told_haves : (size i : ℕ) (before now next : Negotiation) (told : List ObjectId) → IsTelling size i before now told → window_of g algorithm (size - i) now ≡ record { haves = []; later = next } → told ≡ (window_of g algorithm size before).haves
  told_haves size i before now next told t is = sym (t.haves ∙ ap (λ (w : Window). told ++ w.haves) is ∙ append-nil told)

  pub told_later : (size i : ℕ) (before now next : Negotiation) (told : List ObjectId) → IsTelling size i before now told → window_of g algorithm (size - i) now ≡ record { haves = []; later = next } → next ≡ (window_of g algorithm size before).later
  told_later size i before now next told t is = sym (t.later ∙ ap (λ (w : Window). w.later) is)

  -- where memory runs out, the next offer is as before
  pub broken_at : (size i : ℕ) (before now next : Negotiation) (told given given_now : List ObjectId) → i < size → length told ≡ i → IsTelling size i before now told
      → offer_of g algorithm next ≡ offer_of g algorithm now → given_now ≡ given ++ told → IsBroken g algorithm size before next given given_now
  broken_at size i before now next told given given_now lt long t same is =
      let at : window_of g algorithm (size - i) now ≡ window_of g algorithm (size - i) next =
      window_at size i now lt ∙ ap (λ (o : Offer). beginning o.have o.later (window_of g algorithm (size - (i + 1)))) (sym same) ∙ sym (window_at size i next lt) in
      record {
        told = told;
        left = size - i;
        some_left = omega arith;
        all = omega arith;
        haves = t.haves ∙ ap (λ (w : Window). told ++ w.haves) at;
        later = t.later ∙ ap (λ (w : Window). w.later) at;
        gave = is;
      }
