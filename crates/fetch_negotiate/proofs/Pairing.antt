-- The pairs of commits, one more at a time.
use Rattle.std.proofs.Common.{◌≡◌, ℕ, ◌+◌, ◌<◌, Bool, true, false, cond, List, [], ◌∷◌, ◌++◌, take, get_or, length, Option, Some, unwrap_or, refl, sym, ap, subst, ◌∙◌, arith}
use Rattle.std.specs.BTreeMap as tree
use Rattle.std.specs.BTreeMap.{BTreeMap, is_at}
use Rattle.std.specs.Map.{lookup}
use Rattle.std.specs.Cmp.{Equal-is}
use Rattle.std.specs.Ordering.{eq_by_cmp}
use Rattle.std.specs.declared.cmp.Ordering.{Ordering}
use Rattle.std.proofs.lemmas.List.{take_more}
use Rattle.std.proofs.lemmas.List.Sums.{fold-append}
use Rattle.fetch_base.specs.declared.id.ObjectId.{ObjectId}
use Rattle.fetch_base.specs.contracts.id.ObjectIdOrd.TheImpl as order
use Rattle.fetch_base.specs.Id.{id_cmp}
use Rattle.fetch_base.proofs.Ids.{id_cmp_exact}
use Rattle.fetch_base.proofs.Orders.{cmp_is}
use Rattle.fetch_negotiate.specs.declared.skip.Skip.{Skip}
use Rattle.fetch_negotiate.specs.Paired.{AreEntered, skip_in}
use Rattle.fetch_negotiate.specs.Skips.{Pairs, no_skip, higher, pair_of}

abbrev step : ObjectId → Skip → ObjectId × Skip → Skip
step q own p = cond (eq_by_cmp id_cmp p.0 q) (higher own p.1) own

pair_push : (pairs : Pairs) (p : ObjectId × Skip) (q : ObjectId) → pair_of (pairs ++ p ∷ []) q ≡ step q (pair_of pairs q) p
pair_push pairs p q = fold-append (step q) no_skip pairs (p ∷ [])

abbrev GainsBy : (ObjectId → ObjectId → Ordering) → BTreeMap ObjectId Skip → BTreeMap ObjectId Skip → ObjectId → Skip → Type 0
GainsBy cmp s t id v = (q : ObjectId) → tree.get cmp t q ≡ cond (eq_by_cmp cmp id q) (Some v) (tree.get cmp s q)

-- one more pair
pub entered_more : (handed : Pairs) (entered : ℕ) (s t : BTreeMap ObjectId Skip) (p : ObjectId × Skip) (v : Skip) → entered < length handed → p ≡ get_or handed entered p → v ≡ higher (skip_in s p.0) p.1
    → tree.Updates (order.ghosts).cmp s t p.0 (Some v) → AreEntered handed entered s → AreEntered handed (entered + 1) t
entered_more handed entered s t p v lt at is updates c =
    record { entered_in = omega arith; each = λ q. now q (eq_by_cmp id_cmp p.0 q) refl ∙ sym (pair_push (take entered handed) p q) ∙ ap (λ (l : Pairs). pair_of l q) (sym grown) }
  where
    by : GainsBy id_cmp s t p.0 v
    by = subst (λ (cmp : ObjectId → ObjectId → Ordering). GainsBy cmp s t p.0 v) cmp_is updates.0

    grown : take (entered + 1) handed ≡ take entered handed ++ p ∷ []
    grown = take_more handed entered p lt ∙ ap (λ (x : ObjectId × Skip). take entered handed ++ x ∷ []) (sym at)

    now : (q : ObjectId) (b : Bool) → eq_by_cmp id_cmp p.0 q ≡ b → skip_in t q ≡ step q (pair_of (take entered handed) q) p
    now q true e =
        let same : p.0 ≡ q = id_cmp_exact p.0 q ((Equal-is (id_cmp p.0 q)).0 e) in
        ap (λ (o : Option Skip). unwrap_or o no_skip) (by q ∙ ap (λ b. cond b (Some v) (tree.get id_cmp s q)) e) ∙ is ∙ ap (λ (o : Skip). higher o p.1) (ap (skip_in s) same ∙ c.each q)
        ∙ sym (ap (λ b. cond b (higher (pair_of (take entered handed) q) p.1) (pair_of (take entered handed) q)) e)
    now q false e =
        ap (λ (o : Option Skip). unwrap_or o no_skip) (by q ∙ ap (λ b. cond b (Some v) (tree.get id_cmp s q)) e) ∙ c.each q
        ∙ sym (ap (λ b. cond b (higher (pair_of (take entered handed) q) p.1) (pair_of (take entered handed) q)) e)

-- before the first pair
pub nothing_entered : (pairs : BTreeMap ObjectId Skip) (q : ObjectId) → pairs.entries ≡ [] → skip_in pairs q ≡ no_skip
nothing_entered pairs q none = ap (λ (es : List (ObjectId × Skip)). unwrap_or (lookup (is_at (id_cmp q)) es) no_skip) none
