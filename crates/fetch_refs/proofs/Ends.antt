-- Where tags end, as it is kept.
use Rattle.std.proofs.Common.{◌≡◌, Bool, true, false, cond, List, [], ◌∷◌, ◌++◌, Option, Some, None, refl, sym, ap, subst, ◌∙◌}
use Rattle.std.specs.BTreeMap as tree
use Rattle.std.specs.BTreeMap.{BTreeMap}
use Rattle.std.specs.Ordering.{eq_by_cmp}
use Rattle.std.specs.declared.cmp.Ordering.{Ordering}
use Rattle.fetch_store.specs.Graph.{Graph}
use Rattle.fetch_base.specs.Id.{id_cmp}
use Rattle.fetch_base.specs.contracts.id.ObjectIdOrd.TheImpl as order
use Rattle.fetch_base.specs.declared.id.ObjectId.{ObjectId}
use Rattle.fetch_base.proofs.Orders.{cmp_is}
use Rattle.fetch_refs.specs.Leading.{Leads, next_tag}
use Rattle.fetch_refs.specs.TagEnds.{AreEnds, EndsAt}
use Rattle.fetch_refs.proofs.TagWays.{exact}

module _ (graph : Graph) where
  abbrev next : ObjectId → Option ObjectId
  next = next_tag graph

  -- a way that goes on to an end
  pub joined : (first id end : ObjectId) (way : List ObjectId) → Leads next first way id → EndsAt graph id end → EndsAt graph first end
  joined first id end way leads ends = (way ++ ends.0, on way first leads, ends.2)
    where
      on : (ws : List ObjectId) (x : ObjectId) → Leads next x ws id → Leads next x (ws ++ ends.0) end
      on [] x leads = subst (λ (a : ObjectId). Leads next a ends.0 end) (sym leads) ends.1
      on (w ∷ ws) x leads = (leads.0, (leads.1.0, leads.1.1, on ws leads.1.0 leads.1.2))

  -- where no tag is, the way is at its end
  pub here : (first id : ObjectId) (way : List ObjectId) → Leads next first way id → next id ≡ None → EndsAt graph first id
  here first id way leads none = (way, leads, none)

  -- one step on, the end is the same
  pub one_on : (id end target : ObjectId) → EndsAt graph id end → next id ≡ Some target → EndsAt graph target end
  one_on id end target ends is = step ends.0 ends.1
    where
      step : (ws : List ObjectId) → Leads next id ws end → EndsAt graph target end
      step [] leads = absurd (let h : Some target ≡ None = sym is ∙ ap next leads ∙ ends.2 in cc)
      step (w ∷ ws) leads =
          let two : Some leads.1.0 ≡ Some target = sym leads.1.1 ∙ ap next (sym leads.0) ∙ is in
          let one : leads.1.0 ≡ target = cc in
          (ws, subst (λ (a : ObjectId). Leads next a ws end) one leads.1.2, ends.2)

  abbrev Gains : (ObjectId → ObjectId → Ordering) → BTreeMap ObjectId ObjectId → BTreeMap ObjectId ObjectId → ObjectId → ObjectId → Type 0
  Gains cmp s t id end = (q : ObjectId) → tree.get cmp t q ≡ cond (eq_by_cmp cmp id q) (Some end) (tree.get cmp s q)

  -- one end more is kept
  pub one_more : (s t : BTreeMap ObjectId ObjectId) (id end : ObjectId) → tree.Updates (order.ghosts).cmp s t id (Some end) → AreEnds graph s.entries → EndsAt graph id end → AreEnds graph t.entries
  one_more s t id end updates all ends = λ q e found. step (eq_by_cmp id_cmp id q) q e refl (sym (by q) ∙ found)
    where
      by : Gains id_cmp s t id end
      by = subst (λ (cmp : ObjectId → ObjectId → Ordering). Gains cmp s t id end) cmp_is updates.0

      step : (b : Bool) (q e : ObjectId) → eq_by_cmp id_cmp id q ≡ b → cond b (Some end) (tree.get id_cmp s q) ≡ Some e → EndsAt graph q e
      step true q e same is =
          let two : end ≡ e = cc in
          subst (λ (a : ObjectId). EndsAt graph a e) (exact id q same) (subst (EndsAt graph id) two ends)
      step false q e other is = all q e is
