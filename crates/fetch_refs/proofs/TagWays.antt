-- Where tags end, by lists of tags.
use Rattle.std.proofs.Common.{◌≡◌, ℕ, suc, ◌-◌, ◌<◌, ◌≤◌, Bool, true, false, inl, inr, List, [], ◌∷◌, ◌++◌, length, Option, Some, None, Result, Ok, Err, refl, sym, ap, subst, ◌∙◌, arith, length-append}
use Rattle.std.specs.Prelude.{◌↔◌, is_some}
use Rattle.std.specs.Cmp.{Equal-is, tied_itself}
use Rattle.std.specs.FinMap as finmap
use Rattle.std.specs.FinMap.{contains_key}
use Rattle.std.specs.List.{AllByRecursion, Contains, IsDistinct}
use Rattle.std.specs.Option.{option_and_then}
use Rattle.std.specs.Ordering.{eq_by_cmp, is_eq}
use Rattle.std.proofs.lemmas.Bool.{cases_lt}
use Rattle.fetch_store.specs.Graph.{Graph, Node}
use Rattle.fetch_base.specs.Id.{id_cmp}
use Rattle.fetch_base.specs.declared.id.ObjectId.{ObjectId}
use Rattle.fetch_base.proofs.Ids.{id_cmp_exact, id_cmp_total}
use Rattle.fetch_store.proofs.Pigeons.{no_more, are_distinct}
use Rattle.fetch_refs.specs.declared.error.RefError.{RefError}
use Rattle.fetch_refs.specs.declared.error.RefError.TheVariants as errors
use Rattle.fetch_refs.specs.Leading.{Leads, next_tag, IsTagWay, EndsTags}
use Rattle.fetch_refs.specs.Peeled.{open_tag, stopped, through}
use Rattle.fetch_refs.proofs.Walks.{met, apart_way, distinct_more, is_in, was_met, unmet, Trace, trace, IsWalk, at_met, at_stop, at_last}
use Rattle.fetch_refs.proofs.Ways.{through-cycle, through-end, through-open, open-tag}

abbrev pub eq : ObjectId → ObjectId → Bool
eq = eq_by_cmp id_cmp

pub self : (a : ObjectId) → eq a a ≡ true
self a = ap is_eq (tied_itself id_cmp_total a)

pub exact : (a b : ObjectId) → eq a b ≡ true → a ≡ b
exact a b h = id_cmp_exact a b ((Equal-is (id_cmp a b)).0 h)

pub open_stop : (id : ObjectId) (o : Option Node) (f : ObjectId → Result ObjectId RefError) → option_and_then (λ (n : Node). n.target) o ≡ None → open_tag id o f ≡ stopped id o
open_stop id None f none = refl
open_stop id (Some n) f none = ap (λ (t : Option ObjectId). Rattle.std.specs.Option.option_map_or f t (Ok id)) none

module _ (graph : Graph) where
  abbrev next : ObjectId → Option ObjectId
  next = next_tag graph

  abbrev stop : ObjectId → Result ObjectId RefError
  stop id = stopped id (finmap.get graph id)

  abbrev again : ObjectId → Result ObjectId RefError
  again id = Err (errors.TagCycle id)

  abbrev over : ObjectId → Result ObjectId RefError
  over id = Err (errors.MissingObject id)

  walks : IsWalk eq next (through graph) stop again over
  walks = record {
    cycle = λ left ms x is. through-cycle graph ms x left is;
    short = λ ms x new. through-end graph ms x 0 (λ less. absurd (omega arith)) new;
    stops = λ left ms x new none some. through-open graph ms x left some new ∙ open_stop x (finmap.get graph x) (λ target. through graph (left - 1) (ms ++ x ∷ []) target) none;
    goes = λ left ms x y new some.
        let one : suc left - 1 ≡ left = omega arith in
        through-open graph ms x (suc left) (omega arith) new ∙ open-tag x (λ target. through graph (suc left - 1) (ms ++ x ∷ []) target) (finmap.get graph x) y some
        ∙ ap (λ (n : ℕ). through graph n (ms ++ x ∷ []) y) one;
  }

  abbrev AreStored : List ObjectId → Type 0
  AreStored ids = AllByRecursion (λ q. contains_key graph q ≡ true) ids

  is_stored : (o : Option Node) (t : ObjectId) → option_and_then (λ (n : Node). n.target) o ≡ Some t → is_some o ≡ true
  is_stored (Some n) t h = refl
  is_stored None t h = absurd cc

  stored : (way : List ObjectId) (first end : ObjectId) → Leads next first way end → AreStored way
  stored [] first end leads = tt
  stored (w ∷ ws) first end leads = (is_stored (finmap.get graph w) leads.1.0 leads.1.1, stored ws leads.1.0 end leads.1.2)

  stored_more : (way : List ObjectId) (id : ObjectId) → AreStored way → contains_key graph id ≡ true → AreStored (way ++ id ∷ [])
  stored_more [] id all one = (one, tt)
  stored_more (w ∷ ws) id all one = (all.0, stored_more ws id all.1 one)

  within : (way : List ObjectId) (first end : ObjectId) → IsTagWay graph first way end → length way ≤ finmap.len graph
  within way first end h = no_more way graph (are_distinct way h.distinct) (stored way first end h.leads)

  -- a further id that is stored makes the way one longer
  below : (way : List ObjectId) (first end : ObjectId) → IsTagWay graph first way end → met eq way end ≡ false → contains_key graph end ≡ true → length way < finmap.len graph
  below way first end h new has =
      let all = no_more (way ++ end ∷ []) graph (are_distinct (way ++ end ∷ []) (distinct_more eq way end h.distinct new)) (stored_more way end (stored way first end h.leads) has) in
      let n = length-append way (end ∷ []) in
      omega (arith, all, n)

  -- ---- what is answered ends the tags
  no_node : (o : Option Node) → (is_some o ≡ true → ⊥) → o ≡ None
  no_node None none = refl
  no_node (Some n) none = absurd (none refl)

  ends_stop : (first end : ObjectId) (way : List ObjectId) (o : Option Node) → IsTagWay graph first way end → finmap.get graph end ≡ o → next end ≡ None → EndsTags graph first (stopped end o)
  ends_stop first end way None h at none = (way, h, at)
  ends_stop first end way (Some n) h at none = (way, h, (n, at, sym (ap (option_and_then (λ (x : Node). x.target)) at) ∙ none))

  answered : (first : ObjectId) → Trace eq next (finmap.len graph) [] first → EndsTags graph first (through graph (finmap.len graph) [] first)
  answered first t =
      let way : IsTagWay graph first t.way t.end = record { leads = t.leads; distinct = t.apart } in
      let count = t.count in
      elim t.ends [
        | inl is ↦
            subst (EndsTags graph first) (sym (at_met eq next (through graph) stop again over walks (finmap.len graph) t.way first t.end t.leads t.apart (omega (arith, count)) is))
            (t.way, way, is_in eq exact t.way t.end is)
        | inr rest ↦
            elim rest [
              | inl is ↦
                  let some = is.2 in
                  subst (EndsTags graph first) (sym (at_stop eq next (through graph) stop again over walks (finmap.len graph) t.way first t.end t.leads t.apart (omega (arith, count, some)) is.0 is.1))
                  (ends_stop first t.end t.way (finmap.get graph t.end) way refl is.1)
              | inr is ↦
                  let none = is.1 in
                  let full : length t.way ≡ finmap.len graph = omega (arith, count, none) in
                  subst (EndsTags graph first) (sym (at_last eq next (through graph) stop again over walks (finmap.len graph) t.way first t.end t.leads t.apart full is.0))
                  (t.way, way, no_node (finmap.get graph t.end) (λ has. let less = below t.way first t.end way is.0 has in absurd (omega (arith, less, full))))
            ]
      ]

  start : IsDistinct eq []
  unfolding IsDistinct
  start = tt

  -- ---- what ends the tags is answered
  ended : (first : ObjectId) (answer : Result ObjectId RefError) → EndsTags graph first answer → through graph (finmap.len graph) [] first ≡ answer
  ended first (Ok id) (way, h, (n, at, none)) =
      let nowhere : next id ≡ None = ap (option_and_then (λ (x : Node). x.target)) at ∙ none in
      let new = unmet eq next exact way first id id h.leads nowhere in
      at_stop eq next (through graph) stop again over walks (finmap.len graph) way first id h.leads h.distinct (below way first id h new (ap is_some at)) new nowhere
      ∙ ap (stopped id) at
  ended first (Err (errors.MissingObject id)) (way, h, at) =
      let nowhere : next id ≡ None = ap (option_and_then (λ (x : Node). x.target)) at in
      let new = unmet eq next exact way first id id h.leads nowhere in
      let most = within way first id h in
      elim (cases_lt (length way) (finmap.len graph)) [
        | inl less ↦ at_stop eq next (through graph) stop again over walks (finmap.len graph) way first id h.leads h.distinct less new nowhere ∙ ap (stopped id) at
        | inr least ↦ at_last eq next (through graph) stop again over walks (finmap.len graph) way first id h.leads h.distinct (omega (arith, most, least)) new
      ]
  ended first (Err (errors.TagCycle id)) (way, h, has) =
      at_met eq next (through graph) stop again over walks (finmap.len graph) way first id h.leads h.distinct (within way first id h) (was_met eq self way id has)
  ended first (Err (errors.Expectation index found)) h = absurd h
  ended first (Err (errors.Cycle name)) h = absurd h
  ended first (Err (errors.Depth name)) h = absurd h
  ended first (Err (errors.Unborn name)) h = absurd h
  ended first (Err errors.NoMemory) h = absurd h

  -- where a way comes to an end, its end is answered
  pub ended_at : (first : ObjectId) (way : List ObjectId) (end : ObjectId) → Leads next first way end → next end ≡ None → through graph (finmap.len graph) [] first ≡ stopped end (finmap.get graph end)
  ended_at first way end leads none =
      ended first (stopped end (finmap.get graph end)) (ends_stop first end way (finmap.get graph end) (record { leads = leads; distinct = apart_way eq next exact self way first end leads none }) refl none)

  pub tags_end : (first : ObjectId) (answer : Result ObjectId RefError) → (through graph (finmap.len graph) [] first ≡ answer) ↔ EndsTags graph first answer
  tags_end first answer = (λ e. subst (EndsTags graph first) e (answered first (trace eq next (finmap.len graph) [] first start)), ended first answer)

  -- tags take no memory
  pub never_memory : (first : ObjectId) → through graph (finmap.len graph) [] first ≡ Err errors.NoMemory → ⊥
  never_memory first is = (tags_end first (Err errors.NoMemory)).0 is
