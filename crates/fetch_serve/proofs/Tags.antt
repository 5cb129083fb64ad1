-- The tags that come along are those on the way to what is needed.
use Rattle.std.proofs.Common.{◌≡◌, ℕ, zero, suc, ◌≤◌, Bool, true, false, ◌&&◌, List, [], ◌∷◌, length, map, Option, Some, None, Ok, cond, refl, sym, ap, ◌∙◌, subst, arith, inl, inr, Contains}
use Rattle.std.specs.Prelude.{◌⊎◌, IsTrue, is_some, nat_eq, option_map, slice_get}
use Rattle.std.specs.FinMap as finmap
use Rattle.std.specs.List.{flat_map, starts_with}
use Rattle.std.specs.Option.{option_and_then, option_map_or}
use Rattle.fetch_refs.specs.Leading.{IsTagWay, Leads, next_tag}
use Rattle.fetch_refs.proofs.TagWays.{tags_end}
use Rattle.fetch_store.specs.Closed.{links}
use Rattle.fetch_store.specs.Graph.{Graph, Node, node_of}
use Rattle.fetch_objects.specs.Objects.{IsObject, Stored, links_of}
use Rattle.fetch_base.specs.Kinds.{is_kind}
use Rattle.fetch_store.specs.Stores.{ObjectMap}
use Rattle.fetch_base.specs.declared.id.ObjectId.{ObjectId}
use Rattle.fetch_base.specs.declared.object_kind.ObjectKind.{ObjectKind}
use Rattle.fetch_base.specs.declared.object_kind.ObjectKind.TheVariants.{Commit, Tree, Blob, Tag}
use Rattle.fetch_store.proofs.Graphs.{get-graph_of}
use Rattle.fetch_store.proofs.Members.{first_in, later_in, cases_in, none_in}
use Rattle.fetch_store.proofs.Pigeons.{AreStored, are_distinct, no_more}
use Rattle.fetch_objects.proofs.TagTexts.{tags_are_texts}
use Rattle.fetch_reach.specs.Named.{AreObjects}
use Rattle.fetch_lines.specs.References.{id_in, name_in, peeled_in}
use Rattle.fetch_asked.specs.declared.asked.FetchAsked.{FetchAsked}
use Rattle.fetch_serve.specs.Offered.{offered_of}
use Rattle.fetch_serve.specs.declared.depth.Depth.{Depth}
use Rattle.fetch_serve.specs.Packs.{IsTagOnTheWay, is_needed, is_some_of, is_tag_to, tags_along, tags_at, tags_from, tags_of, tags_prefix}
use Rattle.fetch_serve.specs.Servable.{behind_tags}
use Rattle.fetch_serve.specs.Served.{Data, history_of}
use Rattle.fetch_serve.proofs.Reached.{both, needed_test, of_one, one_of}
use Rattle.fetch_serve.proofs.References.{id_of, offered_one, peels}

-- ---- a tag links to what it names

is_tag : (k : ObjectKind) → is_kind k Tag ≡ true → k ≡ Tag
is_tag Commit e = absurd (cc)
is_tag Tree e = absurd (cc)
is_tag Blob e = absurd (cc)
is_tag Tag e = refl

one_link : (ids : List ObjectId) (x : Option ObjectId) → map (λ id. Some id) ids ≡ x ∷ [] → (id : ObjectId) × (ids ≡ id ∷ [])
one_link [] x e = absurd (cc)
one_link (id ∷ []) x e = (id, refl)
one_link (id ∷ other ∷ ids) x e = absurd (cc)

tag_links : (o : Stored) → IsObject o.hash o.kind o.bytes → o.kind ≡ Tag → (id : ObjectId) × (links o ≡ id ∷ [])
tag_links o valid kind =
    let tag : IsObject o.hash Tag o.bytes = subst (λ k. IsObject o.hash k o.bytes) kind valid in
    let texts = tags_are_texts o.hash o.bytes in
    let t = texts.text tag in
    let one = one_link (links_of o.hash Tag o.bytes) _ (texts.links t.0 t.1 t.2) in
    (one.0, ap (λ k. links_of o.hash k o.bytes) kind ∙ one.1)

only_link : (o : Stored) (next : ObjectId) (b : Bool) → is_kind o.kind Tag ≡ b → IsObject o.hash o.kind o.bytes → cond b (slice_get (links o) 0) None ≡ Some next → links o ≡ next ∷ []
only_link o next false is valid e = absurd (cc)
only_link o next true is valid e =
    let t = tag_links o valid (is_tag o.kind is) in
    let first : slice_get (t.0 ∷ []) 0 ≡ Some next = ap (λ (ids : List ObjectId). slice_get ids 0) (sym t.1) ∙ e in
    let same : t.0 ≡ next = cc in
    t.1 ∙ ap (λ id. id ∷ []) same

leads_by : (objects : ObjectMap) (id next : ObjectId) (found : Option Stored) → finmap.get objects id ≡ found → AreObjects objects → option_and_then (λ (n : Node). n.target) (option_map node_of found) ≡ Some next
    → (o : Stored) × (finmap.get objects id ≡ Some o) × (links o ≡ next ∷ [])
leads_by objects id next None is valid e = absurd (cc)
leads_by objects id next (Some o) is valid e = (o, is, only_link o next (is_kind o.kind Tag) refl (valid.each id o is) e)

-- what stands at a tag links to the next id alone
pub tag_leads : (d : Data) (id next : ObjectId) → AreObjects d.objects → next_tag (history_of d) id ≡ Some next → (o : Stored) × (finmap.get d.objects id ≡ Some o) × (links o ≡ next ∷ [])
tag_leads d id next valid is = leads_by d.objects id next (finmap.get d.objects id) refl valid (ap (option_and_then (λ (n : Node). n.target)) (sym (get-graph_of d.objects id)) ∙ is)

-- ---- ways

module _ (history : Graph) where
  -- a way that ends is what the tags from its first id are
  pub way_from : (n : ℕ) (first : ObjectId) (way : List ObjectId) (last : ObjectId) → Leads (next_tag history) first way last → next_tag history last ≡ None → length way ≤ n → tags_from history n first ≡ way
  way_from zero first [] last leads none few = refl
  way_from (suc n) first [] last leads none few = ap (λ o. option_map_or (λ next. first ∷ tags_from history n next) o []) (ap (next_tag history) leads ∙ none)
  way_from zero first (x ∷ way) last leads none few = absurd (omega arith)
  way_from (suc n) first (x ∷ way) last (same, (y, next, leads)) none few =
      ap (λ o. option_map_or (λ z. first ∷ tags_from history n z) o []) (ap (next_tag history) same ∙ next)
      ∙ ap (λ l. first ∷ l) (way_from n y way last leads none (omega arith)) ∙ ap (λ z. z ∷ way) same

  stored_by : (o : Option Node) (y : ObjectId) → option_and_then (λ (n : Node). n.target) o ≡ Some y → is_some o ≡ true
  stored_by None y e = absurd (cc)
  stored_by (Some n) y e = refl

  way_stored : (first : ObjectId) (way : List ObjectId) (last : ObjectId) → Leads (next_tag history) first way last → AreStored history way
  way_stored first [] last leads = tt
  way_stored first (x ∷ way) last (same, (y, next, leads)) = (stored_by (finmap.get history x) y next, way_stored y way last leads)

  -- there are no more tags on a way than objects
  few_on : (first : ObjectId) (way : List ObjectId) (last : ObjectId) → IsTagWay history first way last → length way ≤ finmap.len history
  few_on first way last w = no_more way history (are_distinct way w.distinct) (way_stored first way last w.leads)

  pub whole_way : (first : ObjectId) (way : List ObjectId) (last : ObjectId) → IsTagWay history first way last → next_tag history last ≡ None → tags_at history (Some first) ≡ way
  whole_way first way last w none = way_from (finmap.len history) first way last w.leads none (few_on first way last w)

  -- an id on a way leads to the next one, or to its end
  pub on_way : (first : ObjectId) (way : List ObjectId) (last id : ObjectId) → Leads (next_tag history) first way last → Contains way id → (next : ObjectId) × (next_tag history id ≡ Some next) × ((next ≡ last) ⊎ Contains way next)
  on_way first [] last id leads among = absurd (none_in id among)
  on_way first (x ∷ []) last id (same, (y, next, end)) among =
      elim (cases_in id x [] among) [ inl here ↦ (y, ap (next_tag history) (sym here) ∙ next, inl end) | inr later ↦ absurd (none_in id later) ]
  on_way first (x ∷ z ∷ way) last id (same, (y, next, leads)) among =
      elim (cases_in id x (z ∷ way) among) [
        | inl here ↦ (y, ap (next_tag history) (sym here) ∙ next, inr (later_in y x (z ∷ way) (subst (λ v. Contains (z ∷ way) v) (sym leads.0) (first_in z way))))
        | inr later ↦
            (let o = on_way y (z ∷ way) last id leads later in
            (o.0, o.1, elim o.2 [ inl ends ↦ inl ends | inr goes ↦ inr (later_in o.0 x (z ∷ way) goes) ]))
      ]

-- where the tags of an id end, there is a way, and its end is no tag
pub way_of : (d : Data) (first last : ObjectId) → behind_tags (history_of d) first ≡ Ok last → (way : List ObjectId) × IsTagWay (history_of d) first way last × (next_tag (history_of d) last ≡ None)
way_of d first last is =
    let e = (tags_end (history_of d) first (Ok last)).0 is in
    (e.0, e.1, ap (option_and_then (λ (n : Node). n.target)) e.2.1 ∙ e.2.2)

-- ---- the tags that come along

some_by : (test : ObjectId → Bool) (o : Option ObjectId) → is_some_of test o ≡ true → (id : ObjectId) × (o ≡ Some id) × (test id ≡ true)
some_by test None e = absurd (cc)
some_by test (Some id) e = (id, refl, e)

in_cond : (b : Bool) (ids : List ObjectId) (id : ObjectId) → Contains (cond b ids []) id → (b ≡ true) × Contains ids id
in_cond true ids id h = (refl, h)
in_cond false ids id h = absurd (none_in id h)

of_cond : (b : Bool) (ids : List ObjectId) (id : ObjectId) → b ≡ true → Contains ids id → Contains (cond b ids []) id
of_cond true ids id e h = h
of_cond false ids id e h = absurd (cc)

module _ (d : Data) (r : FetchAsked) (x : Depth) where
  -- a tag that comes along stands on a way
  pub along_way : (id : ObjectId) → Contains (tags_along d r x) id → IsTrue r.include_tag × IsTagOnTheWay d r x id
  along_way id h =
      let c = in_cond r.include_tag (flat_map (tags_of (history_of d) (is_needed d r x)) (offered_of d false [])) id h in
      let o = of_one (tags_of (history_of d) (is_needed d r x)) id (offered_of d false []) c.1 in
      let t = in_cond (is_tag_to (is_needed d r x) o.0) (tags_at (history_of d) (id_in o.0)) id o.2 in
      let named = both (starts_with nat_eq (name_in o.0) tags_prefix) (is_some_of (is_needed d r x) (peeled_in o.0)) t.0 in
      let last = some_by (is_needed d r x) (peeled_in o.0) named.1 in
      let l = offered_one d false [] o.0 o.1 in
      let p = peels d (id_of d l.0) last.0 (sym l.1.tells.peeled_is ∙ last.1) in
      let from : id_in o.0 ≡ Some p.0 = l.1.tells.id_is ∙ p.1 in
      let w = way_of d p.0 last.0 p.2 in
      let way : tags_at (history_of d) (id_in o.0) ≡ w.0 = ap (tags_at (history_of d)) from ∙ whole_way (history_of d) p.0 w.0 last.0 w.1 w.2 in (
        c.0,
        record {
          reference = o.0;
          offered = o.1;
          named = named.0;
          first = p.0;
          from = from;
          last = last.0;
          to = last.1;
          needed = (needed_test d r x last.0).0 last.2;
          way = w.0;
          leads = w.1;
          among = subst (λ ids. Contains ids id) way t.1;
        },
      )

  some_of_is : (o : Option ObjectId) (id : ObjectId) → o ≡ Some id → is_needed d r x id ≡ true → is_some_of (is_needed d r x) o ≡ true
  some_of_is o id is passed = ap (is_some_of (is_needed d r x)) is ∙ passed

  two : (a b : Bool) → a ≡ true → b ≡ true → (a && b) ≡ true
  two true b e f = f
  two false b e f = absurd (cc)

  -- a tag on a way comes along
  pub way_along : (id : ObjectId) → IsTrue r.include_tag → IsTagOnTheWay d r x id → Contains (tags_along d r x) id
  way_along id asked t =
      let l = offered_one d false [] t.reference t.offered in
      let p = peels d (id_of d l.0) t.last (sym l.1.tells.peeled_is ∙ t.to) in
      let same_first : Some p.0 ≡ Some t.first = sym p.1 ∙ sym l.1.tells.id_is ∙ t.from in
      let first : p.0 ≡ t.first = cc in
      let w = way_of d p.0 t.last p.2 in
      let way : tags_at (history_of d) (id_in t.reference) ≡ t.way = ap (tags_at (history_of d)) t.from ∙ whole_way (history_of d) t.first t.way t.last t.leads w.2 in
      let passed = two (starts_with nat_eq (name_in t.reference) tags_prefix) (is_some_of (is_needed d r x) (peeled_in t.reference)) t.named (some_of_is (peeled_in t.reference) t.last t.to ((needed_test d r x t.last).1 t.needed)) in
      of_cond r.include_tag (flat_map (tags_of (history_of d) (is_needed d r x)) (offered_of d false [])) id asked
      (one_of (tags_of (history_of d) (is_needed d r x)) t.reference id (offered_of d false []) t.offered
      (of_cond (is_tag_to (is_needed d r x) t.reference) (tags_at (history_of d) (id_in t.reference)) id passed (subst (λ ids. Contains ids id) (sym way) t.among)))
