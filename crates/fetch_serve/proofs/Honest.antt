-- A pack that is served is honest.
use Rattle.std.proofs.Common.{◌≡◌, Bool, true, false, not, List, [], ◌∷◌, ◌++◌, filter, get_or, Option, Some, None, cond, refl, sym, ap, ◌∙◌, subst, inl, inr, All, Contains}
use Rattle.std.specs.Prelude.{◌⊎◌, IsTrue, is_some, if◌then◌else◌, option_map}
use Rattle.std.specs.FinMap as finmap
use Rattle.std.specs.FinSet as set
use Rattle.std.specs.List.{cons_option, flat_map}
use Rattle.std.specs.Option.{option_map_or}
use Rattle.std.specs.Ordering.{eq_by_cmp}
use Rattle.std.proofs.lemmas.List.Elements.{All-contains, All-contains_itself, Contains-get_or}
use Rattle.fetch_store.specs.Borders.{IdSet, merged}
use Rattle.fetch_store.specs.Closed.{Holding, IsCommit, IsStored, IsWalk, Reached, is_commit, links, links_within, others, parents}
use Rattle.fetch_store.specs.Honest.{IsCommitThere, IsDeepened, IsHonest, IsThere, Pack, Request}
use Rattle.fetch_store.specs.Missing.{parents_at}
use Rattle.fetch_objects.specs.Objects.{Stored}
use Rattle.fetch_store.specs.Stores.{ObjectMap}
use Rattle.fetch_base.specs.Id.{id_cmp}
use Rattle.fetch_base.specs.declared.id.ObjectId.{ObjectId}
use Rattle.fetch_store.proofs.Borders.{Contains-named, named-Contains}
use Rattle.fetch_refs.proofs.TagWays.{exact}
use Rattle.fetch_store.proofs.Finds.{ties}
use Rattle.fetch_store.proofs.Honesty.{commit_at, reached_stored}
use Rattle.fetch_base.proofs.Ids.{id_cmp_total}
use Rattle.fetch_objects.proofs.LinkLaws.{others_from_links, parents_from_links}
use Rattle.fetch_store.proofs.Members.{cases_in, none_in}
use Rattle.fetch_store.proofs.Reaching.{All-Contains, reached_closed, reached_next, reached_start}
use Rattle.fetch_reach.specs.Stored.{entries_at, entry_at}
use Rattle.fetch_reach.specs.Whole.{with_haves}
use Rattle.fetch_reach.proofs.Leaving.{still_honest}
use Rattle.fetch_asked.specs.declared.asked.FetchAsked.{FetchAsked}
use Rattle.fetch_serve.specs.Offered.{offered_ids}
use Rattle.fetch_serve.specs.declared.depth.Depth.{Depth}
use Rattle.fetch_serve.specs.Depths.{IsDepth, border_of}
use Rattle.fetch_serve.specs.Packs.{IsClient, IsNeeded, IsTagOnTheWay, is_reached, known_haves, pack_at, seen_after, seen_by, served_at, starts_of}
use Rattle.fetch_serve.specs.Replies.{first_unoffered}
use Rattle.fetch_asked.specs.Requests.{has_id}
use Rattle.fetch_serve.specs.Servable.{IsServable}
use Rattle.fetch_serve.specs.Served.{Data, history_of}
use Rattle.fetch_serve.proofs.Lists.{fails, from_one, none_first}
use Rattle.fetch_serve.proofs.Needed.{needed_served, served_is, served_stored, tag_served}
use Rattle.fetch_serve.proofs.Reached.{filtered, in_first, in_second, one_of, reached_test}
use Rattle.fetch_serve.proofs.References.{full_by, offered_stored}
use Rattle.fetch_serve.proofs.Tags.{on_way, tag_leads}

-- ---- entries at ids

head_found : (objects : ObjectMap) (id : ObjectId) (ids : List ObjectId) (o : Stored) → finmap.get objects id ≡ Some o → finmap.find id_cmp id (entries_at objects (id ∷ ids)) ≡ Some o
head_found objects id ids o is =
    ap (λ f. finmap.find id_cmp id (cons_option (option_map (λ p. (id, p)) f) (entries_at objects ids))) is ∙ ap (λ b. cond b (Some o) (finmap.find id_cmp id (entries_at objects ids))) (ties id id refl)

tail_found : (objects : ObjectMap) (id y : ObjectId) (ids : List ObjectId) (o : Stored) (f : Option Stored) → eq_by_cmp id_cmp id y ≡ false → finmap.find id_cmp id (entries_at objects ids) ≡ Some o
    → finmap.find id_cmp id (cons_option (option_map (λ p. (y, p)) f) (entries_at objects ids)) ≡ Some o
tail_found objects id y ids o None apart rest = rest
tail_found objects id y ids o (Some p) apart rest = ap (λ b. cond b (Some p) (finmap.find id_cmp id (entries_at objects ids))) apart ∙ rest

found_by : (objects : ObjectMap) (id y : ObjectId) (ids : List ObjectId) (o : Stored) (b : Bool) → eq_by_cmp id_cmp id y ≡ b → finmap.get objects id ≡ Some o → (y ≡ id) ⊎ Contains ids id
    → (Contains ids id → finmap.find id_cmp id (entries_at objects ids) ≡ Some o) → finmap.find id_cmp id (entries_at objects (y ∷ ids)) ≡ Some o
found_by objects id y ids o true tied is among again = subst (λ z. finmap.find id_cmp id (entries_at objects (z ∷ ids)) ≡ Some o) (exact id y tied) (head_found objects id ids o is)
found_by objects id y ids o false tied is (inl same) again = let t : eq_by_cmp id_cmp id y ≡ true = ties id y (sym same) in absurd (cc)
found_by objects id y ids o false tied is (inr later) again = tail_found objects id y ids o (finmap.get objects y) tied (again later)

-- what is stored at one of the ids is found among the entries
pub entry_found : (objects : ObjectMap) (id : ObjectId) (ids : List ObjectId) (o : Stored) → finmap.get objects id ≡ Some o → Contains ids id → finmap.find id_cmp id (entries_at objects ids) ≡ Some o
entry_found objects id [] o is among = absurd (none_in id among)
entry_found objects id (y ∷ ids) o is among = found_by objects id y ids o (eq_by_cmp id_cmp id y) refl is (cases_in id y ids among) (entry_found objects id ids o is)

-- an entry that stands at one of the ids
record Stands (objects : ObjectMap) (ids : List ObjectId) (e : ObjectId × Stored) : Type 0 where
  among : Contains ids e.0
  stored : finmap.get objects e.0 ≡ Some e.1

stands_by : (objects : ObjectMap) (ids : List ObjectId) (id : ObjectId) (e : ObjectId × Stored) (f : Option Stored) → finmap.get objects id ≡ f → Contains ids id → option_map (λ p. (id, p)) f ≡ Some e → Stands objects ids e
stands_by objects ids id e None is among same = absurd (cc)
stands_by objects ids id e (Some o) is among same = let one : ◌≡◌ {A = ObjectId × Stored} (id, o) e = cc in subst (Stands objects ids) one (record { among = among; stored = is })

stands : (objects : ObjectMap) (ids : List ObjectId) (e : ObjectId × Stored) → Contains (entries_at objects ids) e → Stands objects ids e
stands objects ids e h = let o = from_one (entry_at objects) e ids h in stands_by objects ids o.0 e (finmap.get objects o.0) refl o.1 o.2

-- ---- links

-- the only id of a list
only_one : (id x : ObjectId) → Contains (x ∷ []) id → x ≡ id
only_one id x h = elim (cases_in id x [] h) [ inl same ↦ same | inr later ↦ absurd (none_in id later) ]

-- each link is one with or without parents
more_links : (o : Stored) (id : ObjectId) → Contains (others o) id → Contains (links o) id
more_links o id h = All-contains (Contains (links o)) (others o) id (others_from_links (Contains (links o)) o (All-contains_itself (links o))) h

parent_links : (o : Stored) (id : ObjectId) → Contains (parents o) id → Contains (links o) id
parent_links o id h = All-contains (Contains (links o)) (parents o) id (parents_from_links (Contains (links o)) o (All-contains_itself (links o))) h

linked_by : (b : Bool) (o : Stored) (id : ObjectId) → Contains (if b then others o else links o) id → Contains (links o) id
linked_by true o id h = more_links o id h
linked_by false o id h = h

linked : (border : IdSet) (from : ObjectId) (o : Stored) (id : ObjectId) → Contains (links_within border from o) id → Contains (links o) id
linked border from o id h = linked_by (set.contains border from) o id h

-- ---- what is stored

object_by : (f : Option Stored) → is_some f ≡ true → (o : Stored) × (f ≡ Some o)
object_by None e = absurd (cc)
object_by (Some o) e = (o, refl)

object_at : (objects : ObjectMap) (id : ObjectId) → IsStored objects id → (o : Stored) × (finmap.get objects id ≡ Some o)
object_at objects id is = object_by (finmap.get objects id) is

-- ---- the pack

module _ (d : Data) (s : IsServable d) where
  all_links : (id : ObjectId) (o : Stored) → finmap.get d.objects id ≡ Some o → All (IsStored d.objects) (links o)
  all_links id o is = subst (λ b. All (IsStored d.objects) (if b then others o else links o)) (set.contains-empty id_cmp id) (s.closed.linked id o is)

  -- each link of a stored object is stored
  link_stored : (id : ObjectId) (o : Stored) (to : ObjectId) → finmap.get d.objects id ≡ Some o → Contains (links o) to → IsStored d.objects to
  link_stored id o to is h = All-Contains (IsStored d.objects) (links o) to (all_links id o is) h

  module _ (r : FetchAsked) (client : Holding) (c : IsClient d r client) where
    -- what the client holds and the server too is one object there
    same_at : (id : ObjectId) (o : Stored) → Reached client r.haves id → finmap.get d.objects id ≡ Some o → finmap.get client.objects id ≡ Some o
    same_at id o reach is =
        let p = object_at client.objects id (reached_stored client r.haves id reach) in
        p.1 ∙ ap (λ z. Some z) (c.agrees.reached id p.0 o reach p.1 is)

    -- what the server reaches from the known haves, the client reaches from its own
    held_on : (from : ObjectId) (rest : List ObjectId) (to : ObjectId) → IsWalk (seen_by d (border_of r)) from rest to → Reached client r.haves from → Reached client r.haves to
    held_on from [] to w reach = subst (Reached client r.haves) w.1 reach
    held_on from (next ∷ rest) to w reach =
        let is = same_at from w.0 reach w.1 in
        let link : Contains (links_within client.border from w.0) next = subst (λ b. Contains (links_within b from w.0) next) (sym c.border) w.2 in
        held_on next rest to w.3 (reached_closed client r.haves from next w.0 c.closed is link reach)

    pub held : (id : ObjectId) → Reached (seen_by d (border_of r)) (known_haves d r) id → Reached client r.haves id
    held id reach =
        let f = filtered (finmap.contains_key d.objects) reach.start r.haves reach.among in
        let o = commit_at client.objects reach.start (All-Contains (IsCommit client.objects) r.haves reach.start c.haves f.0) in
        held_on reach.start reach.rest id reach.walk (reached_start client r.haves reach.start f.0 (ap is_some o.1))

    module _ (x : Depth) (k : IsDepth d r x) (offered : first_unoffered d r ≡ None) where
      abbrev request : Request
      request = record { held = client; wants = r.wants; haves = r.haves }

      abbrev pack : Pack
      pack = pack_at d r x

      abbrev after : Holding
      after = seen_after d r x

      abbrev starts : List ObjectId
      starts = starts_of d r x

      -- what is reached from where the pack begins is needed, or the client has it
      split_by : (id : ObjectId) (b : Bool) → is_reached (seen_by d (border_of r)) (known_haves d r) id ≡ b → Reached after starts id → IsNeeded d r x id ⊎ Reached client r.haves id
      split_by id true is reach = inr (held id ((reached_test (seen_by d (border_of r)) (known_haves d r) id).0 is))
      split_by id false is reach = inl (record { reached = reach; lacking = λ has. (let passed = (reached_test (seen_by d (border_of r)) (known_haves d r) id).1 has in absurd (cc)) })

      split : (id : ObjectId) → Reached after starts id → IsNeeded d r x id ⊎ Reached client r.haves id
      split id reach = split_by id (is_reached (seen_by d (border_of r)) (known_haves d r) id) refl reach

      -- what is served is found in the pack
      served_found : (id : ObjectId) (o : Stored) → finmap.get d.objects id ≡ Some o → Contains (served_at d r x) id → finmap.find id_cmp id pack.objects ≡ Some o
      served_found id o is h = entry_found d.objects id (served_at d r x) o is h

      served_there : (id : ObjectId) → Contains (served_at d r x) id → IsThere request pack id
      served_there id h = let o = object_at d.objects id (served_stored d r x id h) in inl (ap is_some (served_found id o.0 o.1 h))

      there : (id : ObjectId) → Reached after starts id → IsThere request pack id
      there id reach = elim (split id reach) [ inl n ↦ served_there id (needed_served d r x id n) | inr has ↦ inr has ]

      -- where the pack begins
      begins : (id : ObjectId) → Contains starts id → IsStored d.objects id → Reached after starts id
      begins id h stored = reached_start after starts id h stored

      -- ---- wants

      want_offered : (id : ObjectId) → Contains r.wants id → has_id id (offered_ids d) ≡ true
      want_offered id h = full_by (has_id id (offered_ids d)) (fails (λ id. not (has_id id (offered_ids d))) id r.wants (none_first (filter (λ id. not (has_id id (offered_ids d))) r.wants) offered) h)

      want_there : (id : ObjectId) → Contains r.wants id → IsThere request pack id
      want_there id h = there id (begins id (in_first id r.wants (x.kept ++ flat_map (parents_at d.objects) x.unshallow) h) (offered_stored d id s (Contains-named id (offered_ids d) (want_offered id h))))

      -- ---- links

      abbrev merged_border : IdSet
      merged_border = merged client.border x.shallow x.unshallow

      same_border : merged_border ≡ after.border
      same_border = ap (λ b. merged b x.shallow x.unshallow) c.border

      needed_links : (e : ObjectId × Stored) → finmap.get d.objects e.0 ≡ Some e.1 → IsNeeded d r x e.0 → (to : ObjectId) → Contains (links_within merged_border e.0 e.1) to → IsThere request pack to
      needed_links e is n to h =
          there to (reached_next after starts e.0 to e.1 is (subst (λ b. Contains (links_within b e.0 e.1) to) same_border h) (link_stored e.0 e.1 to is (linked merged_border e.0 e.1 to h)) n.reached)

      -- another tag on the same way
      later_tag : {id : ObjectId} (t : IsTagOnTheWay d r x id) (next : ObjectId) → Contains t.way next → IsTagOnTheWay d r x next
      later_tag t next more = record {
        reference = t.reference;
        offered = t.offered;
        named = t.named;
        first = t.first;
        from = t.from;
        last = t.last;
        to = t.to;
        needed = t.needed;
        way = t.way;
        leads = t.leads;
        among = more;
      }

      tag_links : (e : ObjectId × Stored) → finmap.get d.objects e.0 ≡ Some e.1 → IsTrue r.include_tag → IsTagOnTheWay d r x e.0 → (to : ObjectId) → Contains (links_within merged_border e.0 e.1) to → IsThere request pack to
      tag_links e is asked t to h =
          let next = on_way (history_of d) t.first t.way t.last e.0 t.leads.leads t.among in
          let o = tag_leads d e.0 next.0 s.objects next.1 in
          let one : Some o.0 ≡ Some e.1 = sym o.1 ∙ is in
          let same : o.0 ≡ e.1 = cc in
          let ids : links e.1 ≡ next.0 ∷ [] = ap links (sym same) ∙ o.2 in
          let to_next : next.0 ≡ to = only_one to next.0 (subst (λ l. Contains l to) ids (linked merged_border e.0 e.1 to h)) in
          subst (IsThere request pack) to_next
          (elim next.2 [
            | inl last ↦ subst (IsThere request pack) (sym last) (served_there t.last (needed_served d r x t.last t.needed))
            | inr more ↦ served_there next.0 (tag_served d r x next.0 s asked (later_tag t next.0 more))
          ])

      entry_links : (e : ObjectId × Stored) → Contains pack.objects e → All (IsThere request pack) (links_within merged_border e.0 e.1)
      entry_links e h = λ k f lt.
          let at = stands d.objects (served_at d r x) e h in
          let to = get_or (links_within merged_border e.0 e.1) k f in
          let among = Contains-get_or (links_within merged_border e.0 e.1) k f lt in
          elim (served_is d r x e.0 at.among) [
            | inl n ↦ needed_links e at.stored n to among
            | inr t ↦ tag_links e at.stored t.0 t.1 to among
          ]

      -- ---- lines

      commit_there : (id : ObjectId) → Contains x.kept id → IsCommitThere request pack id
      commit_there id h =
          let commit = All-Contains (IsCommit d.objects) x.kept id k.kept h in
          let o = commit_at d.objects id commit in
          let is_one : is_commit (Some o.0) ≡ true = ap is_commit (sym o.1) ∙ commit in
          elim (split id (begins id (in_second id r.wants (x.kept ++ flat_map (parents_at d.objects) x.unshallow) (in_first id x.kept (flat_map (parents_at d.objects) x.unshallow) h)) (ap is_some o.1))) [
            | inl n ↦ inl (ap is_commit (served_found id o.0 o.1 (needed_served d r x id n)) ∙ is_one)
            | inr has ↦ inr (has, ap is_commit (same_at id o.0 has o.1) ∙ is_one)
          ]

      parent_there : (id : ObjectId) (p : Stored) (to : ObjectId) → Contains x.unshallow id → finmap.get d.objects id ≡ Some p → Contains (parents p) to → IsThere request pack to
      parent_there id p to h is among =
          let at : Contains (parents_at d.objects id) to = subst (λ f. Contains (option_map_or parents f []) to) (sym is) among in
          there to (begins to (in_second to r.wants (x.kept ++ flat_map (parents_at d.objects) x.unshallow)
          (in_second to x.kept (flat_map (parents_at d.objects) x.unshallow) (one_of (parents_at d.objects) id to x.unshallow h at)))
          (link_stored id p to is (parent_links p to among)))

      sent_by : (id : ObjectId) → Contains r.border id → IsTrue (set.contains client.border id)
      sent_by id h = ap (λ b. set.contains b id) c.border ∙ set.contains-from_list id_cmp_total r.border id ∙ named-Contains id r.border h

      deepened : (id : ObjectId) → Contains x.unshallow id → IsDeepened request pack id
      deepened id h =
          let sent = sent_by id (All-Contains (Contains r.border) x.unshallow id k.leaves h) in
          let p = commit_at d.objects id (All-Contains (IsCommit d.objects) x.unshallow id k.stored h) in
          record {
            sent = sent;
            parents = λ o is.
                (let same : o ≡ p.0 = c.agrees.border id o p.0 sent is p.1 in
                λ j f lt. parent_there id p.0 (get_or (parents o) j f) h p.1 (subst (λ z. Contains (parents z) (get_or (parents o) j f)) same (Contains-get_or (parents o) j f lt)));
          }

      pub honest : IsHonest request pack
      honest = record {
        wants = λ j f lt. want_there (get_or r.wants j f) (Contains-get_or r.wants j f lt);
        links = λ j f lt. entry_links (get_or pack.objects j f) (Contains-get_or pack.objects j f lt);
        shallow = λ j f lt. commit_there (get_or x.shallow j f) (All-Contains (Contains x.kept) x.shallow (get_or x.shallow j f) k.comes (Contains-get_or x.shallow j f lt));
        unshallow = λ j f lt. deepened (get_or x.unshallow j f) (Contains-get_or x.unshallow j f lt);
      }

      -- also where more haves were told
      pub honest_with : (haves : List ObjectId) → All (Contains haves) r.haves → IsHonest (with_haves request haves) pack
      honest_with haves more = still_honest request haves pack more honest
