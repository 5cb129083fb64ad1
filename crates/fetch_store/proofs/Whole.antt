-- Where no link is missing a closed repository stays closed.
use Rattle.std.proofs.Common.{◌≡◌, List, [], ◌++◌, map, get_or, Some, All, ⊎_elim, ap, subst}
use Rattle.std.specs.Option.{option_map_or}
use Rattle.std.specs.FinMap.{get, contains_key}
use Rattle.std.proofs.lemmas.List.Elements.{All-weaker}
use Rattle.fetch_base.specs.declared.id.ObjectId.{ObjectId}
use Rattle.fetch_objects.specs.Objects.{Stored}
use Rattle.fetch_store.specs.Stores.{ObjectMap, add_all}
use Rattle.fetch_store.specs.Borders.{IdSet, merged}
use Rattle.fetch_store.specs.Closed.{Grows, Holding, IsClosed, IsStored, IsCommit, is_commit, links_within, parents}
use Rattle.fetch_store.specs.Honest.{Pack, taken}
use Rattle.fetch_store.specs.Missing.{missing_link, parents_at, unstored, unheld_in, unlinked, unknown, orphaned, unconnected, missing}
use Rattle.fetch_store.proofs.Borders.{All-any}
use Rattle.fetch_store.proofs.Lists.{All-find, filter_none, none_filter, map_nil, nil_left, nil_right, both_nil, flat_map_none, none_flat_map}
use Rattle.fetch_store.proofs.Growth.{grows-add_all, stored_grows, commit_grows, added_cases}
use Rattle.fetch_store.proofs.Merges.{merged_cases, merged_left, within_moved}

-- over what is held with the pack, nothing is missing
pub record IsWhole (h : Holding) (pack : Pack) : Type 0 where
  pub linked : All (λ e. All (IsStored h.objects) (links_within h.border e.0 e.1)) pack.objects
  pub known : All (IsCommit h.objects) pack.shallow
  pub deepened : All (λ id. All (IsStored h.objects) (parents_at h.objects id)) pack.unshallow

pub whole_closed : (h : Holding) (pack : Pack) → IsClosed h → IsWhole (taken h pack) pack → IsClosed (taken h pack)
whole_closed h pack closed whole = record {
  linked = λ id o is. ⊎_elim (λ old. kept id o old is) (λ new. All-find (λ e. All (IsStored n) (links_within b e.0 e.1)) id o pack.objects whole.linked new) (added_cases h.objects pack.objects id o is);
  bordered = λ id is. ⊎_elim (λ old. commit_grows h.objects n grows id (closed.bordered id old)) (λ new. All-any (IsCommit n) id pack.shallow whole.known new) (merged_cases h.border pack id is);
}
  where
    n : ObjectMap
    n = add_all h.objects pack.objects

    b : IdSet
    b = merged h.border pack.shallow pack.unshallow

    grows : Grows h.objects (add_all h.objects pack.objects)
    grows = grows-add_all h.objects pack.objects

    kept : (id : ObjectId) (o : Stored) → get h.objects id ≡ Some o → get (add_all h.objects pack.objects) id ≡ Some o → All (IsStored (add_all h.objects pack.objects)) (links_within (merged h.border pack.shallow pack.unshallow) id o)
    kept id o old is =
        within_moved (IsStored n) h.border b id o
        (λ was gone. subst (λ x. All (IsStored n) (option_map_or parents x [])) is (All-any (λ q. All (IsStored n) (parents_at n q)) id pack.unshallow whole.deepened (merged_left h.border pack id was gone)))
        (All-weaker (IsStored h.objects) (IsStored n) (stored_grows h.objects n grows) (links_within h.border id o) (closed.linked id o old))

-- what is missing of these links, and whether each is stored
pub unstored_none : (m : ObjectMap) (from : ObjectId) (ids : List ObjectId) → All (IsStored m) ids → unstored m from ids ≡ []
unstored_none m from ids all = ap (map (λ (to : ObjectId). missing_link from to)) (filter_none (contains_key m) ids all)

pub none_unstored : (m : ObjectMap) (from : ObjectId) (ids : List ObjectId) → unstored m from ids ≡ [] → All (IsStored m) ids
none_unstored m from ids is = none_filter (contains_key m) ids (map_nil (λ (to : ObjectId). missing_link from to) _ is)

-- what is missing of these ids, and whether each is stored
pub unheld_none : (m : ObjectMap) (ids : List ObjectId) → All (IsStored m) ids → unheld_in m ids ≡ []
unheld_none m ids all = ap (map (λ id. missing_link id id)) (filter_none (contains_key m) ids all)

pub none_unheld : (m : ObjectMap) (ids : List ObjectId) → unheld_in m ids ≡ [] → All (IsStored m) ids
none_unheld m ids is = none_filter (contains_key m) ids (map_nil (λ id. missing_link id id) _ is)

module _ (h : Holding) (pack : Pack) where
  pub whole_none : IsWhole h pack → unconnected h pack ≡ []
  whole_none whole =
      both_nil (unlinked h pack ++ unknown h pack) (orphaned h pack)
      (both_nil (unlinked h pack) (unknown h pack)
      (flat_map_none (λ e. unstored h.objects e.0 (links_within h.border e.0 e.1)) pack.objects
      (λ k d lt. unstored_none h.objects (get_or pack.objects k d).0 (links_within h.border (get_or pack.objects k d).0 (get_or pack.objects k d).1) (whole.linked k d lt)))
      (ap (map (λ id. missing_link id id)) (filter_none (λ id. is_commit (get h.objects id)) pack.shallow whole.known)))
      (flat_map_none (λ id. unstored h.objects id (parents_at h.objects id)) pack.unshallow
      (λ k d lt. unstored_none h.objects (get_or pack.unshallow k d) (parents_at h.objects (get_or pack.unshallow k d)) (whole.deepened k d lt)))

  pub none_whole : unconnected h pack ≡ [] → IsWhole h pack
  none_whole is =
      let front : unlinked h pack ++ unknown h pack ≡ [] = nil_left (unlinked h pack ++ unknown h pack) (orphaned h pack) is in
      let links = none_flat_map (λ e. unstored h.objects e.0 (links_within h.border e.0 e.1)) pack.objects (nil_left (unlinked h pack) (unknown h pack) front) in
      let lines = none_flat_map (λ id. unstored h.objects id (parents_at h.objects id)) pack.unshallow (nil_right (unlinked h pack ++ unknown h pack) (orphaned h pack) is) in
      record {
        linked = λ k d lt. none_unstored h.objects (get_or pack.objects k d).0 (links_within h.border (get_or pack.objects k d).0 (get_or pack.objects k d).1) (links k d lt);
        known = none_filter (λ id. is_commit (get h.objects id)) pack.shallow (map_nil (λ id. missing_link id id) _ (nil_right (unlinked h pack) (unknown h pack) front));
        deepened = λ k d lt. none_unstored h.objects (get_or pack.unshallow k d) (parents_at h.objects (get_or pack.unshallow k d)) (lines k d lt);
      }

-- of a take with its wants
module _ (h : Holding) (wants : List ObjectId) (pack : Pack) where
  pub connects_none : All (IsStored (taken h pack).objects) wants → IsWhole (taken h pack) pack → missing h wants pack ≡ []
  connects_none held whole =
      both_nil (unheld_in (taken h pack).objects wants) (unconnected (taken h pack) pack) (unheld_none (taken h pack).objects wants held) (whole_none (taken h pack) pack whole)

  pub none_held : missing h wants pack ≡ [] → All (IsStored (taken h pack).objects) wants
  none_held is = none_unheld (taken h pack).objects wants (nil_left (unheld_in (taken h pack).objects wants) (unconnected (taken h pack) pack) is)

  pub none_connects : missing h wants pack ≡ [] → IsWhole (taken h pack) pack
  none_connects is = none_whole (taken h pack) pack (nil_right (unheld_in (taken h pack).objects wants) (unconnected (taken h pack) pack) is)
