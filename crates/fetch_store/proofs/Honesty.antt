-- An honest pack leaves nothing missing, also where others took packs since it was asked for.
use Rattle.std.proofs.Common.{◌≡◌, Bool, true, false, List, [], ◌∷◌, get_or, Option, None, Some, All, ⊎_elim, refl, sym, ap, subst, ◌∙◌, true≢false}
use Rattle.std.specs.Prelude.{if◌then◌else◌}
use Rattle.std.specs.Option.{option_map_or}
use Rattle.std.specs.FinMap.{find, get}
use Rattle.std.specs.FinSet as set
use Rattle.std.proofs.lemmas.List.Elements.{All-weaker}
use Rattle.fetch_base.specs.declared.id.ObjectId.{ObjectId}
use Rattle.fetch_base.specs.declared.id.Kind.{Kind}
use Rattle.fetch_base.specs.declared.object_kind.ObjectKind.TheVariants.{Commit}
use Rattle.fetch_objects.specs.Objects.{Stored}
use Rattle.fetch_base.specs.Kinds.{is_kind}
use Rattle.fetch_store.specs.Stores.{ObjectMap, AreOf, add_all, first_some, collision}
use Rattle.fetch_base.specs.Id.{id_cmp}
use Rattle.fetch_store.proofs.Additions.{get-add_all}
use Rattle.fetch_store.specs.Borders.{merged}
use Rattle.fetch_store.specs.Closed.{Grows, Holding, IsClosed, IsStored, IsCommit, is_commit, IsWalk, Reached, AreAllOf, links_within, links, others, parents}
use Rattle.fetch_store.specs.Honest.{Request, Pack, taken, IsThere, IsCommitThere, IsDeepened, IsHonest}
use Rattle.fetch_store.specs.Missing.{parents_at}
use Rattle.fetch_store.proofs.Lists.{All-find, All-of}
use Rattle.fetch_objects.proofs.LinkLaws.{parents_from_links}
use Rattle.fetch_store.proofs.Growth.{grows_self, grows_trans, grows-add_all, stored_grows, commit_grows, stored_added}
use Rattle.fetch_store.proofs.Merges.{merged_moved, within_moved}
use Rattle.fetch_store.proofs.Agreement.{Agrees, all_agree, kind_of_same, same_object}
use Rattle.fetch_store.proofs.Whole.{IsWhole}

walk_stored : (h : Holding) (from : ObjectId) (rest : List ObjectId) (to : ObjectId) → IsWalk h from rest to → IsStored h.objects to
walk_stored h from [] to w = subst (IsStored h.objects) w.1 w.0
walk_stored h from (next ∷ rest) to w = walk_stored h next rest to w.3

pub reached_stored : (h : Holding) (starts : List ObjectId) (id : ObjectId) → Reached h starts id → IsStored h.objects id
reached_stored h starts id r = walk_stored h r.start r.rest id r.walk

-- the object of a commit
pub commit_at : (m : ObjectMap) (id : ObjectId) → IsCommit m id → (o : Stored) × (get m id ≡ Some o)
commit_at m id is = by_value (get m id) refl is
  where
    by_value : (x : Option Stored) → get m id ≡ x → is_commit x ≡ true → (o : Stored) × (get m id ≡ Some o)
    by_value None e h = absurd cc
    by_value (Some o) e h = (o, e)

-- what is held now has all that was held at the request
module _ (r : Request) (now : Holding) (pack : Pack) (grown : Grows r.held.objects now.objects) where
  grows : Grows r.held.objects (add_all now.objects pack.objects)
  grows = grows_trans r.held.objects now.objects (add_all now.objects pack.objects) grown (grows-add_all now.objects pack.objects)

  pub there_stored : (id : ObjectId) → IsThere r pack id → IsStored (add_all now.objects pack.objects) id
  there_stored id there =
      ⊎_elim (λ brought. stored_added now.objects pack.objects id brought)
      (λ reached. stored_grows r.held.objects (add_all now.objects pack.objects) grows id (reached_stored r.held r.haves id reached)) there

  pub wants_stored : IsHonest r pack → All (IsStored (add_all now.objects pack.objects)) r.wants
  wants_stored honest = All-weaker (IsThere r pack) (IsStored (add_all now.objects pack.objects)) there_stored r.wants honest.wants

  brought_commit : (id : ObjectId) → All (Agrees now.objects) pack.objects → is_commit (find id_cmp id pack.objects) ≡ true → IsCommit (add_all now.objects pack.objects) id
  brought_commit id agree is =
      ap is_commit (get-add_all now.objects pack.objects id)
      ∙ either (get now.objects id) (find id_cmp id pack.objects) refl (λ o found. All-find (Agrees now.objects) id o pack.objects agree found) is
    where
      either : (x y : Option Stored) → x ≡ get now.objects id → ((o : Stored) → y ≡ Some o → Agrees now.objects (id, o)) → is_commit y ≡ true → is_commit (first_some x y) ≡ true
      either None y e found h = h
      either (Some o) None e found h = absurd cc
      either (Some o) (Some p) e found h = ap (λ k. is_kind k Commit) (kind_of_same o p (found p refl o (sym e))) ∙ h

  pub commit_there_stored : All (Agrees now.objects) pack.objects → (id : ObjectId) → IsCommitThere r pack id → IsCommit (add_all now.objects pack.objects) id
  commit_there_stored agree id there =
      ⊎_elim (λ brought. brought_commit id agree brought) (λ reached. commit_grows r.held.objects (add_all now.objects pack.objects) grows id reached.1) there

  deepened_stored : IsClosed r.held → (id : ObjectId) → IsDeepened r pack id → All (IsStored (add_all now.objects pack.objects)) (parents_at (add_all now.objects pack.objects) id)
  deepened_stored closed id deep =
      let old : (o : Stored) × (get r.held.objects id ≡ Some o) = commit_at r.held.objects id (closed.bordered id deep.sent) in
      subst (λ x. All (IsStored (add_all now.objects pack.objects)) (option_map_or parents x [])) (sym (grows.keeps id old.0 old.1))
      (All-weaker (IsThere r pack) (IsStored (add_all now.objects pack.objects)) there_stored (parents old.0) (deep.parents old.0 old.1))

  -- the parents of a commit that left the border since
  abbrev pub HasParents : ObjectId × Stored → Type 0
  HasParents e = set.contains (merged r.held.border pack.shallow pack.unshallow) e.0 ≡ true → set.contains (merged now.border pack.shallow pack.unshallow) e.0 ≡ false → All (IsStored (add_all now.objects pack.objects)) (parents e.1)

  pub honest_whole : IsClosed r.held → All (Agrees now.objects) pack.objects → All HasParents pack.objects → IsHonest r pack → IsWhole (taken now pack) pack
  honest_whole closed agree moved honest = record {
    linked = λ k d lt.
        within_moved (IsStored (add_all now.objects pack.objects)) (merged r.held.border pack.shallow pack.unshallow) (merged now.border pack.shallow pack.unshallow) (get_or pack.objects k d).0 (get_or pack.objects k d).1 (moved k d lt)
        (All-weaker (IsThere r pack) (IsStored (add_all now.objects pack.objects)) there_stored (links_within (merged r.held.border pack.shallow pack.unshallow) (get_or pack.objects k d).0 (get_or pack.objects k d).1) (honest.links k d lt));
    known = All-weaker (IsCommitThere r pack) (IsCommit (add_all now.objects pack.objects)) (commit_there_stored agree) pack.shallow honest.shallow;
    deepened = All-weaker (IsDeepened r pack) (λ id. All (IsStored (add_all now.objects pack.objects)) (parents_at (add_all now.objects pack.objects) id)) (deepened_stored closed) pack.unshallow honest.unshallow;
  }

  -- in a closed repository the parents of what left the border are stored
  left_parents : (hash : Kind) → AreAllOf hash r.held.objects → IsClosed r.held → IsClosed now → (e : ObjectId × Stored) → e.1.hash ≡ hash → Agrees now.objects e → HasParents e
  left_parents hash of closed shut e is agree was gone =
      let both = merged_moved r.held.border now.border pack e.0 was gone in
      let old : (o : Stored) × (get r.held.objects e.0 ≡ Some o) = commit_at r.held.objects e.0 (closed.bordered e.0 both.0) in
      let here : get now.objects e.0 ≡ Some old.0 = grown.keeps e.0 old.0 old.1 in
      let same : old.0 ≡ e.1 = same_object old.0 e.1 (of.each e.0 old.0 old.1 ∙ sym is) (agree old.0 here) in
      let all : All (IsStored now.objects) (links old.0) = subst (λ (b : Bool). All (IsStored now.objects) (if b then others old.0 else links old.0)) both.1 (shut.linked e.0 old.0 here) in
      All-weaker (IsStored now.objects) (IsStored (add_all now.objects pack.objects)) (stored_grows now.objects (add_all now.objects pack.objects) (grows-add_all now.objects pack.objects)) (parents e.1)
      (subst (λ (o : Stored). All (IsStored now.objects) (parents o)) same (parents_from_links (IsStored now.objects) old.0 all))

  pub still_whole : (hash : Kind) → AreAllOf hash r.held.objects → AreOf hash pack.objects → IsClosed r.held → IsClosed now → collision now.objects pack.objects ≡ None → IsHonest r pack → IsWhole (taken now pack) pack
  still_whole hash of fit closed shut none honest =
      let agree = all_agree now.objects pack.objects none in
      let fits = All-of hash pack.objects fit in
      honest_whole closed agree (λ k d lt. left_parents hash of closed shut (get_or pack.objects k d) (fits k d lt) (agree k d lt)) honest

pub honest_at_once : (r : Request) (pack : Pack) → IsClosed r.held → collision r.held.objects pack.objects ≡ None → IsHonest r pack → IsWhole (taken r.held pack) pack
honest_at_once r pack closed none honest =
    honest_whole r r.held pack (grows_self r.held.objects) closed (all_agree r.held.objects pack.objects none) (λ k d lt was gone. absurd (true≢false (sym was ∙ gone))) honest
