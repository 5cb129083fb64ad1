-- What the references are that a server offers.
use Rattle.std.proofs.Common.{◌≡◌, ℕ, Bool, true, false, not, ◌||◌, ◌&&◌, List, [], filter, Option, Some, None, Result, Ok, Err, cond, refl, sym, ap, ◌∙◌, subst, inl, inr, Contains}
use Rattle.std.specs.Prelude.{is_some, option_map}
use Rattle.std.specs.FinMap as finmap
use Rattle.std.specs.Option.{option_and_then}
use Rattle.std.specs.Result.{result_ok}
use Rattle.fetch_refs.specs.Leading.{next_tag}
use Rattle.fetch_refs.specs.Peeled.{and_then, resolved}
use Rattle.fetch_refs.specs.declared.error.RefError.{RefError}
use Rattle.fetch_refs.specs.declared.error.RefError.TheVariants as refusals
use Rattle.fetch_refs.specs.declared.target.Target.{Target}
use Rattle.fetch_store.specs.Closed.{IsStored}
use Rattle.fetch_store.specs.Graph.{Graph, Node, node_of}
use Rattle.fetch_objects.specs.Objects.{Stored}
use Rattle.fetch_base.specs.declared.id.ObjectId.{ObjectId}
use Rattle.fetch_store.proofs.Graphs.{get-graph_of}
use Rattle.fetch_store.proofs.Lists.{map_nil}
use Rattle.fetch_store.proofs.Members.{cases_in, none_in}
use Rattle.fetch_replies.specs.Listings.{ref_with}
use Rattle.fetch_lines.specs.References.{id_in, name_in, peeled_in, target_in}
use Rattle.fetch_lines.specs.declared.listings.reference.Ref.{Ref}
use Rattle.fetch_lines.specs.declared.listings.reference.Ref.TheVariants.{Direct, Symbolic as Naming, Peeled, Unborn}
use Rattle.fetch_serve.specs.Offered.{ids_in, if_told, is_public, is_told, is_under, listed, offer, offered_ids, offered_of, peeled_behind, some_of, target_of}
use Rattle.fetch_serve.specs.Servable.{IsServable, behind_tags, end_of, is_long, is_refused, is_unlistable, is_unservable}
use Rattle.fetch_serve.specs.Served.{Data, history_of, references_of}
use Rattle.fetch_serve.proofs.Fitting.{ends_stored, never_unborn}
use Rattle.fetch_serve.proofs.Lists.{fails, from_one}
use Rattle.fetch_serve.proofs.Reached.{in_either, of_one}

-- ---- what a reference tells

-- a reference tells this name, id, target and peeled id
pub record Tells (r : Ref) (name : List ℕ) (id : Option ObjectId) (target : Option (List ℕ)) (peeled : Option ObjectId) : Type 0 where
  pub name_is : name_in r ≡ name
  pub id_is : id_in r ≡ id
  pub target_is : target_in r ≡ target
  pub peeled_is : peeled_in r ≡ peeled

same_as : (x r : Ref) → Some x ≡ Some r → x ≡ r
same_as x r e = cc

pub made : (name : List ℕ) (id : Option ObjectId) (target : Option (List ℕ)) (peeled : Option ObjectId) (r : Ref) → (id ≡ None → peeled ≡ None) → ref_with name id (target, peeled) ≡ Some r → Tells r name id target peeled
made name None None peeled r none is = absurd (cc)
made name None (Some target) peeled r none is =
    subst (λ x. Tells x name None (Some target) peeled) (same_as (Unborn name target) r is) (record { name_is = refl; id_is = refl; target_is = refl; peeled_is = sym (none refl) })
made name (Some id) (Some target) (Some last) r none is =
    subst (λ x. Tells x name (Some id) (Some target) (Some last)) (same_as (Naming name target (Some id) last) r is) (record { name_is = refl; id_is = refl; target_is = refl; peeled_is = refl })
made name (Some id) (Some target) None r none is =
    subst (λ x. Tells x name (Some id) (Some target) None) (same_as (Naming name target None id) r is) (record { name_is = refl; id_is = refl; target_is = refl; peeled_is = refl })
made name (Some id) None (Some last) r none is =
    subst (λ x. Tells x name (Some id) None (Some last)) (same_as (Peeled name id last) r is) (record { name_is = refl; id_is = refl; target_is = refl; peeled_is = refl })
made name (Some id) None None r none is =
    subst (λ x. Tells x name (Some id) None None) (same_as (Direct name id) r is) (record { name_is = refl; id_is = refl; target_is = refl; peeled_is = refl })

-- the id of a reference that is listed
abbrev pub id_of : Data → List ℕ × Target → Option ObjectId
id_of d e = result_ok (resolved d.names e.0 e.1)

behind_none : (history : Graph) (id : Option ObjectId) → id ≡ None → peeled_behind history id ≡ None
behind_none history id none = ap (peeled_behind history) none

-- a reference of the repository, as it is listed
pub record IsListed (d : Data) (e : List ℕ × Target) (r : Ref) : Type 0 where
  pub among : Contains (references_of d) e
  pub tells : Tells r e.0 (id_of d e) (target_of e.1) (peeled_behind (history_of d) (id_of d e))

told_is : (unborn told : Bool) (x r : Ref) → cond told (Some x) None ≡ Some r → Some x ≡ Some r
told_is unborn true x r e = e
told_is unborn false x r e = absurd (cc)

offer_listed : (unborn b : Bool) (found : Option Ref) (r : Ref) → cond b (option_and_then (if_told unborn) found) None ≡ Some r → found ≡ Some r
offer_listed unborn false found r e = absurd (cc)
offer_listed unborn true None r e = absurd (cc)
offer_listed unborn true (Some x) r e = told_is unborn (is_told unborn x) x r e

-- a reference that is offered of an entry is what the entry tells
pub offered_made : (d : Data) (unborn : Bool) (prefixes : List (List ℕ)) (e : List ℕ × Target) (r : Ref) → offer d unborn prefixes e ≡ Some r → Tells r e.0 (id_of d e) (target_of e.1) (peeled_behind (history_of d) (id_of d e))
offered_made d unborn prefixes e r is =
    made e.0 (id_of d e) (target_of e.1) (peeled_behind (history_of d) (id_of d e)) r (behind_none (history_of d) (id_of d e)) (offer_listed unborn (is_public e.0 && is_under prefixes e.0) (listed d e) r is)

-- what is offered is a reference of the repository, as it is listed
pub offered_one : (d : Data) (unborn : Bool) (prefixes : List (List ℕ)) (r : Ref) → Contains (offered_of d unborn prefixes) r → (e : List ℕ × Target) × IsListed d e r
offered_one d unborn prefixes r h =
    let o = from_one (offer d unborn prefixes) r (references_of d) h in
    (o.0, record { among = o.1; tells = offered_made d unborn prefixes o.0 r o.2 })

-- ---- what they lead to

-- each reference can be served
pub servable : (d : Data) (e : List ℕ × Target) → IsServable d → Contains (references_of d) e → is_unservable d e ≡ false
servable d e s among = fails (is_unservable d) e (references_of d) (map_nil (λ (x : List ℕ × Target). x.0) (filter (is_unservable d) (references_of d)) s.names) among

pub orb : (a b : Bool) → (a || b) ≡ false → (a ≡ false) × (b ≡ false)
orb true b e = absurd (cc)
orb false b e = (refl, e)

pub full_by : (b : Bool) → not b ≡ false → b ≡ true
full_by true e = refl
full_by false e = absurd (cc)

stored_by : (found : Option Stored) (n : Node) → option_map node_of found ≡ Some n → is_some found ≡ true
stored_by None n e = absurd (cc)
stored_by (Some o) n e = refl

-- an id with a node is stored
pub stored_at : (d : Data) (id : ObjectId) (n : Node) → finmap.get (history_of d) id ≡ Some n → IsStored d.objects id
stored_at d id n is = stored_by (finmap.get d.objects id) n (sym (get-graph_of d.objects id) ∙ is)

-- an id that is led to ends somewhere
ends_by : (d : Data) (id : ObjectId) (found : Result ObjectId RefError) → behind_tags (history_of d) id ≡ found → is_refused found ≡ false → (last : ObjectId) × (behind_tags (history_of d) id ≡ Ok last)
ends_by d id (Ok last) is goes = (last, is)
ends_by d id (Err (refusals.Unborn name)) is goes = absurd (never_unborn d id name is)
ends_by d id (Err (refusals.Cycle name)) is goes = absurd (cc)
ends_by d id (Err (refusals.Depth name)) is goes = absurd (cc)
ends_by d id (Err (refusals.MissingObject x)) is goes = absurd (cc)
ends_by d id (Err (refusals.TagCycle x)) is goes = absurd (cc)
ends_by d id (Err (refusals.Expectation index found)) is goes = absurd (cc)
ends_by d id (Err refusals.NoMemory) is goes = absurd (cc)

led_by : (d : Data) (found : Result ObjectId RefError) (id : ObjectId) → is_refused (and_then found (behind_tags (history_of d))) ≡ false → result_ok found ≡ Some id → (last : ObjectId) × (behind_tags (history_of d) id ≡ Ok last)
led_by d (Ok x) id goes is = let same : x ≡ id = cc in ends_by d id (behind_tags (history_of d) id) refl (subst (λ y. is_refused (behind_tags (history_of d) y) ≡ false) same goes)
led_by d (Err e) id goes is = absurd (cc)

-- the id of a reference leads through tags to what is stored
pub led : (d : Data) (e : List ℕ × Target) (id : ObjectId) → IsServable d → Contains (references_of d) e → id_of d e ≡ Some id → (last : ObjectId) × (behind_tags (history_of d) id ≡ Ok last)
led d e id s among is =
    led_by d (resolved d.names e.0 e.1) id (orb (is_long e.0 || is_unlistable e.1) (is_refused (end_of d e.0 e.1)) (servable d e s among)).1 is

ok_by : (found : Result ObjectId RefError) (last : ObjectId) → result_ok found ≡ Some last → found ≡ Ok last
ok_by (Ok x) last e = let same : x ≡ last = cc in ap (λ y. Ok y) same
ok_by (Err e') last e = absurd (cc)

peeled_by : (d : Data) (id last : ObjectId) (next : Option ObjectId) → option_and_then (λ _. result_ok (behind_tags (history_of d) id)) next ≡ Some last → result_ok (behind_tags (history_of d) id) ≡ Some last
peeled_by d id last None e = absurd (cc)
peeled_by d id last (Some x) e = e

-- what a reference is peeled to is where its tags end
pub peels : (d : Data) (id : Option ObjectId) (last : ObjectId) → peeled_behind (history_of d) id ≡ Some last → (first : ObjectId) × (id ≡ Some first) × (behind_tags (history_of d) first ≡ Ok last)
peels d None last e = absurd (cc)
peels d (Some id) last e = (id, refl, ok_by (behind_tags (history_of d) id) last (peeled_by d id last (next_tag (history_of d) id) e))

pub id_stored : (d : Data) (e : List ℕ × Target) (id : ObjectId) → IsServable d → Contains (references_of d) e → id_of d e ≡ Some id → IsStored d.objects id
id_stored d e id s among is = let l = led d e id s among is in let n = (ends_stored d id l.0 l.1).1 in stored_at d id n.0 n.1

pub peeled_stored : (d : Data) (id : Option ObjectId) (last : ObjectId) → peeled_behind (history_of d) id ≡ Some last → IsStored d.objects last
peeled_stored d id last is = let p = peels d id last is in let n = (ends_stored d p.0 last p.2).0 in stored_at d last n.0 n.1

some_one : (o : Option ObjectId) (id : ObjectId) → Contains (some_of o) id → o ≡ Some id
some_one None id h = absurd (none_in id h)
some_one (Some x) id h = elim (cases_in id x [] h) [ inl same ↦ ap (λ y. Some y) same | inr later ↦ absurd (none_in id later) ]

-- an id that is offered is stored
pub offered_stored : (d : Data) (id : ObjectId) → IsServable d → Contains (offered_ids d) id → IsStored d.objects id
offered_stored d id s h =
    let o = of_one ids_in id (offered_of d false []) h in
    let l = offered_one d false [] o.0 o.1 in
    elim (in_either id (some_of (id_in o.0)) (some_of (peeled_in o.0)) o.2) [
      | inl own ↦ id_stored d l.0 id s l.1.among (sym l.1.tells.id_is ∙ some_one (id_in o.0) id own)
      | inr last ↦ peeled_stored d (id_of d l.0) id (sym l.1.tells.peeled_is ∙ some_one (peeled_in o.0) id last)
    ]
