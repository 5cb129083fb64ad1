-- Each line of a server of a servable repository fits.
use Rattle.std.proofs.Common.{◌≡◌, ℕ, ◌≤◌, Bool, true, false, not, ◌||◌, ◌&&◌, List, [], ◌∷◌, ◌++◌, length, map, filter, nat_lt, Option, Some, None, Result, Ok, Err, cond, refl, sym, ap, ◌∙◌, subst, arith, length-append}
use Rattle.std.specs.Prelude.{option_map}
use Rattle.std.specs.FinMap as finmap
use Rattle.std.specs.List.{filter_map}
use Rattle.std.specs.Option.{option_and_then}
use Rattle.std.specs.Result.{result_ok}
use Rattle.std.proofs.lemmas.Bool.Decides.{nat_tests}
use Rattle.hex.specs.Hex.{encode_lower, lower_digits}
use Rattle.hex.proofs.HexLemmas.{length-encode_with}
use Rattle.fetch_refs.specs.Leading.{Leads, next_tag}
use Rattle.fetch_refs.specs.Peeled.{and_then, resolved}
use Rattle.fetch_refs.specs.declared.error.RefError.{RefError}
use Rattle.fetch_refs.specs.declared.error.RefError.TheVariants as refusals
use Rattle.fetch_refs.specs.declared.target.Target.{Target}
use Rattle.fetch_refs.specs.declared.target.Target.TheVariants.{Object, Symbolic}
use Rattle.fetch_refs.proofs.TagWays.{tags_end}
use Rattle.fetch_store.specs.Graph.{Graph, Node, node_of}
use Rattle.fetch_base.specs.Id.{byte_len, bytes_of}
use Rattle.fetch_objects.specs.Objects.{Stored}
use Rattle.fetch_store.specs.Stores.{ObjectMap}
use Rattle.fetch_base.specs.declared.id.Kind.{Kind}
use Rattle.fetch_base.specs.declared.id.Kind.TheVariants.{Sha1, Sha256}
use Rattle.fetch_base.specs.declared.id.ObjectId.{ObjectId}
use Rattle.fetch_base.proofs.Digests.{length-digest}
use Rattle.fetch_store.proofs.Graphs.{get-graph_of}
use Rattle.fetch_reach.specs.Named.{AreOwnIds}
use Rattle.fetch_specs.specs.Names.{is_full_name}
use Rattle.fetch_lines.specs.ServerLines.{greeting_lines, listing_lines_of, ref_text}
use Rattle.fetch_lines.specs.Requests.{kind_text, text_line}
use Rattle.fetch_lines.specs.Written.{first_too_long, too_long_in}
use Rattle.fetch_lines.specs.declared.lines.line.Line.{Line}
use Rattle.fetch_replies.specs.Listings.{ref_with}
use Rattle.fetch_lines.specs.declared.listings.reference.Ref.{Ref}
use Rattle.fetch_lines.specs.declared.listings.reference.Ref.TheVariants.{Direct, Symbolic as Naming, Peeled, Unborn}
use Rattle.fetch_serve.specs.Offered.{capabilities_of, if_told, is_public, is_told, is_under, listed, offer, offered_of, peeled_behind, target_of}
use Rattle.fetch_serve.specs.Servable.{IsServable, behind_tags, end_of, is_long, is_unlistable, is_refused, is_unservable}
use Rattle.fetch_serve.specs.Served.{Data, history_of, references_of}

-- ---- ids

short_hash : (hash : Kind) → byte_len hash ≤ 32
short_hash Sha1 = omega arith
short_hash Sha256 = omega arith

-- a stored id has 64 digits at most
pub short_stored : (objects : ObjectMap) (id : ObjectId) (o : Stored) → AreOwnIds objects → finmap.get objects id ≡ Some o → length (encode_lower (bytes_of id)) ≤ 64
short_stored objects id o own is =
    let len : length (bytes_of id) ≡ byte_len o.hash = ap (λ (i : ObjectId). length (bytes_of i)) (own.each id o is) ∙ length-digest o.hash _ in
    let few = short_hash o.hash in
    let hex = length-encode_with lower_digits (bytes_of id) in
    omega arith

short_by : (objects : ObjectMap) (id : ObjectId) (found : Option Stored) (n : Node) → AreOwnIds objects → finmap.get objects id ≡ found → option_map node_of found ≡ Some n → length (encode_lower (bytes_of id)) ≤ 64
short_by objects id None n own is e = absurd (cc)
short_by objects id (Some o) n own is e = short_stored objects id o own is

short_at : (d : Data) (id : ObjectId) (n : Node) → AreOwnIds d.objects → finmap.get (history_of d) id ≡ Some n → length (encode_lower (bytes_of id)) ≤ 64
short_at d id n own is = short_by d.objects id (finmap.get d.objects id) n own refl (sym (get-graph_of d.objects id) ∙ is)

node_first : (g : Graph) (x y : ObjectId) (found : Option Node) → finmap.get g x ≡ found → option_and_then (λ (n : Node). n.target) found ≡ Some y → (n : Node) × (finmap.get g x ≡ Some n)
node_first g x y None is e = absurd (cc)
node_first g x y (Some n) is e = (n, is)

way_first : (g : Graph) (first last : ObjectId) (way : List ObjectId) (n : Node) → Leads (next_tag g) first way last → finmap.get g last ≡ Some n → (m : Node) × (finmap.get g first ≡ Some m)
way_first g first last [] n same is = (n, ap (finmap.get g) same ∙ is)
way_first g first last (x ∷ way) n (same, (y, next, leads)) is =
    let at = node_first g x y (finmap.get g x) refl next in (at.0, ap (finmap.get g) same ∙ at.1)

-- both ends of a way through tags are stored
pub ends_stored : (d : Data) (first last : ObjectId) → behind_tags (history_of d) first ≡ Ok last → ((n : Node) × (finmap.get (history_of d) last ≡ Some n)) × ((n : Node) × (finmap.get (history_of d) first ≡ Some n))
ends_stored d first last is =
    let e = (tags_end (history_of d) first (Ok last)).0 is in
    let node = e.2 in
    ((node.0, node.1), way_first (history_of d) first last e.0 node.0 e.1.leads node.1)

-- an id, where there is one, has 64 digits at most
abbrev pub Short : Option ObjectId → Type 0
Short None = Unit {0}
Short (Some id) = length (encode_lower (bytes_of id)) ≤ 64

short_peeled : (d : Data) (id : ObjectId) (found : Result ObjectId RefError) → AreOwnIds d.objects → behind_tags (history_of d) id ≡ found → Short (result_ok found)
short_peeled d id (Ok last) own is = let s = (ends_stored d id last is).0 in short_at d last s.0 own s.1
short_peeled d id (Err e) own is = tt

short_next : (d : Data) (id : ObjectId) (next : Option ObjectId) → AreOwnIds d.objects → Short (option_and_then (λ _. result_ok (behind_tags (history_of d) id)) next)
short_next d id None own = tt
short_next d id (Some x) own = short_peeled d id (behind_tags (history_of d) id) own refl

-- what a tag there leads to
pub short_behind : (d : Data) (id : Option ObjectId) → AreOwnIds d.objects → Short (peeled_behind (history_of d) id)
short_behind d None own = tt
short_behind d (Some id) own = short_next d id (next_tag (history_of d) id) own

-- tags end at no name
pub never_unborn : (d : Data) (id : ObjectId) (name : List ℕ) → behind_tags (history_of d) id ≡ Err (refusals.Unborn name) → ⊥
never_unborn d id name is = (tags_end (history_of d) id (Err (refusals.Unborn name))).0 is

short_end : (d : Data) (id : ObjectId) (found : Result ObjectId RefError) → AreOwnIds d.objects → behind_tags (history_of d) id ≡ found → is_refused found ≡ false → length (encode_lower (bytes_of id)) ≤ 64
short_end d id (Ok last) own is servable = let s = (ends_stored d id last is).1 in short_at d id s.0 own s.1
short_end d id (Err (refusals.Unborn name)) own is servable = absurd (never_unborn d id name is)
short_end d id (Err (refusals.Cycle name)) own is servable = absurd (cc)
short_end d id (Err (refusals.Depth name)) own is servable = absurd (cc)
short_end d id (Err (refusals.MissingObject x)) own is servable = absurd (cc)
short_end d id (Err (refusals.TagCycle x)) own is servable = absurd (cc)
short_end d id (Err (refusals.Expectation index found)) own is servable = absurd (cc)
short_end d id (Err refusals.NoMemory) own is servable = absurd (cc)

-- what a servable reference leads to, where it leads anywhere
pub short_led : (d : Data) (found : Result ObjectId RefError) → AreOwnIds d.objects → is_refused (and_then found (behind_tags (history_of d))) ≡ false → Short (result_ok found)
short_led d (Ok id) own servable = short_end d id (behind_tags (history_of d) id) own refl servable
short_led d (Err e) own servable = tt

-- ---- references

-- how long the text of a reference may be
abbrev pub IsShortRef : Ref → Type 0
IsShortRef r = length (ref_text r) ≤ 60152

orb : (a b : Bool) → (a || b) ≡ false → (a ≡ false) × (b ≡ false)
orb true b e = absurd (cc)
orb false b e = (refl, e)

not_long : (name : List ℕ) → nat_lt 30000 (length name) ≡ false → length name ≤ 30000
not_long name e = grind (arith, nat_tests)

-- a name that is told is not long
abbrev ShortName : Option (List ℕ) → Type 0
ShortName None = Unit {0}
ShortName (Some name) = length name ≤ 30000

short_made : (name : List ℕ) (id : Option ObjectId) (target : Option (List ℕ)) (peeled : Option ObjectId) (r : Ref) → length name ≤ 30000 → Short id → ShortName target → Short peeled
    → ref_with name id (target, peeled) ≡ Some r → IsShortRef r
short_made name None None peeled r n i t p is = absurd (cc)
short_made name None (Some target) peeled r n i t p is =
    let same : Unborn name target ≡ r = cc in subst IsShortRef same (simp length-append (omega arith))
short_made name (Some id) (Some target) (Some last) r n i t p is =
    let same : Naming name target (Some id) last ≡ r = cc in subst IsShortRef same (simp length-append (omega arith))
short_made name (Some id) (Some target) None r n i t p is =
    let same : Naming name target None id ≡ r = cc in subst IsShortRef same (simp length-append (omega arith))
short_made name (Some id) None (Some last) r n i t p is =
    let same : Peeled name id last ≡ r = cc in subst IsShortRef same (simp length-append (omega arith))
short_made name (Some id) None None r n i t p is =
    let same : Direct name id ≡ r = cc in subst IsShortRef same (simp length-append (omega arith))

short_target : (target : Target) → is_unlistable target ≡ false → ShortName (target_of target)
short_target (Object id) e = tt
short_target (Symbolic name) e = not_long name (orb (is_long name) (not (is_full_name name)) e).0

short_listed : (d : Data) (e : List ℕ × Target) (r : Ref) → AreOwnIds d.objects → is_unservable d e ≡ false → listed d e ≡ Some r → IsShortRef r
short_listed d e r own servable is =
    let parts = orb (is_long e.0 || is_unlistable e.1) (is_refused (end_of d e.0 e.1)) servable in
    let names = orb (is_long e.0) (is_unlistable e.1) parts.0 in
    short_made e.0 (result_ok (resolved d.names e.0 e.1)) (target_of e.1) (peeled_behind (history_of d) (result_ok (resolved d.names e.0 e.1))) r (not_long e.0 names.0)
    (short_led d (resolved d.names e.0 e.1) own parts.1) (short_target e.1 names.1) (short_behind d (result_ok (resolved d.names e.0 e.1)) own) is

told_is : (unborn told : Bool) (x r : Ref) → cond told (Some x) None ≡ Some r → Some x ≡ Some r
told_is unborn true x r e = e
told_is unborn false x r e = absurd (cc)

offer_listed : (unborn b : Bool) (found : Option Ref) (r : Ref) → cond b (option_and_then (if_told unborn) found) None ≡ Some r → found ≡ Some r
offer_listed unborn false found r e = absurd (cc)
offer_listed unborn true None r e = absurd (cc)
offer_listed unborn true (Some x) r e = told_is unborn (is_told unborn x) x r e

pub text_fits : (text : List ℕ) → length text ≤ 65515 → too_long_in (text_line text) ≡ None
text_fits text le =
    let l = length-append text (10 ∷ []) in
    let short : nat_lt 65516 (length (text ++ 10 ∷ [])) ≡ false = grind (arith, nat_tests) in
    rw short refl

-- ---- lines

abbrev listed_lines : Data → Bool → List (List ℕ) → List (List ℕ × Target) → List Line
listed_lines d unborn prefixes es = listing_lines_of (filter_map (offer d unborn prefixes) es)

fits_with : (d : Data) (unborn : Bool) (prefixes : List (List ℕ)) (e : List ℕ × Target) (es : List (List ℕ × Target)) (found : Option Ref) → offer d unborn prefixes e ≡ found → AreOwnIds d.objects → is_unservable d e ≡ false
    → first_too_long (listed_lines d unborn prefixes es) ≡ None → first_too_long (listed_lines d unborn prefixes (e ∷ es)) ≡ None
fits_with d unborn prefixes e es None is own servable others = rw is others
fits_with d unborn prefixes e es (Some r) is own servable others =
    let short = short_listed d e r own servable (offer_listed unborn (is_public e.0 && is_under prefixes e.0) (listed d e) r is) in
    let fits = text_fits (ref_text r) (omega arith) in
    rw (is, fits) others

fits_by : (d : Data) (unborn : Bool) (prefixes : List (List ℕ)) (e : List ℕ × Target) (es : List (List ℕ × Target)) (b : Bool) → is_unservable d e ≡ b → AreOwnIds d.objects
    → map (λ (x : List ℕ × Target). x.0) (filter (is_unservable d) (e ∷ es)) ≡ [] → (map (λ (x : List ℕ × Target). x.0) (filter (is_unservable d) es) ≡ [] → first_too_long (listed_lines d unborn prefixes es) ≡ None)
    → first_too_long (listed_lines d unborn prefixes (e ∷ es)) ≡ None
fits_by d unborn prefixes e es true is own names again = absurd (let h : e.0 ∷ map (λ (x : List ℕ × Target). x.0) (filter (is_unservable d) es) ≡ [] = rw is at names in cc)
fits_by d unborn prefixes e es false is own names again = fits_with d unborn prefixes e es (offer d unborn prefixes e) refl own is (again (rw is at names))

fits_all : (d : Data) (unborn : Bool) (prefixes : List (List ℕ)) (es : List (List ℕ × Target)) → AreOwnIds d.objects → map (λ (x : List ℕ × Target). x.0) (filter (is_unservable d) es) ≡ []
    → first_too_long (listed_lines d unborn prefixes es) ≡ None
fits_all d unborn prefixes [] own names = refl
fits_all d unborn prefixes (e ∷ es) own names = fits_by d unborn prefixes e es (is_unservable d e) refl own names (fits_all d unborn prefixes es own)

-- each line of a listing fits
pub listing_fits : (d : Data) (unborn : Bool) (prefixes : List (List ℕ)) → IsServable d → first_too_long (listing_lines_of (offered_of d unborn prefixes)) ≡ None
listing_fits d unborn prefixes s = fits_all d unborn prefixes (references_of d) s.own s.names

-- each line of a greeting fits
pub greeting_fits : (hash : Kind) → first_too_long (greeting_lines (capabilities_of hash)) ≡ None
unfolding capabilities_of kind_text
greeting_fits Sha1 = refl
greeting_fits Sha256 = refl
