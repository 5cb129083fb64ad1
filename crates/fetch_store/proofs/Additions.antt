-- A map that keeps what it has, and grows by entries.
use Rattle.std.proofs.Common.{◌≡◌, ℕ, ◌+◌, ◌<◌, Bool, true, false, cond, [], ◌∷◌, ◌++◌, length, get_or, take, drop, Option, Some, None, refl, sym, ap, ◌∙◌}
use Rattle.std.specs.Prelude.{is_some}
use Rattle.std.specs.Ordering.{eq_by_cmp}
use Rattle.std.specs.Cmp.{Equal-is}
use Rattle.std.specs.FinMap.{find, get, contains_key, insert, len, get-insert, len-insert, get_tied, from_entries_push}
use Rattle.std.proofs.lemmas.List.{take_more}
use Rattle.fetch_base.specs.declared.id.Kind.{Kind}
use Rattle.fetch_base.specs.declared.id.ObjectId.{ObjectId}
use Rattle.fetch_objects.specs.Objects.{Stored}
use Rattle.fetch_store.specs.Stores.{Entries, ObjectMap, map_of, AreOf, add, add_all, first_some, clashes, collision}
use Rattle.fetch_base.specs.Id.{id_cmp}
use Rattle.fetch_base.proofs.Ids.{id_cmp_total, id_cmp_exact}
use Rattle.fetch_store.proofs.Finds.{get-map_of, from}

Entry : Type 0
Entry = ObjectId × Stored

pub AreOf-push : (hash : Kind) (es : Entries) (e : ObjectId × Stored) → AreOf hash es → AreOf hash (e ∷ []) → AreOf hash (es ++ e ∷ [])
AreOf-push hash [] e all one = one
AreOf-push hash (x ∷ es) e all one = (all.0, AreOf-push hash es e all.1 one)

-- an entry of a new id at the end
pub map_of-push : (es : Entries) (e : ObjectId × Stored) → is_some (find id_cmp e.0 es) ≡ false → map_of (es ++ e ∷ []) ≡ add (map_of es) e
map_of-push es e new =
    from_entries_push id_cmp_total id_cmp_exact es e.0 e.1 (none (find id_cmp e.0 es) new)
    ∙ ap (λ b. cond b (map_of es) (insert (map_of es) e.0 e.1)) (sym (ap is_some (get-map_of es e.0) ∙ new))
  where
    none : (o : Option Stored) → is_some o ≡ false → o ≡ None
    none None is = refl
    none (Some x) is = absurd cc

-- an entry of an id that is there
pub add-known : (es : Entries) (e : ObjectId × Stored) → is_some (find id_cmp e.0 es) ≡ true → add (map_of es) e ≡ map_of es
add-known es e known = ap (λ b. cond b (map_of es) (insert (map_of es) e.0 e.1)) (ap is_some (get-map_of es e.0) ∙ known)

pub len-add_new : (es : Entries) (e : ObjectId × Stored) → is_some (find id_cmp e.0 es) ≡ false → len (add (map_of es) e) ≡ len (map_of es) + 1
len-add_new es e new =
    let absent : contains_key (map_of es) e.0 ≡ false = ap is_some (get-map_of es e.0) ∙ new in
    ap (λ b. len (cond b (map_of es) (insert (map_of es) e.0 e.1))) absent ∙ len-insert id_cmp_total (map_of es) e.0 e.1
    ∙ ap (λ b. cond b (len (map_of es)) (len (map_of es) + 1)) absent

-- at an id that ties, or at another
kept : (q k : ObjectId) (x : Stored) (here there : Option Stored) (t : Bool) → is_some there ≡ true → (t ≡ true → here ≡ there) → here ≡ first_some here (cond t (Some x) None)
kept q k x (Some y) there t known tied = refl
kept q k x None there false known tied = refl
kept q k x None None true known tied = absurd cc
kept q k x None (Some y) true known tied = absurd (let e : None ≡ Some y = tied refl in cc)

placed : (q k : ObjectId) (x : Stored) (here there : Option Stored) (t : Bool) → is_some there ≡ false → (t ≡ true → here ≡ there) → cond t (Some x) here ≡ first_some here (cond t (Some x) None)
placed q k x None there t absent tied = refl
placed q k x (Some y) there false absent tied = refl
placed q k x (Some y) None true absent tied = absurd (let e : Some y ≡ None = tied refl in cc)
placed q k x (Some y) (Some z) true absent tied = absurd cc

tied_get : (m : ObjectMap) (q k : ObjectId) → eq_by_cmp id_cmp q k ≡ true → get m q ≡ get m k
tied_get m q k t = sym (get_tied id_cmp_total m q k ((Equal-is (id_cmp q k)).0 t))

pub get-add : (m : ObjectMap) (e : ObjectId × Stored) (q : ObjectId) → get (add m e) q ≡ first_some (get m q) (cond (eq_by_cmp id_cmp q e.0) (Some e.1) None)
get-add m e q = by_test (contains_key m e.0) refl
  where
    by_test : (b : Bool) → contains_key m e.0 ≡ b → get (cond b m (insert m e.0 e.1)) q ≡ first_some (get m q) (cond (eq_by_cmp id_cmp q e.0) (Some e.1) None)
    by_test true is = kept q e.0 e.1 (get m q) (get m e.0) (eq_by_cmp id_cmp q e.0) is (tied_get m q e.0)
    by_test false is = get-insert id_cmp_total m e.0 e.1 q ∙ placed q e.0 e.1 (get m q) (get m e.0) (eq_by_cmp id_cmp q e.0) is (tied_get m q e.0)

regroup : (a b : Option Stored) (t : Bool) (x : Stored) → first_some (first_some a (cond t (Some x) None)) b ≡ first_some a (cond t (Some x) b)
regroup None b true x = refl
regroup None b false x = refl
regroup (Some y) b t x = refl

pub last_none : (a : Option Stored) → a ≡ first_some a None
last_none None = refl
last_none (Some x) = refl

-- what stands at an id after a list: what stood there, or else the first of the list
pub get-add_all : (m : ObjectMap) (es : Entries) (q : ObjectId) → get (add_all m es) q ≡ first_some (get m q) (find id_cmp q es)
get-add_all m [] q = last_none (get m q)
get-add_all m (e ∷ es) q =
    get-add_all (add m e) es q ∙ ap (λ o. first_some o (find id_cmp q es)) (get-add m e q)
    ∙ regroup (get m q) (find id_cmp q es) (eq_by_cmp id_cmp q e.0) e.1

pub add_all-push : (m : ObjectMap) (es : Entries) (e : ObjectId × Stored) → add_all m (es ++ e ∷ []) ≡ add (add_all m es) e
add_all-push m [] e = refl
add_all-push m (x ∷ es) e = add_all-push (add m x) es e

-- one object more of a list without a collision so far
pub collision_at : (stored : ObjectMap) (es : Entries) (i : ℕ) (e : ObjectId × Stored) (known : Option Stored) → i < length es → e ≡ get_or es i e
    → known ≡ first_some (get stored e.0) (find id_cmp e.0 (take i es))
    → collision (add_all stored (take i es)) (drop i es) ≡ cond (clashes known e.1) (Some e.0) (collision (add_all stored (take (i + 1) es)) (drop (i + 1) es))
collision_at stored es i e known lt is found =
    let m = add_all stored (take i es) in
    let here : get m e.0 ≡ known = get-add_all stored (take i es) e.0 ∙ sym found in
    let more : add m e ≡ add_all stored (take (i + 1) es) = sym (add_all-push stored (take i es) e) ∙ ap (add_all stored) (ap (λ (x : ObjectId × Stored). take i es ++ x ∷ []) is ∙ sym (take_more es i e lt)) in
    ap (collision m) (from es i e lt is) ∙ ap (λ o. cond (clashes o e.1) (Some e.0) (collision (add m e) (drop (i + 1) es))) here
    ∙ ap (λ n. cond (clashes known e.1) (Some e.0) (collision n (drop (i + 1) es))) more
