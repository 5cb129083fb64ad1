-- The names that are fetched are full ones under `refs/`, each once, where no name is listed twice.
use Rattle.std.proofs.Common.{◌≡◌, ℕ, Bool, true, false, ◌&&◌, List, [], ◌∷◌, ◌++◌, length, drop, map, nat_eq, Some, None, refl, sym, ap, ◌∙◌, subst}
use Rattle.std.specs.Prelude.{is_some, if◌then◌else◌}
use Rattle.std.specs.List.{AllByRecursion, IsDistinct, cons_option, starts_with}
use Rattle.std.specs.Str.{bytes_eq}
use Rattle.std.proofs.lemmas.Bool.Decides.{Decides-eqb}
use Rattle.std.proofs.lemmas.Slice.Eq.{starts_is}
use Rattle.fetch_specs.specs.Categories.{refs}
use Rattle.fetch_specs.specs.Names.{is_full_name}
use Rattle.fetch_replies.specs.NamesTold.{AreNamedOnce}
use Rattle.fetch_lines.specs.References.{id_in, name_in}
use Rattle.fetch_map.specs.declared.mapping.RefMap.{RefMap}
use Rattle.fetch_lines.specs.declared.listings.reference.Ref.{Ref}
use Rattle.fetch_mirror.specs.Mirroring.{Asking, HasListed}
use Rattle.fetch_mirror.specs.Naming.{inquiry_by, is_own, is_own_name, names_of, own_name}
use Rattle.fetch_mirror.specs.Shares.{AreOwnNames}
use Rattle.fetch_mirror.proofs.Once.{once_at}
use Rattle.fetch_mirror.proofs.Listed.{inquired_so}
use Rattle.fetch_mirror.proofs.OwnNames.{map_is}
use Rattle.fetch_mirror.proofs.Places.{from}

kept_apart : (x : List ℕ) (listed : List Ref) → AllByRecursion (λ y. bytes_eq x y ≡ false) (map name_in listed) → AllByRecursion (λ y. bytes_eq x y ≡ false) (names_of listed)
kept_apart x [] all = tt
kept_apart x (r ∷ listed) all = by (is_own r) all.0 (kept_apart x listed all.1)
  where
    by : (b : Bool) → bytes_eq x (name_in r) ≡ false → AllByRecursion (λ y. bytes_eq x y ≡ false) (names_of listed) → AllByRecursion (λ y. bytes_eq x y ≡ false) (cons_option (if b then Some (name_in r) else None) (names_of listed))
    by true h t = (h, t)
    by false h t = t

distinct : (listed : List Ref) → IsDistinct bytes_eq (map name_in listed) → IsDistinct bytes_eq (names_of listed)
unfolding IsDistinct
distinct [] d = tt
distinct (r ∷ listed) d = by (is_own r) (kept_apart (name_in r) listed d.0) (distinct listed d.1)
  where
    by : (b : Bool) → AllByRecursion (λ y. bytes_eq (name_in r) y ≡ false) (names_of listed) → IsDistinct bytes_eq (names_of listed) → IsDistinct bytes_eq (cons_option (if b then Some (name_in r) else None) (names_of listed))
    by true a t = (a, t)
    by false a t = t

both_true : (a b : Bool) → (a && b) ≡ true → (a ≡ true) × (b ≡ true)
both_true true b is = (refl, is)
both_true false b is = absurd cc

own_named : (r : Ref) (name : List ℕ) → own_name r ≡ Some name → is_own_name name ≡ true
own_named r name is = by (is_own r) refl is
  where
    by : (b : Bool) → is_own r ≡ b → (if b then Some (name_in r) else None) ≡ Some name → is_own_name name ≡ true
    by true own named = let same : name_in r ≡ name = cc in sym (ap is_own_name same) ∙ (both_true (is_some (id_in r)) (is_own_name (name_in r)) own).1
    by false own named = absurd cc

begins : (name : List ℕ) → starts_with nat_eq name refs ≡ true → name ≡ refs ++ drop (length refs) name
begins name is = (starts_is Decides-eqb name refs (starts_with nat_eq name refs) refl).0 is

pub own_names : (listed : List Ref) → AreNamedOnce listed → AreOwnNames (names_of listed)
own_names listed once = record {
  under = λ i name at.
      let f = from own_name listed i name at in
      let own = both_true (starts_with nat_eq name refs) (is_full_name name) (own_named f.x name f.is) in
      record { full = own.1; rest = drop (length refs) name; is = begins name own.0 };
  once = once_at (names_of listed) (distinct listed once);
}

-- so are the names that a lister told
pub listed_own : {P : Type 0} (a : Asking P) (names : List (List ℕ)) → HasListed a names → AreOwnNames names
listed_own a names h =
    let m = inquired_so a.bound (inquiry_by a.bound) h.listed (h.behind ++ []) (h.heard.said ++ []) (h.heard.answered []) in
    subst AreOwnNames (sym h.names_are) (own_names h.listed.ref_map.remote_refs (subst AreNamedOnce (ap (λ (x : RefMap). x.remote_refs) (map_is (inquiry_by a.bound) m.handshake m.refs h.listed m.is)) m.once))
