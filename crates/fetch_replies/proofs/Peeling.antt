-- The last reference listed, whose tag peels to an id.
use Rattle.std.proofs.Common.{◌≡◌, ℕ, Bool, true, false, Some, None, List, [], ◌∷◌, ◌++◌, refl, ap, ◌∙◌}
use Rattle.std.specs.Prelude.{if◌then◌else◌}
use Rattle.std.specs.Option.{option_map}
use Rattle.std.specs.Str.{bytes_eq}
use Rattle.fetch_base.specs.declared.id.ObjectId.{ObjectId}
use Rattle.fetch_lines.specs.declared.listings.reference.Ref.{Ref}
use Rattle.fetch_replies.specs.Advertisements.{with_peel, peeled_to}
use Rattle.fetch_lines.specs.References.{name_in}

if_before : (b : Bool) (a : Ref) (refs : List Ref) → option_map (λ more. a ∷ more) (if b then Some refs else None) ≡ (if b then Some (a ∷ refs) else None)
if_before true a refs = refl
if_before false a refs = refl

pub peel_front : (id : ObjectId) (name : List ℕ) (front : List Ref) (r : Ref) → with_peel id name (front ++ r ∷ []) ≡ (if bytes_eq (name_in r) name then Some (front ++ peeled_to id r ∷ []) else None)
peel_front id name [] r = refl
peel_front id name (a ∷ []) r = if_before (bytes_eq (name_in r) name) a (peeled_to id r ∷ [])
peel_front id name (a ∷ b ∷ front) r =
    ap (option_map (λ (more : List Ref). a ∷ more)) (peel_front id name (b ∷ front) r) ∙ if_before (bytes_eq (name_in r) name) a ((b ∷ front) ++ peeled_to id r ∷ [])

by_name : (b : Bool) (front : List Ref) (r p : Ref) → (if b then Some (front ++ (if b then p else r) ∷ []) else None) ≡ (if b then Some (front ++ p ∷ []) else None)
by_name true front r p = refl
by_name false front r p = refl

-- what is left where the last reference had this name, and none where it hadn't
pub peeled_last : (id : ObjectId) (name : List ℕ) (old front items : List Ref) (r : Ref) (b : Bool) → old ≡ front ++ r ∷ [] → b ≡ bytes_eq (name_in r) name
    → items ≡ front ++ (if b then peeled_to id r else r) ∷ [] → (if b then Some items else None) ≡ with_peel id name old
peeled_last id name old front items r b was is now = rw (was, now, peel_front id name front r, ← is) (by_name b front r (peeled_to id r))
