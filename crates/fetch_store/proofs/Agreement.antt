-- Where there is no collision an id has one object in the map and in the list.
use Rattle.std.proofs.Common.{◌≡◌, Bool, true, false, not, ◌&&◌, cond, [], ◌∷◌, Option, None, Some, All, refl, sym, ap, ◌∙◌}
use Rattle.std.specs.Str.{bytes_eq}
use Rattle.std.specs.Ordering.{eq_by_cmp}
use Rattle.std.specs.FinMap.{get}
use Rattle.std.proofs.lemmas.List.Elements.{All-nil, All-cons, All-weaker}
use Rattle.std.proofs.lemmas.Slice.Eq.{bytes_eq-Decides}
use Rattle.fetch_base.specs.declared.id.ObjectId.{ObjectId}
use Rattle.fetch_base.specs.declared.object_kind.ObjectKind.{ObjectKind}
use Rattle.fetch_base.specs.declared.object_kind.ObjectKind.TheVariants.{Commit, Tree, Blob, Tag}
use Rattle.fetch_objects.specs.Objects.{Stored, has_same_text}
use Rattle.fetch_base.specs.Kinds.{is_kind}
use Rattle.fetch_store.specs.Stores.{Entries, ObjectMap, add, first_some, clashes, collision}
use Rattle.fetch_base.specs.Id.{id_cmp}
use Rattle.fetch_store.proofs.Additions.{get-add}

-- an id that the map has stands there with the entry's text
abbrev pub Agrees : ObjectMap → ObjectId × Stored → Type 0
Agrees m e = (x : Stored) → get m e.0 ≡ Some x → has_same_text x e.1 ≡ true

pub first_of : (q : ObjectId) (b : Bool) (rest : Option ObjectId) → cond b (Some q) rest ≡ None → (b ≡ false) × (rest ≡ None)
first_of q true rest is = absurd cc
first_of q false rest is = (refl, is)

agrees : (m : ObjectMap) (e : ObjectId × Stored) → clashes (get m e.0) e.1 ≡ false → Agrees m e
agrees m e is x there = turn (has_same_text x e.1) (ap (λ o. clashes o e.1) (sym there) ∙ is)
  where
    turn : (b : Bool) → not b ≡ false → b ≡ true
    turn true h = refl
    turn false h = absurd cc

kept : (m : ObjectMap) (e : ObjectId × Stored) (q : ObjectId) (x : Stored) → get m q ≡ Some x → get (add m e) q ≡ Some x
kept m e q x is = get-add m e q ∙ ap (λ o. first_some o (cond (eq_by_cmp id_cmp q e.0) (Some e.1) None)) is

pub all_agree : (m : ObjectMap) (es : Entries) → collision m es ≡ None → All (Agrees m) es
all_agree m [] is = All-nil (Agrees m)
all_agree m (e ∷ es) is =
    let both = first_of e.0 (clashes (get m e.0) e.1) (collision (add m e) es) is in
    All-cons (Agrees m) e es (agrees m e both.0)
    (All-weaker (Agrees (add m e)) (Agrees m) (λ x same y there. same y (kept m e x.0 y there)) es (all_agree (add m e) es both.1))

pub same_kind : (a b : ObjectKind) → is_kind a b ≡ true → a ≡ b
same_kind Commit Commit h = refl
same_kind Commit Tree h = absurd cc
same_kind Commit Blob h = absurd cc
same_kind Commit Tag h = absurd cc
same_kind Tree Commit h = absurd cc
same_kind Tree Tree h = refl
same_kind Tree Blob h = absurd cc
same_kind Tree Tag h = absurd cc
same_kind Blob Commit h = absurd cc
same_kind Blob Tree h = absurd cc
same_kind Blob Blob h = refl
same_kind Blob Tag h = absurd cc
same_kind Tag Commit h = absurd cc
same_kind Tag Tree h = absurd cc
same_kind Tag Blob h = absurd cc
same_kind Tag Tag h = refl

pub parts_true : (a b : Bool) → (a && b) ≡ true → (a ≡ true) × (b ≡ true)
parts_true true b h = (refl, h)
parts_true false b h = absurd cc

pub kind_of_same : (a b : Stored) → has_same_text a b ≡ true → a.kind ≡ b.kind
kind_of_same a b h = same_kind a.kind b.kind (parts_true (is_kind a.kind b.kind) (bytes_eq a.bytes b.bytes) h).0

pub same_object : (a b : Stored) → a.hash ≡ b.hash → has_same_text a b ≡ true → a ≡ b
same_object a b hash h =
    let kind : a.kind ≡ b.kind = kind_of_same a b h in
    let bytes : a.bytes ≡ b.bytes = (bytes_eq-Decides a.bytes b.bytes).0 (parts_true (is_kind a.kind b.kind) (bytes_eq a.bytes b.bytes) h).1 in
    λ i. record { hash = hash i; kind = kind i; bytes = bytes i }
