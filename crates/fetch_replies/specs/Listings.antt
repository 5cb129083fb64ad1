-- The references that a server lists.
use Rattle.std.specs.Prelude.{◌≡◌, ℕ, List, [], ◌∷◌, Bool, true, Option, Some, None, if◌then◌else◌, codes}
use Rattle.std.specs.List.{list_any}
use Rattle.std.specs.Option.{option_map, option_and_then}
use Rattle.std.specs.BTreeSet.{BTreeSet, contains}
use Rattle.std.specs.Str.{bytes_eq}
use Rattle.fetch_base.specs.Scan.{split_first, after}
use Rattle.fetch_base.specs.Id.{id_in_hex, id_cmp}
use Rattle.fetch_base.specs.Hashing.{digest}
use Rattle.fetch_base.specs.declared.id.Kind.{Kind}
use Rattle.fetch_base.specs.declared.id.Kind.TheVariants.{Sha256}
use Rattle.fetch_base.specs.declared.id.ObjectId.{ObjectId}
use Rattle.fetch_lines.specs.declared.listings.reference.Ref.{Ref}
use Rattle.fetch_lines.specs.declared.listings.reference.Ref.TheVariants.{Direct, Symbolic, Peeled, Unborn}
use Rattle.fetch_lines.specs.References.{name_in}
use Rattle.fetch_lines.specs.Words.{words}

-- the target and the peeled id that attributes tell
abbrev pub Attributes : Type 0
Attributes = Option (List ℕ) × Option ObjectId

-- no attribute was met
abbrev pub no_attributes : Attributes
no_attributes = (None, None)

-- a target isn't empty
abbrev pub with_target : Attributes → List ℕ → Option Attributes
with_target found [] = None
with_target found (c ∷ cs) = Some (Some (c ∷ cs), found.1)

-- the attributes with what a tag peels to
abbrev pub with_peeled : Attributes → ObjectId → Attributes
with_peeled found id = (found.0, Some id)

-- an attribute that begins with none of the known words is passed over
abbrev pub told_by : Kind → Attributes → Option (List ℕ) → Option (List ℕ) → Option Attributes
told_by kind found (Some target) hex = with_target found target
told_by kind found None (Some hex) = option_map (with_peeled found) (id_in_hex kind hex)
told_by kind found None None = Some found

-- one more attribute: the last of a kind counts
unfoldable pub with_attribute : Kind → Attributes → List ℕ → Option Attributes
with_attribute kind found word = told_by kind found (after (codes "symref-target:") word) (after (codes "peeled:") word)

-- attributes one after another
abbrev pub with_attributes : Kind → Attributes → List (List ℕ) → Option Attributes
with_attributes kind found [] = Some found
with_attributes kind found (word ∷ others) = option_and_then (λ more. with_attributes kind more others) (with_attribute kind found word)

-- A reference with an id and these attributes, or an unborn one, which has a target.
abbrev pub ref_with : List ℕ → Option ObjectId → Attributes → Option Ref
ref_with name None (target, peeled) = option_map (Unborn name) target
ref_with name (Some id) (Some target, Some peeled) = Some (Symbolic name target (Some id) peeled)
ref_with name (Some id) (Some target, None) = Some (Symbolic name target None id)
ref_with name (Some id) (None, Some peeled) = Some (Peeled name id peeled)
ref_with name (Some id) (None, None) = Some (Direct name id)

-- `unborn`, or an id
unfoldable pub id_or_unborn : Kind → List ℕ → Option (Option ObjectId)
id_or_unborn kind text = if bytes_eq text (codes "unborn") then Some None else option_map Some (id_in_hex kind text)

-- a name, which isn't empty, and attributes
abbrev pub named_by : Kind → Option ObjectId → List (List ℕ) → Option Ref
named_by kind id [] = None
named_by kind id ([] ∷ attributes) = None
named_by kind id ((c ∷ cs) ∷ attributes) = option_and_then (ref_with (c ∷ cs) id) (with_attributes kind no_attributes attributes)

-- an id or `unborn`, a space, and a name with attributes, which spaces divide
abbrev pub ref_in : Kind → List ℕ → Option Ref
ref_in kind text = option_and_then (λ parts. option_and_then (λ id. named_by kind id (words parts.1)) (id_or_unborn kind parts.0))
    (split_first 32 text)

-- whether a reference of this name was listed before
abbrev pub is_listed : List Ref → Ref → Bool
is_listed before reference = list_any (λ r. bytes_eq (name_in r) (name_in reference)) before

-- a name that was listed before isn't listed again
abbrev pub if_new : List Ref → Ref → Option Ref
if_new before reference = if is_listed before reference then None else Some reference

-- a set has the digest of the name of each of these references
abbrev pub HasDigests : List Ref → BTreeSet ObjectId → Type 0
HasDigests refs digests = (name : List ℕ) → list_any (λ r. bytes_eq (name_in r) name) refs ≡ true
    → contains id_cmp digests (digest Sha256 name) ≡ true
