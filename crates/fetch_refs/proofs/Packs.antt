-- The text of the packed list, and whether edits change it.
use Rattle.std.proofs.Common.{◌≡◌, ℕ, Bool, true, false, List, [], ◌∷◌, ◌++◌, Option, Some, None, unwrap_or, refl, sym, ap, ◌∙◌, append_assoc}
use Rattle.std.specs.Prelude.{◌&&◌}
use Rattle.std.specs.List.{flat_map, list_all}
use Rattle.std.specs.List.Sorted.{IsStrictlySortedBy}
use Rattle.std.specs.Map.{keys_of, lookup}
use Rattle.std.specs.Cmp.{Equal-is}
use Rattle.std.specs.FinMap as finmap
use Rattle.std.specs.BTreeMap.{is_at}
use Rattle.std.specs.Option.{option_map, option_and_then}
use Rattle.fetch_refs.proofs.Maps.{find-lookup}
use Rattle.fetch_refs.proofs.Names.{name_cmp_total, name_cmp_exact}
use Rattle.fetch_base.specs.Id.{id_cmp}
use Rattle.fetch_base.specs.declared.id.ObjectId.{ObjectId}
use Rattle.fetch_refs.specs.declared.slot.Listed.{Listed}
use Rattle.fetch_refs.specs.declared.slot.Slot.{Slot}
use Rattle.fetch_refs.specs.declared.target.Target.{Target}
use Rattle.fetch_refs.specs.declared.undo.Undo.{Undo}
use Rattle.fetch_refs.specs.declared.undo.Undo.TheVariants as undos
use Rattle.fetch_refs.specs.Contents.{value_of, names_of, listed, undone, unwound}
use Rattle.fetch_refs.specs.Iter.{stands, standing}
use Rattle.fetch_refs.specs.Names.{PackedList, RefsValue, name_cmp}
use Rattle.fetch_refs.specs.Packed.{packed_line, packed_text, direct_id, all_direct}
use Rattle.fetch_refs.specs.Packing.{line_if, same_option, keeps_packed}
use Rattle.fetch_refs.specs.Slots.{with_slot, over, each}
use Rattle.fetch_base.proofs.Ids.{id_cmp_exact}
use Rattle.fetch_refs.proofs.Overlays.{same_slot, get-each}
use Rattle.fetch_refs.proofs.Standing.{entries-each, entries-none}

line_first : (name : List ℕ) (id : Option ObjectId) (rest : List (List ℕ × ObjectId)) → flat_map packed_line (stands name id rest) ≡ line_if name id ++ flat_map packed_line rest
line_first name None rest = refl
line_first name (Some id) rest = refl

-- a line more of the text of a list
pub line_more : (list : Listed) (text more whole : List ℕ) (all rest : List (List ℕ × Slot)) (name : List ℕ) (slot : Slot) → text ++ flat_map packed_line (standing (each (listed list) all)) ≡ whole
    → all ≡ (name, slot) ∷ rest → more ≡ text ++ line_if name (listed list slot) → more ++ flat_map packed_line (standing (each (listed list) rest)) ≡ whole
line_more list text more whole all rest name slot so_far next is =
    ap (λ (xs : List ℕ). xs ++ flat_map packed_line (standing (each (listed list) rest))) is ∙ append_assoc text (line_if name (listed list slot)) (flat_map packed_line (standing (each (listed list) rest)))
    ∙ ap (λ (xs : List ℕ). text ++ xs) (sym (line_first name (listed list slot) (standing (each (listed list) rest))))
    ∙ ap (λ (es : List (List ℕ × Slot)). text ++ flat_map packed_line (standing (each (listed list) es))) (sym next) ∙ so_far

pub whole_text : (list : Listed) (text : List ℕ) (es : List (List ℕ × Slot)) → IsStrictlySortedBy name_cmp (keys_of es) → text ≡ flat_map packed_line (standing (each (listed list) es)) → text ≡ packed_text (over finmap.empty (each (listed list) es))
whole_text list text es s is = is ∙ ap (flat_map packed_line) (sym (entries-each (listed list) es s))

option_is : (a b : Option ObjectId) → same_option a b ≡ true → a ≡ b
option_is None None is = refl
option_is (Some a) (Some b) is = ap (λ (x : ObjectId). Some x) (id_cmp_exact a b ((Equal-is (id_cmp a b)).0 is))
option_is None (Some b) is = absurd cc
option_is (Some a) None is = absurd cc

kept : (u : Undo) (r s : RefsValue) → s.packed ≡ r.packed → keeps_packed r.packed u ≡ true → (undone u s).packed ≡ r.packed
kept (undos.Target name old) r s same is = ap (λ (p : PackedList). with_slot p name old.packed) same ∙ ap (with_slot r.packed name) (sym (option_is (finmap.get r.packed name) old.packed is)) ∙ same_slot r.packed name
kept (undos.Line name left) r s same is = same
kept (undos.Lines name old) r s same is = same

first : (a b : Bool) → (a && b) ≡ true → a ≡ true
first true b p = refl
first false b p = p

second : (a b : Bool) → (a && b) ≡ true → b ≡ true
second true b p = p
second false b p = absurd cc

-- a list that has at each changed name what it had is the same
pub list_kept : (us : List Undo) (r : RefsValue) → list_all (keeps_packed r.packed) us ≡ true → (unwound us r).packed ≡ r.packed
list_kept [] r is = refl
list_kept (u ∷ us) r is = kept u r (unwound us r) (list_kept us r (second _ _ is)) (first _ _ is)

direct_is : (o : Option Slot) → unwrap_or (option_map (λ (s : Slot). option_and_then direct_id s.value) o) None ≡ unwrap_or (option_map direct_id (unwrap_or (option_map value_of o) None)) None
direct_is None = refl
direct_is (Some s) = inside s.value
  where
    inside : (v : Option Target) → option_and_then direct_id v ≡ unwrap_or (option_map direct_id v) None
    inside None = refl
    inside (Some t) = refl

-- the ids of the direct references
pub direct_list : (es : List (List ℕ × Slot)) → over finmap.empty (each (λ (s : Slot). option_and_then direct_id s.value) es) ≡ all_direct (names_of es)
direct_list es =
    finmap.same_map name_cmp_total name_cmp_exact _ _ (λ q.
    get-each (λ (s : Slot). option_and_then direct_id s.value) es q
    ∙ direct_is (lookup (is_at (name_cmp q)) es)
    ∙ ap (λ (o : Option Target). unwrap_or (option_map direct_id o) None) (sym (get-each value_of es q) ∙ finmap.get-entries (names_of es) q ∙ sym (find-lookup name_cmp q (finmap.entries (names_of es))))
    ∙ sym (get-each direct_id (finmap.entries (names_of es)) q))

pub no_text : [] ≡ packed_text finmap.empty
no_text = ap (flat_map packed_line) (sym entries-none)
