-- Places that hold nothing, left out.
use Rattle.std.proofs.Common.{◌≡◌, ℕ, Bool, true, false, cond, List, [], ◌∷◌, length, Option, Some, None, refl, sym, ap, ◌∙◌, subst, arith}
use Rattle.std.specs.Prelude.{◌||◌, ◌↔◌, IsTrue, if◌then◌else◌, is_some}
use Rattle.std.specs.FinMap as finmap
use Rattle.std.specs.List.Sorted.{IsStrictlySortedBy}
use Rattle.std.specs.Map.{keys_of}
use Rattle.std.specs.Map.Calls.{RetainsPairs}
use Rattle.std.specs.Option.{option_and_then}
use Rattle.fetch_base.specs.declared.id.Kind.{Kind}
use Rattle.fetch_base.specs.declared.id.ObjectId.{ObjectId}
use Rattle.fetch_refs.specs.declared.log.LogLine.{LogLine}
use Rattle.fetch_refs.specs.declared.slot.Slot.{Slot}
use Rattle.fetch_refs.specs.declared.target.Target.{Target}
use Rattle.fetch_refs.specs.Contents.{value_of, packed_of, names_of, list_of, packed_slot, loose_slot, is_held, held}
use Rattle.fetch_refs.specs.Iter.{stands, standing}
use Rattle.fetch_refs.specs.Names.{Logs, Names, PackedList, RefsValue, name_cmp}
use Rattle.fetch_refs.specs.Overlay.{shown_lines, logs_of}
use Rattle.fetch_refs.specs.Packed.{all_direct, direct_id}
use Rattle.fetch_refs.specs.Slots.{over, each}
use Rattle.fetch_refs.proofs.Packs.{direct_list}
use Rattle.fetch_refs.proofs.Standing.{entries-each, entries-none, keys-each, sorted-standing}

module _ {S R X : Type 0} (kept : S → Option R) (shown : R → Option X) (was : S → Option X) (is : (s : S) → option_and_then shown (kept s) ≡ was s) where
  first : (name : List ℕ) (o : Option R) (v : Option X) (rest : List (List ℕ × R)) (more : List (List ℕ × X)) → option_and_then shown o ≡ v → standing (each shown rest) ≡ more
      → standing (each shown (stands name o rest)) ≡ stands name v more
  first name None v rest more same tail = tail ∙ ap (λ (o : Option X). stands name o more) same
  first name (Some r) v rest more same tail = ap (stands name (shown r)) tail ∙ ap (λ (o : Option X). stands name o more) same

  sift : (es : List (List ℕ × S)) → standing (each shown (standing (each kept es))) ≡ standing (each was es)
  sift [] = refl
  sift (e ∷ es) = first e.0 (kept e.1) (was e.1) (standing (each kept es)) (standing (each was es)) (is e.1) (sift es)

  -- what the places that are left show is what all showed
  pub sifted : (es : List (List ℕ × S)) (fs : List (List ℕ × R)) → IsStrictlySortedBy name_cmp (keys_of es) → IsStrictlySortedBy name_cmp (keys_of fs) → fs ≡ standing (each kept es)
      → over finmap.empty (each shown fs) ≡ over finmap.empty (each was es)
  sifted es fs order sorted left =
      finmap.same_entries_map _ _ (entries-each shown fs sorted ∙ ap (λ (xs : List (List ℕ × R)). standing (each shown xs)) left ∙ sift es ∙ sym (entries-each was es order))

-- what is left is in order
pub sorted_kept : {S X : Type 0} (kept : S → Option X) (es : List (List ℕ × S)) → IsStrictlySortedBy name_cmp (keys_of es) → IsStrictlySortedBy name_cmp (keys_of (standing (each kept es)))
sorted_kept kept es s = sorted-standing (each kept es) (subst (IsStrictlySortedBy name_cmp) (sym (keys-each kept es)) s)

-- one place less of those that are left
pub skipped : {S X : Type 0} (kept : S → Option X) (es : List (List ℕ × S)) (name : List ℕ) (s : S) (rest : List (List ℕ × S)) → es ≡ (name, s) ∷ rest → kept s ≡ None → standing (each kept es) ≡ standing (each kept rest)
skipped {S} {X} kept es name s rest is none = ap (λ (xs : List (List ℕ × S)). standing (each kept xs)) is ∙ ap (λ (o : Option X). stands name o (standing (each kept rest))) none

pub stood : {S X : Type 0} (kept : S → Option X) (es : List (List ℕ × S)) (name : List ℕ) (s : S) (x : X) (rest : List (List ℕ × S)) → es ≡ (name, s) ∷ rest → kept s ≡ Some x → standing (each kept es) ≡ (name, x) ∷ standing (each kept rest)
stood {S} {X} kept es name s x rest is some = ap (λ (xs : List (List ℕ × S)). standing (each kept xs)) is ∙ ap (λ (o : Option X). stands name o (standing (each kept rest))) some

pub not_held : (s : Slot) (b : Bool) → b ≡ is_held s → b ≡ false → held s ≡ None
not_held s b is other = ap (λ (t : Bool). if t then Some s else None) (sym is ∙ other)

pub is_there : (s : Slot) (b : Bool) → b ≡ is_held s → b ≡ true → held s ≡ Some s
is_there s b is so = ap (λ (t : Bool). if t then Some s else None) (sym is ∙ so)

-- the lines of a reflog, by whether there are any
pub no_lines : (ls : List LogLine) (b : Bool) → (IsTrue b ↔ (length ls ≡ 0)) → b ≡ true → shown_lines ls ≡ None
no_lines [] b is so = refl
no_lines (l ∷ ls) b is so = absurd (let none = is.0 so in omega (arith, none))

pub some_lines : (ls : List LogLine) (b : Bool) → (IsTrue b ↔ (length ls ≡ 0)) → b ≡ false → shown_lines ls ≡ Some ls
some_lines [] b is some = absurd (let h : false ≡ true = sym some ∙ is.1 refl in cc)
some_lines (l ∷ ls) b is some = refl

module _ {F S : Type 0} (T : F → List ℕ → S → Bool → S → F → Type 0) (test : S → Bool) (written : S → S) where
  abbrev pub kept_by : S → Option S
  kept_by s = cond (test s) (Some (written s)) None

  one : (name : List ℕ) (s w : S) (b : Bool) (rest more : List (List ℕ × S)) → b ≡ test s → w ≡ written s → rest ≡ more → cond b ((name, w) ∷ rest) rest ≡ stands name (kept_by s) more
  one name s w b rest more tested is same =
      by_test b ∙ ap (λ (t : Bool). stands name (cond t (Some w) None) rest) tested ∙ ap (λ (x : S). stands name (cond (test s) (Some x) None) rest) is ∙ ap (stands name (kept_by s)) same
    where
      by_test : (t : Bool) → cond t ((name, w) ∷ rest) rest ≡ stands name (cond t (Some w) None) rest
      by_test true = refl
      by_test false = refl

  -- a closure that tests each value, writes it, and stays as it was
  pub retained : (f : F) → ((k : List ℕ) (v : S) (b : Bool) (w : S) (f' : F) → T f k v b w f' → (b ≡ test v) × (w ≡ written v) × (f' ≡ f)) → (es kept : List (List ℕ × S)) → RetainsPairs T f es kept → kept ≡ standing (each kept_by es)
  retained f h [] kept r = r
  retained f h (e ∷ es) kept r =
      let a = h e.0 e.1 r.0 r.1 r.2 r.4 in
      r.6 ∙ one e.0 e.1 r.1 r.0 r.3 (standing (each kept_by es)) a.0 a.1 (retained f h es r.3 (subst (λ (g : F). RetainsPairs T g es r.3) a.2 r.5))

value_stays : (v : Option Target) (p : Option ObjectId) → option_and_then value_of (cond (is_some v) (Some (record { value = v; packed = p })) None) ≡ v
value_stays None p = refl
value_stays (Some t) p = refl

direct_packed : (v : Option Target) → option_and_then packed_of (cond (is_some v) (Some (record { value = v; packed = option_and_then direct_id v })) None) ≡ option_and_then direct_id v
direct_packed None = refl
direct_packed (Some t) = refl

none_packed : (v : Option Target) → option_and_then packed_of (cond (is_some v) (Some (record { value = v; packed = None })) None) ≡ None
none_packed None = refl
none_packed (Some t) = refl

abbrev Entries : Type 0
Entries = List (List ℕ × Slot)

module _ (es fs : Entries) (order : IsStrictlySortedBy name_cmp (keys_of es)) (sorted : IsStrictlySortedBy name_cmp (keys_of fs)) where
  pub packed-names : fs ≡ standing (each (λ (s : Slot). cond (is_some s.value) (Some (packed_slot s)) None) es) → names_of fs ≡ names_of es
  packed-names left = sifted _ value_of value_of (λ s. value_stays s.value (option_and_then direct_id s.value)) es fs order sorted left

  pub packed-list : fs ≡ standing (each (λ (s : Slot). cond (is_some s.value) (Some (packed_slot s)) None) es) → list_of fs ≡ all_direct (names_of es)
  packed-list left = sifted _ packed_of (λ (s : Slot). option_and_then direct_id s.value) (λ s. direct_packed s.value) es fs order sorted left ∙ direct_list es

  pub loose-names : fs ≡ standing (each (λ (s : Slot). cond (is_some s.value) (Some (loose_slot s)) None) es) → names_of fs ≡ names_of es
  loose-names left = sifted _ value_of value_of (λ s. value_stays s.value None) es fs order sorted left

  abbrev no_id : Slot → Option ObjectId
  no_id s = None

  nothing : (xs : Entries) → standing (each no_id xs) ≡ []
  nothing [] = refl
  nothing (x ∷ xs) = nothing xs

  pub loose-list : fs ≡ standing (each (λ (s : Slot). cond (is_some s.value) (Some (loose_slot s)) None) es) → list_of fs ≡ finmap.empty
  loose-list left =
      sifted _ packed_of no_id (λ s. none_packed s.value) es fs order sorted left
      ∙ finmap.same_entries_map _ _ (entries-each no_id es order ∙ nothing es ∙ sym entries-none)

  held_value : (v : Option Target) (p : Option ObjectId) → option_and_then value_of (if is_some v || is_some p then Some (record { value = v; packed = p }) else None) ≡ v
  held_value None None = refl
  held_value None (Some id) = refl
  held_value (Some t) p = refl

  held_id : (v : Option Target) (p : Option ObjectId) → option_and_then packed_of (if is_some v || is_some p then Some (record { value = v; packed = p }) else None) ≡ p
  held_id None None = refl
  held_id None (Some id) = refl
  held_id (Some t) p = refl

  pub held-names : fs ≡ standing (each held es) → names_of fs ≡ names_of es
  held-names left = sifted held value_of value_of (λ s. held_value s.value s.packed) es fs order sorted left

  pub held-list : fs ≡ standing (each held es) → list_of fs ≡ list_of es
  held-list left = sifted held packed_of packed_of (λ s. held_id s.value s.packed) es fs order sorted left

shown_twice : (ls : List LogLine) → option_and_then shown_lines (shown_lines ls) ≡ shown_lines ls
shown_twice [] = refl
shown_twice (l ∷ ls) = refl

pub held-logs : (es fs : List (List ℕ × List LogLine)) → IsStrictlySortedBy name_cmp (keys_of es) → IsStrictlySortedBy name_cmp (keys_of fs) → fs ≡ standing (each shown_lines es) → logs_of fs ≡ logs_of es
held-logs es fs order sorted left = sifted shown_lines shown_lines shown_lines shown_twice es fs order sorted left

-- what is shown, part by part
pub all_three : (hash : Kind) {names names' : Names} {logs logs' : Logs} {list list' : PackedList} → names ≡ names' → logs ≡ logs' → list ≡ list'
    → ◌≡◌ {A = RefsValue} (record { hash = hash; names = names; logs = logs; packed = list }) (record { hash = hash; names = names'; logs = logs'; packed = list' })
all_three hash p q r = rw (p, q, r) refl
