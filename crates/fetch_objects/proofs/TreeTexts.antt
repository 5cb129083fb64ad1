-- A tree's text in the words of its format.
use Rattle.std.proofs.Common.{◌≡◌, ℕ, zero, suc, ◌≤◌, Bool, true, false, cond, not, ◌&&◌, eqb, List, [], ◌∷◌, ◌++◌, length, take, drop, All, None, Some, refl, sym, ap, ap₂, subst, ◌∙◌, arith, append_assoc, length-append, length-take}
use Rattle.std.specs.Prelude.{codes, nat_le}
use Rattle.std.specs.Int.{is_in_range}
use Rattle.std.specs.List.{list_all, filter_map, cons_option, AllPass}
use Rattle.std.specs.Str.{bytes_eq}
use Rattle.std.proofs.lemmas.Bool.{eqb-true, and_from, leb-true, le-leb}
use Rattle.std.proofs.lemmas.List.{take-append-drop, take_at, drop_at}
use Rattle.std.proofs.lemmas.List.Elements.{All-nil, All-cons, All-head, All-tail}
use Rattle.std.proofs.lemmas.List.Sums.{AllPass-from_list_all, list_all-from_AllPass}
use Rattle.fetch_base.specs.declared.id.Kind.{Kind}
use Rattle.fetch_base.specs.declared.id.ObjectId.{ObjectId}
use Rattle.fetch_base.specs.declared.object_kind.ObjectKind.TheVariants as objects
use Rattle.fetch_objects.specs.declared.grammar.Part.TheVariants.{Entry, Submodule}
use Rattle.fetch_objects.specs.declared.grammar.Expected.TheVariants as expect
use Rattle.fetch_base.specs.Id.{byte_len, id_of_bytes}
use Rattle.fetch_base.specs.Scan.{◌>>=◌, split_first}
use Rattle.fetch_base.specs.Lines.{IsWithout}
use Rattle.fetch_objects.specs.Grammar.{Step, is_mode, entry, entry_of, entry_at, part_at}
use Rattle.fetch_objects.specs.Objects.{Reading, may_end, IsObject, link_in, links_of}
use Rattle.fetch_objects.specs.TreeTexts.{TreeEntry, IsEntry, entry_text, tree_text, link_of, TreesAreTexts}
use Rattle.fetch_base.proofs.LineLaws.{splits}
use Rattle.fetch_objects.proofs.Readings.{bind_some, part_shorter, reading_end, parts_step, parts_end}
use Rattle.fetch_objects.proofs.TagTexts.{Accepts, some_part, part_then}

-- octal digits hold no space
spaceless : (mode : List ℕ) → AllPass (is_in_range 48 55) mode → IsWithout 32 mode
spaceless [] all = refl
spaceless (c ∷ mode) all =
    ap₂ (λ a b. a && b) (no_space c (All-head (λ x. is_in_range 48 55 x ≡ true) c mode all)) (spaceless mode (All-tail (λ x. is_in_range 48 55 x ≡ true) c mode all))
  where
    no_space : (c : ℕ) → is_in_range 48 55 c ≡ true → not (eqb c 32) ≡ true
    no_space c h = by_test (eqb c 32) refl
      where
        by_test : (b : Bool) → eqb c 32 ≡ b → not b ≡ true
        by_test false e = refl
        by_test true e = absurd (let same : is_in_range 48 55 32 ≡ true = subst (λ x. is_in_range 48 55 x ≡ true) (eqb-true c 32 e) h in cc)

abbrev pub made : Kind → TreeEntry → List ℕ → Step
made hash e rest = record { part = entry hash e.mode e.id; expected = expect.Entry; rest = rest }

-- what an entry at the front is
pub record Front (hash : Kind) (bytes : List ℕ) (s : Step) : Type 0 where
  pub one : TreeEntry
  pub good : IsEntry hash one
  pub text : bytes ≡ entry_text one ++ s.rest
  pub step : made hash one s.rest ≡ s

five : (a b c d e : Bool) → (a && b && c && d && e) ≡ true → (a ≡ true) × (b ≡ true) × (c ≡ true) × (d ≡ true) × (e ≡ true)
five true true true true e h = (refl, refl, refl, refl, h)
five true true true false e h = absurd cc
five true true false d e h = absurd cc
five true false c d e h = absurd cc
five false b c d e h = absurd cc

good_of : (hash : Kind) (mode name bytes : List ℕ) → (is_mode mode && nat_le 1 (length name) && nat_le (byte_len hash) (length bytes)) ≡ true → IsWithout 0 name
    → IsEntry hash (record { mode = mode; name = name; id = take (byte_len hash) bytes })
good_of hash mode name bytes h none =
    let a = five (nat_le 1 (length mode)) (nat_le (length mode) 6) (list_all (is_in_range 48 55) mode) (nat_le 1 (length name)) (nat_le (byte_len hash) (length bytes)) h in
    let room : byte_len hash ≤ length bytes = leb-true _ _ a.4 in
    record {
      digits = leb-true _ _ a.0;
      few = leb-true _ _ a.1;
      octal = AllPass-from_list_all (is_in_range 48 55) mode a.2;
      named = leb-true _ _ a.3;
      ends = none;
      whole = omega (arith, length-take (byte_len hash) bytes);
    }

tests_of : (hash : Kind) (e : TreeEntry) (rest : List ℕ) → IsEntry hash e → (is_mode e.mode && nat_le 1 (length e.name) && nat_le (byte_len hash) (length (e.id ++ rest))) ≡ true
tests_of hash e rest good =
    and_from _ _ (and_from _ _ (and_from _ _ (and_from _ _ (le-leb _ _ good.digits) (le-leb _ _ good.few)) (list_all-from_AllPass (is_in_range 48 55) e.mode good.octal)) (le-leb _ _ good.named))
    (le-leb _ _ (omega (arith, length-append e.id rest, good.whole)))

value_of : {A : Type 0} (b : Bool) (x y : A) → cond b (Some x) None ≡ Some y → (b ≡ true) × (x ≡ y)
value_of true x y e = (refl, cc)
value_of false x y e = absurd cc

front_text : (e : TreeEntry) (rest : List ℕ) → entry_text e ++ rest ≡ e.mode ++ 32 ∷ (e.name ++ 0 ∷ (e.id ++ rest))
front_text e rest = append_assoc e.mode (32 ∷ (e.name ++ 0 ∷ e.id)) rest ∙ ap (λ y. e.mode ++ 32 ∷ y) (append_assoc e.name (0 ∷ e.id) rest)

pub front_of : (hash : Kind) (bytes : List ℕ) (s : Step) → entry_at hash bytes ≡ Some s → Front hash bytes s
front_of hash bytes s is =
    let m = bind_some (split_first 32 bytes) (λ mode. split_first 0 mode.1 >>= λ name. entry_of hash mode.0 name.0 name.1) s is in
    let n = bind_some (split_first 0 m.0.1) (λ name. entry_of hash m.0.0 name.0 name.1) s m.2 in
    let one : TreeEntry = record { mode = m.0.0; name = n.0.0; id = take (byte_len hash) n.0.1 } in
    let rest : List ℕ = drop (byte_len hash) n.0.1 in
    let v = value_of (is_mode m.0.0 && nat_le 1 (length n.0.0) && nat_le (byte_len hash) (length n.0.1)) (made hash one rest) s n.2 in
    let first = (splits 32 bytes).found m.0.0 m.0.1 m.1 in
    let second = (splits 0 m.0.1).found n.0.0 n.0.1 n.1 in
    let whole : bytes ≡ entry_text one ++ rest =
    first.0 ∙ ap (λ y. m.0.0 ++ 32 ∷ y) (second.0 ∙ ap (λ y. n.0.0 ++ 0 ∷ y) (sym (take-append-drop (byte_len hash) n.0.1))) ∙ sym (front_text one rest) in
    let same : rest ≡ s.rest = ap (λ (t : Step). t.rest) v.1 in
    record {
      one = one;
      good = good_of hash m.0.0 n.0.0 n.0.1 v.0 second.1;
      text = whole ∙ ap (λ y. entry_text one ++ y) same;
      step = ap (λ y. made hash one y) (sym same) ∙ v.1;
    }

pub part_of : (hash : Kind) (e : TreeEntry) (rest : List ℕ) → IsEntry hash e → part_at hash expect.Entry (entry_text e ++ rest) ≡ Some (made hash e rest)
part_of hash e rest good =
    let named : List ℕ = e.name ++ 0 ∷ (e.id ++ rest) in
    ap (entry_at hash) (front_text e rest)
    ∙ ap (λ o. o >>= λ mode. split_first 0 mode.1 >>= λ name. entry_of hash mode.0 name.0 name.1) ((splits 32 (e.mode ++ 32 ∷ named)).only e.mode named refl (spaceless e.mode good.octal))
    ∙ ap (λ o. o >>= λ name. entry_of hash e.mode name.0 name.1) ((splits 0 named).only e.name (e.id ++ rest) refl good.ends)
    ∙ ap (λ b. cond b (Some (record { part = entry hash e.mode (take (byte_len hash) (e.id ++ rest)); expected = expect.Entry; rest = drop (byte_len hash) (e.id ++ rest) })) None) (tests_of hash e rest good)
    ∙ ap₂ (λ id r. Some (record { part = entry hash e.mode id; expected = expect.Entry; rest = r })) (take_at e.id rest (byte_len hash) good.whole) (drop_at e.id rest (byte_len hash) good.whole)

entries_of : (n : ℕ) (hash : Kind) (bytes : List ℕ) → length bytes ≤ n → Accepts hash expect.Entry bytes → (entries : List TreeEntry) × All (IsEntry hash) entries × (bytes ≡ tree_text entries)
unfolding tree_text
entries_of n hash [] short ends = ([], All-nil (IsEntry hash), refl)
entries_of zero hash (b ∷ bytes) short ends = absurd (omega arith)
entries_of (suc n) hash (b ∷ bytes) short ends =
    let a = some_part hash expect.Entry (b ∷ bytes) ends refl in
    let f = front_of hash (b ∷ bytes) a.0 a.1 in
    let shorter = part_shorter hash expect.Entry (b ∷ bytes) a.0 a.1 in
    let inner : Accepts hash expect.Entry a.0.rest = subst (λ e. Accepts hash e a.0.rest) (sym (ap (λ (s : Step). s.expected) f.step)) a.2 in
    let more = entries_of n hash a.0.rest (omega arith) inner in
    (f.one ∷ more.0, All-cons (IsEntry hash) f.one more.0 f.good more.1, f.text ∙ ap (λ y. entry_text f.one ++ y) more.2)

tree_of : (hash : Kind) (entries : List TreeEntry) → All (IsEntry hash) entries → IsObject hash objects.Tree (tree_text entries)
unfolding tree_text
tree_of hash [] good = subst (λ (r : Reading). may_end r.expected r.rest ≡ true) (sym (reading_end hash expect.Entry [] refl)) refl
tree_of hash (e ∷ entries) good =
    let rest : List ℕ = tree_text entries in
    part_then hash expect.Entry (entry_text e ++ rest) (made hash e rest) (part_of hash e rest (All-head (IsEntry hash) e entries good)) (tree_of hash entries (All-tail (IsEntry hash) e entries good))

same_link : (b : Bool) (id : ObjectId) → link_in (cond b Submodule (Entry id)) ≡ cond b None (Some id)
same_link true id = refl
same_link false id = refl

tree_links : (hash : Kind) (entries : List TreeEntry) → All (IsEntry hash) entries → links_of hash objects.Tree (tree_text entries) ≡ filter_map (link_of hash) entries
unfolding tree_text
tree_links hash [] good = parts_end link_in hash expect.Entry [] refl
tree_links hash (e ∷ entries) good =
    let rest : List ℕ = tree_text entries in
    parts_step link_in hash expect.Entry (entry_text e ++ rest) (made hash e rest) (part_of hash e rest (All-head (IsEntry hash) e entries good))
    ∙ ap₂ (λ l ls. cons_option l ls) (same_link (bytes_eq e.mode (codes "160000")) (id_of_bytes hash e.id)) (tree_links hash entries (All-tail (IsEntry hash) e entries good))

pub trees_are_texts : (hash : Kind) (bytes : List ℕ) → TreesAreTexts hash bytes
trees_are_texts hash bytes = record {
  text = λ h. entries_of (length bytes) hash bytes (omega arith) h;
  tree = λ entries good is. subst (IsObject hash objects.Tree) (sym is) (tree_of hash entries good);
  links = λ entries good is. ap (links_of hash objects.Tree) is ∙ tree_links hash entries good;
}
