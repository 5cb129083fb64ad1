-- A tag's text in the words of its format.
use Rattle.std.proofs.Common.{◌≡◌, ℕ, Bool, true, false, cond, not, ◌&&◌, eqb, List, [], ◌∷◌, ◌++◌, Option, None, Some, Result, Ok, Err, refl, sym, ap, ap₂, subst, ◌∙◌, append_assoc}
use Rattle.std.specs.Prelude.{codes, is_ok, IsTrue, map, slice_get}
use Rattle.std.specs.List.{list_all, AllPass}
use Rattle.std.specs.Option.{option_map}
use Rattle.std.specs.Result.{result_ok}
use Rattle.std.specs.Str.{bytes_eq}
use Rattle.std.proofs.lemmas.Slice.Eq.{bytes_eq-Decides}
use Rattle.std.proofs.lemmas.List.Elements.{All-head, All-tail}
use Rattle.std.proofs.lemmas.Bool.{eqb-true}
use Rattle.hex.specs.Hex.{decode_sized, is_hex_digit}
use Rattle.hex.proofs.HexLemmas.{IsOk-decode_sized}
use Rattle.fetch_base.specs.declared.id.Kind.{Kind}
use Rattle.fetch_base.specs.declared.id.ObjectId.{ObjectId}
use Rattle.fetch_base.specs.declared.object_kind.ObjectKind.{ObjectKind}
use Rattle.fetch_base.specs.declared.object_kind.ObjectKind.TheVariants as objects
use Rattle.fetch_objects.specs.declared.grammar.Part.TheVariants.{Tagged, TaggedKind}
use Rattle.fetch_objects.specs.declared.grammar.Expected.{Expected}
use Rattle.fetch_objects.specs.declared.grammar.Expected.TheVariants as expect
use Rattle.fetch_base.specs.Hashing.{name_of}
use Rattle.fetch_base.specs.Id.{byte_len, id_of_bytes, id_in_hex}
use Rattle.fetch_base.specs.Scan.{◌>>=◌, split_first, after}
use Rattle.fetch_base.specs.Lines.{IsWithout}
use Rattle.fetch_objects.specs.Grammar.{Step, id_after, kind_named, kind_after, part_at}
use Rattle.fetch_objects.specs.Objects.{Reading, reading, may_end, IsObject, link_in, links_of}
use Rattle.fetch_objects.specs.Texts.{IsHexId, TagParts, line as text_line, tag_text, TagsAreTexts}
use Rattle.fetch_base.proofs.LineLaws.{splits}
use Rattle.fetch_objects.proofs.Readings.{bind_some, reading_step, reading_end, parts_take, parts_skip, parts_end}
use Rattle.fetch_base.proofs.Words.{after_of, after_is}

-- ---- words and ids
hex_of : (hash : Kind) (digits : List ℕ) (id : ObjectId) → id_in_hex hash digits ≡ Some id → IsHexId hash digits
hex_of hash digits id is = (IsOk-decode_sized digits (byte_len hash)).0 (ok (decode_sized digits (byte_len hash)) is)
  where
    ok : {E : Type 0} (r : Result (List ℕ) E) → option_map (id_of_bytes hash) (result_ok r) ≡ Some id → is_ok r ≡ true
    ok (Ok bytes) h = refl
    ok (Err e) h = absurd cc

of_hex : (hash : Kind) (digits : List ℕ) → IsHexId hash digits → (id : ObjectId) × (id_in_hex hash digits ≡ Some id)
of_hex hash digits hex = given (decode_sized digits (byte_len hash)) ((IsOk-decode_sized digits (byte_len hash)).1 hex)
  where
    given : {E : Type 0} (r : Result (List ℕ) E) → is_ok r ≡ true → (id : ObjectId) × (option_map (id_of_bytes hash) (result_ok r) ≡ Some id)
    given (Ok bytes) h = (id_of_bytes hash bytes, refl)
    given (Err e) h = absurd cc

pub id_after_is : (hash : Kind) (word line : List ℕ) (id : ObjectId) → id_after hash word line ≡ Some id → (d : List ℕ) × (line ≡ word ++ d) × IsHexId hash d
id_after_is hash word line id is =
    let x = bind_some (after word line) (id_in_hex hash) id is in
    (x.0, after_is word line x.0 x.1, hex_of hash x.0 id x.2)

pub id_after_of : (hash : Kind) (word d : List ℕ) → IsHexId hash d → (id : ObjectId) × (id_after hash word (word ++ d) ≡ Some id)
id_after_of hash word d hex =
    let id = of_hex hash d hex in
    (id.0, ap (λ o. o >>= id_in_hex hash) (after_of word d) ∙ id.1)

-- hex digits hold no line feed
no_feed : (c : ℕ) → is_hex_digit c ≡ true → not (eqb c 10) ≡ true
no_feed c h = by_test (eqb c 10) refl
  where
    by_test : (b : Bool) → eqb c 10 ≡ b → not b ≡ true
    by_test false e = refl
    by_test true e = absurd (let same : is_hex_digit 10 ≡ true = subst (λ x. is_hex_digit x ≡ true) (eqb-true c 10 e) h in cc)

pub feedless : (d : List ℕ) → AllPass is_hex_digit d → list_all (λ b. not (eqb b 10)) d ≡ true
feedless [] all = refl
feedless (c ∷ d) all =
    ap₂ (λ a b. a && b) (no_feed c (All-head (λ x. is_hex_digit x ≡ true) c d all)) (feedless d (All-tail (λ x. is_hex_digit x ≡ true) c d all))

-- ---- kinds
kind_is : (x : List ℕ) (k : ObjectKind) → kind_named x ≡ Some k → x ≡ name_of k
kind_is x k is = one (bytes_eq x (codes "commit")) refl is
  where
    four : (b : Bool) → bytes_eq x (codes "tag") ≡ b → cond b (Some objects.Tag) None ≡ Some k → x ≡ name_of k
    four true e h = let same : objects.Tag ≡ k = cc in (bytes_eq-Decides x (codes "tag")).0 e ∙ ap name_of same
    four false e h = absurd cc

    three : (b : Bool) → bytes_eq x (codes "blob") ≡ b → cond b (Some objects.Blob) (cond (bytes_eq x (codes "tag")) (Some objects.Tag) None) ≡ Some k → x ≡ name_of k
    three true e h = let same : objects.Blob ≡ k = cc in (bytes_eq-Decides x (codes "blob")).0 e ∙ ap name_of same
    three false e h = four (bytes_eq x (codes "tag")) refl h

    two : (b : Bool) → bytes_eq x (codes "tree") ≡ b → cond b (Some objects.Tree) (cond (bytes_eq x (codes "blob")) (Some objects.Blob) (cond (bytes_eq x (codes "tag")) (Some objects.Tag) None)) ≡ Some k → x ≡ name_of k
    two true e h = let same : objects.Tree ≡ k = cc in (bytes_eq-Decides x (codes "tree")).0 e ∙ ap name_of same
    two false e h = three (bytes_eq x (codes "blob")) refl h

    one : (b : Bool) → bytes_eq x (codes "commit") ≡ b
        → cond b (Some objects.Commit) (cond (bytes_eq x (codes "tree")) (Some objects.Tree) (cond (bytes_eq x (codes "blob")) (Some objects.Blob) (cond (bytes_eq x (codes "tag")) (Some objects.Tag) None))) ≡ Some k → x ≡ name_of k
    one true e h = let same : objects.Commit ≡ k = cc in (bytes_eq-Decides x (codes "commit")).0 e ∙ ap name_of same
    one false e h = two (bytes_eq x (codes "tree")) refl h

pub kind_after_is : (line : List ℕ) (k : ObjectKind) → kind_after line ≡ Some k → line ≡ codes "type " ++ name_of k
kind_after_is line k is =
    let x = bind_some (after (codes "type ") line) kind_named k is in
    after_is (codes "type ") line x.0 x.1 ∙ ap (λ y. codes "type " ++ y) (kind_is x.0 k x.2)

pub kind_after_of : (k : ObjectKind) → kind_after (codes "type " ++ name_of k) ≡ Some k
kind_after_of objects.Commit = refl
kind_after_of objects.Tree = refl
kind_after_of objects.Blob = refl
kind_after_of objects.Tag = refl

pub kind_feedless : (k : ObjectKind) → list_all (λ b. not (eqb b 10)) (codes "type " ++ name_of k) ≡ true
kind_feedless objects.Commit = refl
kind_feedless objects.Tree = refl
kind_feedless objects.Blob = refl
kind_feedless objects.Tag = refl

-- ---- a text that is read to an end that it may have
abbrev pub Accepts : Kind → Expected → List ℕ → Type 0
Accepts hash e bytes = IsTrue (may_end (reading hash e bytes).expected (reading hash e bytes).rest)

pub some_part : (hash : Kind) (e : Expected) (bytes : List ℕ) → Accepts hash e bytes → may_end e bytes ≡ false → (s : Step) × (part_at hash e bytes ≡ Some s) × Accepts hash s.expected s.rest
some_part hash e bytes ends short = by_value (part_at hash e bytes) refl
  where
    by_value : (o : Option Step) → part_at hash e bytes ≡ o → (s : Step) × (part_at hash e bytes ≡ Some s) × Accepts hash s.expected s.rest
    by_value None is =
        let here : may_end e bytes ≡ true = subst (λ (r : Reading). may_end r.expected r.rest ≡ true) (reading_end hash e bytes is) ends in
        absurd cc
    by_value (Some s) is = (s, is, subst (λ (r : Reading). may_end r.expected r.rest ≡ true) (reading_step hash e bytes s is) ends)

pub part_then : (hash : Kind) (e : Expected) (bytes : List ℕ) (s : Step) → part_at hash e bytes ≡ Some s → Accepts hash s.expected s.rest → Accepts hash e bytes
part_then hash e bytes s is ends = subst (λ (r : Reading). may_end r.expected r.rest ≡ true) (sym (reading_step hash e bytes s is)) ends

pub anything : (hash : Kind) (bytes : List ℕ) → Accepts hash expect.Anything bytes
anything hash bytes = subst (λ (r : Reading). may_end r.expected r.rest ≡ true) (sym (reading_end hash expect.Anything bytes refl)) refl

-- a head line, and what it says
pub headline : {A : Type 0} (bytes : List ℕ) (f : List ℕ → Option A) (made : A → List ℕ → Step) (s : Step) → (split_first 10 bytes >>= λ line. f line.0 >>= λ x. Some (made x line.1)) ≡ Some s
    → (line : List ℕ × List ℕ) × (bytes ≡ text_line line.0 ++ line.1) × (x : A) × (f line.0 ≡ Some x) × (made x line.1 ≡ s)
headline bytes f made s is =
    let line = bind_some (split_first 10 bytes) (λ line. f line.0 >>= λ x. Some (made x line.1)) s is in
    let x = bind_some (f line.0.0) (λ x. Some (made x line.0.1)) s line.2 in
    let same : made x.0 line.0.1 ≡ s = cc in
    (line.0, ((splits 10 bytes).found line.0.0 line.0.1 line.1).0 ∙ sym (append_assoc line.0.0 (10 ∷ []) line.0.1), x.0, x.1, same)

pub head_of : {A : Type 0} (f : List ℕ → Option A) (made : A → List ℕ → Step) (front behind : List ℕ) (x : A) → IsWithout 10 front → f front ≡ Some x
    → (split_first 10 (text_line front ++ behind) >>= λ line. f line.0 >>= λ y. Some (made y line.1)) ≡ Some (made x behind)
head_of f made front behind x none says =
    ap (λ o. o >>= λ line. f line.0 >>= λ y. Some (made y line.1)) ((splits 10 (text_line front ++ behind)).only front behind (append_assoc front (10 ∷ []) behind) none)
    ∙ ap (λ o. o >>= λ y. Some (made y behind)) says

abbrev pub tagged : ObjectId → List ℕ → Step
tagged id rest = record { part = Tagged id; expected = expect.TypeLine; rest = rest }

abbrev pub typed : ObjectKind → List ℕ → Step
typed k rest = record { part = TaggedKind k; expected = expect.Anything; rest = rest }

text_of : (hash : Kind) (bytes : List ℕ) → IsObject hash objects.Tag bytes → (t : TagParts) × IsHexId hash t.object × (bytes ≡ tag_text t)
unfolding tag_text
text_of hash bytes h =
    let a = some_part hash expect.TaggedLine bytes h refl in
    let l = headline bytes (id_after hash (codes "object ")) tagged a.0 a.1 in
    let inner : Accepts hash expect.TypeLine l.0.1 = subst (λ (s : Step). Accepts hash s.expected s.rest) (sym l.4) a.2 in
    let b = some_part hash expect.TypeLine l.0.1 inner refl in
    let m = headline l.0.1 kind_after typed b.0 b.1 in
    let object = id_after_is hash (codes "object ") l.0.0 l.2 l.3 in
    let kind = kind_after_is m.0.0 m.2 m.3 in
    (record { object = object.0; kind = m.2; rest = m.0.1 }, object.2, l.1 ∙ ap₂ (λ a b. text_line a ++ b) object.1 (m.1 ∙ ap (λ a. text_line a ++ m.0.1) kind))

module _ (hash : Kind) (t : TagParts) (hex : IsHexId hash t.object) where
  abbrev id : (id : ObjectId) × (id_in_hex hash t.object ≡ Some id)
  id = of_hex hash t.object hex

  abbrev second : List ℕ
  second = text_line (codes "type " ++ name_of t.kind) ++ t.rest

  abbrev whole : List ℕ
  whole = text_line (codes "object " ++ t.object) ++ second

  first_part : part_at hash expect.TaggedLine whole ≡ Some (tagged id.0 second)
  first_part = head_of (id_after hash (codes "object ")) tagged (codes "object " ++ t.object) second id.0 (feedless t.object hex.1) (ap (λ o. o >>= id_in_hex hash) (after_of (codes "object ") t.object) ∙ id.1)

  second_part : part_at hash expect.TypeLine second ≡ Some (typed t.kind t.rest)
  second_part = head_of kind_after typed (codes "type " ++ name_of t.kind) t.rest t.kind (kind_feedless t.kind) (kind_after_of t.kind)

  tag_of : IsObject hash objects.Tag whole
  tag_of = part_then hash expect.TaggedLine whole (tagged id.0 second) first_part (part_then hash expect.TypeLine second (typed t.kind t.rest) second_part (anything hash t.rest))

  link_of : links_of hash objects.Tag whole ≡ id.0 ∷ []
  link_of =
      parts_take link_in hash expect.TaggedLine whole (tagged id.0 second) id.0 first_part refl
      ∙ ap (λ (l : List ObjectId). id.0 ∷ l) (parts_skip link_in hash expect.TypeLine second (typed t.kind t.rest) second_part refl ∙ parts_end link_in hash expect.Anything t.rest refl)

  links_are : map Some (links_of hash objects.Tag whole) ≡ id_in_hex hash t.object ∷ []
  links_are = ap (map Some) link_of ∙ ap (λ (o : Option ObjectId). o ∷ []) (sym id.1)

  target_is : slice_get (links_of hash objects.Tag whole) 0 ≡ id_in_hex hash t.object
  target_is = ap (λ (l : List ObjectId). slice_get l 0) link_of ∙ sym id.1

pub tags_are_texts : (hash : Kind) (bytes : List ℕ) → TagsAreTexts hash bytes
unfolding tag_text
tags_are_texts hash bytes = record {
  text = text_of hash bytes;
  tag = λ t hex is. subst (IsObject hash objects.Tag) (sym is) (tag_of hash t hex);
  links = λ t hex is. ap (λ b. map Some (links_of hash objects.Tag b)) is ∙ links_are hash t hex;
  target = λ t hex is. ap (λ b. slice_get (links_of hash objects.Tag b) 0) is ∙ target_is hash t hex;
}
