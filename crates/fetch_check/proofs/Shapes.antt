-- The lines of a bundle, part by part, and which line may come next.
use Rattle.std.proofs.Common.{◌≡◌, ℕ, zero, suc, ◌/◌, ◌⊎◌, inl, inr, Bool, true, false, not, eqb, true≢false, List, [], ◌∷◌, ◌++◌, map, append_assoc, Some, refl, sym, ap, ap₂, subst, ◌∙◌}
use Rattle.std.specs.Prelude.{codes, slice_index}
use Rattle.std.specs.List.{AllByRecursion, list_all}
use Rattle.std.specs.FinMap as finmap
use Rattle.std.proofs.lemmas.Bool.{and_parts}
use Rattle.hex.specs.Hex.{encode_with, encode_lower, lower_digits}
use Rattle.fetch_base.specs.declared.id.Kind.{Kind}
use Rattle.fetch_base.specs.declared.id.Kind.TheVariants.{Sha1, Sha256}
use Rattle.fetch_base.specs.declared.id.ObjectId.{ObjectId}
use Rattle.fetch_store.specs.Borders.{ids_of}
use Rattle.fetch_base.specs.Digits.{hex_of}
use Rattle.fetch_base.specs.Id.{bytes_of, id_in_hex}
use Rattle.fetch_base.specs.Lines.{IsWithout}
use Rattle.fetch_base.proofs.LineLaws.{splits}
use Rattle.fetch_refs.specs.declared.target.Target.{Target}
use Rattle.fetch_refs.specs.declared.target.Target.TheVariants.{Object, Symbolic}
use Rattle.fetch_refs.proofs.LowerHex.{spaceless}
use Rattle.fetch_lines.specs.declared.lines.line.Line.{Line}
use Rattle.fetch_lines.specs.declared.lines.line.Line.TheVariants.{Payload, Flush, Delim}
use Rattle.fetch_lines.specs.Cutting.{in_pieces}
use Rattle.fetch_lines.specs.Requests.{sent, text_line}
use Rattle.fetch_check.specs.Bundles.{Said, said_lines, head_texts, target_text, ref_text, ref_line, border_text, border_line}
use Rattle.fetch_check.specs.Payloads.{IsOfHash, IsTarget, IsReference}
use Rattle.fetch_check.proofs.Spaces.{spaceless_name}

abbrev pub Reference : Type 0
Reference = List ℕ × Target

-- ---- one line

-- the payload of a line
abbrev payload_in : Line → List ℕ
payload_in (Payload p) = p
payload_in _ = []

same_payload : (a b : List ℕ) → text_line a ≡ text_line b → a ++ 10 ∷ [] ≡ b ++ 10 ∷ []
same_payload a b e = ap payload_in e

pub front_is : (a b : List ℕ) (c : ℕ) → a ++ c ∷ [] ≡ b ++ c ∷ [] → a ≡ b
front_is [] [] c e = refl
front_is [] (y ∷ []) c e = absurd cc
front_is [] (y ∷ z ∷ b) c e = absurd cc
front_is (x ∷ []) [] c e = absurd cc
front_is (x ∷ z ∷ a) [] c e = absurd cc
front_is (x ∷ a) (y ∷ b) c e =
    let one : x ≡ y = cc in let more : a ++ c ∷ [] ≡ b ++ c ∷ [] = cc in ap₂ (λ z (zs : List ℕ). z ∷ zs) one (front_is a b c more)

pub same_text : (a b : List ℕ) → text_line a ≡ text_line b → a ≡ b
same_text a b e = front_is a b 10 (same_payload a b e)

same_some : (x y : List ℕ × List ℕ) → Some x ≡ Some y → x ≡ y
same_some x y e = cc

-- the parts round the first space are one
pub one_split : (text a b a' b' : List ℕ) → text ≡ a ++ 32 ∷ b → IsWithout 32 a → text ≡ a' ++ 32 ∷ b' → IsWithout 32 a' → (a ≡ a') × (b ≡ b')
one_split text a b a' b' is none is' none' =
    let p = same_some (a, b) (a', b') (sym ((splits 32 text).only a b is none) ∙ (splits 32 text).only a' b' is' none') in
    (ap (λ (x : List ℕ × List ℕ). x.0) p, ap (λ (x : List ℕ × List ℕ). x.1) p)

-- what passes for each digit, and for 0, passes wherever the digits are asked
passes_at : (p : ℕ → Bool) (t : List ℕ) (k : ℕ) → list_all p t ≡ true → p 0 ≡ true → p (slice_index t k) ≡ true
passes_at p [] k all none = none
passes_at p (x ∷ t) zero all none = (and_parts (p x) (list_all p t) all).0
passes_at p (x ∷ t) (suc k) all none = passes_at p t k (and_parts (p x) (list_all p t) all).1 none

-- no digit is `@`
no_at_in : (bytes name : List ℕ) → encode_lower bytes ≡ 64 ∷ name → ⊥
unfolding encode_with
no_at_in [] name e = absurd cc
no_at_in (b ∷ bytes) name e =
    let digit : slice_index lower_digits (b / 16) ≡ 64 = cc in
    let passes : not (eqb 64 64) ≡ true = subst (λ (d : ℕ). not (eqb d 64) ≡ true) digit (passes_at (λ d. not (eqb d 64)) lower_digits (b / 16) refl refl) in absurd cc

pub no_at : (id : ObjectId) (name : List ℕ) → hex_of id ≡ 64 ∷ name → ⊥
no_at id name e = no_at_in (bytes_of id) name e

-- a target has no space
pub spaceless_target : (hash : Kind) (t : Target) → IsTarget hash t → IsWithout 32 (target_text t)
spaceless_target hash (Object id) is = spaceless (bytes_of id)
spaceless_target hash (Symbolic name) is = spaceless_name name is

same_ids : (a b : ObjectId) → Some a ≡ Some b → a ≡ b
same_ids a b e = cc

pub same_hex : (hash : Kind) (a b : ObjectId) → IsOfHash hash a → IsOfHash hash b → hex_of a ≡ hex_of b → a ≡ b
same_hex hash a b ia ib e = same_ids a b (sym ia ∙ ap (id_in_hex hash) e ∙ ib)

same_target : (hash : Kind) (t u : Target) → IsTarget hash t → IsTarget hash u → target_text t ≡ target_text u → t ≡ u
same_target hash (Object a) (Object b) it iu e = ap (λ (i : ObjectId). Object i) (same_hex hash a b it iu e)
same_target hash (Object a) (Symbolic n) it iu e = absurd (no_at a n e)
same_target hash (Symbolic n) (Object b) it iu e = absurd (no_at b n (sym e))
same_target hash (Symbolic n) (Symbolic m) it iu e = let f : n ≡ m = cc in ap (λ (x : List ℕ). Symbolic x) f

-- the text of a reference round its first space after the word
abbrev pub behind_word : Reference → List ℕ
behind_word e = target_text e.1 ++ 32 ∷ e.0

pub word_off : (e : Reference) → ref_text e ≡ codes "ref " ++ behind_word e
word_off e = append_assoc (codes "ref ") (target_text e.1) (32 ∷ e.0)

pub drop_word : (a b : List ℕ) → codes "ref " ++ a ≡ codes "ref " ++ b → a ≡ b
drop_word a b e = cc

pub same_reference : (hash : Kind) (e f : Reference) → IsReference hash e → IsReference hash f → ref_line e ≡ ref_line f → e ≡ f
same_reference hash e f ie if same =
    let text : behind_word e ≡ behind_word f = drop_word (behind_word e) (behind_word f) (sym (word_off e) ∙ same_text (ref_text e) (ref_text f) same ∙ word_off f) in
    let p = one_split (behind_word e) (target_text e.1) e.0 (target_text f.1) f.0 refl (spaceless_target hash e.1 ie.target) text (spaceless_target hash f.1 if.target) in
    ap₂ (λ (n : List ℕ) (t : Target). (n, t)) p.1 (same_target hash e.1 f.1 ie.target if.target p.0)

pub drop_border : (a b : List ℕ) → codes "border " ++ a ≡ codes "border " ++ b → a ≡ b
drop_border a b e = cc

pub same_border : (hash : Kind) (a b : ObjectId) → IsOfHash hash a → IsOfHash hash b → border_line a ≡ border_line b → a ≡ b
same_border hash a b ia ib same = same_hex hash a b ia ib (drop_border (hex_of a) (hex_of b) (same_text (border_text a) (border_text b) same))

-- a line of a reference is none of the border
abbrev begins_with_r : Line → Bool
begins_with_r (Payload (b ∷ bytes)) = eqb b 114
begins_with_r _ = false

pub ref_border : (e : Reference) (id : ObjectId) → ref_line e ≡ border_line id → ⊥
ref_border e id same = true≢false (ap begins_with_r same)

-- ---- lists of such lines, at the front of others

pub heads : (x y : Line) (xs ys : List Line) → x ∷ xs ≡ y ∷ ys → (x ≡ y) × (xs ≡ ys)
heads x y xs ys e = (cc, cc)

-- the first line is none of these
abbrev pub IsOther : {X : Type 0} → (X → Line) → List Line → Type 0
IsOther {X} line ys = (x : X) (zs : List Line) → ys ≡ line x ∷ zs → ⊥

module _ {X : Type 0} (line : X → Line) (Is : X → Type 0) (one : (a b : X) → Is a → Is b → line a ≡ line b → a ≡ b) where
  pub next_of : (xs ys : List X) (l : Line) (more rest : List Line) → AllByRecursion Is xs → AllByRecursion Is ys → IsOther line rest → map line ys ++ rest ≡ map line xs ++ l ∷ more
      → ((y : X) × (gs : List X) × (ys ≡ xs ++ y ∷ gs) × (l ≡ line y)) ⊎ ((ys ≡ xs) × (rest ≡ l ∷ more))
  next_of [] [] l more rest ix iy other e = inr (refl, e)
  next_of [] (y ∷ ys) l more rest ix iy other e = inl (y, ys, refl, sym (heads (line y) l (map line ys ++ rest) more e).0)
  next_of (x ∷ xs) [] l more rest ix iy other e = absurd (other x (map line xs ++ l ∷ more) e)
  next_of (x ∷ xs) (y ∷ ys) l more rest ix iy other e =
      let h = heads (line y) (line x) (map line ys ++ rest) (map line xs ++ l ∷ more) e in
      let is : y ≡ x = one y x iy.0 ix.0 h.0 in
      elim (next_of xs ys l more rest ix.1 iy.1 other h.1) [
        | inl p ↦ inl (p.0, p.1, ap₂ (λ (a : X) (more : List X). a ∷ more) is p.2, p.3)
        | inr p ↦ inr (ap₂ (λ (a : X) (more : List X). a ∷ more) is p.0, p.1)
      ]

  pub same_list : (xs ys : List X) (more rest : List Line) → AllByRecursion Is xs → AllByRecursion Is ys → IsOther line more → IsOther line rest → map line ys ++ rest ≡ map line xs ++ more → (ys ≡ xs) × (rest ≡ more)
  same_list [] [] more rest ix iy apart other e = (refl, e)
  same_list [] (y ∷ ys) more rest ix iy apart other e = absurd (apart y (map line ys ++ rest) (sym e))
  same_list (x ∷ xs) [] more rest ix iy apart other e = absurd (other x (map line xs ++ more) e)
  same_list (x ∷ xs) (y ∷ ys) more rest ix iy apart other e =
      let h = heads (line y) (line x) (map line ys ++ rest) (map line xs ++ more) e in
      let is : y ≡ x = one y x iy.0 ix.0 h.0 in
      let more' = same_list xs ys more rest ix.1 iy.1 apart other h.1 in (ap₂ (λ (a : X) (more : List X). a ∷ more) is more'.0, more'.1)

-- ---- the whole

-- the lines of a pack's pieces, and the end
abbrev pub ends : List (List ℕ) → List Line
ends ps = map (λ (p : List ℕ). Payload p) ps ++ Flush ∷ []

-- what stands behind the references
abbrev pub behind_refs : List ObjectId → List (List ℕ) → List Line
behind_refs ids ps = map border_line ids ++ Delim ∷ ends ps

-- what stands behind the first two lines
abbrev pub behind_head : List Reference → List ObjectId → List (List ℕ) → List Line
behind_head es ids ps = map ref_line es ++ behind_refs ids ps

abbrev pub shape : Kind → List Reference → List ObjectId → List (List ℕ) → List Line
shape hash es ids ps = sent (head_texts hash) ++ behind_head es ids ps

pub sent_lines : {X : Type 0} (text : X → List ℕ) (xs : List X) → sent (map text xs) ≡ map (λ x. text_line (text x)) xs
sent_lines text [] = refl
sent_lines text (x ∷ xs) = ap (λ (ls : List Line). text_line (text x) ∷ ls) (sent_lines text xs)

pub said_shape : (s : Said) → said_lines s ≡ shape s.hash (finmap.entries s.names) (ids_of s.border) (in_pieces 65000 s.pack)
said_shape s =
    let H = sent (head_texts s.hash) in
    let R = sent (map ref_text (finmap.entries s.names)) in
    let B = sent (map border_text (ids_of s.border)) in
    let P = map (λ (p : List ℕ). Payload p) (in_pieces 65000 s.pack) in
    append_assoc (H ++ R ++ B ++ Delim ∷ []) P (Flush ∷ [])
    ∙ append_assoc (H ++ R ++ B) (Delim ∷ []) (P ++ Flush ∷ [])
    ∙ append_assoc (H ++ R) B (Delim ∷ (P ++ Flush ∷ []))
    ∙ append_assoc H R (B ++ Delim ∷ (P ++ Flush ∷ []))
    ∙ ap₂ (λ (r b : List Line). H ++ (r ++ (b ++ Delim ∷ (P ++ Flush ∷ [])))) (sent_lines ref_text (finmap.entries s.names)) (sent_lines border_text (ids_of s.border))

pub same_head : (a b : Kind) (xs ys : List Line) → sent (head_texts a) ++ xs ≡ sent (head_texts b) ++ ys → (a ≡ b) × (xs ≡ ys)
same_head Sha1 Sha1 xs ys e = (refl, cc)
same_head Sha256 Sha256 xs ys e = (refl, cc)
same_head Sha1 Sha256 xs ys e = absurd cc
same_head Sha256 Sha1 xs ys e = absurd cc

pub other_ref : (ids : List ObjectId) (zs : List Line) → IsOther ref_line (map border_line ids ++ Delim ∷ zs)
other_ref [] zs x ys e = absurd cc
other_ref (id ∷ ids) zs x ys e = ref_border x id (sym (heads (border_line id) (ref_line x) (map border_line ids ++ Delim ∷ zs) ys e).0)

pub other_border : (zs : List Line) → IsOther border_line (Delim ∷ zs)
other_border zs id ys e = absurd cc

pub other_piece : (zs : List Line) → IsOther (λ (p : List ℕ). Payload p) (Flush ∷ zs)
other_piece zs p ys e = absurd cc
