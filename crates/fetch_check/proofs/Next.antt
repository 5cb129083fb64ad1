-- Which line may come next in a bundle.
use Rattle.std.proofs.Common.{◌≡◌, ◌≢◌, ℕ, ◌⊎◌, inl, inr, List, [], ◌∷◌, ◌++◌, map, append_assoc, refl, sym, ap, ap₂, subst, ◌∙◌}
use Rattle.std.specs.List.{AllByRecursion, concat}
use Rattle.std.specs.List.Sorted.{IsStrictlySortedBy}
use Rattle.std.specs.Map.{keys_of}
use Rattle.std.specs.FinMap as finmap
use Rattle.std.proofs.lemmas.List.{map-append}
use Rattle.fetch_base.specs.declared.id.Kind.{Kind}
use Rattle.fetch_base.specs.declared.id.ObjectId.{ObjectId}
use Rattle.fetch_store.specs.Borders.{ids_of, set_of}
use Rattle.fetch_base.specs.Id.{id_cmp}
use Rattle.fetch_store.proofs.Borders.{ids_of-set}
use Rattle.fetch_refs.specs.Names.{Names, name_cmp}
use Rattle.fetch_refs.proofs.Maps.{entries-sorted, sorted_entries}
use Rattle.fetch_refs.proofs.Names.{name_cmp_total, name_cmp_exact}
use Rattle.fetch_lines.specs.declared.lines.line.Line.{Line}
use Rattle.fetch_lines.specs.declared.lines.line.Line.TheVariants.{Payload, Flush, Delim}
use Rattle.fetch_lines.specs.Cutting.{in_pieces}
use Rattle.fetch_lines.specs.Requests.{sent}
use Rattle.fetch_check.specs.Bundles.{Said, said_lines, head_texts, ref_line, border_line}
use Rattle.fetch_check.specs.Payloads.{IsOfHash, IsReference}
use Rattle.fetch_check.specs.Reading.{AreReferences, AreBorderIds, ArePieces, CanStand, BeginBundle}
use Rattle.fetch_check.specs.Scanning.{IsWritten}
use Rattle.fetch_check.proofs.Bundling.{ids_rise}
use Rattle.fetch_check.proofs.Ordered.{in_front, sorted_front}
use Rattle.fetch_check.proofs.Pieces.{is_cut, cut_is, pieces_front}
use Rattle.fetch_check.proofs.Shapes.{Reference, shape, ends, behind_refs, behind_head, said_shape, same_head, same_reference, same_border, ref_border, next_of, same_list, heads, other_ref, other_border, other_piece}

-- ---- what is said

pub entries_rise : (names : Names) → IsStrictlySortedBy name_cmp (keys_of (finmap.entries names))
entries_rise names = sorted_entries name_cmp (finmap.entries names) (finmap.entries_sorted names)

pub said_references : (s : Said) → CanStand s → AreReferences s.hash (finmap.entries s.names)
said_references s can = (can.references, entries_rise s.names)

pub said_border : (s : Said) → CanStand s → AreBorderIds s.hash (ids_of s.border)
said_border s can = (can.border, ids_rise s.border)

references_front : (hash : Kind) (es : List Reference) (e : Reference) (gs : List Reference) → AreReferences hash (es ++ e ∷ gs) → AreReferences hash (es ++ e ∷ [])
references_front hash es e gs are =
    let whole : es ++ e ∷ gs ≡ (es ++ e ∷ []) ++ gs = sym (append_assoc es (e ∷ []) gs) in
    let are' = subst (AreReferences hash) whole are in (
      in_front (IsReference hash) (es ++ e ∷ []) gs are'.0,
      sorted_front name_cmp (keys_of (es ++ e ∷ [])) (keys_of gs) (subst (IsStrictlySortedBy name_cmp) (map-append (λ (x : Reference). x.0) (es ++ e ∷ []) gs) are'.1),
    )

border_front : (hash : Kind) (ids : List ObjectId) (id : ObjectId) (gs : List ObjectId) → AreBorderIds hash (ids ++ id ∷ gs) → AreBorderIds hash (ids ++ id ∷ [])
border_front hash ids id gs are =
    let whole : ids ++ id ∷ gs ≡ (ids ++ id ∷ []) ++ gs = sym (append_assoc ids (id ∷ []) gs) in
    let are' = subst (AreBorderIds hash) whole are in (in_front (IsOfHash hash) (ids ++ id ∷ []) gs are'.0, sorted_front id_cmp (ids ++ id ∷ []) gs are'.1)

-- ---- the next line before the pack

-- what may stand behind references and a border
pub data IsNext (hash : Kind) (es : List Reference) (ids : List ObjectId) (l : Line) : Type 0 where
  a_reference : ids ≡ [] → (e : Reference) → l ≡ ref_line e → AreReferences hash (es ++ e ∷ []) → IsNext hash es ids l
  a_commit : (id : ObjectId) → l ≡ border_line id → AreBorderIds hash (ids ++ id ∷ []) → IsNext hash es ids l
  the_delimiter : l ≡ Delim → IsNext hash es ids l

module _ (hash : Kind) (es : List Reference) (ids : List ObjectId) (l : Line) (is_es : AllByRecursion (IsReference hash) es) (is_ids : AllByRecursion (IsOfHash hash) ids) where
  from_border : (fs : List ObjectId) (zs more : List Line) → AreBorderIds hash fs → map border_line fs ++ Delim ∷ zs ≡ map border_line ids ++ l ∷ more → IsNext hash es ids l
  from_border fs zs more are e =
      elim (next_of border_line (IsOfHash hash) (same_border hash) ids fs l more (Delim ∷ zs) is_ids are.0 (other_border zs) e) [
        | inl p ↦ a_commit p.0 p.3 (border_front hash ids p.0 p.1 (subst (AreBorderIds hash) p.2 are))
        | inr p ↦ the_delimiter (sym (heads Delim l zs more p.1).0)
      ]

  from_refs : (is : List ObjectId) → ids ≡ is → (fs : List Reference) (gs : List ObjectId) (zs more : List Line) → AreReferences hash fs → AreBorderIds hash gs
      → map ref_line fs ++ (map border_line gs ++ Delim ∷ zs) ≡ map ref_line es ++ (map border_line is ++ l ∷ more) → IsNext hash es ids l
  from_refs [] none fs gs zs more are are_ids e =
      elim (next_of ref_line (IsReference hash) (same_reference hash) es fs l more (map border_line gs ++ Delim ∷ zs) is_es are.0 (other_ref gs zs) e) [
        | inl p ↦ a_reference none p.0 p.3 (references_front hash es p.0 p.1 (subst (AreReferences hash) p.2 are))
        | inr p ↦ from_border gs zs more are_ids (p.1 ∙ sym (ap (λ (xs : List ObjectId). map border_line xs ++ l ∷ more) none))
      ]
  from_refs (i ∷ is) some fs gs zs more are are_ids e =
      elim (next_of ref_line (IsReference hash) (same_reference hash) es fs (border_line i) (map border_line is ++ l ∷ more) (map border_line gs ++ Delim ∷ zs) is_es are.0 (other_ref gs zs) e) [
        | inl p ↦ absurd (ref_border p.0 i (sym p.3))
        | inr p ↦ from_border gs zs more are_ids (p.1 ∙ sym (ap (λ (xs : List ObjectId). map border_line xs ++ l ∷ more) some))
      ]

  pub next_line : BeginBundle ((sent (head_texts hash) ++ (map ref_line es ++ map border_line ids)) ++ l ∷ []) → IsNext hash es ids l
  next_line begin =
      let s = begin.said in
      let more = begin.more in
      let H = sent (head_texts hash) in
      let R = map ref_line es in
      let B = map border_line ids in
      let whole : shape s.hash (finmap.entries s.names) (ids_of s.border) (in_pieces 65000 s.pack) ≡ H ++ (R ++ (B ++ l ∷ more)) =
      sym (said_shape s) ∙ begin.whole ∙ append_assoc (H ++ (R ++ B)) (l ∷ []) more ∙ append_assoc H (R ++ B) (l ∷ more) ∙ ap (λ (x : List Line). H ++ x) (append_assoc R B (l ∷ more)) in
      let h = same_head s.hash hash (behind_head (finmap.entries s.names) (ids_of s.border) (in_pieces 65000 s.pack)) (R ++ (B ++ l ∷ more)) whole in
      from_refs ids refl (finmap.entries s.names) (ids_of s.border) (ends (in_pieces 65000 s.pack)) more (subst (λ k. AreReferences k (finmap.entries s.names)) h.0 (said_references s begin.can))
      (subst (λ k. AreBorderIds k (ids_of s.border)) h.0 (said_border s begin.can)) h.1

  -- ---- the next line of the pack

  pub next_piece : (ps : List (List ℕ)) → BeginBundle ((sent (head_texts hash) ++ (map ref_line es ++ (map border_line ids ++ Delim ∷ map (λ (p : List ℕ). Payload p) ps))) ++ l ∷ [])
      → ((p : List ℕ) × (l ≡ Payload p) × ArePieces (ps ++ p ∷ [])) ⊎ (l ≡ Flush)
  next_piece ps begin =
      let s = begin.said in
      let more = begin.more in
      let H = sent (head_texts hash) in
      let R = map ref_line es in
      let B = map border_line ids in
      let P = map (λ (p : List ℕ). Payload p) ps in
      let qs = in_pieces 65000 s.pack in
      let behind : List Line = B ++ Delim ∷ (P ++ l ∷ more) in
      let whole : shape s.hash (finmap.entries s.names) (ids_of s.border) qs ≡ H ++ (R ++ behind) =
      sym (said_shape s) ∙ begin.whole ∙ append_assoc (H ++ (R ++ (B ++ Delim ∷ P))) (l ∷ []) more ∙ append_assoc H (R ++ (B ++ Delim ∷ P)) (l ∷ more)
      ∙ ap (λ (x : List Line). H ++ x) (append_assoc R (B ++ Delim ∷ P) (l ∷ more) ∙ ap (λ (x : List Line). R ++ x) (append_assoc B (Delim ∷ P) (l ∷ more))) in
      let h = same_head s.hash hash (behind_head (finmap.entries s.names) (ids_of s.border) qs) (R ++ behind) whole in
      let of_refs = subst (λ k. AreReferences k (finmap.entries s.names)) h.0 (said_references s begin.can) in
      let of_border = subst (λ k. AreBorderIds k (ids_of s.border)) h.0 (said_border s begin.can) in
      let r = same_list ref_line (IsReference hash) (same_reference hash) es (finmap.entries s.names) behind (behind_refs (ids_of s.border) qs) is_es of_refs.0 (other_ref ids (P ++ l ∷ more)) (other_ref (ids_of s.border) (ends qs)) h.1 in
      let b = same_list border_line (IsOfHash hash) (same_border hash) ids (ids_of s.border) (Delim ∷ (P ++ l ∷ more)) (Delim ∷ ends qs) is_ids of_border.0 (other_border (P ++ l ∷ more)) (other_border (ends qs)) r.1 in
      let last = (heads Delim Delim (ends qs) (P ++ l ∷ more) b.1).1 in
      elim (next_of (λ (p : List ℕ). Payload p) (λ p. Unit {0}) same_pieces ps qs l more (Flush ∷ []) (all_unit ps) (all_unit qs) (other_piece []) last) [
        | inl p ↦ inl (p.0, p.3, pieces_front ps p.0 p.1 (subst ArePieces p.2 (is_cut s.pack)))
        | inr p ↦ inr (sym (heads Flush l [] more p.1).0)
      ]
    where
      same_pieces : (a b : List ℕ) → Unit {0} → Unit {0} → Payload a ≡ Payload b → a ≡ b
      same_pieces a b _ _ e = cc

      all_unit : (xs : List (List ℕ)) → AllByRecursion (λ p. Unit {0}) xs
      all_unit [] = tt
      all_unit (x ∷ xs) = (tt, all_unit xs)

-- ---- lines that begin a bundle

-- a bundle of these parts
abbrev pub said_of : Kind → List Reference → List ObjectId → List (List ℕ) → Said
said_of hash es ids ps = record { hash = hash; names = finmap.from_entries es; border = set_of ids; pack = concat ps }

module _ (hash : Kind) (es : List Reference) (ids : List ObjectId) (ps : List (List ℕ)) (are : AreReferences hash es) (are_ids : AreBorderIds hash ids) (pieces : ArePieces ps) where
  pub the_entries : finmap.entries (finmap.from_entries {R = name_cmp} es) ≡ es
  the_entries = entries-sorted name_cmp_total name_cmp_exact es are.1

  pub the_ids : ids_of (set_of ids) ≡ ids
  the_ids = ids_of-set ids are_ids.1

  pub shape_of : said_lines (said_of hash es ids ps) ≡ shape hash es ids ps
  shape_of =
      said_shape (said_of hash es ids ps) ∙ ap (λ (x : List Reference). shape hash x (ids_of (set_of ids)) (in_pieces 65000 (concat ps))) the_entries
      ∙ ap₂ (λ (x : List ObjectId) (y : List (List ℕ)). shape hash es x y) the_ids (cut_is ps pieces)

  pub can_stand : AllByRecursion IsWritten (shape hash es ids ps) → CanStand (said_of hash es ids ps)
  can_stand written = record {
    references = subst (AllByRecursion (IsReference hash)) (sym the_entries) are.0;
    border = subst (AllByRecursion (IsOfHash hash)) (sym the_ids) are_ids.0;
    written = subst (AllByRecursion IsWritten) (sym shape_of) written;
  }

  pub begin_with : (lines more : List Line) → shape hash es ids ps ≡ lines ++ more → AllByRecursion IsWritten (shape hash es ids ps) → BeginBundle lines
  begin_with lines more is written = record { said = said_of hash es ids ps; can = can_stand written; more = more; whole = shape_of ∙ is }

-- ---- the end

-- no line of these is the end
abbrev pub AreBefore : List Line → Type 0
AreBefore lines = AllByRecursion (λ l. l ≢ Flush) lines

before_then : (xs ys : List Line) → AreBefore xs → AreBefore ys → AreBefore (xs ++ ys)
before_then [] ys p q = q
before_then (x ∷ xs) ys p q = (p.0, before_then xs ys p.1 q)

payloads_before : {X : Type 0} (line : X → Line) → ((x : X) → line x ≢ Flush) → (xs : List X) → AreBefore (map line xs)
payloads_before line apart [] = tt
payloads_before line apart (x ∷ xs) = (apart x, payloads_before line apart xs)

head_before : (hash : Kind) → AreBefore (sent (head_texts hash))
head_before hash = (λ e. cc, (λ e. cc, tt))

pub header_before : (hash : Kind) (es : List Reference) (ids : List ObjectId) → AreBefore (sent (head_texts hash) ++ (map ref_line es ++ map border_line ids))
header_before hash es ids =
    before_then (sent (head_texts hash)) (map ref_line es ++ map border_line ids) (head_before hash)
    (before_then (map ref_line es) (map border_line ids) (payloads_before ref_line (λ x e. cc) es) (payloads_before border_line (λ x e. cc) ids))

pub pieces_before : (hash : Kind) (es : List Reference) (ids : List ObjectId) (ps : List (List ℕ))
    → AreBefore (sent (head_texts hash) ++ (map ref_line es ++ (map border_line ids ++ Delim ∷ map (λ (p : List ℕ). Payload p) ps)))
pieces_before hash es ids ps =
    before_then (sent (head_texts hash)) (map ref_line es ++ (map border_line ids ++ Delim ∷ map (λ (p : List ℕ). Payload p) ps)) (head_before hash)
    (before_then (map ref_line es) (map border_line ids ++ Delim ∷ map (λ (p : List ℕ). Payload p) ps) (payloads_before ref_line (λ x e. cc) es)
    (before_then (map border_line ids) (Delim ∷ map (λ (p : List ℕ). Payload p) ps) (payloads_before border_line (λ x e. cc) ids) ((λ e. cc), payloads_before (λ (p : List ℕ). Payload p) (λ x e. cc) ps)))

-- all lines but the last
pub all_but_last : (s : Said) → (front : List Line) × (said_lines s ≡ front ++ Flush ∷ []) × AreBefore front
all_but_last s =
    let hash = s.hash in
    let es = finmap.entries s.names in
    let ids = ids_of s.border in
    let ps = in_pieces 65000 s.pack in
    let H = sent (head_texts hash) in
    let R = map ref_line es in
    let B = map border_line ids in
    let P = map (λ (p : List ℕ). Payload p) ps in (
      H ++ (R ++ (B ++ Delim ∷ P)),
      said_shape s
          ∙ sym (append_assoc H (R ++ (B ++ Delim ∷ P)) (Flush ∷ []) ∙ ap (λ (x : List Line). H ++ x) (append_assoc R (B ++ Delim ∷ P) (Flush ∷ []) ∙ ap (λ (x : List Line). R ++ x) (append_assoc B (Delim ∷ P) (Flush ∷ [])))),
      pieces_before hash es ids ps,
    )

last_only : (front xs : List Line) (l : Line) (more : List Line) → AreBefore front → front ++ Flush ∷ [] ≡ xs ++ Flush ∷ l ∷ more → ⊥
last_only [] [] l more before e = cc
last_only [] (x ∷ []) l more before e = cc
last_only [] (x ∷ y ∷ xs) l more before e = cc
last_only (a ∷ front) [] l more before e = before.0 (heads a Flush (front ++ Flush ∷ []) (l ∷ more) e).0
last_only (a ∷ front) (x ∷ xs) l more before e = last_only front xs l more before.1 (heads a x (front ++ Flush ∷ []) (xs ++ Flush ∷ l ∷ more) e).1

-- nothing stands behind the end
pub none_behind : (s : Said) (l : Line) → BeginBundle (said_lines s ++ l ∷ []) → ⊥
none_behind s l begin =
    let f = all_but_last s in
    let g = all_but_last begin.said in
    last_only g.0 f.0 l begin.more g.2
    (sym g.1 ∙ begin.whole ∙ append_assoc (said_lines s) (l ∷ []) begin.more ∙ ap (λ (x : List Line). x ++ l ∷ begin.more) f.1 ∙ append_assoc f.0 (Flush ∷ []) (l ∷ begin.more))

has_end : (front : List Line) → AreBefore (front ++ Flush ∷ []) → ⊥
has_end [] before = before.0 refl
has_end (x ∷ front) before = has_end front before.1

-- lines without the end are no whole ones
pub not_ended : (s : Said) (lines : List Line) → AreBefore lines → lines ≡ said_lines s → ⊥
not_ended s lines before is = let f = all_but_last s in has_end f.0 (subst AreBefore (is ∙ f.1) before)
