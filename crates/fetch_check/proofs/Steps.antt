-- One line more of those that are read.
use Rattle.std.proofs.Common.{◌≡◌, ℕ, ◌+◌, ◌-◌, ◌<◌, ◌≤◌, Bool, true, false, eqb, List, [], ◌∷◌, ◌++◌, length, map, append-nil, append_assoc, refl, sym, ap, subst, ◌∙◌, arith}
use Rattle.std.specs.List.{concat}
use Rattle.std.specs.List.Sorted.{IsStrictlySortedBy}
use Rattle.std.specs.Map.{keys_of}
use Rattle.std.proofs.lemmas.List.{map-append, length-append}
use Rattle.std.proofs.lemmas.Bool.{eqb-true}
use Rattle.fetch_base.specs.declared.id.Kind.{Kind}
use Rattle.fetch_base.specs.declared.id.ObjectId.{ObjectId}
use Rattle.fetch_base.specs.Id.{id_cmp}
use Rattle.fetch_refs.specs.Names.{name_cmp}
use Rattle.fetch_refs.specs.declared.target.Target.{Target}
use Rattle.fetch_lines.specs.declared.lines.line.Line.{Line}
use Rattle.fetch_lines.specs.declared.lines.line.Line.TheVariants.{Payload}
use Rattle.fetch_lines.specs.Written.{line_text}
use Rattle.fetch_check.specs.ReadSteps.{AreReadTo}
use Rattle.fetch_check.specs.Reading.{AreBorderIds, AreReferences, IsPiece, ArePieces}
use Rattle.fetch_check.specs.Scanning.{Stand, NoneStands, AreRead}
use Rattle.fetch_check.proofs.Digits.{line_some}
use Rattle.fetch_check.proofs.LineTexts.{stand_then, stand_none}
use Rattle.fetch_check.proofs.Ordered.{all_more}
use Rattle.fetch_check.proofs.Pieces.{behind_full, piece_last, piece_before}

pub one_more : {X : Type 0} (line : X → Line) (bytes : List ℕ) (place next behind : ℕ) (xs : List X) (x : X) → Stand bytes place (map line xs) next → Stand bytes next (line x ∷ []) behind
    → Stand bytes place (map line (xs ++ x ∷ [])) behind
one_more line bytes place next behind xs x before one =
    subst (λ (ls : List Line). Stand bytes place ls behind) (sym (map-append line xs (x ∷ []))) (stand_then bytes place next behind (map line xs) (line x ∷ []) before one)

-- a line has bytes
pub further : (bytes : List ℕ) (next behind : ℕ) (line : Line) → Stand bytes next (line ∷ []) behind → (next < behind) × (behind ≤ length bytes)
further bytes next behind line one =
    let some = line_some line in
    let n = length-append (line_text line) [] in
    let len : behind ≡ next + length (line_text line ++ []) = one.stands.len in
    let within = one.stands.within in (omega arith, within)

pub fewer : (len next behind : ℕ) → next < behind → behind ≤ len → len - behind < len - next
fewer len next behind lt le = omega arith

-- ---- pieces

pub no_pieces : (bytes : List ℕ) (place : ℕ) → place ≤ length bytes → AreReadTo bytes place [] place true
no_pieces bytes place le = record { pieces = []; joined = refl; stand = stand_none bytes place le; may = tt; full = λ _. tt; short = λ e. absurd cc }

joined_more : (ps : List (List ℕ)) (p pack : List ℕ) → pack ≡ concat ps → pack ++ p ≡ concat (ps ++ p ∷ [])
joined_more [] p pack is = ap (λ (t : List ℕ). t ++ p) is ∙ sym (append-nil p)
joined_more (q ∷ ps) p pack is = ap (λ (t : List ℕ). t ++ p) is ∙ append_assoc q (concat ps) p ∙ ap (λ (t : List ℕ). q ++ t) (joined_more ps p (concat ps) refl)

pub piece_more : (bytes : List ℕ) (place next behind : ℕ) (pack piece more : List ℕ) (full : Bool) → AreReadTo bytes place pack next true → Stand bytes next (Payload piece ∷ []) behind → IsPiece piece
    → more ≡ pack ++ piece → full ≡ eqb (length piece) 65000 → AreReadTo bytes place more behind full
piece_more bytes place next behind pack piece more full before one is joined test = record {
  pieces = before.pieces ++ piece ∷ [];
  joined = joined ∙ joined_more before.pieces piece pack before.joined;
  stand = one_more (λ (p : List ℕ). Payload p) bytes place next behind before.pieces piece before.stand one;
  may = behind_full before.pieces piece (before.full refl) is;
  full = λ yes. all_more (λ (p : List ℕ). length p ≡ 65000) before.pieces piece (before.full refl) (eqb-true (length piece) 65000 (sym test ∙ yes));
  short = λ not_full p may. unlike full test not_full (piece_before before.pieces piece p may);
}
  where
    unlike : (b : Bool) → b ≡ eqb (length piece) 65000 → b ≡ false → length piece ≡ 65000 → ⊥
    unlike b is none len = let same : true ≡ false = ap (λ (n : ℕ). eqb n 65000) (sym len) ∙ sym is ∙ none in absurd cc

-- nothing stands behind the last piece
pub pieces_end : (bytes : List ℕ) (place next : ℕ) (pack : List ℕ) (full : Bool) → AreReadTo bytes place pack next full → (full ≡ true → NoneStands (λ (p : List ℕ). Payload p) IsPiece bytes next)
    → (pieces : List (List ℕ)) × (pack ≡ concat pieces) × AreRead (λ (p : List ℕ). Payload p) ArePieces bytes place pieces next
pieces_end bytes place next pack true are none =
    (are.pieces, are.joined, record { stand = are.stand; may = are.may; ended = λ p rest may w is. none refl p rest (piece_last are.pieces p may) w is })
pieces_end bytes place next pack false are none = (are.pieces, are.joined, record { stand = are.stand; may = are.may; ended = λ p rest may w is. are.short refl p may })

-- ---- nothing is read yet

no_names_rise : IsStrictlySortedBy name_cmp (keys_of {X = Target} [])
unfolding IsStrictlySortedBy
no_names_rise = tt

no_ids_rise : IsStrictlySortedBy id_cmp []
unfolding IsStrictlySortedBy
no_ids_rise = tt

pub none_stand : {X : Type 0} (line : X → Line) (bytes : List ℕ) (place : ℕ) (found : List X) → place ≤ length bytes → found ≡ [] → Stand bytes place (map line found) place
none_stand {X = X} line bytes place found le none = subst (λ (xs : List X). Stand bytes place (map line xs) place) (sym none) (stand_none bytes place le)

pub no_references : (hash : Kind) (found : List (List ℕ × Target)) → found ≡ [] → AreReferences hash found
no_references hash found none = subst (AreReferences hash) (sym none) (tt, no_names_rise)

pub no_border_ids : (hash : Kind) (found : List ObjectId) → found ≡ [] → AreBorderIds hash found
no_border_ids hash found none = subst (AreBorderIds hash) (sym none) (tt, no_ids_rise)
