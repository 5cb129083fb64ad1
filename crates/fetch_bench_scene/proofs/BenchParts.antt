-- The text of a bench's scene is written part by part.
use Rattle.std.proofs.Common.{◌≡◌, ℕ, ◌<◌, List, [], ◌∷◌, ◌++◌, length, take, drop, map, min, codes, Result, Ok, Err, refl, sym, ap, subst, ◌∙◌, append-nil, append_assoc, take-append-drop, arith}
use Rattle.std.specs.Prelude.{OnErr}
use Rattle.std.proofs.lemmas.List.{take_at}
use Rattle.std.proofs.lemmas.Grind.{flat_map-append}
use Rattle.fetch_base.specs.Digits.{hex_of}
use Rattle.fetch_base.specs.declared.id.ObjectId.{ObjectId}
use Rattle.fetch_pack.specs.Texts.{Keeps}
use Rattle.fetch_pack.proofs.Growing.{keeps_front}
use Rattle.fetch_lines.specs.declared.lines.line.Line.{Line}
use Rattle.fetch_lines.specs.declared.lines.line.Line.TheVariants.{Payload, Flush, Delim}
use Rattle.fetch_lines.specs.Requests.{sent}
use Rattle.fetch_lines.specs.Written.{line_text, lines_text}
use Rattle.fetch_lines.proofs.Cut.{cut_more, cut_none}
use Rattle.fetch_bench.specs.declared.generated.Generated.{Generated}
use Rattle.fetch_bench_scene.specs.BenchText.{tracking_text, remote_texts, local_lines, pack_of, piece_lines, scene_lines}

lines_more : (xs ys : List Line) → lines_text (xs ++ ys) ≡ lines_text xs ++ lines_text ys
lines_more xs ys = flat_map-append line_text xs ys

next_part : (old so_far before now part : List ℕ) → before ≡ old ++ so_far → now ≡ before ++ part → now ≡ old ++ (so_far ++ part)
next_part old so_far before now part is more = more ∙ ap (λ (t : List ℕ). t ++ part) is ∙ append_assoc old so_far part

-- what stood before a part stands before more
pub keeps_more : (old before now more : List ℕ) → now ≡ before ++ more → Keeps old before → Keeps old now
keeps_more old before now more is keeps =
    let n = length old in
    let parts : before ≡ old ++ drop n before = sym (take-append-drop n before) ∙ ap (λ (t : List ℕ). t ++ drop n before) keeps in
    ap (take n) is ∙ ap (λ (t : List ℕ). take n (t ++ more)) parts ∙ ap (take n) (append_assoc old (drop n before) more) ∙ take_at old (drop n before ++ more) n refl

-- what keeps a part keeps what stood before it
pub keeps_before : (old part before after : List ℕ) → before ≡ old ++ part → Keeps before after → Keeps old after
keeps_before old part before after is keeps = keeps_front old part after (subst (λ (t : List ℕ). Keeps t after) is keeps)

-- what is so after a refusal is so if it was one
pub if_refused : {X E : Type 0} (r : Result X E) (P : Type 0) → P → OnErr r P
if_refused (Ok x) P holds = tt
if_refused (Err e) P holds = holds

pub tracking_written : (a b c : List ℕ) (id : ObjectId) → a ≡ codes "ref " → b ≡ a ++ hex_of id → c ≡ b ++ codes " refs/remotes/origin/main\n" → line_text (Payload c) ≡ lines_text (sent (tracking_text id ∷ []))
tracking_written a b c id first second third =
    let all : c ≡ tracking_text id ++ 10 ∷ [] = rw (third, second, first) (simp append_assoc) in
    ap (λ (t : List ℕ). line_text (Payload t)) all ∙ sym (append-nil (line_text (Payload (tracking_text id ++ 10 ∷ []))))

-- one piece, and those behind it
piece_more : (rest piece behind : List ℕ) → 0 < length rest → piece ≡ take (min (length rest) 65000) rest → behind ≡ drop (min (length rest) 65000) rest
    → lines_text (piece_lines rest) ≡ line_text (Payload piece) ++ lines_text (piece_lines behind)
piece_more rest piece behind full front back =
    ap (λ (pieces : List (List ℕ)). lines_text (map Payload pieces)) (sym (cut_more 65000 rest rest piece behind [] (omega arith) full front back refl))

piece_none : (rest : List ℕ) → length rest ≡ 0 → lines_text (piece_lines rest) ≡ []
piece_none rest none = ap (λ (pieces : List (List ℕ)). lines_text (map Payload pieces)) (cut_none 65000 rest none)

-- one piece more
pub piece_goes : (start out now rest piece behind bytes : List ℕ) → 0 < length rest → piece ≡ take (min (length rest) 65000) rest → behind ≡ drop (min (length rest) 65000) rest
    → now ≡ out ++ line_text (Payload piece) → out ++ lines_text (piece_lines rest) ≡ start ++ lines_text (piece_lines bytes) → now ++ lines_text (piece_lines behind) ≡ start ++ lines_text (piece_lines bytes)
piece_goes start out now rest piece behind bytes full front back wrote so_far =
    ap (λ (t : List ℕ). t ++ lines_text (piece_lines behind)) wrote ∙ append_assoc out (line_text (Payload piece)) (lines_text (piece_lines behind))
    ∙ ap (λ (t : List ℕ). out ++ t) (sym (piece_more rest piece behind full front back)) ∙ so_far

pub pieces_end : (start out rest bytes : List ℕ) → length rest ≡ 0 → out ++ lines_text (piece_lines rest) ≡ start ++ lines_text (piece_lines bytes) → out ≡ start ++ lines_text (piece_lines bytes)
pieces_end start out rest bytes none so_far = sym (append-nil out) ∙ ap (λ (t : List ℕ). out ++ t) (sym (piece_none rest none)) ∙ so_far

-- three parts
pub local_written : (old a b c : List ℕ) (xs ys zs : List Line) → a ≡ old ++ lines_text xs → b ≡ a ++ lines_text ys → c ≡ b ++ lines_text zs → c ≡ old ++ lines_text (xs ++ (ys ++ zs))
local_written old a b c xs ys zs first second third =
    let two = next_part old (lines_text xs) a b (lines_text ys) first second in
    let all = next_part old (lines_text xs ++ lines_text ys) b c (lines_text zs) two third in
    all ∙ ap (λ (t : List ℕ). old ++ t) (append_assoc (lines_text xs) (lines_text ys) (lines_text zs) ∙ ap (λ (t : List ℕ). lines_text xs ++ t) (sym (lines_more ys zs)) ∙ sym (lines_more xs (ys ++ zs)))

-- a part, and the line that divides it from the next one
pub divided : (old a b now : List ℕ) (xs : List Line) (line : Line) (more : List Line) → a ≡ old ++ lines_text xs → b ≡ a ++ line_text line → now ≡ b ++ lines_text more → now ≡ old ++ lines_text (xs ++ line ∷ more)
divided old a b now xs line more first second third =
    let two = next_part old (lines_text xs) a b (line_text line) first second in
    let all = next_part old (lines_text xs ++ line_text line) b now (lines_text more) two third in
    all ∙ ap (λ (t : List ℕ). old ++ t) (append_assoc (lines_text xs) (line_text line) (lines_text more) ∙ sym (lines_more xs (line ∷ more)))

pub scene_written : (old a b c d e f g h : List ℕ) (made : Generated) → a ≡ old ++ lines_text (local_lines made.tip) → b ≡ a ++ line_text Delim → c ≡ b ++ lines_text (piece_lines (pack_of made.objects)) → d ≡ c ++ line_text Delim
    → e ≡ d ++ lines_text (sent remote_texts) → f ≡ e ++ line_text Delim → g ≡ f ++ lines_text (map Payload made.pieces) → h ≡ g ++ line_text Flush → h ≡ old ++ lines_text (scene_lines made)
unfolding scene_lines
scene_written old a b c d e f g h made is_a is_b is_c is_d is_e is_f is_g is_h =
    let talk = divided f g h h (map Payload made.pieces) Flush [] is_g is_h (sym (append-nil h)) in
    let remote = divided d e f h (sent remote_texts) Delim (map Payload made.pieces ++ Flush ∷ []) is_e is_f talk in
    let objects = divided b c d h (piece_lines (pack_of made.objects)) Delim (sent remote_texts ++ Delim ∷ (map Payload made.pieces ++ Flush ∷ [])) is_c is_d remote in
    divided old a b h (local_lines made.tip) Delim (piece_lines (pack_of made.objects) ++ Delim ∷ (sent remote_texts ++ Delim ∷ (map Payload made.pieces ++ Flush ∷ []))) is_a is_b objects

-- some lines, one after the other
pub two_written : (old a b : List ℕ) (x y : Line) → a ≡ old ++ line_text x → b ≡ a ++ line_text y → b ≡ old ++ lines_text (x ∷ y ∷ [])
two_written old a b x y first second =
    next_part old (line_text x) a b (line_text y) first second ∙ ap (λ (t : List ℕ). old ++ (line_text x ++ t)) (sym (append-nil (line_text y)))

pub four_written : (old a b c d : List ℕ) (w x y z : Line) → a ≡ old ++ line_text w → b ≡ a ++ line_text x → c ≡ b ++ line_text y → d ≡ c ++ line_text z → d ≡ old ++ lines_text (w ∷ x ∷ y ∷ z ∷ [])
four_written old a b c d w x y z first second third fourth =
    two_written b c d y z third fourth ∙ ap (λ (t : List ℕ). t ++ lines_text (y ∷ z ∷ [])) (two_written old a b w x first second)
    ∙ append_assoc old (lines_text (w ∷ x ∷ [])) (lines_text (y ∷ z ∷ [])) ∙ ap (λ (t : List ℕ). old ++ t) (sym (lines_more (w ∷ x ∷ []) (y ∷ z ∷ [])))
