-- Lines of replies, one after another: how they are written, and that each fits.
use Rattle.std.proofs.Common.{◌≡◌, ℕ, zero, suc, ◌≤◌, ◌<◌, false, cond, List, [], ◌∷◌, ◌++◌, length, map, take, drop, min, Option, Some, None, All, refl, sym, ap, ◌∙◌, arith, length-append}
use Rattle.std.specs.Prelude.{codes, nat_lt}
use Rattle.std.specs.Option.{option_or}
use Rattle.std.proofs.lemmas.Bool.Decides.{nat_tests}
use Rattle.std.proofs.lemmas.Grind.{flat_map-append}
use Rattle.std.proofs.lemmas.List.{append-nil, length-take}
use Rattle.std.proofs.lemmas.List.Elements.{All-head, All-tail}
use Rattle.hex.specs.Hex.{encode_lower}
use Rattle.fetch_base.specs.Id.{bytes_of}
use Rattle.fetch_base.specs.declared.id.ObjectId.{ObjectId}
use Rattle.fetch_lines.specs.Bands.{Piece, band_line, pack_lines}
use Rattle.fetch_lines.specs.Cutting.{pieces_within}
use Rattle.fetch_lines.specs.RequestLines.{id_lines}
use Rattle.fetch_lines.specs.Requests.{sent, text_line}
use Rattle.fetch_lines.specs.ServerLines.{acknowledged_texts, bands_of, change_lines, round_lines}
use Rattle.fetch_lines.specs.Written.{first_too_long, line_text, lines_text, too_long_in}
use Rattle.fetch_lines.specs.declared.lines.line.Line.{Line}
use Rattle.fetch_lines.specs.declared.lines.line.Line.TheVariants.{Payload, Flush, Delim}
use Rattle.fetch_lines.proofs.Cut.{cut_more, cut_none}
use Rattle.fetch_serve.specs.Replies.{error_lines, not_offered, too_large}
use Rattle.fetch_serve.proofs.Fitting.{text_fits}

-- ---- as they are written

pub lines_more : (xs ys : List Line) → lines_text (xs ++ ys) ≡ lines_text xs ++ lines_text ys
lines_more xs ys = flat_map-append line_text xs ys

pub one_line : (line : Line) → lines_text (line ∷ []) ≡ line_text line
one_line line = append-nil (line_text line)

-- the bands of a pack, as they are written
abbrev pub bands_text : List ℕ → List ℕ
bands_text pack = lines_text (map band_line (bands_of pack))

-- one band, and those behind it
pub band_more : (rest piece behind : List ℕ) → 0 < length rest → piece ≡ take (min (length rest) 65515) rest → behind ≡ drop (min (length rest) 65515) rest
    → bands_text rest ≡ line_text (band_line (Piece piece)) ++ bands_text behind
band_more rest piece behind full front back =
    ap (λ (pieces : List (List ℕ)). lines_text (map band_line (map (λ x. Piece x) pieces))) (sym (cut_more 65515 rest rest piece behind [] (omega arith) full front back refl))

pub band_none : (rest : List ℕ) → length rest ≡ 0 → bands_text rest ≡ []
band_none rest none = ap (λ (pieces : List (List ℕ)). lines_text (map band_line (map (λ x. Piece x) pieces))) (cut_none 65515 rest none)

-- a pack with its first line and its flush
pub pack_text_is : (pack : List ℕ) → lines_text (pack_lines (bands_of pack)) ≡ line_text (Payload (codes "packfile" ++ 10 ∷ [])) ++ (bands_text pack ++ line_text Flush)
pack_text_is pack =
    ap (λ (l : List ℕ). line_text (Payload (codes "packfile" ++ 10 ∷ [])) ++ l) (lines_more (map band_line (bands_of pack)) (Flush ∷ []) ∙ ap (λ (l : List ℕ). bands_text pack ++ l) (one_line Flush))

-- ---- each fits

none_or : (a b : Option ℕ) → a ≡ None → b ≡ None → option_or a b ≡ None
none_or a b e f = ap (λ x. option_or x b) e ∙ f

both_by : (o : Option ℕ) (xs all : List Line) → option_or o (first_too_long xs) ≡ None → (first_too_long xs ≡ None → first_too_long all ≡ None) → option_or o (first_too_long all) ≡ None
both_by None xs all h again = again h
both_by (Some n) xs all h again = absurd (cc)

pub both_fit : (xs ys : List Line) → first_too_long xs ≡ None → first_too_long ys ≡ None → first_too_long (xs ++ ys) ≡ None
both_fit [] ys f g = g
both_fit (x ∷ xs) ys f g = both_by (too_long_in x) xs (xs ++ ys) f (λ h. both_fit xs ys h g)

pub payload_fits : (payload : List ℕ) → length payload ≤ 65516 → too_long_in (Payload payload) ≡ None
payload_fits payload le = ap (λ b. cond b (Some (length payload)) None) (let no : nat_lt 65516 (length payload) ≡ false = grind (arith, nat_tests) in no)

texts_fit : (texts : List (List ℕ)) → All (λ t. length t ≤ 65515) texts → first_too_long (sent texts) ≡ None
texts_fit [] all = refl
texts_fit (t ∷ texts) all =
    none_or (too_long_in (text_line t)) (first_too_long (sent texts)) (text_fits t (All-head (λ t. length t ≤ 65515) t texts all)) (texts_fit texts (All-tail (λ t. length t ≤ 65515) t texts all))

-- ids of few digits
abbrev pub AreShort : List ObjectId → Type 0
AreShort ids = All (λ id. length (encode_lower (bytes_of id)) ≤ 64) ids

-- a word and an id, for each id
pub ids_fit : (word : List ℕ) (ids : List ObjectId) → length word ≤ 100 → AreShort ids → first_too_long (sent (id_lines word ids)) ≡ None
ids_fit word [] few all = refl
ids_fit word (id ∷ ids) few all =
    let short = All-head (λ id. length (encode_lower (bytes_of id)) ≤ 64) id ids all in
    none_or (too_long_in (text_line (word ++ encode_lower (bytes_of id)))) (first_too_long (sent (id_lines word ids)))
    (text_fits (word ++ encode_lower (bytes_of id)) (omega (arith, length-append word (encode_lower (bytes_of id)))))
    (ids_fit word ids few (All-tail (λ id. length (encode_lower (bytes_of id)) ≤ 64) id ids all))

acknowledged_fit : (ids : List ObjectId) → AreShort ids → first_too_long (sent (acknowledged_texts ids)) ≡ None
acknowledged_fit [] all = refl
acknowledged_fit (id ∷ ids) all = ids_fit (codes "ACK ") (id ∷ ids) (omega arith) all

-- acknowledgments
pub round_fits : (ids : List ObjectId) → AreShort ids → first_too_long (round_lines ids) ≡ None
round_fits ids all = both_fit (sent (codes "acknowledgments" ∷ acknowledged_texts ids)) (Flush ∷ []) (acknowledged_fit ids all) refl

pub sent_more : (xs ys : List (List ℕ)) → sent (xs ++ ys) ≡ sent xs ++ sent ys
sent_more [] ys = refl
sent_more (x ∷ xs) ys = ap (λ l. text_line x ∷ l) (sent_more xs ys)

-- the change of a border
pub change_fits : (shallow unshallow : List ObjectId) → AreShort shallow → AreShort unshallow → first_too_long (change_lines (Some (record { shallow = shallow; unshallow = unshallow }))) ≡ None
change_fits shallow unshallow all others =
    both_fit (sent (codes "shallow-info" ∷ id_lines (codes "shallow ") shallow ++ id_lines (codes "unshallow ") unshallow)) (Delim ∷ [])
    (ap first_too_long (sent_more (codes "shallow-info" ∷ id_lines (codes "shallow ") shallow) (id_lines (codes "unshallow ") unshallow))
    ∙ both_fit (sent (codes "shallow-info" ∷ id_lines (codes "shallow ") shallow)) (sent (id_lines (codes "unshallow ") unshallow))
    (ids_fit (codes "shallow ") shallow (omega arith) all) (ids_fit (codes "unshallow ") unshallow (omega arith) others)) refl

bands_fit : (n : ℕ) (bytes : List ℕ) → first_too_long (map band_line (map (λ x. Piece x) (pieces_within n 65515 bytes))) ≡ None
unfolding pieces_within
bands_fit zero bytes = refl
bands_fit (suc n) [] = refl
bands_fit (suc n) (b ∷ bytes) =
    let short = length-take 65515 (b ∷ bytes) in
    none_or (too_long_in (band_line (Piece (take 65515 (b ∷ bytes))))) (first_too_long (map band_line (map (λ x. Piece x) (pieces_within n 65515 (drop 65515 (b ∷ bytes))))))
    (payload_fits (1 ∷ take 65515 (b ∷ bytes)) (omega arith)) (bands_fit n (drop 65515 (b ∷ bytes)))

-- a pack
pub pack_fits : (pack : List ℕ) → first_too_long (pack_lines (bands_of pack)) ≡ None
pack_fits pack = both_fit (map band_line (bands_of pack)) (Flush ∷ []) (bands_fit (length pack) pack) refl

-- an id that isn't offered
pub refusal_fits : (id : ObjectId) → length (encode_lower (bytes_of id)) ≤ 64 → first_too_long (error_lines (not_offered id)) ≡ None
refusal_fits id short =
    none_or (too_long_in (text_line (codes "ERR " ++ not_offered id))) None
    (text_fits (codes "ERR " ++ not_offered id) (simp length-append (omega arith))) refl

-- a pack that is too large
pub large_fits : first_too_long (error_lines too_large) ≡ None
unfolding too_large
large_fits = refl
