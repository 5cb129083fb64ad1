-- Lines of a bundle, one after the other.
use Rattle.std.proofs.Common.{◌≡◌, ℕ, ◌*◌, ◌≤◌, ◌<◌, false, cond, List, [], ◌∷◌, ◌++◌, length, take, drop, map, min, append_assoc, take-append-drop, Some, None, refl, sym, ap, ◌∙◌, arith}
use Rattle.std.proofs.lemmas.List.{take_at, append-nil}
use Rattle.std.proofs.lemmas.Grind.{flat_map-append}
use Rattle.std.proofs.lemmas.Bool.Decides.{nat_tests}
use Rattle.std.specs.Prelude.{nat_lt}
use Rattle.hex.specs.Hex.{encode_with, lower_digits}
use Rattle.fetch_base.specs.declared.id.Kind.{Kind}
use Rattle.fetch_base.specs.declared.id.Kind.TheVariants.{Sha1, Sha256}
use Rattle.fetch_base.specs.declared.id.ObjectId.{ObjectId}
use Rattle.fetch_base.specs.Digits.{hex_of}
use Rattle.fetch_base.specs.Id.{byte_len, bytes_of, kind_of}
use Rattle.fetch_pack.specs.Texts.{Keeps}
use Rattle.fetch_lines.specs.declared.lines.line.Line.{Line}
use Rattle.fetch_lines.specs.declared.lines.line.Line.TheVariants.{Payload}
use Rattle.fetch_lines.specs.Written.{line_text, lines_text, too_long_in}
use Rattle.fetch_lines.proofs.Cut.{cut_more, cut_none}
use Rattle.fetch_check.specs.Bundles.{piece_lines}

pub lines_more : (xs ys : List Line) → lines_text (xs ++ ys) ≡ lines_text xs ++ lines_text ys
lines_more xs ys = flat_map-append line_text xs ys

-- what stood before stands before more
pub keeps_more : (before now more : List ℕ) → Keeps before now → Keeps before (now ++ more)
keeps_more before now more keeps =
    let n = length before in
    let parts : now ≡ before ++ drop n now = sym (take-append-drop n now) ∙ ap (λ (t : List ℕ). t ++ drop n now) keeps in
    ap (λ (t : List ℕ). take n (t ++ more)) parts ∙ ap (take n) (append_assoc before (drop n now) more) ∙ take_at before (drop n now ++ more) n refl

pub keeps_itself : (text : List ℕ) → Keeps text text
keeps_itself text = ap (take (length text)) (sym (append-nil text)) ∙ take_at text [] (length text) refl

-- one piece, and those behind it
pub piece_more : (rest piece behind : List ℕ) → 0 < length rest → piece ≡ take (min (length rest) 65000) rest → behind ≡ drop (min (length rest) 65000) rest
    → lines_text (piece_lines rest) ≡ line_text (Payload piece) ++ lines_text (piece_lines behind)
piece_more rest piece behind full front back =
    ap (λ (pieces : List (List ℕ)). lines_text (map (λ x. Payload x) pieces)) (sym (cut_more 65000 rest rest piece behind [] (omega arith) full front back refl))

pub piece_none : (rest : List ℕ) → length rest ≡ 0 → lines_text (piece_lines rest) ≡ []
piece_none rest none = ap (λ (pieces : List (List ℕ)). lines_text (map (λ x. Payload x) pieces)) (cut_none 65000 rest none)

-- ---- ids have few bytes

hex_length : (table bytes : List ℕ) → length (encode_with table bytes) ≡ 2 * length bytes
unfolding encode_with
hex_length table [] = refl
hex_length table (b ∷ bytes) = omega (arith, hex_length table bytes)

few : (kind : Kind) → byte_len kind ≤ 32
few Sha1 = omega arith
few Sha256 = omega arith

pub short_hex : (id : ObjectId) → length (bytes_of id) ≡ byte_len (kind_of id) → length (hex_of id) ≤ 64
short_hex id len = omega (arith, hex_length lower_digits (bytes_of id), few (kind_of id))

-- a line of few bytes isn't too long
pub not_too_long : (payload : List ℕ) → length payload ≤ 65516 → too_long_in (Payload payload) ≡ None
not_too_long payload le = ap (λ b. cond b (Some (length payload)) None) (let no : nat_lt 65516 (length payload) ≡ false = grind (arith, nat_tests) in no)
