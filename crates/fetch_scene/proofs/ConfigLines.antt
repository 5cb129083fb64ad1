-- The lines of a scene's configuration.
use Rattle.std.proofs.Common.{◌≡◌, ℕ, suc, ◌+◌, ◌≤◌, Bool, true, false, cond, ◌||◌, eqb, List, [], ◌∷◌, ◌++◌, map, length, Option, Some, None, Err, refl, ap, ◌∙◌, arith, append_assoc}
use Rattle.std.specs.List.{list_any, slice_split, onto_first}
use Rattle.std.specs.Option.{option_map}
use Rattle.std.specs.Str.Lines.{lines, lines_of_parts, strip_carriage_return}
use Rattle.std.proofs.lemmas.List.{length-map}
use Rattle.fetch_config.specs.declared.line.Line.{Line}
use Rattle.fetch_config.specs.Lines.{first_broken, fits_behind, opens, each_line, broken_line}
use Rattle.fetch_config.proofs.FirstLine.{parts_some, lines_of_more}
use Rattle.fetch_scene.specs.SceneConfig.{has_feed, text_of, AreLines, IsOneOf, file_unless, file_in}

abbrev is_feed : ℕ → Bool
is_feed b = eqb b 10

neither : (a b : Bool) → (a || b) ≡ false → (a ≡ false) × (b ≡ false)
neither false b h = (refl, h)
neither true b h = absurd cc

split_off : (line rest : List ℕ) → has_feed line ≡ false → slice_split is_feed (line ++ 10 ∷ rest) ≡ line ∷ slice_split is_feed rest
split_off [] rest h = refl
split_off (c ∷ cs) rest h =
    let b = neither (eqb c 10) (list_any is_feed cs) h in
    ap (λ t. cond t ([] ∷ slice_split is_feed (cs ++ 10 ∷ rest)) (onto_first c (slice_split is_feed (cs ++ 10 ∷ rest)))) b.0 ∙ ap (onto_first c) (split_off cs rest b.1)

line_off : (line rest : List ℕ) → has_feed line ≡ false → lines (line ++ 10 ∷ rest) ≡ strip_carriage_return line ∷ lines rest
line_off line rest h =
    let some = parts_some rest in
    ap lines_of_parts (split_off line rest h) ∙ lines_of_more line some.0 some.1 (slice_split is_feed rest) some.2

pub own_lines : (texts : List (List ℕ)) → AreLines texts → lines (text_of texts) ≡ map strip_carriage_return texts
own_lines [] h = refl
own_lines (t ∷ ts) h =
    let b = neither (has_feed t) (list_any has_feed ts) h in
    ap lines (append_assoc t (10 ∷ []) (text_of ts)) ∙ line_off t (text_of ts) b.0 ∙ ap (λ ls. strip_carriage_return t ∷ ls) (own_lines ts b.1)

step : (fits : Bool) (rest : Option ℕ) (count n : ℕ) → ((m : ℕ) → rest ≡ Some m → (1 ≤ m) × (m ≤ count)) → cond fits (option_map (λ m. m + 1) rest) (Some 1) ≡ Some n → (1 ≤ n) × (n ≤ suc count)
step false rest count n ih h = let e : 1 ≡ n = cc in (omega arith, omega arith)
step true None count n ih h = absurd cc
step true (Some m) count n ih h = let e : m + 1 ≡ n = cc in let b = ih m refl in (omega arith, omega (arith, b.1))

numbered : (opened : Bool) (ls : List (Option Line)) (n : ℕ) → first_broken opened ls ≡ Some n → (1 ≤ n) × (n ≤ length ls)
numbered opened [] n h = absurd cc
numbered opened (l ∷ ls) n h = step (fits_behind opened l) (first_broken (opened || opens l) ls) (length ls) n (λ m e. numbered (opened || opens l) ls m e) h

each-length : (ls : List (List ℕ)) → length (each_line ls) ≡ length ls
each-length [] = refl
each-length (l ∷ ls) = ap suc (each-length ls)

number_of : (broken : Option ℕ) (text : List ℕ) (n : ℕ) → file_unless broken text ≡ Err n → broken ≡ Some n
number_of None text n h = absurd cc
number_of (Some m) text n h = cc

pub one_of : (texts : List (List ℕ)) (n : ℕ) → AreLines texts → file_in (text_of texts) ≡ Err n → IsOneOf texts n
unfolding file_in broken_line
one_of texts n h is =
    let broken = number_of (broken_line (text_of texts)) (text_of texts) n is in
    let b = numbered false (each_line (lines (text_of texts))) n broken in
    let count : length (each_line (lines (text_of texts))) ≡ length texts = each-length (lines (text_of texts)) ∙ ap length (own_lines texts h) ∙ length-map texts strip_carriage_return in
    (b.0, omega (arith, b.1, count))
