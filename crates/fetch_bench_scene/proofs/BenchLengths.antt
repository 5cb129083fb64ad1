-- The text of a bench's scene is no longer than a scene may be, and each of its lines fits.
use Rattle.std.proofs.Common.{◌≡◌, ℕ, zero, suc, ◌+◌, ◌*◌, ◌-◌, ◌/◌, ◌≤◌, ◌^◌, false, cond, List, [], ◌∷◌, ◌++◌, length, take, drop, map, codes, decimal, Option, Some, None, refl, ap, sym, ◌∙◌, length-append, length-drop, take-append-drop, arith}
use Rattle.std.specs.Prelude.{IfSome, nat_lt, option_map, option_to_list}
use Rattle.std.specs.Int.{w32, to_be_bytes}
use Rattle.std.specs.List.{AllByRecursion, flat_map}
use Rattle.std.proofs.lemmas.Fmt.{length-decimal-le}
use Rattle.std.proofs.lemmas.Bool.Decides.{nat_tests}
use Rattle.std.proofs.lemmas.Grind.{flat_map-append}
use Rattle.hex.specs.Hex.{encode_with}
use Rattle.fetch_base.specs.Digits.{hex_of}
use Rattle.fetch_base.specs.Hashing.{digest}
use Rattle.fetch_base.specs.Id.{bytes_of}
use Rattle.fetch_objects.specs.Objects.{Stored}
use Rattle.fetch_objects.specs.Texts.{line}
use Rattle.fetch_base.specs.declared.id.Kind.TheVariants.{Sha1}
use Rattle.fetch_base.specs.declared.id.ObjectId.{ObjectId}
use Rattle.fetch_base.specs.declared.object_kind.ObjectKind.TheVariants.{Tree}
use Rattle.fetch_base.proofs.Digests.{length-digest}
use Rattle.fetch_pack.specs.Records.{Payload as PackPayload, body, pack_text, payload_of, payloads_of, record_text, under_its_id, under_their_ids}
use Rattle.fetch_pack.specs.declared.version.PackVersion.TheVariants.{V1}
use Rattle.fetch_lines.specs.Bands.{Piece, band_line, pack_lines}
use Rattle.fetch_lines.specs.Cutting.{in_pieces, pieces_within}
use Rattle.fetch_lines.specs.Requests.{sent, text_line}
use Rattle.fetch_lines.specs.ServerLines.{greeting_lines, listing_lines_of, ref_text}
use Rattle.fetch_lines.specs.Written.{four_digits, line_text, lines_text, too_long_in}
use Rattle.fetch_lines.specs.declared.lines.line.Line.{Line}
use Rattle.fetch_lines.specs.declared.lines.line.Line.TheVariants.{Payload, Flush, Delim}
use Rattle.fetch_lines.specs.declared.listings.reference.Ref.TheVariants.{Direct}
use Rattle.fetch_bench.specs.Commits.{signature, text_of, commit_after, commits_after, line_of, tip, tree_id}
use Rattle.fetch_bench.specs.Generated.{second_half, server_stream, generated}
use Rattle.fetch_bench.specs.Served.{capabilities, listed, branches}
use Rattle.fetch_bench.proofs.Halves.{without_ids}
use Rattle.fetch_bench.proofs.Texts.{parent_lines, text_is}
use Rattle.fetch_bench_scene.specs.BenchText.{head_texts, tracking_text, config_texts, remote_texts, local_lines, pack_of, piece_lines, scene_lines, bench_text}
use Rattle.fetch_bench_scene.proofs.BenchObjects.{IsSpelt, hex_length, id_spelt, tip_spelt, objects_of}
use Rattle.fetch_bench_scene.proofs.PlacedLines.{IsWritten, line_length}

-- ---- the text of a commit

line_more : (text : List ℕ) → length (line text) ≡ length text + 1
line_more text = length-append text (10 ∷ [])

few_digits : (n : ℕ) → n ≤ 100000 → length (decimal n) ≤ 6
few_digits n few = length-decimal-le 6 n (omega arith) (omega (arith, few)) (omega (arith, few))

signature_short : (n : ℕ) → n ≤ 100000 → length (signature n) ≤ 20
unfolding signature
signature_short n few =
    let a = length-append (codes "A <a@x> ") (decimal n ++ codes " +0000") in
    let b = length-append (decimal n) (codes " +0000") in
    omega (arith, a, b, few_digits n few)

parents_short : (parent : Option ObjectId) → IfSome parent IsSpelt → length (parent_lines parent) ≤ 48
parents_short None is = omega arith
parents_short (Some id) is =
    let text = codes "parent " ++ hex_of id in
    let all : length (line text ++ []) ≡ length (line text) + 0 = length-append (line text) [] in
    let short : length (parent_lines (Some id)) ≤ 48 = omega (arith, all, line_more text, length-append (codes "parent ") (hex_of id), hex_length id is) in
    short

five_parts : (a b c d e : List ℕ) → length (a ++ (b ++ (c ++ (d ++ e)))) ≡ length a + (length b + (length c + (length d + length e)))
five_parts a b c d e = omega (arith, length-append a (b ++ (c ++ (d ++ e))), length-append b (c ++ (d ++ e)), length-append c (d ++ e), length-append d e)

text_short : (parent : Option ObjectId) (n : ℕ) → IfSome parent IsSpelt → n ≤ 100000 → length (text_of parent n) ≤ 200
text_short parent n is few =
    let tree = codes "tree " ++ hex_of tree_id in
    let author = codes "author " ++ signature n in
    let committer = codes "committer " ++ signature n in
    let message = codes "\n" ++ decimal n in
    let all : length (text_of parent n) ≡ length (line tree) + (length (parent_lines parent) + (length (line author) + (length (line committer) + length (line message)))) =
    ap length (text_is parent n) ∙ five_parts (line tree) (parent_lines parent) (line author) (line committer) (line message) in
    omega (
      arith,
      all,
      length-append (codes "tree ") (hex_of tree_id),
      length-append (codes "author ") (signature n),
      length-append (codes "committer ") (signature n),
      length-append (codes "\n") (decimal n),
      line_more tree,
      line_more author,
      line_more committer,
      line_more message,
      hex_length tree_id (id_spelt Tree []),
      parents_short parent is,
      signature_short n few,
      few_digits n few,
    )

-- ---- packs

record_length : (p : PackPayload) → length (record_text V1 (under_its_id V1 Sha1 p)) ≡ 5 + length p.bytes
record_length p =
    let four : length (to_be_bytes w32 (length p.bytes)) ≡ 4 = refl in
    omega (arith, length-append (to_be_bytes w32 (length p.bytes)) p.bytes, four)

abbrev records_of : List PackPayload → List ℕ
records_of ps = flat_map (record_text V1) (under_their_ids V1 Sha1 ps)

commits_short : (a count : ℕ) → a + count ≤ 100000 → length (records_of (payloads_of (commits_after a count))) ≤ count * 205
commits_short a zero few = omega arith
commits_short a (suc count) few =
    let first = payload_of (commit_after a) in
    let rest = payloads_of (commits_after (a + 1) count) in
    omega (arith, length-append (record_text V1 (under_its_id V1 Sha1 first)) (records_of rest), record_length first, text_short (tip a) (a + 1) (tip_spelt a) (omega (arith, few)), commits_short (a + 1) count (omega (arith, few)))

pack_length : (ps : List PackPayload) → length (pack_text V1 Sha1 ps) ≡ length (records_of ps) + 32
pack_length ps =
    let all = body V1 Sha1 ps in
    omega (arith, length-append all (bytes_of (digest Sha1 all)), length-digest Sha1 all)

half_short : (n : ℕ) → n ≤ 100000 → length (second_half n) ≤ 10250100
half_short n few = omega (arith, pack_length (payloads_of (commits_after (n / 2) (n - n / 2))), commits_short (n / 2) (n - n / 2) (omega (arith, few)))

line_short : (n : ℕ) → n ≤ 50000 → length (pack_of (line_of n)) ≤ 10250100
line_short n few =
    let os = objects_of n in
    let rest = payloads_of (commits_after 0 n) in
    let is : length (pack_of (line_of n)) ≡ length (pack_text V1 Sha1 (payloads_of os)) = ap (λ (l : List Stored). length (pack_text V1 Sha1 (payloads_of l))) (without_ids os) in
    let tree = payload_of (record { hash = Sha1; kind = Tree; bytes = [] }) in
    omega (arith, is, pack_length (payloads_of os), length-append (record_text V1 (under_its_id V1 Sha1 tree)) (records_of rest), record_length tree, commits_short 0 n (omega (arith, few)))

-- ---- pieces

cut_lengths : (bytes : List ℕ) → length (take 65000 bytes) + length (drop 65000 bytes) ≡ length bytes
cut_lengths bytes = sym (length-append (take 65000 bytes) (drop 65000 bytes)) ∙ ap length (take-append-drop 65000 bytes)

band_length : (piece : List ℕ) → length (line_text (Payload (1 ∷ piece))) ≡ length piece + 5
band_length piece = omega (arith, line_length (Payload (1 ∷ piece)))

some_bytes : (b : ℕ) (bytes : List ℕ) → 1 ≤ length (b ∷ bytes)
some_bytes b bytes = omega arith

payloads_within : (n : ℕ) (bytes : List ℕ) → length (lines_text (map Payload (pieces_within n 65000 bytes))) ≤ 5 * length bytes
unfolding pieces_within
payloads_within zero bytes = omega arith
payloads_within (suc n) [] = omega arith
payloads_within (suc n) (b ∷ bytes) =
    let all = b ∷ bytes in
    let piece = Payload (take 65000 all) in
    omega (arith, length-append (line_text piece) (lines_text (map Payload (pieces_within n 65000 (drop 65000 all)))), line_length piece, cut_lengths all, length-drop 65000 all, payloads_within n (drop 65000 all))

-- a first piece that has five bytes more than itself, and the others
band_more : (len first rest piece others all : ℕ) → len ≡ first + rest → first ≡ piece + 5 → piece + others ≡ all → others ≡ all - 65000 → 1 ≤ all → rest ≤ 6 * others → len ≤ 6 * all
band_more len first rest piece others all a b c d e f = omega arith

bands_within : (n : ℕ) (bytes : List ℕ) → length (lines_text (map band_line (map Piece (pieces_within n 65000 bytes)))) ≤ 6 * length bytes
unfolding pieces_within
bands_within zero bytes = omega arith
bands_within (suc n) [] = omega arith
bands_within (suc n) (b ∷ bytes) =
    let all = b ∷ bytes in
    let band = Payload (1 ∷ take 65000 all) in
    let behind = drop 65000 all in
    band_more _ _ _ (length (take 65000 all)) (length behind) (length all) (length-append (line_text band) (lines_text (map band_line (map Piece (pieces_within n 65000 behind))))) (band_length (take 65000 all)) (cut_lengths all) (length-drop 65000 all)
    (some_bytes b bytes) (bands_within n behind)

lines_more : (xs ys : List Line) → length (lines_text (xs ++ ys)) ≡ length (lines_text xs) + length (lines_text ys)
lines_more xs ys = ap length (flat_map-append line_text xs ys) ∙ length-append (lines_text xs) (lines_text ys)

line_and : (first : Line) (rest : List Line) → length (lines_text (first ∷ rest)) ≡ length (line_text first) + length (lines_text rest)
line_and first rest = length-append (line_text first) (lines_text rest)

-- ---- what the server says

greeting_short : length (lines_text (greeting_lines capabilities)) ≤ 100
unfolding capabilities line_text four_digits encode_with
greeting_short = omega arith

ref_length : (name : List ℕ) (id : ObjectId) → IsSpelt id → length (line_text (text_line (ref_text (Direct name id)))) ≡ length name + 46
ref_length name id is =
    let text = hex_of id ++ (32 ∷ (name ++ [])) in
    omega (arith, line_length (text_line text), length-append text (10 ∷ []), length-append (hex_of id) (32 ∷ (name ++ [])), length-append name [], hex_length id is)

one_ref : (len a r f : ℕ) → len ≡ a + r → r ≡ f + 0 → a ≤ 61 → f ≡ 4 → len ≤ 130
one_ref len a r f is more short four = omega arith

two_refs : (len a r b q f : ℕ) → len ≡ a + r → r ≡ b + q → q ≡ f + 0 → a ≡ 61 → b ≡ 60 → f ≡ 4 → len ≤ 130
two_refs len a r b q f is more last first second four = omega arith

unfoldable main_line : ObjectId → Line
main_line id = text_line (ref_text (Direct (codes "refs/heads/main") id))

unfoldable old_line : ObjectId → Line
old_line id = text_line (ref_text (Direct (codes "refs/heads/old") id))

main_length : (id : ObjectId) → IsSpelt id → length (line_text (main_line id)) ≡ 61
unfolding main_line
main_length id is = ref_length (codes "refs/heads/main") id is

old_length : (id : ObjectId) → IsSpelt id → length (line_text (old_line id)) ≡ 60
unfolding old_line
old_length id is = ref_length (codes "refs/heads/old") id is

at_most : (a b : ℕ) → a ≡ b → b ≤ 61 → a ≤ 61
at_most a b is few = omega arith

listing_short : (main old : Option ObjectId) → IfSome main IsSpelt → IfSome old IsSpelt → length (lines_text (listing_lines_of (branches main old))) ≤ 130
unfolding branches main_line old_line
listing_short None None is_main is_old = omega (arith, line_and Flush [], line_length Flush)
listing_short (Some main) None is_main is_old =
    one_ref _ _ _ _ (line_and (main_line main) (Flush ∷ [])) (line_and Flush []) (at_most _ 61 (main_length main is_main) (omega arith)) (line_length Flush)
listing_short None (Some old) is_main is_old =
    one_ref _ _ _ _ (line_and (old_line old) (Flush ∷ [])) (line_and Flush []) (at_most _ 60 (old_length old is_old) (omega arith)) (line_length Flush)
listing_short (Some main) (Some old) is_main is_old =
    two_refs _ _ _ _ _ _ (line_and (main_line main) (old_line old ∷ Flush ∷ [])) (line_and (old_line old) (Flush ∷ [])) (line_and Flush []) (main_length main is_main) (old_length old is_old) (line_length Flush)

reply_short : (pack : List ℕ) → length (lines_text (pack_lines (map Piece (in_pieces 65000 pack)))) ≤ 6 * length pack + 20
reply_short pack =
    let bands = map band_line (map Piece (in_pieces 65000 pack)) in
    let word = Payload (codes "packfile" ++ 10 ∷ []) in
    omega (arith, line_and word (bands ++ Flush ∷ []), line_length word, lines_more bands (Flush ∷ []), line_and Flush [], line_length Flush, bands_within (length pack) pack)

stream_sum : (len front g l r p : ℕ) → len ≡ front + r → front ≡ g + l → g ≤ 100 → l ≤ 130 → r ≤ 6 * p + 20 → p ≤ 10250100 → len ≤ 61501000
stream_sum len front g l r p is and short listed replied packed = omega arith

stream_short : (n : ℕ) → n ≤ 100000 → length (server_stream n) ≤ 61501000
stream_short n few =
    let listing = listing_lines_of (branches (tip n) (tip ((n + 1) / 2))) in
    let reply = pack_lines (map Piece (in_pieces 65000 (second_half n))) in
    stream_sum _ _ _ _ _ (length (second_half n)) (lines_more (greeting_lines capabilities ++ listing) reply) (lines_more (greeting_lines capabilities) listing) greeting_short
    (listing_short (tip n) (tip ((n + 1) / 2)) (tip_spelt n) (tip_spelt ((n + 1) / 2))) (reply_short (second_half n)) (half_short n few)

-- ---- the scene

abbrev pub tracking_line : ObjectId → Line
tracking_line id = text_line (tracking_text id)

pub tracking_length : (id : ObjectId) → IsSpelt id → length (tracking_text id) ≡ 69
tracking_length id is = omega (arith, length-append (codes "ref ") (hex_of id ++ codes " refs/remotes/origin/main"), length-append (hex_of id) (codes " refs/remotes/origin/main"), hex_length id is)

closed_short : (length (lines_text (sent head_texts)) ≤ 100) × (length (lines_text (sent config_texts)) ≤ 100) × (length (lines_text (sent remote_texts)) ≤ 100)
unfolding line_text four_digits encode_with
closed_short = (omega arith, omega arith, omega arith)

reference_short : (parent : Option ObjectId) → IfSome parent IsSpelt → length (lines_text (sent (option_to_list (option_map tracking_text parent)))) ≤ 100
reference_short None is = omega arith
reference_short (Some id) is =
    omega (arith, line_and (text_line (tracking_text id)) [], line_length (text_line (tracking_text id)), length-append (tracking_text id) (10 ∷ []), tracking_length id is)

local_short : (parent : Option ObjectId) → IfSome parent IsSpelt → length (lines_text (local_lines parent)) ≤ 300
local_short parent is =
    let reference = sent (option_to_list (option_map tracking_text parent)) in
    omega (arith, lines_more (sent head_texts) (reference ++ sent config_texts), lines_more reference (sent config_texts), closed_short.0, closed_short.1, reference_short parent is)

scene_sum : (len l o r s a b c d e f g mark end pack stream : ℕ) → len ≡ l + a → a ≡ mark + b → b ≡ o + c → c ≡ mark + d → d ≡ r + e → e ≡ mark + f → f ≡ s + g → g ≡ end + 0 → mark ≡ 4 → end ≡ 4
    → l ≤ 300 → o ≤ 5 * pack → pack ≤ 10250100 → r ≤ 100 → s ≤ 5 * stream → stream ≤ 61501000 → len ≤ 1073741824
scene_sum len l o r s a b c d e f g mark end pack stream ea eb ec ed ee ef eg eh em en ll lo lp lr ls lt = omega arith

pub text_short_enough : (n : ℕ) → n ≤ 100000 → length (bench_text n) ≤ 2 ^ 30
unfolding bench_text scene_lines generated
text_short_enough n few =
    let local = local_lines (tip (n / 2)) in
    let pack = pack_of (line_of (n / 2)) in
    let stream = server_stream n in
    let objects = piece_lines pack in
    let pieces = map Payload (in_pieces 65000 stream) in
    let talk = pieces ++ Flush ∷ [] in
    let remote = sent remote_texts ++ Delim ∷ talk in
    let behind = objects ++ Delim ∷ remote in
    scene_sum _ _ _ _ _ _ _ _ _ _ _ _ _ _ (length pack) (length stream) (lines_more local (Delim ∷ behind)) (line_and Delim behind) (lines_more objects (Delim ∷ remote)) (line_and Delim remote) (lines_more (sent remote_texts) (Delim ∷ talk))
    (line_and Delim talk) (lines_more pieces (Flush ∷ [])) (line_and Flush []) (line_length Delim) (line_length Flush) (local_short (tip (n / 2)) (tip_spelt (n / 2))) (payloads_within (length pack) pack) (line_short (n / 2) (omega (arith, few)))
    closed_short.2 (payloads_within (length stream) stream) (stream_short n few)

-- ---- each line fits

not_too_long : (payload : List ℕ) → length payload ≤ 65516 → too_long_in (Payload payload) ≡ None
not_too_long payload le = ap (λ b. cond b (Some (length payload)) None) (let no : nat_lt 65516 (length payload) ≡ false = grind (arith, nat_tests) in no)

payload_written : (payload : List ℕ) → length payload ≤ 65516 → IsWritten (Payload payload)
payload_written payload le = ((λ e. cc), not_too_long payload le)

marks_written : IsWritten Delim × IsWritten Flush
marks_written = (((λ e. cc), refl), ((λ e. cc), refl))

both_written : (xs ys : List Line) → AllByRecursion IsWritten xs → AllByRecursion IsWritten ys → AllByRecursion IsWritten (xs ++ ys)
both_written [] ys first second = second
both_written (x ∷ xs) ys first second = (first.0, both_written xs ys first.1 second)

pieces_written : (n : ℕ) (bytes : List ℕ) → AllByRecursion IsWritten (map Payload (pieces_within n 65000 bytes))
unfolding pieces_within
pieces_written zero bytes = tt
pieces_written (suc n) [] = tt
pieces_written (suc n) (b ∷ bytes) =
    let all = b ∷ bytes in
    (payload_written (take 65000 all) (omega (arith, cut_lengths all, length-drop 65000 all)), pieces_written n (drop 65000 all))

text_written : (text : List ℕ) → length text ≤ 65000 → IsWritten (text_line text)
text_written text few = payload_written (text ++ 10 ∷ []) (omega (arith, length-append text (10 ∷ []), few))

head_written : AllByRecursion IsWritten (sent head_texts)
head_written =
    (text_written (codes "scene 1") (omega arith), (text_written (codes "hash sha1") (omega arith), (text_written (codes "git-dir /b/.git") (omega arith), (text_written (codes "workdir /b") (omega arith), tt))))

config_written : AllByRecursion IsWritten (sent config_texts)
config_written = (text_written (codes "config [fetch]") (omega arith), (text_written (codes "config negotiationAlgorithm = noop") (omega arith), tt))

reference_written : (parent : Option ObjectId) → IfSome parent IsSpelt → AllByRecursion IsWritten (sent (option_to_list (option_map tracking_text parent)))
reference_written None is = tt
reference_written (Some id) is = (text_written (tracking_text id) (omega (arith, tracking_length id is)), tt)

local_written : (parent : Option ObjectId) → IfSome parent IsSpelt → AllByRecursion IsWritten (local_lines parent)
local_written parent is =
    let reference = sent (option_to_list (option_map tracking_text parent)) in
    both_written (sent head_texts) (reference ++ sent config_texts) head_written (both_written reference (sent config_texts) (reference_written parent is) config_written)

remote_written : AllByRecursion IsWritten (sent remote_texts)
remote_written =
    (text_written (codes "remote /b/s.git") (omega arith), (text_written (codes "fetch +refs/heads/*:refs/remotes/origin/*") (omega arith), (text_written (codes "tags none") (omega arith), tt)))

pub lines_written : (n : ℕ) → AllByRecursion IsWritten (scene_lines (generated n))
unfolding scene_lines generated
lines_written n =
    let pack = pack_of (line_of (n / 2)) in
    let stream = server_stream n in
    let pieces = map Payload (in_pieces 65000 stream) in
    let talk = pieces ++ Flush ∷ [] in
    let remote = sent remote_texts ++ Delim ∷ talk in
    let behind = piece_lines pack ++ Delim ∷ remote in
    let talk_all : AllByRecursion IsWritten talk = both_written pieces (Flush ∷ []) (pieces_written (length stream) stream) (marks_written.1, tt) in
    let remote_all : AllByRecursion IsWritten remote = both_written (sent remote_texts) (Delim ∷ talk) remote_written (marks_written.0, talk_all) in
    let behind_all : AllByRecursion IsWritten behind = both_written (piece_lines pack) (Delim ∷ remote) (pieces_written (length pack) pack) (marks_written.0, remote_all) in
    both_written (local_lines (tip (n / 2))) (Delim ∷ behind) (local_written (tip (n / 2)) (tip_spelt (n / 2))) (marks_written.0, behind_all)
