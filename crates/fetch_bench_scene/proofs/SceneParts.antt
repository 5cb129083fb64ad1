-- The parts of a bench's scene are read from its lines.
use Rattle.std.proofs.Common.{◌≡◌, ◌≢◌, ℕ, suc, ◌+◌, ◌==◌, Bool, true, false, not, ◌&&◌, List, [], ◌∷◌, ◌++◌, length, take, drop, map, codes, Option, Some, None, Result, Ok, refl, ap, ◌∙◌, arith, eq-eqb}
use Rattle.std.specs.Prelude.{IfSome, option_to_list}
use Rattle.std.specs.FinSet as set
use Rattle.std.specs.List.{concat, flat_map, list_all}
use Rattle.std.specs.Option.{ok_or, option_map}
use Rattle.std.specs.Result.{result_ok}
use Rattle.hex.specs.Hex.{lower_digits}
use Rattle.fetch_store.specs.Borders.{set_of}
use Rattle.fetch_base.specs.Digits.{hex_of}
use Rattle.fetch_base.specs.Id.{bytes_of}
use Rattle.fetch_base.specs.Lines.{IsWithout}
use Rattle.fetch_base.specs.Scan.{split_first}
use Rattle.fetch_store.specs.Stores.{Entries}
use Rattle.fetch_base.specs.declared.id.Kind.TheVariants.{Sha1}
use Rattle.fetch_base.specs.declared.id.ObjectId.{ObjectId}
use Rattle.fetch_base.proofs.LineLaws.{splits}
use Rattle.fetch_specs.specs.Categories.{refs}
use Rattle.fetch_specs.specs.Names.{is_full_name, is_name, lock}
use Rattle.fetch_specs.specs.Specs.{Spec}
use Rattle.fetch_specs.specs.declared.tags.Tags.TheVariants as tags
use Rattle.fetch_refs.specs.declared.target.Target.TheVariants.{Object}
use Rattle.fetch_pack.specs.Reading.{read}
use Rattle.fetch_lines.specs.declared.lines.line.Line.{Line}
use Rattle.fetch_lines.specs.declared.lines.line.Line.TheVariants.{Payload, Flush, Delim}
use Rattle.fetch_lines.specs.Lines.{line_len}
use Rattle.fetch_lines.specs.Requests.{sent, text_line}
use Rattle.fetch_lines.specs.Texts.{without_lf}
use Rattle.fetch_replies.proofs.IdTexts.{hex_all}
use Rattle.fetch_replies.proofs.Moving.{lf_last}
use Rattle.fetch_scene.specs.Gives.{◌>>=◌}
use Rattle.fetch_scene.specs.LineKinds.{full_name_in, object_in, target_in, reference_in, reference_of, border_of, worktree_of, tags_named, tags_of, refspec_in, refspec_of}
use Rattle.fetch_scene.specs.Scene.{local_of, bytes_in, objects_in, pack_objects_of, objects_of, remote_of, payloads_of, end_of, pieces_of, talk_of, scene_with, scene_in}
use Rattle.fetch_config.specs.Lines.{line_of, broken_line}
use Rattle.fetch_config.specs.Values.{unquoted, before_comment}
use Rattle.fetch_config.specs.Values as values
use Rattle.fetch_scene.specs.SceneConfig.{config_line, file_unless, file_in, config_of}
use Rattle.fetch_scene.specs.SceneHead.{kind_named, hash_of, head_of}
use Rattle.fetch_scene.specs.SceneLines.{Placed, Lines, text_of, payload_of, value_of, says, delimits, flushes, next, group_len, group_of, behind_group, each_of, each_with, place_of}
use Rattle.fetch_scene.specs.SceneOptions.{no_options}
use Rattle.fetch_scene.specs.SceneRefs.{new_reference, references_behind, references_of}
use Rattle.fetch_scene.specs.declared.head.Head.{Head}
use Rattle.fetch_scene.specs.declared.local.Local.{Local}
use Rattle.fetch_scene.specs.declared.references.Reference.{Reference}
use Rattle.fetch_scene.specs.declared.remote_part.RemotePart.{RemotePart}
use Rattle.fetch_bench_scene.specs.Bench.{configuration, config, tracking, refspec}
use Rattle.fetch_bench_scene.specs.BenchText.{tracking_text, remote_texts, local_lines}
use Rattle.fetch_bench_scene.proofs.BenchObjects.{IsSpelt, hex_length}
use Rattle.fetch_bench_scene.proofs.PlacedLines.{placed}

abbrev ended : ℕ → List Placed → Lines
ended last lines = record { lines = lines; last = last }

-- the place after some lines
abbrev pub after : ℕ → List Line → ℕ
after place [] = place
after place (line ∷ lines) = after (place + line_len line) lines

-- ---- the reference

without : (c : ℕ) (id : ObjectId) → list_all (λ b. not (b == c)) lower_digits ≡ true → IsSpelt id → IsWithout c (hex_of id)
without c id none is = hex_all (λ b. not (b == c)) (bytes_of id) none is.bytes

passed : (b c : Bool) → (not b && c) ≡ true → b ≡ false
passed true c is = cc
passed false c is = refl

no_name : (text : List ℕ) → IsWithout 64 text → length text ≢ 0 → target_in Sha1 text ≡ object_in Sha1 text
unfolding target_in
no_name [] none some = absurd (some refl)
no_name (c ∷ text) none some = rw (passed (c == 64) (list_all (λ b. not (b == 64)) text) none) refl

name_is : full_name_in (codes "refs/remotes/origin/main") ≡ Some (codes "refs/remotes/origin/main")
unfolding is_full_name is_name refs lock
name_is = refl

tracking_read : (id : ObjectId) → IsSpelt id → length (hex_of id) ≢ 0 → reference_in Sha1 (hex_of id ++ codes " refs/remotes/origin/main") ≡ Some (tracking id)
unfolding reference_in
tracking_read id is some =
    let parts : split_first 32 (hex_of id ++ codes " refs/remotes/origin/main") ≡ Some (hex_of id, codes "refs/remotes/origin/main") =
    (splits 32 (hex_of id ++ codes " refs/remotes/origin/main")).only (hex_of id) (codes "refs/remotes/origin/main") refl (without 32 id refl is) in
    let target : target_in Sha1 (hex_of id) ≡ Some (Object id) = no_name (hex_of id) (without 64 id refl is) some ∙ ap (option_map Object) is.read in
    rw (parts, target, name_is) refl

-- ---- the repository

unbroken : broken_line configuration ≡ None
unfolding broken_line line_of values.value_of before_comment unquoted
unbroken = refl

config_read : file_in configuration ≡ Ok config
unfolding file_in config
config_read = ap (λ (o : Option ℕ). file_unless o configuration) unbroken

abbrev pub local_with : Option ObjectId → Local
local_with tip = record {
  head = record { hash = Sha1; git_dir = codes "/b/.git"; workdir = Some (codes "/b"); lenient = false };
  refs = option_to_list (option_map tracking tip);
  border = set.empty;
  config = config;
  worktrees = [];
}

abbrev around : List Line → List Line → List Line
around before more =
    text_line (codes "scene 1") ∷ text_line (codes "hash sha1") ∷ text_line (codes "git-dir /b/.git") ∷ text_line (codes "workdir /b")
    ∷ (before ++ text_line (codes "config [fetch]") ∷ text_line (codes "config negotiationAlgorithm = noop") ∷ Delim ∷ more)

none_read : (place last : ℕ) (more : List Line) → local_of (ended last (placed place (around [] more))) ≡ Ok (local_with None, ended last (placed (after place (around [] [])) more))
unfolding local_of head_of says text_of without_lf value_of hash_of kind_named delimits references_of references_behind config_of config_line each_of
none_read place last more = rw config_read refl

-- ---- and where there is a reference

abbrev head : Head
head = record { hash = Sha1; git_dir = codes "/b/.git"; workdir = Some (codes "/b"); lenient = false }

said : says (codes "scene 1") (text_line (codes "scene 1")) ≡ Some tt
unfolding says text_of without_lf
said = refl

not_lenient : (line : Line) (value : List ℕ) → text_of line ≡ Some (codes "ref " ++ value) → says (codes "lenient") line ≡ None
unfolding says
not_lenient line value is = rw is refl

ref_value : (line : Line) (value : List ℕ) → text_of line ≡ Some (codes "ref " ++ value) → value_of (codes "ref ") line ≡ Some value
unfolding value_of
ref_value line value is = rw is refl

no_ref : value_of (codes "ref ") (text_line (codes "config [fetch]")) ≡ None
unfolding value_of text_of without_lf
no_ref = refl

head_read : (place last : ℕ) (line : Line) (more : List Line) → says (codes "lenient") line ≡ None
    → head_of (ended last (placed place (text_line (codes "scene 1") ∷ text_line (codes "hash sha1") ∷ text_line (codes "git-dir /b/.git") ∷ text_line (codes "workdir /b") ∷ line ∷ more)))
    ≡ Ok (head, ended last (placed (after place (text_line (codes "scene 1") ∷ text_line (codes "hash sha1") ∷ text_line (codes "git-dir /b/.git") ∷ text_line (codes "workdir /b") ∷ [])) (line ∷ more)))
unfolding head_of value_of text_of without_lf hash_of kind_named
head_read place last line more other = rw (said, other) refl

abbrev references_with : ℕ → List Placed → ℕ → Result (List Reference × Lines) ℕ
references_with n lines last = references_behind Sha1 [] (take n lines) >>= λ references. Ok (references, ended last (drop n lines))

one_group : {A : Type 0} (f : Line → Option A) (p q : Placed) (rest : List Placed) (x : A) → f p.line ≡ Some x → f q.line ≡ None → group_len f (p ∷ q ∷ rest) ≡ 1
one_group f p q rest x is other = rw (is, other) refl

one_reference : (p : Placed) (rest : List Placed) (last : ℕ) (r : Reference) → new_reference Sha1 [] p.line ≡ Some r → references_with 1 (p ∷ rest) last ≡ Ok (r ∷ [], ended last rest)
unfolding references_behind
one_reference p rest last r is = rw is refl

is_new : (line : Line) (value : List ℕ) (r : Reference) → value_of (codes "ref ") line ≡ Some value → reference_in Sha1 value ≡ Some r → new_reference Sha1 [] line ≡ Some r
unfolding new_reference reference_of
is_new line value r there is = rw (there, is) refl

references_read : (p q : Placed) (rest : List Placed) (last : ℕ) (value : List ℕ) (r : Reference) → value_of (codes "ref ") p.line ≡ Some value → value_of (codes "ref ") q.line ≡ None → reference_in Sha1 value ≡ Some r
    → references_of Sha1 (ended last (p ∷ q ∷ rest)) ≡ Ok (r ∷ [], ended last (q ∷ rest))
unfolding references_of
references_read p q rest last value r there other is =
    ap (λ (n : ℕ). references_with n (p ∷ q ∷ rest) last) (one_group (value_of (codes "ref ")) p q rest value there other) ∙ one_reference p (q ∷ rest) last r (is_new p.line value r there is)

abbrev local_behind : Head → List Reference → Lines → Result (Local × Lines) ℕ
local_behind before found ls =
    each_with (codes "border ") (border_of before.hash) ls >>= λ border. config_of border.1 >>= λ settings. each_with (codes "worktree ") worktree_of settings.1 >>= λ worktrees. next delimits worktrees.1
    >>= λ divided. Ok (record { head = before; refs = found; border = set_of border.0; config = settings.0; worktrees = worktrees.0 }, divided.1)

rest_read : (place last : ℕ) (found : List Reference) (more : List Line)
    → local_behind head found (ended last (placed place (text_line (codes "config [fetch]") ∷ text_line (codes "config negotiationAlgorithm = noop") ∷ Delim ∷ more)))
    ≡ Ok (record { head = head; refs = found; border = set.empty; config = config; worktrees = [] }, ended last (placed (after place (text_line (codes "config [fetch]") ∷ text_line (codes "config negotiationAlgorithm = noop") ∷ Delim ∷ [])) more))
unfolding value_of text_of without_lf config_of config_line each_of delimits
rest_read place last found more = rw config_read refl

some_read : (place last : ℕ) (line : Line) (id : ObjectId) (value : List ℕ) (more : List Line) → text_of line ≡ Some (codes "ref " ++ value) → reference_in Sha1 value ≡ Some (tracking id)
    → local_of (ended last (placed place (around (line ∷ []) more))) ≡ Ok (local_with (Some id), ended last (placed (after place (around (line ∷ []) [])) more))
unfolding local_of
some_read place last line id value more text is =
    let behind_head = after place (text_line (codes "scene 1") ∷ text_line (codes "hash sha1") ∷ text_line (codes "git-dir /b/.git") ∷ text_line (codes "workdir /b") ∷ []) in
    let next_place = behind_head + line_len line in
    let settings = text_line (codes "config [fetch]") ∷ text_line (codes "config negotiationAlgorithm = noop") ∷ Delim ∷ more in
    ap (λ (r : Result (Head × Lines) ℕ). r >>= λ before. references_of before.0.hash before.1 >>= λ found. local_behind before.0 found.0 found.1) (head_read place last line settings (not_lenient line value text))
    ∙ ap (λ (r : Result (List Reference × Lines) ℕ). r >>= λ found. local_behind head found.0 found.1)
    (references_read (record { place = behind_head; line = line }) (record { place = next_place; line = text_line (codes "config [fetch]") }) (placed (next_place + line_len (text_line (codes "config [fetch]"))) (text_line (codes "config negotiationAlgorithm = noop") ∷ Delim ∷ more)) last value (tracking id)
    (ref_value line value text) no_ref is)
    ∙ rest_read next_place last (tracking id ∷ []) more

tracked : (id : ObjectId) → text_of (text_line (tracking_text id)) ≡ Some (tracking_text id)
unfolding text_of
tracked id = ap Some (lf_last (tracking_text id))

local_read : (tip : Option ObjectId) (place last : ℕ) (more : List Line) → IfSome tip IsSpelt
    → (at : ℕ) × (local_of (ended last (placed place (local_lines tip ++ Delim ∷ more))) ≡ Ok (local_with tip, ended last (placed at more)))
local_read None place last more is = (after place (around [] []), none_read place last more)
local_read (Some id) place last more is =
    let line = text_line (tracking_text id) in
    let some : length (hex_of id) ≢ 0 = λ none. omega (arith, none, hex_length id is) in
    (after place (around (line ∷ []) []), some_read place last line id (hex_of id ++ codes " refs/remotes/origin/main") more (tracked id) (tracking_read id is some))

-- ---- payloads

group_count : (ps : List (List ℕ)) (place : ℕ) (line : Line) (more : List Line) → payload_of line ≡ None → group_len payload_of (placed place (map Payload ps ++ line ∷ more)) ≡ length ps
unfolding payload_of
group_count [] place line more other = rw other refl
group_count (p ∷ ps) place line more other =
    let one : 1 + length ps ≡ suc (length ps) = omega arith in
    ap (λ (n : ℕ). 1 + n) (group_count ps (place + (length p + 4)) line more other) ∙ one

front : (ps : List (List ℕ)) (place : ℕ) (more : List Line) → take (length ps) (placed place (map Payload ps ++ more)) ≡ placed place (map Payload ps)
front [] place more = refl
front (p ∷ ps) place more = ap (λ (l : List Placed). record { place = place; line = Payload p } ∷ l) (front ps (place + (length p + 4)) more)

behind : (ps : List (List ℕ)) (place : ℕ) (more : List Line) → drop (length ps) (placed place (map Payload ps ++ more)) ≡ placed (after place (map Payload ps)) more
behind [] place more = refl
behind (p ∷ ps) place more = behind ps (place + (length p + 4)) more

group_is : (ps : List (List ℕ)) (place last : ℕ) (line : Line) (more : List Line) → payload_of line ≡ None
    → group_of payload_of (ended last (placed place (map Payload ps ++ line ∷ more))) ≡ placed place (map Payload ps)
group_is ps place last line more other =
    ap (λ (n : ℕ). take n (placed place (map Payload ps ++ line ∷ more))) (group_count ps place line more other) ∙ front ps place (line ∷ more)

behind_is : (ps : List (List ℕ)) (place last : ℕ) (line : Line) (more : List Line) → payload_of line ≡ None
    → behind_group payload_of (ended last (placed place (map Payload ps ++ line ∷ more))) ≡ ended last (placed (after place (map Payload ps)) (line ∷ more))
behind_is ps place last line more other =
    ap (λ (n : ℕ). ended last (drop n (placed place (map Payload ps ++ line ∷ more)))) (group_count ps place line more other) ∙ ap (ended last) (behind ps place (line ∷ more))

each_payload : (ps : List (List ℕ)) (place : ℕ) → each_of payload_of (placed place (map Payload ps)) ≡ Ok ps
unfolding each_of payload_of
each_payload [] place = refl
each_payload (p ∷ ps) place = ap (λ (r : Result (List (List ℕ)) ℕ). r >>= λ xs. Ok (p ∷ xs)) (each_payload ps (place + (length p + 4)))

joined : (ps : List (List ℕ)) (place : ℕ) → flat_map bytes_in (placed place (map Payload ps)) ≡ concat ps
unfolding payload_of
joined [] place = refl
joined (p ∷ ps) place = ap (λ (t : List ℕ). p ++ t) (joined ps (place + (length p + 4)))

others : (payload_of Delim ≡ None) × (payload_of Flush ≡ None)
unfolding payload_of
others = (refl, refl)

-- ---- the objects

-- the objects that a pack has
abbrev pub packed : List ℕ → Option Entries
packed bytes = option_map (λ pack. pack.objects) (result_ok (read Sha1 bytes))

objects_are : (ps : List (List ℕ)) (place : ℕ) → objects_in Sha1 (placed place (map Payload ps)) ≡ packed (concat ps)
unfolding objects_in
objects_are ps place = ap packed (joined ps place)

abbrev objects_before : Option Entries → ℕ → Lines → Result (Entries × Lines) ℕ
objects_before found place rest = ok_or found place >>= λ objects. Ok (objects, rest)

abbrev divided_behind : Result (Entries × Lines) ℕ → Result (Entries × Lines) ℕ
divided_behind found = found >>= λ objects. next delimits objects.1 >>= λ divided. Ok (objects.0, divided.1)

abbrev objects_then : Option Entries → ℕ → Lines → Result (Entries × Lines) ℕ
objects_then found place rest = divided_behind (objects_before found place rest)

objects_divided : (place last at : ℕ) (es : Entries) (more : List Line) → objects_then (Some es) place (ended last (placed at (Delim ∷ more))) ≡ Ok (es, ended last (placed (at + 4) more))
unfolding delimits
objects_divided place last at es more = refl

objects_read : (ps : List (List ℕ)) (place last : ℕ) (es : Entries) (more : List Line) → packed (concat ps) ≡ Some es
    → objects_of Sha1 (ended last (placed place (map Payload ps ++ Delim ∷ more))) ≡ Ok (es, ended last (placed (after place (map Payload ps) + 4) more))
unfolding objects_of pack_objects_of
objects_read ps place last es more is =
    let ls = ended last (placed place (map Payload ps ++ Delim ∷ more)) in
    ap (λ (g : List Placed). objects_then (objects_in Sha1 g) (place_of ls) (behind_group payload_of ls)) (group_is ps place last Delim more others.0)
    ∙ ap (λ (o : Option Entries). objects_then o (place_of ls) (behind_group payload_of ls)) (objects_are ps place ∙ is)
    ∙ ap (objects_then (Some es) (place_of ls)) (behind_is ps place last Delim more others.0)
    ∙ objects_divided (place_of ls) last (after place (map Payload ps)) es more

-- ---- the remote

abbrev pub remote_with : Spec → RemotePart
remote_with spec = record { address = codes "/b/s.git"; specs = spec ∷ []; tags = tags.None; extra = []; options = no_options }

remote_read : (place last : ℕ) (spec : Spec) (more : List Line) → refspec_in refspec ≡ Some spec
    → remote_of (ended last (placed place (sent remote_texts ++ Delim ∷ more))) ≡ Ok (remote_with spec, ended last (placed (after place (sent remote_texts ++ Delim ∷ [])) more))
unfolding remote_of value_of text_of without_lf refspec_of tags_of tags_named delimits each_of
remote_read place last spec more is = rw is refl

-- ---- what the server says

same : (n : ℕ) → (n == n) ≡ true
same n = eq-eqb n n refl

end_read : (place last : ℕ) → end_of last (ended last (placed place (Flush ∷ []))) ≡ Ok tt
unfolding end_of flushes
end_read place last = rw (same last) refl

abbrev pieces_before : Result (List (List ℕ)) ℕ → Lines → Result (List (List ℕ) × Lines) ℕ
pieces_before found rest = found >>= λ payloads. Ok (payloads, rest)

abbrev ended_behind : ℕ → Result (List (List ℕ) × Lines) ℕ → Result (List (List ℕ)) ℕ
ended_behind len found = found >>= λ pieces. end_of len pieces.1 >>= λ at_end. Ok pieces.0

abbrev pieces_then : ℕ → Result (List (List ℕ)) ℕ → Lines → Result (List (List ℕ)) ℕ
pieces_then len found rest = ended_behind len (pieces_before found rest)

pieces_read : (ps : List (List ℕ)) (place last : ℕ) → pieces_of last (ended last (placed place (map Payload ps ++ Flush ∷ []))) ≡ Ok ps
unfolding pieces_of payloads_of
pieces_read ps place last =
    let ls = ended last (placed place (map Payload ps ++ Flush ∷ [])) in
    ap (λ (g : List Placed). pieces_then last (each_of payload_of g) (behind_group payload_of ls)) (group_is ps place last Flush [] others.1)
    ∙ ap (λ (r : Result (List (List ℕ)) ℕ). pieces_then last r (behind_group payload_of ls)) (each_payload ps place)
    ∙ ap (pieces_then last (Ok ps)) (behind_is ps place last Flush [] others.1)
    ∙ ap (λ (r : Result (Unit {0}) ℕ). r >>= λ at_end. Ok ps) (end_read (after place (map Payload ps)) last)

talk_read : (ps : List (List ℕ)) (place last : ℕ) (spec : Spec) → refspec_in refspec ≡ Some spec
    → talk_of last (ended last (placed place (sent remote_texts ++ Delim ∷ (map Payload ps ++ Flush ∷ [])))) ≡ Ok (remote_with spec, ps)
unfolding talk_of
talk_read ps place last spec is =
    ap (λ (r : Result (RemotePart × Lines) ℕ). r >>= λ remote. pieces_of last remote.1 >>= λ pieces. Ok (remote.0, pieces)) (remote_read place last spec (map Payload ps ++ Flush ∷ []) is)
    ∙ ap (λ (r : Result (List (List ℕ)) ℕ). r >>= λ pieces. Ok (remote_with spec, pieces)) (pieces_read ps (after place (sent remote_texts ++ Delim ∷ [])) last)

-- ---- the whole

-- the lines of a scene whose repository has this branch and whose pack and server's bytes have these pieces
abbrev pub lines_with : Option ObjectId → List (List ℕ) → List (List ℕ) → List Line
lines_with tip packs pieces = local_lines tip ++ Delim ∷ (map Payload packs ++ Delim ∷ (sent remote_texts ++ Delim ∷ (map Payload pieces ++ Flush ∷ [])))

pub scene_read : (tip : Option ObjectId) (packs pieces : List (List ℕ)) (es : Entries) (spec : Spec) (last : ℕ) → IfSome tip IsSpelt → packed (concat packs) ≡ Some es → refspec_in refspec ≡ Some spec
    → scene_in last (ended last (placed 0 (lines_with tip packs pieces))) ≡ Ok (scene_with (local_with tip) es (remote_with spec) pieces)
scene_read tip packs pieces es spec last spelt is_packed is_spec =
    let remote = sent remote_texts ++ Delim ∷ (map Payload pieces ++ Flush ∷ []) in
    let local = local_read tip 0 last (map Payload packs ++ Delim ∷ remote) spelt in
    ap (λ (r : Result (Local × Lines) ℕ). r >>= λ found. objects_of found.0.head.hash found.1 >>= λ objects. talk_of last objects.1 >>= λ talk. Ok (scene_with found.0 objects.0 talk.0 talk.1)) local.1
    ∙ ap (λ (r : Result (Entries × Lines) ℕ). r >>= λ objects. talk_of last objects.1 >>= λ talk. Ok (scene_with (local_with tip) objects.0 talk.0 talk.1)) (objects_read packs local.0 last es remote is_packed)
    ∙ ap (λ (r : Result (RemotePart × List (List ℕ)) ℕ). r >>= λ talk. Ok (scene_with (local_with tip) es talk.0 talk.1)) (talk_read pieces (after local.0 (map Payload packs) + 4) last spec is_spec)
