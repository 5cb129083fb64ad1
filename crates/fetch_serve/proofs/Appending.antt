-- What a server writes for a fetch request.
use Rattle.std.proofs.Common.{◌≡◌, ℕ, ◌≤◌, ◌<◌, ◌^◌, Bool, true, false, ◌||◌, cond, List, [], ◌∷◌, ◌++◌, length, take, drop, min, get_or, Option, Some, None, Result, Ok, Err, sym, ap, ◌∙◌, subst, arith, append_assoc, length-append, Contains}
use Rattle.std.specs.Prelude.{OnOk, codes, nat_le}
use Rattle.std.specs.List.{list_any}
use Rattle.std.specs.FinMap as finmap
use Rattle.std.proofs.lemmas.List.{append-nil}
use Rattle.std.proofs.lemmas.List.Elements.{All-from_recursion, Contains-get_or}
use Rattle.hex.specs.Hex.{encode_lower}
use Rattle.fetch_pack.specs.declared.version.PackVersion.{PackVersion}
use Rattle.fetch_pack.specs.declared.version.PackVersion.TheVariants.{V1}
use Rattle.fetch_reach.specs.Stored.{CanHold, objects_at}
use Rattle.fetch_base.specs.Digits.{hex_of}
use Rattle.fetch_base.specs.Id.{byte_len, bytes_of, kind_of}
use Rattle.fetch_objects.specs.Objects.{Stored}
use Rattle.fetch_base.specs.declared.id.ObjectId.{ObjectId}
use Rattle.fetch_lines.specs.Bands.{Piece, band_line}
use Rattle.fetch_lines.specs.Bands as bands
use Rattle.fetch_lines.specs.ServerLines.{bands_of, change_lines, last_lines, round_lines}
use Rattle.fetch_lines.specs.Written.{first_too_long, line_text, lines_text, too_long_in}
use Rattle.fetch_lines.specs.declared.lines.line.Line.{Line}
use Rattle.fetch_lines.specs.declared.lines.line.Line.TheVariants.{Payload, Flush, Delim}
use Rattle.fetch_lines.specs.RequestLines.{id_lines}
use Rattle.fetch_lines.specs.Requests.{sent, text_line}
use Rattle.fetch_asked.specs.declared.asked.DepthAsked.{DepthAsked}
use Rattle.fetch_asked.specs.declared.asked.FetchAsked.{FetchAsked}
use Rattle.fetch_serve.specs.declared.depth.Depth.{Depth}
use Rattle.fetch_serve.specs.Depths.{depth_of}
use Rattle.fetch_serve.specs.Packs.{known_haves, served_of, stored_in}
use Rattle.fetch_serve.specs.Replies.{change_in, error_lines, fetch_lines, fetched_lines, first_unoffered, is_too_large, is_too_long, not_offered, objects_of, pack_lines, pack_with, too_large}
use Rattle.fetch_serve.specs.Servable.{IsServable}
use Rattle.fetch_serve.specs.Served.{Data}
use Rattle.fetch_serve.proofs.Answered.{each_short, either, few_of}
use Rattle.fetch_serve.proofs.Ids.{short_digits, short_id, stored_is}
use Rattle.fetch_serve.proofs.Lines.{band_more, band_none, bands_text, lines_more, one_line, pack_text_is, payload_fits, round_fits, sent_more}
use Rattle.fetch_serve.proofs.Reached.{filtered}

-- ---- bands

pub bands_on : (out now rest piece behind : List ℕ) (all : List ℕ) → 0 < length rest → piece ≡ take (min (length rest) 65515) rest → behind ≡ drop (min (length rest) 65515) rest → out ++ bands_text rest ≡ all
    → now ≡ out ++ line_text (band_line (Piece piece)) → now ++ bands_text behind ≡ all
bands_on out now rest piece behind all some front back is more =
    ap (λ (l : List ℕ). l ++ bands_text behind) more ∙ append_assoc out (line_text (band_line (Piece piece))) (bands_text behind) ∙ ap (λ (l : List ℕ). out ++ l) (sym (band_more rest piece behind some front back)) ∙ is

pub bands_over : (out rest all : List ℕ) → length rest ≤ 0 → out ++ bands_text rest ≡ all → out ≡ all
bands_over out rest all none is = sym (append-nil out) ∙ ap (λ (l : List ℕ). out ++ l) (sym (band_none rest (omega arith))) ∙ is

-- ---- the reply with a pack

pub bytes_are : (out first second third pack : List ℕ) → first ≡ out ++ line_text (Payload (codes "packfile" ++ 10 ∷ [])) → second ≡ first ++ bands_text pack → third ≡ second ++ line_text Flush → third ≡ out ++ lines_text (bands.pack_lines (bands_of pack))
bytes_are out first second third pack a b c =
    c ∙ ap (λ (l : List ℕ). l ++ line_text Flush) b ∙ append_assoc first (bands_text pack) (line_text Flush) ∙ ap (λ (l : List ℕ). l ++ (bands_text pack ++ line_text Flush)) a
    ∙ append_assoc out (line_text (Payload (codes "packfile" ++ 10 ∷ []))) (bands_text pack ++ line_text Flush) ∙ ap (λ (l : List ℕ). out ++ l) (sym (pack_text_is pack))

pub pack_is : (d : Data) (r : FetchAsked) (os : List Stored) (out first second pack : List ℕ) → is_too_large r.version os ≡ false → pack ≡ pack_with d r os → first ≡ out ++ lines_text (change_lines (change_in d r r.depth))
    → second ≡ first ++ lines_text (bands.pack_lines (bands_of pack)) → second ≡ out ++ lines_text (pack_lines d r os)
pack_is d r os out first second pack fits is a b =
    b ∙ ap (λ (l : List ℕ). first ++ lines_text (bands.pack_lines (bands_of l))) is ∙ ap (λ (l : List ℕ). l ++ lines_text (bands.pack_lines (bands_of (pack_with d r os)))) a
    ∙ append_assoc out (lines_text (change_lines (change_in d r r.depth))) (lines_text (bands.pack_lines (bands_of (pack_with d r os))))
    ∙ ap (λ (l : List ℕ). out ++ l) (sym (lines_more (change_lines (change_in d r r.depth)) (bands.pack_lines (bands_of (pack_with d r os)))))
    ∙ ap (λ (b : Bool). out ++ lines_text (cond b (error_lines too_large) (last_lines (change_in d r r.depth) (bands_of (pack_with d r os))))) (sym fits)

pub large_is : (d : Data) (r : FetchAsked) (os : List Stored) (out now : List ℕ) → is_too_large r.version os ≡ true → now ≡ out ++ lines_text (error_lines too_large) → now ≡ out ++ lines_text (pack_lines d r os)
large_is d r os out now large is =
    is ∙ ap (λ (b : Bool). out ++ lines_text (cond b (error_lines too_large) (last_lines (change_in d r r.depth) (bands_of (pack_with d r os))))) (sym large)

pub can_hold : (v : PackVersion) (os : List Stored) → is_too_large v os ≡ false → CanHold v os
can_hold v os fits = record {
  count = few_of v os fits;
  short = λ same. All-from_recursion (λ (o : Stored). length o.bytes < 2 ^ 32) os (each_short V1 os (subst (λ w. list_any (is_too_long w) os ≡ false) same (either (nat_le (2 ^ 32) (length os)) (list_any (is_too_long v) os) fits).1));
}

-- ---- a round

known_is : (d : Data) (haves : List ObjectId) (id : ObjectId) → IsServable d → Contains (stored_in d.objects haves) id → length (encode_lower (bytes_of id)) ≤ 64
known_is d haves id s h = short_id d.hash id (stored_is d id s (filtered (finmap.contains_key d.objects) id haves h).1)

pub known_fit : (d : Data) (haves : List ObjectId) → IsServable d → first_too_long (round_lines (stored_in d.objects haves)) ≡ None
known_fit d haves s = round_fits (stored_in d.objects haves) (λ k e lt. known_is d haves (get_or (stored_in d.objects haves) k e) s (Contains-get_or (stored_in d.objects haves) k e lt))

-- ---- what holds where a call went well

pub on_ok : {X E : Type 0} (r : Result X E) (P Q : Type 0) → (P → Q) → OnOk r P → OnOk r Q
on_ok (Ok x) P Q f h = f h
on_ok (Err e) P Q f h = tt

-- one line
pub line_is : (line : Line) (out now : List ℕ) → now ≡ out ++ line_text line → now ≡ out ++ lines_text (line ∷ [])
line_is line out now is = is ∙ ap (λ (l : List ℕ). out ++ l) (sym (one_line line))

-- an id that isn't offered
pub refusal_text : (id : ObjectId) (text : List ℕ) → text ≡ (codes "ERR want " ++ hex_of id) ++ (codes " not offered" ++ 10 ∷ []) → Payload text ≡ text_line (codes "ERR " ++ not_offered id)
refusal_text id text is = ap (λ (t : List ℕ). Payload t) (is ∙ ap (λ (t : List ℕ). codes "ERR want " ++ t) (sym (append_assoc (hex_of id) (codes " not offered") (10 ∷ []))))

pub refusal_is : (id : ObjectId) (text out now : List ℕ) → text ≡ (codes "ERR want " ++ hex_of id) ++ (codes " not offered" ++ 10 ∷ []) → now ≡ out ++ line_text (Payload text) → now ≡ out ++ lines_text (error_lines (not_offered id))
refusal_is id text out now is more = more ∙ ap (λ (l : Line). out ++ line_text l) (refusal_text id text is) ∙ ap (λ (l : List ℕ). out ++ l) (sym (one_line (text_line (codes "ERR " ++ not_offered id))))

pub refusal_short : (id : ObjectId) (text : List ℕ) → text ≡ (codes "ERR want " ++ hex_of id) ++ (codes " not offered" ++ 10 ∷ []) → length (bytes_of id) ≡ byte_len (kind_of id) → too_long_in (Payload text) ≡ None
refusal_short id text is len =
    let short = short_digits id len in
    let whole = ap (length {A = ℕ}) is ∙ length-append (codes "ERR want " ++ hex_of id) (codes " not offered" ++ 10 ∷ []) in
    let front = length-append (codes "ERR want ") (hex_of id) in
    payload_fits text (omega arith)

-- one more line of an id
pub ids_on : (word out now : List ℕ) (id : ObjectId) (ids : List ObjectId) (all : List ℕ) → out ++ lines_text (sent (id_lines word (id ∷ ids))) ≡ all → now ≡ out ++ line_text (text_line (word ++ hex_of id)) → now ++ lines_text (sent (id_lines word ids)) ≡ all
ids_on word out now id ids all is more =
    ap (λ (l : List ℕ). l ++ lines_text (sent (id_lines word ids))) more ∙ append_assoc out (line_text (text_line (word ++ hex_of id))) (lines_text (sent (id_lines word ids))) ∙ is

-- a line of an id is short
pub id_short : (word : List ℕ) (id : ObjectId) (text : List ℕ) → length word ≤ 100 → text ≡ (word ++ hex_of id) ++ 10 ∷ [] → length (bytes_of id) ≡ byte_len (kind_of id) → too_long_in (Payload text) ≡ None
id_short word id text few is len =
    let short = short_digits id len in
    let whole = ap (length {A = ℕ}) is ∙ length-append (word ++ hex_of id) (10 ∷ []) in
    let front = length-append word (hex_of id) in
    payload_fits text (omega arith)

abbrev info_line : Line
info_line = text_line (codes "shallow-info")

-- without depth lines nothing is told
pub change_none : (d : Data) (r : FetchAsked) (out : List ℕ) → r.depth ≡ None → out ≡ out ++ lines_text (change_lines (change_in d r r.depth))
change_none d r out at = sym (append-nil out) ∙ ap (λ depth. out ++ lines_text (change_lines (change_in d r depth))) (sym at)

-- how the border changes
pub moves_are : (shallow unshallow xs ys : List ObjectId) (out first second third now : List ℕ) → xs ≡ shallow → ys ≡ unshallow → first ≡ out ++ line_text (Payload (codes "shallow-info" ++ 10 ∷ []))
    → second ≡ first ++ lines_text (sent (id_lines (codes "shallow ") xs)) → third ≡ second ++ lines_text (sent (id_lines (codes "unshallow ") ys)) → now ≡ third ++ line_text Delim
    → now ≡ out ++ lines_text (change_lines (Some (record { shallow = shallow; unshallow = unshallow })))
moves_are shallow unshallow xs ys out first second third now s u a b c e =
    let come = sent (id_lines (codes "shallow ") xs) in
    let go = sent (id_lines (codes "unshallow ") ys) in
    let all : now ≡ ((out ++ line_text info_line) ++ (lines_text come ++ lines_text go)) ++ line_text Delim =
    e ∙ ap (λ (l : List ℕ). l ++ line_text Delim) (c ∙ ap (λ (l : List ℕ). l ++ lines_text go) (b ∙ ap (λ (l : List ℕ). l ++ lines_text come) a) ∙ append_assoc (out ++ line_text info_line) (lines_text come) (lines_text go)) in
    let told : ((out ++ line_text info_line) ++ (lines_text come ++ lines_text go)) ++ line_text Delim ≡ out ++ lines_text ((info_line ∷ (come ++ go)) ++ (Delim ∷ [])) =
    append_assoc (out ++ line_text info_line) (lines_text come ++ lines_text go) (line_text Delim) ∙ append_assoc out (line_text info_line) ((lines_text come ++ lines_text go) ++ line_text Delim)
    ∙ ap (λ (l : List ℕ). out ++ (line_text info_line ++ l)) (ap (λ (l : List ℕ). l ++ line_text Delim) (sym (lines_more come go)) ∙ ap (λ (l : List ℕ). lines_text (come ++ go) ++ l) (sym (one_line Delim)) ∙ sym (lines_more (come ++ go) (Delim ∷ []))) in
    let texts : (info_line ∷ (come ++ go)) ++ (Delim ∷ []) ≡ change_lines (Some (record { shallow = xs; unshallow = ys })) =
    ap (λ (l : List Line). (info_line ∷ l) ++ (Delim ∷ [])) (sym (sent_more (id_lines (codes "shallow ") xs) (id_lines (codes "unshallow ") ys))) in
    all ∙ told ∙ ap (λ (l : List Line). out ++ lines_text l) texts
    ∙ ap (λ (ids : List ObjectId). out ++ lines_text (change_lines (Some (record { shallow = ids; unshallow = ys })))) s
    ∙ ap (λ (ids : List ObjectId). out ++ lines_text (change_lines (Some (record { shallow = shallow; unshallow = ids })))) u

-- it is told where there are depth lines
pub change_is : (d : Data) (r : FetchAsked) (x : Depth) (depth : DepthAsked) (out now : List ℕ) → r.depth ≡ Some depth → x ≡ depth_of d r
    → now ≡ out ++ lines_text (change_lines (Some (record { shallow = x.shallow; unshallow = x.unshallow }))) → now ≡ out ++ lines_text (change_lines (change_in d r r.depth))
change_is d r x depth out now at is more =
    more ∙ ap (λ (y : Depth). out ++ lines_text (change_lines (Some (record { shallow = y.shallow; unshallow = y.unshallow })))) is ∙ ap (λ o. out ++ lines_text (change_lines (change_in d r o))) (sym at)

-- ---- the whole reply

pub pack_fetched : (d : Data) (r : FetchAsked) (ids : List ObjectId) (out now : List ℕ) → ids ≡ served_of d r → r.done ≡ true → now ≡ out ++ lines_text (pack_lines d r (objects_at d.objects ids)) → now ≡ out ++ lines_text (fetched_lines d r)
pack_fetched d r ids out now same done is =
    is ∙ ap (λ (l : List ObjectId). out ++ lines_text (pack_lines d r (objects_at d.objects l))) same
    ∙ ap (λ (b : Bool). out ++ lines_text (cond b (pack_lines d r (objects_of d r)) (round_lines (known_haves d r)))) (sym done)

pub round_fetched : (d : Data) (r : FetchAsked) (haves : List ObjectId) (out now : List ℕ) → haves ≡ r.haves → r.done ≡ false → now ≡ out ++ lines_text (round_lines (stored_in d.objects haves)) → now ≡ out ++ lines_text (fetched_lines d r)
round_fetched d r haves out now same done is =
    is ∙ ap (λ (l : List ObjectId). out ++ lines_text (round_lines (stored_in d.objects l))) same ∙ ap (λ (b : Bool). out ++ lines_text (cond b (pack_lines d r (objects_of d r)) (round_lines (known_haves d r)))) (sym done)

-- by whether a want isn't offered
pub fetch_by : (d : Data) (r : FetchAsked) (found : Option ObjectId) (out now : List ℕ) → found ≡ first_unoffered d r → now ≡ out ++ lines_text (fetch_lines d r found) → now ≡ out ++ lines_text (fetch_lines d r (first_unoffered d r))
fetch_by d r found out now same is = is ∙ ap (λ o. out ++ lines_text (fetch_lines d r o)) same

-- ---- what a pack can hold

pub many_true : (version : PackVersion) (os : List Stored) (n : ℕ) → length os ≡ n → nat_le (2 ^ 32) n ≡ true → true ≡ is_too_large version os
many_true version os n len many = sym (ap (λ (b : Bool). b || list_any (is_too_long version) os) (ap (nat_le (2 ^ 32)) len ∙ many))

pub many_false : (version : PackVersion) (os : List Stored) (n : ℕ) (t : Bool) → length os ≡ n → nat_le (2 ^ 32) n ≡ false → t ≡ list_any (is_too_long version) os → t ≡ is_too_large version os
many_false version os n t len few is = is ∙ sym (ap (λ (b : Bool). b || list_any (is_too_long version) os) (ap (nat_le (2 ^ 32)) len ∙ few))
