-- Each fetch request tells the border.
use Rattle.std.proofs.Common.{◌≡◌, ℕ, Bool, true, false, cond, List, [], ◌∷◌, ◌++◌, map, filter, Option, Some, None, refl, ap, ◌∙◌}
use Rattle.std.specs.Prelude.{codes, if◌then◌else◌}
use Rattle.std.specs.List.{AllByRecursion, flat_map}
use Rattle.std.proofs.lemmas.List.{append-nil, map-append}
use Rattle.std.proofs.lemmas.List.Elements.{filter-append}
use Rattle.hex.specs.Hex.{encode_lower}
use Rattle.fetch_store.specs.Borders.{ids_of}
use Rattle.fetch_base.specs.Id.{bytes_of}
use Rattle.fetch_base.specs.declared.id.ObjectId.{ObjectId}
use Rattle.fetch_lines.specs.Greetings.{has_word, offers, value_of}
use Rattle.fetch_lines.specs.KnownIds.{each_once}
use Rattle.fetch_lines.specs.RequestLines.{id_lines}
use Rattle.fetch_lines.specs.RequestWords.{command_word, agent_word, agent_is, format_is, plain_pack, plain_pack_2, include_tag, shallow_word, deepen_word, relative_word, since_word, not_word, want_word, have_word, done_word}
use Rattle.fetch_lines.specs.Requests.{text_line, agent_text, sent, when, kind_text}
use Rattle.fetch_lines.specs.declared.greetings.handshake.Handshake.{Handshake}
use Rattle.fetch_lines.specs.declared.lines.line.Line.{Line}
use Rattle.fetch_lines.specs.declared.lines.line.Line.TheVariants.{Flush, Delim}
use Rattle.fetch_negotiate.specs.Requests.{Asked, asked_of, depth_lines, details_of, fetch_request, head_of, is_included, pack_word, since_lines}
use Rattle.fetch_negotiate.specs.declared.algorithm.Round.{Round}
use Rattle.fetch_negotiate.specs.declared.algorithm.Shallow.{Shallow}
use Rattle.fetch_negotiate.specs.declared.algorithm.Shallow.TheVariants.{NoChange, DepthAtRemote, Deepen, Since, Exclude}
use Rattle.fetch_conversation.specs.Exchange.{haves_told}
use Rattle.fetch_conversation.specs.Requested.{requests_of}
use Rattle.fetch_conversation.proofs.Due.{all_both}
use Rattle.fetch_remote.specs.Negotiated.{is_shallow, border_lines}

-- the lines of the border among these
abbrev shown : List (List ℕ) → List Line
shown texts = filter is_shallow (sent texts)

-- a text of another kind
abbrev IsOther : List ℕ → Type 0
IsOther text = is_shallow (text_line text) ≡ false

abbrev AreOther : List (List ℕ) → Type 0
AreOther texts = AllByRecursion IsOther texts

none_shown : (texts : List (List ℕ)) → AreOther texts → shown texts ≡ []
none_shown [] others = refl
none_shown (text ∷ texts) others = ap (λ (b : Bool). cond b (text_line text ∷ shown texts) (shown texts)) others.0 ∙ none_shown texts others.1

both_shown : (xs ys : List (List ℕ)) → shown (xs ++ ys) ≡ shown xs ++ shown ys
both_shown xs ys = ap (filter is_shallow) (map-append text_line xs ys) ∙ filter-append is_shallow (sent xs) (sent ys)

shown_behind : (xs ys : List (List ℕ)) → AreOther xs → shown (xs ++ ys) ≡ shown ys
shown_behind xs ys others = both_shown xs ys ∙ ap (λ (l : List Line). l ++ shown ys) (none_shown xs others)

shown_before : (xs ys : List (List ℕ)) → AreOther ys → shown (xs ++ ys) ≡ shown xs
shown_before xs ys others = both_shown xs ys ∙ ap (λ (l : List Line). shown xs ++ l) (none_shown ys others) ∙ append-nil (shown xs)

-- ---- text by text

border_shown : (ids : List ObjectId) → shown (id_lines shallow_word ids) ≡ sent (id_lines shallow_word ids)
unfolding shallow_word
border_shown [] = refl
border_shown (id ∷ ids) = ap (λ (l : List Line). text_line (shallow_word ++ encode_lower (bytes_of id)) ∷ l) (border_shown ids)

when_other : (b : Bool) (text : List ℕ) → IsOther text → AreOther (when b text)
when_other true text other = (other, tt)
when_other false text other = tt

command_other : IsOther command_word
unfolding command_word shallow_word
command_other = refl

agent_other : (text : List ℕ) → IsOther (agent_is ++ text)
unfolding agent_is shallow_word
agent_other text = refl

format_other : (text : List ℕ) → IsOther (format_is ++ text)
unfolding format_is shallow_word
format_other text = refl

tag_other : IsOther include_tag
unfolding include_tag shallow_word
tag_other = refl

done_other : IsOther done_word
unfolding done_word shallow_word
done_other = refl

pack_other : (h : Handshake) → IsOther (pack_word h)
unfolding pack_word plain_pack plain_pack_2 shallow_word
pack_other h = by (has_word plain_pack_2 (value_of (codes "fetch") h.capabilities))
  where
    by : (b : Bool) → IsOther (if b then plain_pack_2 else plain_pack)
    by true = refl
    by false = refl

wants_other : (ids : List ObjectId) → AreOther (id_lines want_word ids)
unfolding want_word shallow_word
wants_other [] = tt
wants_other (id ∷ ids) = (refl, wants_other ids)

haves_other : (ids : List ObjectId) → AreOther (id_lines have_word ids)
unfolding have_word shallow_word
haves_other [] = tt
haves_other (id ∷ ids) = (refl, haves_other ids)

since_other : (cutoff : Option ℕ) → AreOther (since_lines cutoff)
unfolding since_word shallow_word
since_other None = tt
since_other (Some seconds) = (refl, tt)

names_other : (names : List (List ℕ)) → AreOther (map (λ name. not_word ++ name) names)
unfolding not_word shallow_word
names_other [] = tt
names_other (name ∷ names) = (refl, names_other names)

depth_other : (change : Shallow) → AreOther (depth_lines change)
unfolding deepen_word relative_word since_word shallow_word
depth_other NoChange = tt
depth_other (DepthAtRemote depth) = (refl, tt)
depth_other (Deepen depth) = (refl, (refl, tt))
depth_other (Since cutoff) = (refl, tt)
depth_other (Exclude names cutoff) = all_both IsOther (since_lines cutoff) _ (since_other cutoff) (names_other names)

head_other : (h : Handshake) (agent : List ℕ) → AreOther (head_of h agent)
head_other h agent =
    (command_other, all_both IsOther (when (offers agent_word h.capabilities) (agent_is ++ agent_text agent)) _ (when_other _ _ (agent_other (agent_text agent))) (when_other _ _ (format_other (kind_text h.object_hash))))

-- ---- a request

details_shown : (a : Asked) → shown (details_of a.tags a.shallow a.border a.wants) ≡ border_lines a.border
details_shown a =
    let tags = when (is_included a.tags) include_tag in
    let border = id_lines shallow_word (ids_of a.border) in
    shown_before ((tags ++ border) ++ depth_lines a.shallow) (id_lines want_word a.wants) (wants_other a.wants)
    ∙ shown_before (tags ++ border) (depth_lines a.shallow) (depth_other a.shallow)
    ∙ shown_behind tags border (when_other (is_included a.tags) include_tag tag_other)
    ∙ border_shown (ids_of a.border)

asked_shown : (a : Asked) → shown (asked_of (pack_word a.handshake) a.tags a.shallow a.border a.wants) ≡ border_lines a.border
asked_shown a = shown_behind (pack_word a.handshake ∷ []) (details_of a.tags a.shallow a.border a.wants) (pack_other a.handshake, tt) ∙ details_shown a

body_shown : (a : Asked) (haves : List ObjectId) (done : Bool) → shown (asked_of (pack_word a.handshake) a.tags a.shallow a.border a.wants ++ id_lines have_word haves ++ when done done_word) ≡ border_lines a.border
body_shown a haves done =
    let asked = asked_of (pack_word a.handshake) a.tags a.shallow a.border a.wants in
    shown_before (asked ++ id_lines have_word haves) (when done done_word) (when_other done done_word done_other)
    ∙ shown_before asked (id_lines have_word haves) (haves_other haves)
    ∙ asked_shown a

ends_shown : (lines : List Line) → filter is_shallow (lines ++ Flush ∷ []) ≡ filter is_shallow lines
ends_shown lines = filter-append is_shallow lines (Flush ∷ []) ∙ append-nil (filter is_shallow lines)

request_shown : (a : Asked) (haves : List ObjectId) (done : Bool) → filter is_shallow (fetch_request a haves done) ≡ border_lines a.border
unfolding fetch_request
request_shown a haves done =
    let head = sent (head_of a.handshake a.agent) in
    let body = sent (asked_of (pack_word a.handshake) a.tags a.shallow a.border a.wants ++ id_lines have_word haves ++ when done done_word) in
    ends_shown ((head ++ Delim ∷ []) ++ body)
    ∙ filter-append is_shallow (head ++ Delim ∷ []) body
    ∙ ap (λ (l : List Line). l ++ filter is_shallow body) (filter-append is_shallow head (Delim ∷ []) ∙ append-nil (filter is_shallow head) ∙ none_shown (head_of a.handshake a.agent) (head_other a.handshake a.agent))
    ∙ body_shown a haves done

-- all of them
pub requests_shown : (a : Asked) (shared : List ObjectId) (rounds : List Round) → filter is_shallow (requests_of a shared rounds) ≡ flat_map (λ _. border_lines a.border) rounds
requests_shown a shared [] = refl
requests_shown a shared (r ∷ rounds) =
    let later = each_once (shared ++ r.acknowledged) in
    filter-append is_shallow (fetch_request a (haves_told shared r.haves) r.done) (requests_of a later rounds)
    ∙ ap (λ (l : List Line). l ++ filter is_shallow (requests_of a later rounds)) (request_shown a (haves_told shared r.haves) r.done)
    ∙ ap (λ (l : List Line). border_lines a.border ++ l) (requests_shown a later rounds)
