-- The lines of a fetch request.
use Rattle.std.proofs.Common.{◌≡◌, ℕ, ◌+◌, Bool, true, false, not, List, [], ◌∷◌, ◌++◌, length, take, drop, refl, ap, ◌∙◌, arith, nat_lt}
use Rattle.std.specs.Prelude.{◌&&◌, codes, if◌then◌else◌}
use Rattle.std.specs.List.{list_all, prefix_len}
use Rattle.std.proofs.lemmas.Bool.{lt-ltb}
use Rattle.std.proofs.lemmas.List.{take_all, drop_all, take-append-le, drop-append-le, length-append}
use Rattle.fetch_base.specs.declared.id.Kind.{Kind}
use Rattle.fetch_base.specs.declared.id.ObjectId.{ObjectId}
use Rattle.fetch_lines.specs.declared.greetings.handshake.Handshake.{Handshake}
use Rattle.fetch_lines.specs.declared.lines.line.Line.TheVariants.{Delim, Flush}
use Rattle.fetch_lines.specs.Greetings.{offers, has_word, value_of}
use Rattle.fetch_lines.specs.Requests.{when, sent, kind_text, agent_text}
use Rattle.fetch_lines.specs.RequestWords.{command_word, agent_is, agent_word, format_word, format_is, plain_pack, plain_pack_2, have_word, done_word}
use Rattle.fetch_lines.specs.RequestLines.{id_lines, is_plain_pack, pack_place, request_lines}
use Rattle.fetch_negotiate.specs.Requests.{Asked, details_of, pack_word, text_lines, fetch_request}

command_isnt : is_plain_pack command_word ≡ false
unfolding is_plain_pack command_word plain_pack plain_pack_2
command_isnt = refl

agent_isnt : (agent : List ℕ) → is_plain_pack (agent_is ++ agent) ≡ false
unfolding is_plain_pack agent_is plain_pack plain_pack_2
agent_isnt agent = refl

format_isnt : (kind : Kind) → is_plain_pack (format_is ++ kind_text kind) ≡ false
unfolding is_plain_pack format_is plain_pack plain_pack_2
format_isnt kind = refl

pack_by : (offered : Bool) → is_plain_pack (if offered then plain_pack_2 else plain_pack) ≡ true
unfolding is_plain_pack plain_pack plain_pack_2
pack_by true = refl
pack_by false = refl

pack_is : (h : Handshake) → is_plain_pack (pack_word h) ≡ true
unfolding pack_word
pack_is h = pack_by (has_word plain_pack_2 (value_of (codes "fetch") h.capabilities))

-- no line of a list asks for a plain pack
abbrev has_none : List (List ℕ) → Bool
has_none lines = list_all (λ line. not (is_plain_pack line)) lines

and_is : (a b : Bool) → (a && b) ≡ true → (a ≡ true) × (b ≡ true)
and_is true b h = (refl, h)
and_is false b h = absurd (cc)

prefix_is : (head behind : List (List ℕ)) (word : List ℕ) → is_plain_pack word ≡ true → has_none head ≡ true → prefix_len (λ line. not (is_plain_pack line)) (head ++ word ∷ behind) ≡ length head
prefix_is [] behind word is h = rw is refl
prefix_is (line ∷ head) behind word is h = let p = and_is (not (is_plain_pack line)) (has_none head) h in rw (p.0, prefix_is head behind word is p.1) (omega arith)

place_is : (head behind : List (List ℕ)) (word : List ℕ) → is_plain_pack word ≡ true → has_none head ≡ true → pack_place (head ++ word ∷ behind) ≡ length head
place_is head behind word is h =
    let l : length (head ++ word ∷ behind) ≡ length head + (length behind + 1) = length-append head (word ∷ behind) ∙ omega arith in
    let less : nat_lt (length head) (length (head ++ word ∷ behind)) ≡ true = lt-ltb _ _ (omega (arith, l)) in
    rw (prefix_is head behind word is h, less) refl

lines_are : (head behind : List (List ℕ)) (word : List ℕ) (haves : List ObjectId) (done : Bool) → is_plain_pack word ≡ true → has_none head ≡ true
    → request_lines (record { lines = head ++ word ∷ behind; haves = haves; done = done })
    ≡ sent head ++ Delim ∷ [] ++ sent (word ∷ behind ++ id_lines have_word haves ++ when done done_word) ++ Flush ∷ []
unfolding request_lines
lines_are head behind word haves done is h =
    let front : take (length head) (head ++ word ∷ behind) ≡ head = take-append-le (length head) head (word ∷ behind) (omega arith) ∙ take_all (length head) head (omega arith) in
    let back : drop (length head) (head ++ word ∷ behind) ≡ word ∷ behind = drop-append-le (length head) head (word ∷ behind) (omega arith) ∙ ap (λ (l : List (List ℕ)). l ++ word ∷ behind) (drop_all (length head) head (omega arith)) in
    rw (place_is head behind word is h, front, back) refl

-- the lines before the delimiter, by what the server offers
abbrev head_by : Bool → Bool → List ℕ → Kind → List (List ℕ)
head_by a f agent kind = command_word ∷ [] ++ when a (agent_is ++ agent_text agent) ++ when f (format_is ++ kind_text kind)

none_in : (a f : Bool) (agent : List ℕ) (kind : Kind) → has_none (head_by a f agent kind) ≡ true
none_in true true agent kind = rw (command_isnt, agent_isnt (agent_text agent), format_isnt kind) refl
none_in true false agent kind = rw (command_isnt, agent_isnt (agent_text agent)) refl
none_in false true agent kind = rw (command_isnt, format_isnt kind) refl
none_in false false agent kind = rw command_isnt refl

pub request_is : (a : Asked) (haves : List ObjectId) (done : Bool) → request_lines (record { lines = text_lines a; haves = haves; done = done }) ≡ fetch_request a haves done
unfolding fetch_request
request_is a haves done =
    let c = a.handshake.capabilities in
    lines_are (head_by (offers agent_word c) (offers format_word c) a.agent a.handshake.object_hash) (details_of a.tags a.shallow a.border a.wants) (pack_word a.handshake) haves done (pack_is a.handshake)
    (none_in (offers agent_word c) (offers format_word c) a.agent a.handshake.object_hash)
