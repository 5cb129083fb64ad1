-- A listing is read as it is written.
use Rattle.std.proofs.Common.{◌≡◌, ◌≢◌, ℕ, Bool, false, not, ◌||◌, List, [], ◌∷◌, ◌++◌, map, Option, Some, None, IfSome, refl, sym, ap, ◌∙◌, subst, append_assoc, All, codes, bytes_eq, ◌==◌}
use Rattle.std.specs.Prelude.{nat_eq}
use Rattle.std.specs.List.{AllByRecursion, IsDistinct, starts_with}
use Rattle.std.specs.Option.{option_map, option_and_then}
use Rattle.std.proofs.lemmas.List.{append-nil}
use Rattle.std.proofs.lemmas.List.Elements.{All-nil, All-cons, All-head, All-tail}
use Rattle.hex.specs.Hex.{encode_lower}
use Rattle.fetch_base.specs.Id.{bytes_of}
use Rattle.fetch_base.specs.Lines.{IsWithout}
use Rattle.fetch_base.specs.Scan.{after}
use Rattle.fetch_base.specs.declared.id.Kind.{Kind}
use Rattle.fetch_base.specs.declared.id.ObjectId.{ObjectId}
use Rattle.fetch_base.proofs.LineLaws.{splits}
use Rattle.fetch_base.proofs.Words.{both_without, after_of}
use Rattle.fetch_replies.specs.declared.replies.reply.ReplyKind.TheVariants as awaits
use Rattle.fetch_replies.specs.declared.replies.reply.ParsedReply.TheVariants as told
use Rattle.fetch_lines.specs.declared.lines.line.Line.TheVariants.{Flush}
use Rattle.fetch_replies.specs.declared.replies.parser.ReplyParser.TheVariants as reading
use Rattle.fetch_lines.specs.declared.listings.reference.Ref.{Ref}
use Rattle.fetch_lines.specs.declared.listings.reference.Ref.TheVariants.{Direct, Symbolic, Peeled, Unborn}
use Rattle.fetch_replies.specs.Awaited.{step_of, start_of, at_listed}
use Rattle.fetch_replies.specs.LinesTold.{Tells}
use Rattle.fetch_replies.specs.Listings.{Attributes, no_attributes, with_target, with_peeled, told_by, with_attribute, with_attributes, ref_with, id_or_unborn, named_by, ref_in, is_listed, if_new}
use Rattle.fetch_replies.specs.NamesTold.{AreNamedOnce}
use Rattle.fetch_lines.specs.References.{name_in, id_in, peeled_in, target_in}
use Rattle.fetch_lines.specs.Requests.{sent, text_line}
use Rattle.fetch_lines.specs.ServerLines.{id_text, target_words, peeled_words, spaced, ref_text, listing_lines_of, IsIdOf, IsWord, IsListable}
use Rattle.fetch_replies.specs.Stepping.{goes, ends, breaks, or_breaks}
use Rattle.fetch_lines.specs.Texts.{is_error}
use Rattle.fetch_lines.specs.Words.{words}
use Rattle.fetch_replies.proofs.IdTexts.{id_read, hex_all, hex_begins, other_start, other_text}
use Rattle.fetch_replies.proofs.Moving.{Moves, moves_tell, by_text_line}
use Rattle.fetch_lines.proofs.WordLaws.{words-front, words-one}

-- ---- the words of a line

pub words_spaced : (word : List ℕ) (others : List (List ℕ)) → IsWithout 32 word → All (IsWithout 32) others → words (word ++ spaced others) ≡ word ∷ others
words_spaced word [] none all = ap words (append-nil word) ∙ words-one word none
words_spaced word (next ∷ others) none all =
    words-front word (next ++ spaced others) none
    ∙ ap (λ (l : List (List ℕ)). word ∷ l) (words_spaced next others (All-head (IsWithout 32) next others all) (All-tail (IsWithout 32) next others all))

hex_whole : (kind : Kind) (id : ObjectId) → IsIdOf kind id → IsWithout 32 (encode_lower (bytes_of id))
hex_whole kind id is = hex_all (λ b. not (b == 32)) (bytes_of id) refl is.bytes

pub id_whole : (kind : Kind) (id : Option ObjectId) → IfSome id (IsIdOf kind) → IsWithout 32 (id_text id)
id_whole kind None is = refl
id_whole kind (Some id) is = hex_whole kind id is

all_nil : All (IsWithout 32) []
all_nil = All-nil (IsWithout 32)

all_one : (word : List ℕ) → IsWithout 32 word → All (IsWithout 32) (word ∷ [])
all_one word whole = All-cons (IsWithout 32) word [] whole all_nil

target_whole : (target : List ℕ) → IsWord target → IsWithout 32 (codes "symref-target:" ++ target)
target_whole target is = both_without 32 (codes "symref-target:") target refl is.whole

peeled_whole : (kind : Kind) (id : ObjectId) → IsIdOf kind id → IsWithout 32 (codes "peeled:" ++ encode_lower (bytes_of id))
peeled_whole kind id is = both_without 32 (codes "peeled:") (encode_lower (bytes_of id)) refl (hex_whole kind id is)

attributes_whole : (kind : Kind) (target : Option (List ℕ)) (peeled : Option ObjectId) → IfSome target IsWord → IfSome peeled (IsIdOf kind) → All (IsWithout 32) (target_words target ++ peeled_words peeled)
attributes_whole kind None None t p = all_nil
attributes_whole kind (Some target) None t p = all_one (codes "symref-target:" ++ target) (target_whole target t)
attributes_whole kind None (Some id) t p = all_one (codes "peeled:" ++ encode_lower (bytes_of id)) (peeled_whole kind id p)
attributes_whole kind (Some target) (Some id) t p =
    All-cons (IsWithout 32) (codes "symref-target:" ++ target) ((codes "peeled:" ++ encode_lower (bytes_of id)) ∷ []) (target_whole target t) (all_one (codes "peeled:" ++ encode_lower (bytes_of id)) (peeled_whole kind id p))

-- ---- what they tell

target_kept : (found : Attributes) (target : List ℕ) → target ≢ [] → with_target found target ≡ Some (Some target, found.1)
target_kept found [] some = absurd (some refl)
target_kept found (c ∷ cs) some = refl

target_told : (kind : Kind) (found : Attributes) (target : List ℕ) → target ≢ [] → with_attribute kind found (codes "symref-target:" ++ target) ≡ Some (Some target, found.1)
unfolding with_attribute
target_told kind found target some =
    ap (λ t. told_by kind found t (after (codes "peeled:") (codes "symref-target:" ++ target))) (after_of (codes "symref-target:") target) ∙ target_kept found target some

peeled_told : (kind : Kind) (found : Attributes) (id : ObjectId) → IsIdOf kind id → with_attribute kind found (codes "peeled:" ++ encode_lower (bytes_of id)) ≡ Some (found.0, Some id)
unfolding with_attribute
peeled_told kind found id is =
    ap (told_by kind found None) (after_of (codes "peeled:") (encode_lower (bytes_of id))) ∙ ap (option_map (with_peeled found)) (id_read kind id is)

attributes_told : (kind : Kind) (target : Option (List ℕ)) (peeled : Option ObjectId) → IfSome target IsWord → IfSome peeled (IsIdOf kind) → with_attributes kind no_attributes (target_words target ++ peeled_words peeled) ≡ Some (target, peeled)
attributes_told kind None None t p = refl
attributes_told kind (Some target) None t p = ap (option_and_then (λ more. with_attributes kind more [])) (target_told kind no_attributes target t.some)
attributes_told kind None (Some id) t p = ap (option_and_then (λ more. with_attributes kind more [])) (peeled_told kind no_attributes id p)
attributes_told kind (Some target) (Some id) t p =
    ap (option_and_then (λ more. with_attributes kind more (peeled_words (Some id)))) (target_told kind no_attributes target t.some)
    ∙ ap (option_and_then (λ more. with_attributes kind more [])) (peeled_told kind (Some target, None) id p)

named_some : (kind : Kind) (id : Option ObjectId) (name : List ℕ) (attributes : List (List ℕ)) → name ≢ [] → named_by kind id (name ∷ attributes) ≡ option_and_then (ref_with name id) (with_attributes kind no_attributes attributes)
named_some kind id [] attributes some = absurd (some refl)
named_some kind id (c ∷ cs) attributes some = refl

same_ref : (r : Ref) → ref_with (name_in r) (id_in r) (target_in r, peeled_in r) ≡ Some r
same_ref (Direct name object) = refl
same_ref (Symbolic name target None object) = refl
same_ref (Symbolic name target (Some tag) object) = refl
same_ref (Peeled name tag object) = refl
same_ref (Unborn name target) = refl

id_told : (kind : Kind) (id : Option ObjectId) → IfSome id (IsIdOf kind) → id_or_unborn kind (id_text id) ≡ Some id
unfolding id_or_unborn
id_told kind None is = refl
id_told kind (Some id) is =
    let b = hex_begins (λ d. not (d == 117)) kind id is refl in
    let other : bytes_eq (encode_lower (bytes_of id)) (codes "unborn") ≡ false = ap (λ (t : List ℕ). bytes_eq t (codes "unborn")) b.is ∙ other_text 117 b.first (codes "nborn") b.others b.passes in
    rw other (ap (option_map (λ x. Some x)) (id_read kind id is))

-- one reference
pub ref_read : (kind : Kind) (r : Ref) → IsListable kind r → ref_in kind (ref_text r) ≡ Some r
ref_read kind r is =
    let attributes = target_words (target_in r) ++ peeled_words (peeled_in r) in
    ap (option_and_then (λ parts. option_and_then (λ id. named_by kind id (words parts.1)) (id_or_unborn kind parts.0)))
    ((splits 32 (ref_text r)).only (id_text (id_in r)) (name_in r ++ spaced attributes) refl (id_whole kind (id_in r) is.id))
    ∙ ap (option_and_then (λ id. named_by kind id (words (name_in r ++ spaced attributes)))) (id_told kind (id_in r) is.id)
    ∙ ap (named_by kind (id_in r)) (words_spaced (name_in r) attributes is.name.whole (attributes_whole kind (target_in r) (peeled_in r) is.target is.peeled))
    ∙ named_some kind (id_in r) (name_in r) attributes is.name.some
    ∙ ap (option_and_then (ref_with (name_in r) (id_in r))) (attributes_told kind (target_in r) (peeled_in r) is.target is.peeled)
    ∙ same_ref r

-- ---- its lines

pub no_error_by : (kind : Kind) (id : Option ObjectId) (more : List ℕ) → IfSome id (IsIdOf kind) → is_error ((id_text id ++ more) ++ 10 ∷ []) ≡ false
unfolding is_error
no_error_by kind None more is = refl
no_error_by kind (Some id) more is =
    let b = hex_begins (λ d. not (69 == d)) kind id is refl in
    ap (λ (t : List ℕ). starts_with nat_eq ((t ++ more) ++ 10 ∷ []) (codes "ERR ")) b.is ∙ other_start 69 b.first (codes "RR ") ((b.others ++ more) ++ 10 ∷ []) b.passes

apart_at : (x : List ℕ) (before : List Ref) (r : Ref) (refs : List Ref) → AllByRecursion (λ y. bytes_eq x y ≡ false) (map name_in (before ++ r ∷ refs)) → bytes_eq x (name_in r) ≡ false
apart_at x [] r refs all = all.0
apart_at x (q ∷ before) r refs all = apart_at x before r refs all.1

none_of : (a b : Bool) → a ≡ false → b ≡ false → (a || b) ≡ false
none_of a b e f = rw (e, f) refl

-- a name that stands once wasn't listed before
pub apart : (before : List Ref) (r : Ref) (refs : List Ref) → AreNamedOnce (before ++ r ∷ refs) → is_listed before r ≡ false
unfolding IsDistinct
apart [] r refs once = refl
apart (q ∷ before) r refs once = none_of (bytes_eq (name_in q) (name_in r)) (is_listed before r) (apart_at (name_in q) before r refs once.0) (apart before r refs once.1)

tells_one : (kind : Kind) (before : List Ref) (r : Ref) → IsListable kind r → is_listed before r ≡ false → step_of (reading.Listing kind before) (text_line (ref_text r)) ≡ goes (reading.Listing kind (before ++ r ∷ []))
unfolding step_of
tells_one kind before r is new =
    by_text_line (ends (told.Listing before)) breaks (at_listed kind before) (ref_text r) (no_error_by kind (id_in r) (spaced (name_in r ∷ target_words (target_in r) ++ peeled_words (peeled_in r))) is.id)
    ∙ ap (λ found. or_breaks (option_and_then (if_new before) found) (λ x. goes (reading.Listing kind (before ++ x ∷ [])))) (ref_read kind r is)
    ∙ (rw new refl)

tells_all : (kind : Kind) (before refs : List Ref) → All (IsListable kind) refs → AreNamedOnce (before ++ refs) → Moves step_of (reading.Listing kind before) (sent (map ref_text refs)) (reading.Listing kind (before ++ refs))
tells_all kind before [] are once = ap (reading.Listing kind) (sym (append-nil before))
tells_all kind before (r ∷ refs) are once = (
  reading.Listing kind (before ++ r ∷ []),
  tells_one kind before r (All-head (IsListable kind) r refs are) (apart before r refs once),
  subst (λ (l : List Ref). Moves step_of (reading.Listing kind (before ++ r ∷ [])) (sent (map ref_text refs)) (reading.Listing kind l)) (append_assoc before (r ∷ []) refs)
      (tells_all kind (before ++ r ∷ []) refs (All-tail (IsListable kind) r refs are) (subst AreNamedOnce (sym (append_assoc before (r ∷ []) refs)) once)),
)

closes : (kind : Kind) (refs : List Ref) → step_of (reading.Listing kind refs) Flush ≡ ends (told.Listing refs)
unfolding step_of
closes kind refs = refl

pub listing_tells : (kind : Kind) (refs : List Ref) → All (IsListable kind) refs → AreNamedOnce refs → Tells step_of (start_of (awaits.Listing kind)) (listing_lines_of refs) (told.Listing refs)
listing_tells kind refs are once =
    moves_tell step_of (reading.Listing kind []) (reading.Listing kind refs) (sent (map ref_text refs)) (Flush ∷ []) (told.Listing refs) (tells_all kind [] refs are once) (closes kind refs)
