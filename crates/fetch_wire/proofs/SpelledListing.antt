-- Lines that were read as a listing, and the references that they are.
use Rattle.std.proofs.Common.{◌≡◌, ℕ, Bool, true, false, List, [], ◌∷◌, ◌++◌, map, Option, Some, None, IfSome, refl, sym, ap, ◌∙◌, subst, ap₂, append_assoc, All, codes, bytes_eq, ◌==◌}
use Rattle.std.specs.Prelude.{if◌then◌else◌}
use Rattle.std.specs.Option.{option_map, option_and_then, option_or}
use Rattle.std.proofs.lemmas.Bool.{eqb-true}
use Rattle.std.proofs.lemmas.List.{append-nil}
use Rattle.std.proofs.lemmas.List.Elements.{All-nil, All-cons, All-head, All-tail}
use Rattle.std.proofs.lemmas.Slice.Eq.{bytes_eq-Decides}
use Rattle.fetch_base.specs.Id.{id_in_hex}
use Rattle.fetch_base.specs.Lines.{IsWithout}
use Rattle.fetch_base.specs.Scan.{split_first, after}
use Rattle.fetch_base.specs.declared.id.Kind.{Kind}
use Rattle.fetch_base.specs.declared.id.ObjectId.{ObjectId}
use Rattle.fetch_base.proofs.LineLaws.{splits}
use Rattle.fetch_base.proofs.Words.{parts_without, after_is}
use Rattle.fetch_replies.specs.declared.replies.reply.ParsedReply.{ParsedReply}
use Rattle.fetch_replies.specs.declared.replies.reply.ParsedReply.TheVariants as tolds
use Rattle.fetch_lines.specs.declared.lines.line.Line.{Line}
use Rattle.fetch_replies.specs.declared.replies.parser.ReplyParser.{ReplyParser}
use Rattle.fetch_replies.specs.declared.replies.parser.ReplyParser.TheVariants as reading
use Rattle.fetch_lines.specs.declared.listings.reference.Ref.{Ref}
use Rattle.fetch_lines.specs.declared.listings.reference.Ref.TheVariants.{Direct, Symbolic, Peeled, Unborn}
use Rattle.fetch_replies.specs.Awaited.{step_of, at_listed}
use Rattle.fetch_replies.specs.LinesTold.{Tells}
use Rattle.fetch_replies.specs.Listings.{Attributes, no_attributes, with_target, with_peeled, told_by, with_attribute, with_attributes, ref_with, id_or_unborn, named_by, ref_in, is_listed, if_new}
use Rattle.fetch_replies.specs.NamesTold.{AreNamedOnce}
use Rattle.fetch_lines.specs.References.{name_in, id_in, peeled_in, target_in}
use Rattle.fetch_lines.specs.ServerLines.{spaced, IsWord}
use Rattle.fetch_wire.specs.Spellings.{AreFlushed, Attribute, Target, Peels, Other, attribute_text, IsAttribute, last_target, last_peeled, SpellsBorn, IsRef, AreRefs, IsListing}
use Rattle.fetch_replies.specs.Stepping.{ends, breaks}
use Rattle.fetch_lines.specs.Words.{words, before_first}
use Rattle.fetch_wire.proofs.Spelled.{text_goes, flush_ends, some_goes, never_ends, flushed_more, flushed_none}

-- ---- words

-- a text is its words, with a space between each two
pub record Worded (text word : List ℕ) (others : List (List ℕ)) : Type 0 where
  pub is : text ≡ word ++ spaced others
  pub first : IsWithout 32 word
  pub all : All (IsWithout 32) others

-- the first word of a text, and those after it
pub record Wording (text : List ℕ) : Type 0 where
  pub word : List ℕ
  pub others : List (List ℕ)
  pub words : words text ≡ word ∷ others
  pub is : Worded text word others

pub wording : (text : List ℕ) → Wording text
wording [] = record { word = []; others = []; words = refl; is = record { is = refl; first = refl; all = All-nil (IsWithout 32) } }
wording (b ∷ text) = by_space (b == 32) refl (wording text)
  where
    by_space : (t : Bool) → (b == 32) ≡ t → Wording text → Wording (b ∷ text)
    by_space true space h = record {
      word = [];
      others = h.word ∷ h.others;
      words = rw space (ap (λ (l : List (List ℕ)). [] ∷ l) h.words);
      is = record { is = ap (λ (c : ℕ). c ∷ text) (eqb-true _ _ space) ∙ ap (λ (t : List ℕ). 32 ∷ t) h.is.is; first = refl; all = All-cons (IsWithout 32) h.word h.others h.is.first h.is.all };
    }
    by_space false other h = record {
      word = b ∷ h.word;
      others = h.others;
      words = rw other (ap (before_first b) h.words);
      is = record { is = ap (λ (t : List ℕ). b ∷ t) h.is.is; first = rw other h.is.first; all = h.is.all };
    }

-- ---- attributes

abbrev with_one : Attribute → Attributes → Attributes
with_one (Target target) found = (Some target, found.1)
with_one (Peels digits id) found = (found.0, Some id)
with_one (Other word) found = found

-- what an attribute's word tells
record OneTold (kind : Kind) (found : Attributes) (word : List ℕ) (more : Attributes) : Type 0 where
  attribute : Attribute
  text : word ≡ attribute_text attribute
  is : IsAttribute kind attribute
  told : more ≡ with_one attribute found

target_told : (kind : Kind) (found : Attributes) (word target : List ℕ) (more : Attributes) → IsWithout 32 word → word ≡ codes "symref-target:" ++ target → with_target found target ≡ Some more → OneTold kind found word more
target_told kind found word [] more whole text is = absurd cc
target_told kind found word (c ∷ cs) more whole text is = record {
  attribute = Target (c ∷ cs);
  text = text;
  is = record { some = λ e. cc; whole = (parts_without 32 (codes "symref-target:") (c ∷ cs) (subst (IsWithout 32) text whole)).1 };
  told = cc;
}

peeled_told : (kind : Kind) (found : Attributes) (word hex : List ℕ) (more : Attributes) (id : Option ObjectId) → id_in_hex kind hex ≡ id → IsWithout 32 word → word ≡ codes "peeled:" ++ hex → option_map (with_peeled found) id ≡ Some more → OneTold kind found word more
peeled_told kind found word hex more None e whole text is = absurd cc
peeled_told kind found word hex more (Some id) e whole text is =
    record { attribute = Peels hex id; text = text; is = (e, (parts_without 32 (codes "peeled:") hex (subst (IsWithout 32) text whole)).1); told = cc }

one_told : (kind : Kind) (found : Attributes) (word : List ℕ) (more : Attributes) → IsWithout 32 word → with_attribute kind found word ≡ Some more → OneTold kind found word more
unfolding with_attribute
one_told kind found word more whole is = by_words (after (codes "symref-target:") word) (after (codes "peeled:") word) refl refl is
  where
    by_words : (target hex : Option (List ℕ)) → after (codes "symref-target:") word ≡ target → after (codes "peeled:") word ≡ hex → told_by kind found target hex ≡ Some more → OneTold kind found word more
    by_words (Some target) hex t h e = target_told kind found word target more whole (after_is (codes "symref-target:") word target t) e
    by_words None (Some hex) t h e = peeled_told kind found word hex more (id_in_hex kind hex) refl whole (after_is (codes "peeled:") word hex h) e
    by_words None None t h e = record { attribute = Other word; text = refl; is = (whole, t, h); told = cc }

or_again : {A : Type 0} (a : Option A) (x : A) (b : Option A) → option_or a (Some x) ≡ option_or (option_or a (Some x)) b
or_again None x b = refl
or_again (Some y) x b = refl

-- what attributes one after another tell
record AllTold (kind : Kind) (found : Attributes) (said : List (List ℕ)) (more : Attributes) : Type 0 where
  attributes : List Attribute
  text : said ≡ map attribute_text attributes
  each : All (IsAttribute kind) attributes
  target : more.0 ≡ option_or (last_target attributes) found.0
  peeled : more.1 ≡ option_or (last_peeled attributes) found.1

more_target : (a : Attribute) (found : Attributes) (others : List Attribute) → option_or (last_target others) (with_one a found).0 ≡ option_or (last_target (a ∷ others)) found.0
more_target (Target target) found others = or_again (last_target others) target found.0
more_target (Peels digits id) found others = refl
more_target (Other word) found others = refl

more_peeled : (a : Attribute) (found : Attributes) (others : List Attribute) → option_or (last_peeled others) (with_one a found).1 ≡ option_or (last_peeled (a ∷ others)) found.1
more_peeled (Target target) found others = refl
more_peeled (Peels digits id) found others = or_again (last_peeled others) id found.1
more_peeled (Other word) found others = refl

all_told : (kind : Kind) (found : Attributes) (said : List (List ℕ)) (more : Attributes) → All (IsWithout 32) said → with_attributes kind found said ≡ Some more → AllTold kind found said more
all_told kind found [] more whole is = record { attributes = []; text = refl; each = All-nil (IsAttribute kind); target = cc; peeled = cc }
all_told kind found (word ∷ others) more whole is = by_first (with_attribute kind found word) refl is (λ now. all_told kind now others more (All-tail (IsWithout 32) word others whole))
  where
    by_first : (o : Option Attributes) → with_attribute kind found word ≡ o → option_and_then (λ now. with_attributes kind now others) o ≡ Some more
        → ((now : Attributes) → with_attributes kind now others ≡ Some more → AllTold kind now others more) → AllTold kind found (word ∷ others) more
    by_first None e h again = absurd cc
    by_first (Some now) e h again =
        let one = one_told kind found word now (All-head (IsWithout 32) word others whole) e in
        let rest = again now h in
        record {
          attributes = one.attribute ∷ rest.attributes;
          text = ap₂ (λ (w : List ℕ) (ws : List (List ℕ)). w ∷ ws) one.text rest.text;
          each = All-cons (IsAttribute kind) one.attribute rest.attributes one.is rest.each;
          target = rest.target ∙ ap (λ (f : Attributes). option_or (last_target rest.attributes) f.0) one.told ∙ more_target one.attribute found rest.attributes;
          peeled = rest.peeled ∙ ap (λ (f : Attributes). option_or (last_peeled rest.attributes) f.1) one.told ∙ more_peeled one.attribute found rest.attributes;
        }

or_none : {A : Type 0} (a : Option A) → option_or a None ≡ a
or_none None = refl
or_none (Some x) = refl

-- ---- a reference

-- what a reference was made of
pub record Made (r : Ref) (n : List ℕ) (i : Option ObjectId) (found : Attributes) : Type 0 where
  pub name : name_in r ≡ n
  pub id : id_in r ≡ i
  pub target : target_in r ≡ found.0
  pub peeled : IfSome i (λ _. peeled_in r ≡ found.1)

pub made : (r : Ref) (name : List ℕ) (id : Option ObjectId) (found : Attributes) → ref_with name id found ≡ Some r → Made r name id found
made r name None (None, peeled) is = absurd cc
made r name None (Some target, peeled) is = subst (λ (x : Ref). Made x name None (Some target, peeled)) (let e : Unborn name target ≡ r = cc in e) (record { name = refl; id = refl; target = refl; peeled = tt })
made r name (Some id) (Some target, Some peeled) is =
    subst (λ (x : Ref). Made x name (Some id) (Some target, Some peeled)) (let e : Symbolic name target (Some id) peeled ≡ r = cc in e) (record { name = refl; id = refl; target = refl; peeled = refl })
made r name (Some id) (Some target, None) is = subst (λ (x : Ref). Made x name (Some id) (Some target, None)) (let e : Symbolic name target None id ≡ r = cc in e) (record { name = refl; id = refl; target = refl; peeled = refl })
made r name (Some id) (None, Some peeled) is = subst (λ (x : Ref). Made x name (Some id) (None, Some peeled)) (let e : Peeled name id peeled ≡ r = cc in e) (record { name = refl; id = refl; target = refl; peeled = refl })
made r name (Some id) (None, None) is = subst (λ (x : Ref). Made x name (Some id) (None, None)) (let e : Direct name id ≡ r = cc in e) (record { name = refl; id = refl; target = refl; peeled = refl })

born_spelled : (kind : Kind) (digits : List ℕ) (id : Option ObjectId) → id_or_unborn kind digits ≡ Some id → SpellsBorn kind digits id
unfolding id_or_unborn
born_spelled kind digits id is = by_word (bytes_eq digits (codes "unborn")) refl is
  where
    by_hex : (o : Option ObjectId) → id_in_hex kind digits ≡ o → option_map (λ x. Some x) o ≡ Some id → SpellsBorn kind digits id
    by_hex None e h = absurd cc
    by_hex (Some x) e h = subst (SpellsBorn kind digits) (let s : Some x ≡ id = cc in s) e

    by_word : (b : Bool) → bytes_eq digits (codes "unborn") ≡ b → (if b then Some None else option_map (λ x. Some x) (id_in_hex kind digits)) ≡ Some id → SpellsBorn kind digits id
    by_word true e h = subst (SpellsBorn kind digits) (let s : None ≡ id = cc in s) ((bytes_eq-Decides digits (codes "unborn")).0 e)
    by_word false e h = by_hex (id_in_hex kind digits) refl h

ref_of : (kind : Kind) (digits name : List ℕ) (said : List (List ℕ)) (id : Option ObjectId) (found : Attributes) (r : Ref) → SpellsBorn kind digits id → IsWord name → AllTold kind no_attributes said found → ref_with name id found ≡ Some r
    → IsRef kind r (digits ++ spaced (name ∷ said))
ref_of kind digits name said id found r spelled word told is =
    let m = made r name id found is in
    record {
      digits = digits;
      attributes = told.attributes;
      text = ap₂ (λ (n : List ℕ) (ws : List (List ℕ)). digits ++ spaced (n ∷ ws)) (sym m.name) told.text;
      id = subst (SpellsBorn kind digits) (sym m.id) spelled;
      name = subst IsWord (sym m.name) word;
      each = told.each;
      target = m.target ∙ told.target ∙ or_none (last_target told.attributes);
      peeled = by_id id m.id m.peeled;
    }
  where
    by_id : (o : Option ObjectId) → id_in r ≡ o → IfSome o (λ _. peeled_in r ≡ found.1) → IfSome (id_in r) (λ _. peeled_in r ≡ last_peeled told.attributes)
    by_id None e p = rw e tt
    by_id (Some i) e p = rw e (p ∙ told.peeled ∙ or_none (last_peeled told.attributes))

named_ref : (kind : Kind) (digits : List ℕ) (id : Option ObjectId) (name : List ℕ) (said : List (List ℕ)) (r : Ref) → SpellsBorn kind digits id → IsWithout 32 name → All (IsWithout 32) said → named_by kind id (name ∷ said) ≡ Some r
    → IsRef kind r (digits ++ spaced (name ∷ said))
named_ref kind digits id [] said r spelled whole all is = absurd cc
named_ref kind digits id (c ∷ cs) said r spelled whole all is = by_found (with_attributes kind no_attributes said) refl is
  where
    by_found : (o : Option Attributes) → with_attributes kind no_attributes said ≡ o → option_and_then (ref_with (c ∷ cs) id) o ≡ Some r → IsRef kind r (digits ++ spaced ((c ∷ cs) ∷ said))
    by_found None e h = absurd cc
    by_found (Some found) e h = ref_of kind digits (c ∷ cs) said id found r spelled (record { some = λ x. cc; whole = whole }) (all_told kind no_attributes said found all e) h

pub ref_told : (kind : Kind) (said : List ℕ) (r : Ref) → ref_in kind said ≡ Some r → IsRef kind r said
ref_told kind said r is = by_split (split_first 32 said) refl is
  where
    by_id : (digits behind : List ℕ) (o : Option (Option ObjectId)) → id_or_unborn kind digits ≡ o → said ≡ digits ++ 32 ∷ behind → option_and_then (λ id. named_by kind id (words behind)) o ≡ Some r → IsRef kind r said
    by_id digits behind None e text h = absurd cc
    by_id digits behind (Some id) e text h =
        let w = wording behind in
        let named : named_by kind id (w.word ∷ w.others) ≡ Some r = ap (named_by kind id) (sym w.words) ∙ h in
        subst (IsRef kind r) (sym (text ∙ ap (λ (t : List ℕ). digits ++ 32 ∷ t) w.is.is)) (named_ref kind digits id w.word w.others r (born_spelled kind digits id e) w.is.first w.is.all named)

    by_split : (o : Option (List ℕ × List ℕ)) → split_first 32 said ≡ o → option_and_then (λ parts. option_and_then (λ id. named_by kind id (words parts.1)) (id_or_unborn kind parts.0)) o ≡ Some r → IsRef kind r said
    by_split None e h = absurd cc
    by_split (Some (digits, behind)) e h = by_id digits behind (id_or_unborn kind digits) refl ((splits 32 said).found digits behind e).0 h

-- ---- its lines

new_is : (before : List Ref) (r s : Ref) → if_new before r ≡ Some s → r ≡ s
new_is before r s is = by_test (is_listed before r) is
  where
    by_test : (b : Bool) → (if b then None else Some r) ≡ Some s → r ≡ s
    by_test true h = absurd cc
    by_test false h = cc

listed_ref : (kind : Kind) (before : List Ref) (said : List ℕ) (r : Ref) → option_and_then (if_new before) (ref_in kind said) ≡ Some r → IsRef kind r said
listed_ref kind before said r is = by_ref (ref_in kind said) refl is
  where
    by_ref : (o : Option Ref) → ref_in kind said ≡ o → option_and_then (if_new before) o ≡ Some r → IsRef kind r said
    by_ref None e h = absurd cc
    by_ref (Some s) e h = ref_told kind said r (e ∙ ap Some (new_is before s r h))

-- references after those that were told before
pub record Listed (kind : Kind) (before : List Ref) (lines : List Line) (x : ParsedReply) : Type 0 where
  pub refs : List Ref
  pub said : List (List ℕ)
  pub texts : AreFlushed said lines
  pub each : AreRefs kind refs said
  pub told : x ≡ tolds.Listing (before ++ refs)

pub listed : (kind : Kind) (before : List Ref) (lines : List Line) (x : ParsedReply) → Tells step_of (reading.Listing kind before) lines x → Listed kind before lines x
unfolding step_of
listed kind before [] x h = absurd h
listed kind before (line ∷ []) x h =
    let e = flush_ends (tolds.Listing before) (at_listed kind before) line x (λ text. never_ends (option_and_then (if_new before) (ref_in kind text)) (λ r. reading.Listing kind (before ++ r ∷ [])) x) h in
    record { refs = []; said = []; texts = flushed_none line e.0; each = tt; told = sym e.1 ∙ ap (λ (rs : List Ref). tolds.Listing rs) (sym (append-nil before)) }
listed kind before (line ∷ next ∷ lines) x (t, goes_on, h) =
    let g = text_goes (ends (tolds.Listing before)) breaks (at_listed kind before) line t (λ e. cc) (λ e. cc) goes_on in
    let s = some_goes (option_and_then (if_new before) (ref_in kind g.0)) (λ r. reading.Listing kind (before ++ r ∷ [])) t g.2 in
    let more = listed kind (before ++ s.0 ∷ []) (next ∷ lines) x (subst (λ (r : ReplyParser). Tells step_of r (next ∷ lines) x) (sym s.2) h) in
    record {
      refs = s.0 ∷ more.refs;
      said = g.0 ∷ more.said;
      texts = flushed_more g.0 more.said line (next ∷ lines) g.1 more.texts;
      each = (listed_ref kind before g.0 s.0 s.1, more.each);
      told = more.told ∙ ap (λ (rs : List Ref). tolds.Listing rs) (append_assoc before (s.0 ∷ []) more.refs);
    }

same_listing : (a b : List Ref) → tolds.Listing a ≡ tolds.Listing b → a ≡ b
same_listing a b is = cc

pub listing_told : (kind : Kind) (refs : List Ref) (lines : List Line) → Tells step_of (reading.Listing kind []) lines (tolds.Listing refs) → AreNamedOnce refs → IsListing kind refs lines
listing_told kind refs lines tells once =
    let l = listed kind [] lines (tolds.Listing refs) tells in
    record { said = l.said; texts = l.texts; each = subst (λ (rs : List Ref). AreRefs kind rs l.said) (sym (same_listing refs l.refs l.told)) l.each; once = once }
