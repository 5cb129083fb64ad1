-- Lines that were read as an advertisement of version 1, and what they say.
use Rattle.std.proofs.Common.{◌≡◌, ◌≢◌, ◌⊎◌, inl, inr, ℕ, Bool, true, false, List, [], ◌∷◌, ◌++◌, Option, Some, None, refl, sym, ap, ◌∙◌, subst, append_assoc, codes}
use Rattle.std.specs.Prelude.{if◌then◌else◌}
use Rattle.std.specs.Option.{option_map, option_and_then, option_or}
use Rattle.std.proofs.lemmas.List.{append-nil}
use Rattle.fetch_base.specs.Id.{id_in_hex}
use Rattle.fetch_base.specs.Lines.{IsWithout}
use Rattle.fetch_base.specs.Scan.{split_first, after}
use Rattle.fetch_base.specs.declared.id.Kind.{Kind}
use Rattle.fetch_base.specs.declared.id.ObjectId.{ObjectId}
use Rattle.fetch_base.proofs.LineLaws.{splits}
use Rattle.fetch_base.proofs.Words.{after_is}
use Rattle.fetch_replies.specs.declared.replies.reply.ParsedReply.{ParsedReply}
use Rattle.fetch_replies.specs.declared.replies.reply.ParsedReply.TheVariants as tolds
use Rattle.fetch_lines.specs.declared.greetings.handshake.Capability.{Capability}
use Rattle.fetch_lines.specs.declared.greetings.handshake.Handshake.{Handshake}
use Rattle.fetch_lines.specs.declared.lines.line.Line.{Line}
use Rattle.fetch_lines.specs.declared.lines.line.Line.TheVariants.{Flush}
use Rattle.fetch_replies.specs.declared.replies.parser.Advertised.{Advertised}
use Rattle.fetch_replies.specs.declared.replies.parser.Advertised.TheVariants as nexts
use Rattle.fetch_replies.specs.declared.replies.parser.ReplyParser.{ReplyParser}
use Rattle.fetch_replies.specs.declared.replies.parser.ReplyParser.TheVariants as reading
use Rattle.fetch_lines.specs.declared.listings.reference.Ref.{Ref}
use Rattle.fetch_wire.specs.AdvertisementSpellings.{IsNamed, ArePeels, AreAdvertised, AreReferences, AreShallow, IsAdvertisement}
use Rattle.fetch_replies.specs.Advertisements.{is_version_1, with_words, handshake_1, target_among, id_and_name, before_peel, is_no_name, is_null, advertised, peeled_to, with_peel, at_name, at_reference, at_advertised, first_named, at_first}
use Rattle.fetch_replies.specs.Awaited.{step_of, at_greeting}
use Rattle.fetch_replies.specs.FetchReplies.{shallow_in}
use Rattle.fetch_lines.specs.Greetings.{is_version_2}
use Rattle.fetch_replies.specs.LinesTold.{Tells}
use Rattle.fetch_replies.specs.NamesTold.{AreNamedOnce}
use Rattle.fetch_lines.specs.References.{name_in, id_in, peeled_in, target_in}
use Rattle.fetch_wire.specs.Spellings.{IsText, AreFlushed, Spells}
use Rattle.fetch_replies.specs.Stepping.{goes, ends, breaks, or_breaks}
use Rattle.fetch_lines.specs.Words.{words}
use Rattle.fetch_wire.proofs.Spelled.{if_step, text_goes, text_ends, flush_ends, never_ends, flushed_more, flushed_none, chosen, greeting_never_ends, no_capabilities}
use Rattle.fetch_wire.proofs.SpelledNames.{exactly, offered, some_is, named_of, peel_is, fresh, peeled_so, last_peeled, Offered, IsFresh}

-- ---- one line

-- a text of a commit of the border, or one that names
data AdLine (h : Handshake) (before : List Ref) (said : List ℕ) (t : ReplyParser) : Advertised → Type 0 where
  shallow : (allowed : Advertised) (digits : List ℕ) (id : ObjectId) → said ≡ codes "shallow " ++ digits → Spells h.object_hash digits id → reading.Advertisement h before nexts.Shallow ≡ t → AdLine h before said t allowed
  reference : (allowed : Advertised) (id : ObjectId) (name : List ℕ) (r : Ref) → allowed ≢ nexts.Shallow → IsNamed h.object_hash id name said → before_peel name ≡ None → IsFresh h r id name → reading.Advertisement h (before ++ r ∷ []) nexts.Reference ≡ t → AdLine h before said t allowed
  peel : (id : ObjectId) (short : List ℕ) (refs : List Ref) → IsNamed h.object_hash id (short ++ codes "^{}") said → with_peel id short before ≡ Some refs → reading.Advertisement h refs nexts.Peeled ≡ t → AdLine h before said t nexts.Reference

name_line : (h : Handshake) (before : List Ref) (said : List ℕ) (t : ReplyParser) (allowed : Advertised) (id : ObjectId) (name : List ℕ) (short : Option (List ℕ)) → before_peel name ≡ short → IsNamed h.object_hash id name said
    → at_name h before allowed id name short ≡ Some t → AdLine h before said t allowed
name_line h before said t nexts.Reference id name None e named is = by_ref (advertised h before id name) refl is
  where
    by_ref : (o : Option Ref) → advertised h before id name ≡ o → option_map (λ r. reading.Advertisement h (before ++ r ∷ []) nexts.Reference) o ≡ Some t → AdLine h before said t nexts.Reference
    by_ref None f g = absurd cc
    by_ref (Some r) f g = reference nexts.Reference id name r (λ x. cc) named e (fresh h before id name r f) (some_is _ _ g)
name_line h before said t nexts.Reference id name (Some short) e named is = by_refs (with_peel id short before) refl is
  where
    by_refs : (o : Option (List Ref)) → with_peel id short before ≡ o → option_map (λ refs. reading.Advertisement h refs nexts.Peeled) o ≡ Some t → AdLine h before said t nexts.Reference
    by_refs None f g = absurd cc
    by_refs (Some refs) f g = peel id short refs (subst (λ (n : List ℕ). IsNamed h.object_hash id n said) (peel_is name short e) named) f (some_is _ _ g)
name_line h before said t nexts.Peeled id name None e named is = by_ref (advertised h before id name) refl is
  where
    by_ref : (o : Option Ref) → advertised h before id name ≡ o → option_map (λ r. reading.Advertisement h (before ++ r ∷ []) nexts.Reference) o ≡ Some t → AdLine h before said t nexts.Peeled
    by_ref None f g = absurd cc
    by_ref (Some r) f g = reference nexts.Peeled id name r (λ x. cc) named e (fresh h before id name r f) (some_is _ _ g)
name_line h before said t nexts.Peeled id name (Some short) e named is = absurd cc
name_line h before said t nexts.Shallow id name short e named is = absurd cc

shallow_told : (kind : Kind) (said : List ℕ) (id : ObjectId) → shallow_in kind said ≡ Some id → (digits : List ℕ) × (said ≡ codes "shallow " ++ digits) × Spells kind digits id
unfolding shallow_in
shallow_told kind said id is = by_word (after (codes "shallow ") said) refl is
  where
    by_word : (o : Option (List ℕ)) → after (codes "shallow ") said ≡ o → option_and_then (id_in_hex kind) o ≡ Some id → (digits : List ℕ) × (said ≡ codes "shallow " ++ digits) × Spells kind digits id
    by_word None e h = absurd cc
    by_word (Some digits) e h = (digits, after_is (codes "shallow ") said digits e, h)

ad_line : (h : Handshake) (before : List Ref) (allowed : Advertised) (said : List ℕ) (t : ReplyParser) → at_advertised h before allowed said ≡ goes t → AdLine h before said t allowed
ad_line h before allowed said t is = by_shallow (shallow_in h.object_hash said) refl (chosen _ t is)
  where
    by_named : (o : Option (ObjectId × List ℕ)) → id_and_name h.object_hash said ≡ o → option_and_then (λ x. at_name h before allowed x.0 x.1 (before_peel x.1)) o ≡ Some t → AdLine h before said t allowed
    by_named None e g = absurd cc
    by_named (Some (id, name)) e g = name_line h before said t allowed id name (before_peel name) refl (named_of h.object_hash said id name e) g

    by_shallow : (o : Option ObjectId) → shallow_in h.object_hash said ≡ o → option_or (option_map (λ id. reading.Advertisement h before nexts.Shallow) o) (at_reference h before allowed said) ≡ Some t → AdLine h before said t allowed
    by_shallow (Some id) e g = let s = shallow_told h.object_hash said id e in shallow allowed s.0 id s.1 s.2 (some_is _ _ g)
    by_shallow None e g = by_named (id_and_name h.object_hash said) refl g

-- ---- the lines after

-- references after those that were told before, and the border
record More (h : Handshake) (before : List Ref) (lines : List Line) (x : ParsedReply) : Type 0 where
  refs : List Ref
  others : List (List ℕ)
  border : List (List ℕ)
  texts : AreFlushed (others ++ border) lines
  each : AreAdvertised h refs others
  shallow : AreShallow h.object_hash border
  told : x ≡ tolds.Advertisement h (before ++ refs)

-- the border alone
record Border (h : Handshake) (before : List Ref) (lines : List Line) (x : ParsedReply) : Type 0 where
  border : List (List ℕ)
  texts : AreFlushed border lines
  shallow : AreShallow h.object_hash border
  told : x ≡ tolds.Advertisement h before

-- the last reference, with what it peels to, and those after it
record Last (h : Handshake) (front : List Ref) (r : Ref) (lines : List Line) (x : ParsedReply) : Type 0 where
  own : Ref
  behind : List (List ℕ)
  refs : List Ref
  others : List (List ℕ)
  border : List (List ℕ)
  texts : AreFlushed ((behind ++ others) ++ border) lines
  name : name_in own ≡ name_in r
  born : id_in own ≡ id_in r
  target : target_in own ≡ target_in r
  peel : ArePeels h.object_hash (name_in r) (peeled_in own) behind
  each : AreAdvertised h refs others
  shallow : AreShallow h.object_hash border
  told : x ≡ tolds.Advertisement h (front ++ own ∷ refs)

abbrev Outcome : Handshake → List Ref → Advertised → List Line → ParsedReply → Type 0
Outcome h before nexts.Shallow lines x = Border h before lines x
Outcome h before nexts.Peeled lines x = More h before lines x
Outcome h before nexts.Reference lines x = (front : List Ref) (r : Ref) (id : ObjectId) (name : List ℕ) → before ≡ front ++ r ∷ [] → IsFresh h r id name → Last h front r lines x

at_end : (h : Handshake) (before : List Ref) (allowed : Advertised) (line : Line) (x : ParsedReply) → line ≡ Flush → tolds.Advertisement h before ≡ x → Outcome h before allowed (line ∷ []) x
at_end h before nexts.Shallow line x flush is = record { border = []; texts = flushed_none line flush; shallow = tt; told = sym is }
at_end h before nexts.Peeled line x flush is = record { refs = []; others = []; border = []; texts = flushed_none line flush; each = refl; shallow = tt; told = sym is ∙ ap (tolds.Advertisement h) (sym (append-nil before)) }
at_end h before nexts.Reference line x flush is = λ front r id name was fr. record {
  own = r;
  behind = [];
  refs = [];
  others = [];
  border = [];
  texts = flushed_none line flush;
  name = refl;
  born = refl;
  target = refl;
  peel = subst (λ (p : Option ObjectId). ArePeels h.object_hash (name_in r) p []) (sym fr.unpeeled) refl;
  each = refl;
  shallow = tt;
  told = sym is ∙ ap (tolds.Advertisement h) was;
}

-- one reference more, which the lines after it complete
one_more : (h : Handshake) (before : List Ref) (said : List ℕ) (line : Line) (lines : List Line) (x : ParsedReply) (r : Ref) (id : ObjectId) (name : List ℕ) → IsText said line → IsNamed h.object_hash id name said → before_peel name ≡ None → IsFresh h r id name
    → Last h before r lines x → More h before (line ∷ lines) x
one_more h before said line lines x r id name is named whole fr l = record {
  refs = l.own ∷ l.refs;
  others = said ∷ (l.behind ++ l.others);
  border = l.border;
  texts = flushed_more said ((l.behind ++ l.others) ++ l.border) line lines is l.texts;
  each = (
    l.behind,
    l.others,
    refl,
    record {
      id = id;
      born = l.born ∙ fr.born;
      text = subst (λ (n : List ℕ). IsNamed h.object_hash id n said) (sym own_name) named;
      peel = subst (λ (n : List ℕ). ArePeels h.object_hash n (peeled_in l.own) l.behind) (sym l.name) l.peel;
      name = λ e. fr.some (sym own_name ∙ e);
      unpeeled = ap before_peel own_name ∙ whole;
      target = l.target ∙ fr.target ∙ ap (λ (n : List ℕ). target_among n h.capabilities) (sym own_name);
    },
    l.each,
  );
  shallow = l.shallow;
  told = l.told;
}
  where
    own_name : name_in l.own ≡ name
    own_name = l.name ∙ fr.name_is

-- lines that tell no more of the last reference
as_last : (h : Handshake) (before front : List Ref) (r : Ref) (id : ObjectId) (name : List ℕ) (lines : List Line) (x : ParsedReply) → before ≡ front ++ r ∷ [] → IsFresh h r id name → More h before lines x → Last h front r lines x
as_last h before front r id name lines x was fr m = record {
  own = r;
  behind = [];
  refs = m.refs;
  others = m.others;
  border = m.border;
  texts = m.texts;
  name = refl;
  born = refl;
  target = refl;
  peel = subst (λ (p : Option ObjectId). ArePeels h.object_hash (name_in r) p []) (sym fr.unpeeled) refl;
  each = m.each;
  shallow = m.shallow;
  told = m.told ∙ ap (λ (l : List Ref). tolds.Advertisement h (l ++ m.refs)) was ∙ ap (tolds.Advertisement h) (append_assoc front (r ∷ []) m.refs);
}

border_more : (h : Handshake) (before : List Ref) (said : List ℕ) (line : Line) (lines : List Line) (x : ParsedReply) (digits : List ℕ) (id : ObjectId) → IsText said line → said ≡ codes "shallow " ++ digits → Spells h.object_hash digits id → Border h before lines x → Border h before (line ∷ lines) x
border_more h before said line lines x digits id is text spelled b = record { border = said ∷ b.border; texts = flushed_more said b.border line lines is b.texts; shallow = ((digits, id, text, spelled), b.shallow); told = b.told }

border_only : (h : Handshake) (before : List Ref) (lines : List Line) (x : ParsedReply) → Border h before lines x → More h before lines x
border_only h before lines x b = record { refs = []; others = []; border = b.border; texts = b.texts; each = refl; shallow = b.shallow; told = b.told ∙ ap (tolds.Advertisement h) (sym (append-nil before)) }

-- the tag of the last reference was peeled
peel_more : (h : Handshake) (front : List Ref) (r : Ref) (own id : ObjectId) (name short said : List ℕ) (line : Line) (lines : List Line) (x : ParsedReply) → IsText said line → IsNamed h.object_hash id (short ++ codes "^{}") said → name_in r ≡ short → IsFresh h r own name
    → More h (front ++ peeled_to id r ∷ []) lines x → Last h front r (line ∷ lines) x
peel_more h front r own id name short said line lines x is named same fr m =
    let p = peeled_so r own id fr.born fr.unpeeled in
    record {
      own = peeled_to id r;
      behind = said ∷ [];
      refs = m.refs;
      others = m.others;
      border = m.border;
      texts = flushed_more said (m.others ++ m.border) line lines is m.texts;
      name = p.name;
      born = p.born;
      target = p.target;
      peel = subst (λ (o : Option ObjectId). ArePeels h.object_hash (name_in r) o (said ∷ [])) (sym p.peeled) (subst (λ (n : List ℕ). IsNamed h.object_hash id (n ++ codes "^{}") said) (sym same) named, refl);
      each = m.each;
      shallow = m.shallow;
      told = m.told ∙ ap (tolds.Advertisement h) (append_assoc front (peeled_to id r ∷ []) m.refs);
    }

abbrev Goes : Handshake → List Line → ParsedReply → Type 0
Goes h lines x = (refs : List Ref) (allowed : Advertised) → Tells step_of (reading.Advertisement h refs allowed) lines x → Outcome h refs allowed lines x

by_reference : (h : Handshake) (before : List Ref) (said : List ℕ) (line : Line) (lines : List Line) (x : ParsedReply) (r : Ref) (id : ObjectId) (name : List ℕ) → IsText said line → IsNamed h.object_hash id name said → before_peel name ≡ None → IsFresh h r id name
    → Outcome h (before ++ r ∷ []) nexts.Reference lines x → More h before (line ∷ lines) x
by_reference h before said line lines x r id name is named whole fr out = one_more h before said line lines x r id name is named whole fr (out before r id name refl fr)

after_line : (h : Handshake) (before : List Ref) (allowed : Advertised) (said : List ℕ) (line : Line) (lines : List Line) (t : ReplyParser) (x : ParsedReply) → IsText said line → AdLine h before said t allowed → Tells step_of t lines x → Goes h lines x → Outcome h before allowed (line ∷ lines) x
after_line h before nexts.Shallow said line lines t x is (shallow _ digits id text spelled goes_so) tells again =
    border_more h before said line lines x digits id is text spelled (again before nexts.Shallow (subst (λ (s : ReplyParser). Tells step_of s lines x) (sym goes_so) tells))
after_line h before nexts.Shallow said line lines t x is (reference _ id name r open_yet named whole fr goes_so) tells again = absurd (open_yet refl)
after_line h before nexts.Peeled said line lines t x is (shallow _ digits id text spelled goes_so) tells again =
    border_only h before (line ∷ lines) x (border_more h before said line lines x digits id is text spelled (again before nexts.Shallow (subst (λ (s : ReplyParser). Tells step_of s lines x) (sym goes_so) tells)))
after_line h before nexts.Peeled said line lines t x is (reference _ id name r open_yet named whole fr goes_so) tells again =
    by_reference h before said line lines x r id name is named whole fr (again (before ++ r ∷ []) nexts.Reference (subst (λ (s : ReplyParser). Tells step_of s lines x) (sym goes_so) tells))
after_line h before nexts.Reference said line lines t x is (shallow _ digits id text spelled goes_so) tells again = λ front r own name was fr.
    as_last h before front r own name (line ∷ lines) x was fr
    (border_only h before (line ∷ lines) x (border_more h before said line lines x digits id is text spelled (again before nexts.Shallow (subst (λ (s : ReplyParser). Tells step_of s lines x) (sym goes_so) tells))))
after_line h before nexts.Reference said line lines t x is (reference _ id n s open_yet named whole fresh_one goes_so) tells again = λ front r own name was fr.
    as_last h before front r own name (line ∷ lines) x was fr
    (by_reference h before said line lines x s id n is named whole fresh_one (again (before ++ s ∷ []) nexts.Reference (subst (λ (s : ReplyParser). Tells step_of s lines x) (sym goes_so) tells)))
after_line h before nexts.Reference said line lines t x is (peel id short refs named peeled goes_so) tells again = λ front r own name was fr.
    let p = last_peeled id short front r refs (ap (with_peel id short) (sym was) ∙ peeled) in
    peel_more h front r own id name short said line lines x is named p.0 fr
    (again (front ++ peeled_to id r ∷ []) nexts.Peeled (subst (λ (s : ReplyParser). Tells step_of s lines x) (sym goes_so ∙ ap (λ (rs : List Ref). reading.Advertisement h rs nexts.Peeled) p.1) tells))

goes_all : (h : Handshake) (before : List Ref) (allowed : Advertised) (lines : List Line) (x : ParsedReply) → Tells step_of (reading.Advertisement h before allowed) lines x → Outcome h before allowed lines x
unfolding step_of
goes_all h before allowed [] x tells = absurd tells
goes_all h before allowed (line ∷ []) x tells =
    let e = flush_ends (tolds.Advertisement h before) (at_advertised h before allowed) line x (λ text. never_ends _ (λ s. s) x) tells in at_end h before allowed line x e.0 e.1
goes_all h before allowed (line ∷ next ∷ lines) x (t, goes_on, tells) =
    let g = text_goes (ends (tolds.Advertisement h before)) breaks (at_advertised h before allowed) line t (λ e. cc) (λ e. cc) goes_on in
    after_line h before allowed g.0 line (next ∷ lines) t x g.1 (ad_line h before allowed g.0 t g.2) tells (λ refs a. goes_all h refs a (next ∷ lines) x)

-- ---- the first line

-- what the first line tells, and the lines after it
record Advertises (said : List ℕ) (line : Line) (lines : List Line) (x : ParsedReply) : Type 0 where
  handshake : Handshake
  refs : List Ref
  first : List ℕ
  capabilities : List ℕ
  others : List (List ℕ)
  border : List (List ℕ)
  is : said ≡ first ++ 0 ∷ capabilities
  texts : AreFlushed (others ++ border) lines
  made : handshake ≡ handshake_1 handshake.capabilities
  whole : IsWithout 0 first
  offers : Offered handshake.capabilities capabilities
  references : AreReferences handshake refs first others
  shallow : AreShallow handshake.object_hash border
  told : x ≡ tolds.Advertisement handshake refs

no_refs : (cs : List Capability) (first behind said : List ℕ) (line : Line) (lines : List Line) (x : ParsedReply) (id : ObjectId) → said ≡ first ++ 0 ∷ behind → IsWithout 0 first → Offered cs behind → is_null id ≡ true → IsNamed (handshake_1 cs).object_hash id (codes "capabilities^{}") first
    → Border (handshake_1 cs) [] lines x → Advertises said line lines x
no_refs cs first behind said line lines x id is whole offers null named b = record {
  handshake = handshake_1 cs;
  refs = [];
  first = first;
  capabilities = behind;
  others = [];
  border = b.border;
  is = is;
  texts = b.texts;
  made = refl;
  whole = whole;
  offers = offers;
  references = ((id, null, named), refl);
  shallow = b.shallow;
  told = b.told;
}

some_refs : (cs : List Capability) (first behind said : List ℕ) (line : Line) (lines : List Line) (x : ParsedReply) (r : Ref) (id : ObjectId) (name : List ℕ) → said ≡ first ++ 0 ∷ behind → IsWithout 0 first → Offered cs behind → IsNamed (handshake_1 cs).object_hash id name first → before_peel name ≡ None
    → IsFresh (handshake_1 cs) r id name → Last (handshake_1 cs) [] r lines x → Advertises said line lines x
some_refs cs first behind said line lines x r id name is whole offers named unpeeled fr l = record {
  handshake = handshake_1 cs;
  refs = l.own ∷ l.refs;
  first = first;
  capabilities = behind;
  others = l.behind ++ l.others;
  border = l.border;
  is = is;
  texts = l.texts;
  made = refl;
  whole = whole;
  offers = offers;
  references = (
    l.behind,
    l.others,
    refl,
    record {
      id = id;
      born = l.born ∙ fr.born;
      text = subst (λ (n : List ℕ). IsNamed (handshake_1 cs).object_hash id n first) (sym own_name) named;
      peel = subst (λ (n : List ℕ). ArePeels (handshake_1 cs).object_hash n (peeled_in l.own) l.behind) (sym l.name) l.peel;
      name = λ e. fr.some (sym own_name ∙ e);
      unpeeled = ap before_peel own_name ∙ unpeeled;
      target = l.target ∙ fr.target ∙ ap (λ (n : List ℕ). target_among n cs) (sym own_name);
    },
    l.each,
  );
  shallow = l.shallow;
  told = l.told;
}
  where
    own_name : name_in l.own ≡ name
    own_name = l.name ∙ fr.name_is

no_name_is : (name : List ℕ) → is_no_name name ≡ true → name ≡ codes "capabilities^{}"
unfolding is_no_name
no_name_is name is = exactly name (codes "capabilities^{}") is

-- the first text, split at its NUL, before these lines
module _ (said : List ℕ) (line : Line) (lines : List Line) (t : ReplyParser) (x : ParsedReply) (tells : Tells step_of t lines x) (first behind : List ℕ) (text : said ≡ first ++ 0 ∷ behind) (whole : IsWithout 0 first) (cs : List Capability) (offers : Offered cs behind) where
  first_ref : (id : ObjectId) (name : List ℕ) (o : Option Ref) → IsNamed (handshake_1 cs).object_hash id name first → before_peel name ≡ None → advertised (handshake_1 cs) [] id name ≡ o
      → option_map (λ r. reading.Advertisement (handshake_1 cs) ([] ++ r ∷ []) nexts.Reference) o ≡ Some t → Advertises said line lines x
  first_ref id name None named unpeeled e h = absurd cc
  first_ref id name (Some r) named unpeeled e h =
      let fr = fresh (handshake_1 cs) [] id name r e in
      some_refs cs first behind said line lines x r id name text whole offers named unpeeled fr
      (goes_all (handshake_1 cs) (r ∷ []) nexts.Reference lines x (subst (λ (s : ReplyParser). Tells step_of s lines x) (sym (some_is _ _ h)) tells) [] r id name refl fr)

  first_name : (id : ObjectId) (name : List ℕ) (short : Option (List ℕ)) → IsNamed (handshake_1 cs).object_hash id name first → before_peel name ≡ short → at_name (handshake_1 cs) [] nexts.Peeled id name short ≡ Some t → Advertises said line lines x
  first_name id name None named e h = first_ref id name (advertised (handshake_1 cs) [] id name) named e refl h
  first_name id name (Some short) named e h = absurd cc

  first_by : (id : ObjectId) (name : List ℕ) (a b : Bool) → IsNamed (handshake_1 cs).object_hash id name first → is_no_name name ≡ a → is_null id ≡ b
      → (if a then (if b then Some (reading.Advertisement (handshake_1 cs) [] nexts.Shallow) else None) else at_name (handshake_1 cs) [] nexts.Peeled id name (before_peel name)) ≡ Some t → Advertises said line lines x
  first_by id name true true named e f h =
      no_refs cs first behind said line lines x id text whole offers f (subst (λ (n : List ℕ). IsNamed (handshake_1 cs).object_hash id n first) (no_name_is name e) named)
      (goes_all (handshake_1 cs) [] nexts.Shallow lines x (subst (λ (s : ReplyParser). Tells step_of s lines x) (sym (some_is _ _ h)) tells))
  first_by id name true false named e f h = absurd cc
  first_by id name false b named e f h = first_name id name (before_peel name) named refl h

  first_id : (o : Option (ObjectId × List ℕ)) → id_and_name (handshake_1 cs).object_hash first ≡ o → option_and_then (first_named (handshake_1 cs)) o ≡ Some t → Advertises said line lines x
  first_id None e h = absurd cc
  first_id (Some (id, name)) e h = first_by id name (is_no_name name) (is_null id) (named_of (handshake_1 cs).object_hash first id name e) refl refl h

first_words : (said : List ℕ) (line : Line) (lines : List Line) (t : ReplyParser) (x : ParsedReply) → Tells step_of t lines x → (first behind : List ℕ) (o : Option (List Capability)) → said ≡ first ++ 0 ∷ behind → IsWithout 0 first → with_words [] (words behind) ≡ o
    → option_and_then (λ capabilities. option_and_then (first_named (handshake_1 capabilities)) (id_and_name (handshake_1 capabilities).object_hash first)) o ≡ Some t → Advertises said line lines x
first_words said line lines t x tells first behind None text whole e h = absurd cc
first_words said line lines t x tells first behind (Some cs) text whole e h = first_id said line lines t x tells first behind text whole cs (offered behind cs e) (id_and_name (handshake_1 cs).object_hash first) refl h

first_line : (said : List ℕ) (line : Line) (lines : List Line) (t : ReplyParser) (x : ParsedReply) → at_first said ≡ Some t → Tells step_of t lines x → Advertises said line lines x
first_line said line lines t x is tells = by_split (split_first 0 said) refl is
  where
    by_split : (o : Option (List ℕ × List ℕ)) → split_first 0 said ≡ o
        → option_and_then (λ parts. option_and_then (λ capabilities. option_and_then (first_named (handshake_1 capabilities)) (id_and_name (handshake_1 capabilities).object_hash parts.0)) (with_words [] (words parts.1))) o ≡ Some t → Advertises said line lines x
    by_split None e h = absurd cc
    by_split (Some (first, behind)) e h = let s = (splits 0 said).found first behind e in first_words said line lines t x tells first behind (with_words [] (words behind)) s.0 s.1 refl h

-- ---- the whole

same_told : (g h : Handshake) (rs ss : List Ref) → tolds.Advertisement g rs ≡ tolds.Advertisement h ss → (g ≡ h) × (rs ≡ ss)
same_told g h rs ss is = (cc, cc)

-- what stands before the texts of an advertisement
abbrev Placed : List Line → List ℕ → List Line → Type 0
Placed all said lines = (texts : List (List ℕ)) → AreFlushed texts lines → AreFlushed (said ∷ texts) all ⊎ AreFlushed (codes "version 1" ∷ said ∷ texts) all

whole_told : (h : Handshake) (refs : List Ref) (said : List ℕ) (line : Line) (lines all : List Line) → Placed all said lines → AreNamedOnce refs → Advertises said line lines (tolds.Advertisement h refs) → IsAdvertisement h refs all
whole_told h refs said line lines all placed once a =
    let same = same_told a.handshake h a.refs refs (sym a.told) in
    subst (λ (g : Handshake). IsAdvertisement g refs all) same.0 (subst (λ (rs : List Ref). IsAdvertisement a.handshake rs all) same.1 (record {
      made = a.made;
      first = a.first;
      capabilities = a.capabilities;
      others = a.others;
      border = a.border;
      lines_are = subst (λ (s : List ℕ). AreFlushed (s ∷ a.others ++ a.border) all ⊎ AreFlushed (codes "version 1" ∷ s ∷ a.others ++ a.border) all) a.is (placed (a.others ++ a.border) a.texts);
      whole = a.whole;
      words = a.offers.words;
      tellable = a.offers.tellable;
      references = a.references;
      shallow = a.shallow;
      once = subst AreNamedOnce (sym same.1) once;
    }))

version_1_is : (said : List ℕ) → is_version_1 said ≡ true → said ≡ codes "version 1"
unfolding is_version_1
version_1_is said is = exactly said (codes "version 1") is

behind_version : (h : Handshake) (refs : List Ref) (line : Line) (lines : List Line) → IsText (codes "version 1") line → AreNamedOnce refs → Tells step_of reading.Version lines (tolds.Advertisement h refs) → IsAdvertisement h refs (line ∷ lines)
unfolding step_of
behind_version h refs line [] is once tells = absurd tells
behind_version h refs line (next ∷ []) is once tells =
    let e = text_ends (λ text. or_breaks (at_first text) (λ s. goes s)) next (tolds.Advertisement h refs) tells in absurd (never_ends (at_first e.0) (λ s. s) (tolds.Advertisement h refs) e.2)
behind_version h refs line (next ∷ more ∷ lines) is once (t, goes_on, tells) =
    let g = text_goes breaks breaks (λ text. or_breaks (at_first text) (λ s. goes s)) next t (λ e. cc) (λ e. cc) goes_on in
    whole_told h refs g.0 next (more ∷ lines) (line ∷ next ∷ more ∷ lines)
    (λ texts f. inr (flushed_more (codes "version 1") (g.0 ∷ texts) line (next ∷ more ∷ lines) is (flushed_more g.0 texts next (more ∷ lines) g.1 f))) once
    (first_line g.0 next (more ∷ lines) t (tolds.Advertisement h refs) (chosen (at_first g.0) t g.2) tells)

pub advertisement_told : (h : Handshake) (refs : List Ref) (lines : List Line) → Tells step_of reading.Greeting lines (tolds.Advertisement h refs) → AreNamedOnce refs → IsAdvertisement h refs lines
unfolding step_of
advertisement_told h refs [] tells once = absurd tells
advertisement_told h refs (line ∷ []) tells once = let e = text_ends at_greeting line (tolds.Advertisement h refs) tells in absurd (greeting_never_ends e.0 (tolds.Advertisement h refs) e.2)
advertisement_told h refs (line ∷ next ∷ lines) (t, goes_on, tells) once =
    let g = text_goes breaks breaks at_greeting line t (λ e. cc) (λ e. cc) goes_on in by_version g.0 g.1 (is_version_2 g.0) (is_version_1 g.0) refl g.2
  where
    by_version : (said : List ℕ) → IsText said line → (a b : Bool) → is_version_1 said ≡ b
        → (if_step a (goes (reading.Capabilities [])) (if_step b (goes reading.Version) (or_breaks (at_first said) (λ s. goes s)))) ≡ goes t → IsAdvertisement h refs (line ∷ next ∷ lines)
    by_version said is true b e f = absurd (no_capabilities (next ∷ lines) h refs (subst (λ (r : ReplyParser). Tells step_of r (next ∷ lines) (tolds.Advertisement h refs)) (let s : reading.Capabilities [] ≡ t = cc in sym s) tells))
    by_version said is false true e f =
        behind_version h refs line (next ∷ lines) (subst (λ (s : List ℕ). IsText s line) (version_1_is said e) is) once
        (subst (λ (r : ReplyParser). Tells step_of r (next ∷ lines) (tolds.Advertisement h refs)) (let s : reading.Version ≡ t = cc in sym s) tells)
    by_version said is false false e f =
        whole_told h refs said line (next ∷ lines) (line ∷ next ∷ lines) (λ texts fl. inl (flushed_more said texts line (next ∷ lines) is fl)) once
        (first_line said line (next ∷ lines) t (tolds.Advertisement h refs) (chosen (at_first said) t f) tells)
