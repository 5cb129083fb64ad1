-- What the grammar of an advertisement of version 1 writes, in any of its spellings, is read.
use Rattle.std.proofs.Common.{◌≡◌, ◌⊎◌, inl, inr, ℕ, Bool, true, false, not, List, [], ◌∷◌, ◌++◌, map, Option, Some, None, option_map, option_and_then, refl, sym, ap, ◌∙◌, subst, append_assoc, All, codes, bytes_eq, ◌==◌}
use Rattle.std.specs.List.{AllPass}
use Rattle.std.specs.Option.{option_or}
use Rattle.std.proofs.lemmas.Bool.{eqb-true}
use Rattle.std.proofs.lemmas.List.{append-nil}
use Rattle.std.proofs.lemmas.List.Elements.{All-head, All-tail}
use Rattle.std.proofs.lemmas.Slice.Eq.{bytes_eq-Decides}
use Rattle.hex.specs.Hex.{is_hex_digit}
use Rattle.fetch_base.specs.Id.{id_in_hex}
use Rattle.fetch_base.specs.Lines.{IsWithout}
use Rattle.fetch_base.specs.declared.id.Kind.{Kind}
use Rattle.fetch_base.specs.declared.id.ObjectId.{ObjectId}
use Rattle.fetch_base.proofs.LineLaws.{splits}
use Rattle.fetch_replies.specs.declared.replies.reply.ParsedReply.{ParsedReply}
use Rattle.fetch_replies.specs.declared.replies.reply.ParsedReply.TheVariants as tolds
use Rattle.fetch_lines.specs.declared.greetings.handshake.Capability.{Capability}
use Rattle.fetch_lines.specs.declared.greetings.handshake.Handshake.{Handshake}
use Rattle.fetch_lines.specs.declared.lines.line.Line.{Line}
use Rattle.fetch_lines.specs.declared.lines.line.Line.TheVariants.{Flush}
use Rattle.fetch_replies.specs.declared.replies.parser.Advertised.{Advertised}
use Rattle.fetch_replies.specs.declared.replies.parser.Advertised.TheVariants as next
use Rattle.fetch_replies.specs.declared.replies.parser.ReplyParser.{ReplyParser}
use Rattle.fetch_replies.specs.declared.replies.parser.ReplyParser.TheVariants as reading
use Rattle.fetch_lines.specs.declared.listings.reference.Ref.{Ref}
use Rattle.fetch_lines.specs.AdvertisementLines.{joined}
use Rattle.fetch_wire.specs.AdvertisementSpellings.{some_words, AreWords, IsNamed, ArePeels, IsAdvertised, AreAdvertised, AreReferences, AreShallow, IsAdvertisement}
use Rattle.fetch_replies.specs.Advertisements.{is_version_1, with_word, with_words, handshake_1, id_and_name, before_peel, at_name, at_reference, at_advertised, first_named, at_first}
use Rattle.fetch_replies.specs.Awaited.{step_of, at_greeting}
use Rattle.fetch_replies.specs.FetchReplies.{shallow_in}
use Rattle.fetch_lines.specs.Greetings.{is_version_2}
use Rattle.fetch_replies.specs.LinesTold.{Tells}
use Rattle.fetch_replies.specs.Listings.{is_listed}
use Rattle.fetch_replies.specs.NamesTold.{AreNamedOnce}
use Rattle.fetch_lines.specs.References.{name_in, peeled_in}
use Rattle.fetch_lines.specs.ServerLines.{capability_text, IsTellable}
use Rattle.fetch_wire.specs.Spellings.{IsText, AreTexts, AreFlushed, Spells}
use Rattle.fetch_replies.specs.Stepping.{goes, ends, breaks, or_breaks}
use Rattle.fetch_lines.specs.Words.{words}
use Rattle.fetch_wire.proofs.AdvertisementLines.{word_by, text_some, peel_read, unpeeled, not_peeled, own_told, peel_told, IsOpen, named_by, behind_ref, stays_open, closes, first_named_is, no_ref}
use Rattle.fetch_replies.proofs.GreetingLines.{tells_capability, not_within}
use Rattle.fetch_replies.proofs.IdTexts.{none_after}
use Rattle.fetch_wire.proofs.InWords.{by_spelled, hex_of, spelled_whole, comes_read}
use Rattle.fetch_replies.proofs.ListingLines.{apart, words_spaced}
use Rattle.fetch_replies.proofs.Moving.{first_tells}

-- ---- capabilities

-- words of which some may be empty
words_read : (found : List Capability) (all : List (List ℕ)) (cs : List Capability) → All IsTellable cs → map capability_text cs ≡ some_words all → with_words found all ≡ Some (found ++ cs)
words_read found [] [] are same = ap Some (sym (append-nil found))
words_read found [] (c ∷ cs) are same = absurd cc
words_read found ([] ∷ others) cs are same = words_read found others cs are same
words_read found ((b ∷ bytes) ∷ others) [] are same = absurd cc
words_read found ((b ∷ bytes) ∷ others) (c ∷ cs) are same =
    let is = All-head IsTellable c cs are in
    let own : capability_text c ≡ b ∷ bytes = cc in
    let rest : map capability_text cs ≡ some_words others = cc in
    ap (option_and_then (λ more. with_words more others)) (ap (with_word found) (sym own) ∙ word_by found (capability_text c) c (text_some c.name c.value is.named) (tells_capability c is))
    ∙ words_read (found ++ c ∷ []) others cs (All-tail IsTellable c cs are) rest ∙ ap Some (append_assoc found (c ∷ []) cs)

joined_read : (cs : List Capability) (all : List (List ℕ)) → All IsTellable cs → All (IsWithout 32) all → map capability_text cs ≡ some_words all → with_words [] (words (joined all)) ≡ Some cs
joined_read cs [] are whole some = words_read [] ([] ∷ []) cs are some
joined_read cs (word ∷ others) are whole some =
    ap (with_words []) (words_spaced word others (All-head (IsWithout 32) word others whole) (All-tail (IsWithout 32) word others whole)) ∙ words_read [] (word ∷ others) cs are some

capabilities_read : (cs : List Capability) (said : List ℕ) → All IsTellable cs → AreWords (map capability_text cs) said → with_words [] (words said) ≡ Some cs
capabilities_read cs said are is = ap (λ (t : List ℕ). with_words [] (words t)) is.text ∙ joined_read cs is.all are is.whole is.some

-- ---- a name

name_read : (kind : Kind) (id : ObjectId) (name said : List ℕ) → IsNamed kind id name said → id_and_name kind said ≡ Some (id, name)
name_read kind id name said is =
    ap (id_and_name kind) is.text
    ∙ ap (option_and_then (λ parts. option_map (λ x. (x, parts.1)) (id_in_hex kind parts.0))) ((splits 32 (is.digits ++ 32 ∷ name)).only is.digits name refl (spelled_whole kind is.digits id is.is))
    ∙ ap (option_map (λ x. (x, name))) is.is

other_digit : (c : ℕ) → is_hex_digit c ≡ true → not (115 == c) ≡ true
other_digit c h = by_test (115 == c) refl
  where
    by_test : (b : Bool) → (115 == c) ≡ b → not b ≡ true
    by_test false e = refl
    by_test true e = absurd (let same : is_hex_digit 115 ≡ true = subst (λ x. is_hex_digit x ≡ true) (sym (eqb-true 115 c e)) h in cc)

-- digits don't begin as `shallow ` does
no_border : (kind : Kind) (digits more : List ℕ) → AllPass is_hex_digit digits → shallow_in kind (digits ++ 32 ∷ more) ≡ None
unfolding shallow_in
no_border kind [] more all = ap (option_and_then (id_in_hex kind)) (none_after 115 32 (codes "hallow ") more refl)
no_border kind (d ∷ digits) more all =
    ap (option_and_then (id_in_hex kind)) (none_after 115 d (codes "hallow ") (digits ++ 32 ∷ more) (other_digit d (All-head (λ x. is_hex_digit x ≡ true) d digits all)))

name_no_border : (kind : Kind) (id : ObjectId) (name said : List ℕ) → IsNamed kind id name said → shallow_in kind said ≡ None
name_no_border kind id name said is = ap (shallow_in kind) is.text ∙ no_border kind is.digits name (hex_of kind is.digits id is.is)

-- what a line of a name does
name_step : (h : Handshake) (before : List Ref) (allowed : Advertised) (id : ObjectId) (name said : List ℕ) (line : Line) (short : Option (List ℕ)) (now : ReplyParser) → IsText said line → IsNamed h.object_hash id name said → before_peel name ≡ short
    → at_name h before allowed id name short ≡ Some now → step_of (reading.Advertisement h before allowed) line ≡ goes now
unfolding step_of
name_step h before allowed id name said line short now text is peel at =
    by_spelled (ends (tolds.Advertisement h before)) breaks (at_advertised h before allowed) said line text
    ∙ ap (λ o. or_breaks (option_or (option_map (λ x. reading.Advertisement h before next.Shallow) o) (at_reference h before allowed said)) (λ s. goes s)) (name_no_border h.object_hash id name said is)
    ∙ ap (λ o. or_breaks (option_and_then (λ x. at_name h before allowed x.0 x.1 (before_peel x.1)) o) (λ s. goes s)) (name_read h.object_hash id name said is)
    ∙ ap (λ s. or_breaks (at_name h before allowed id name s) (λ x. goes x)) peel
    ∙ ap (λ o. or_breaks o (λ x. goes x)) at

-- ---- the border

border_step : (h : Handshake) (refs : List Ref) (allowed : Advertised) (said : List ℕ) (line : Line) (digits : List ℕ) (id : ObjectId) → IsText said line → said ≡ codes "shallow " ++ digits → Spells h.object_hash digits id
    → step_of (reading.Advertisement h refs allowed) line ≡ goes (reading.Advertisement h refs next.Shallow)
unfolding step_of
border_step h refs allowed said line digits id text is spelled =
    by_spelled (ends (tolds.Advertisement h refs)) breaks (at_advertised h refs allowed) said line text
    ∙ ap (λ o. or_breaks (option_or (option_map (λ x. reading.Advertisement h refs next.Shallow) o) (at_reference h refs allowed said)) (λ s. goes s)) (ap (shallow_in h.object_hash) is ∙ comes_read h.object_hash digits id spelled)

-- commits of the border, and the flush
border_tells : (h : Handshake) (refs : List Ref) (allowed : Advertised) (border : List (List ℕ)) (lines : List Line) → AreShallow h.object_hash border → AreTexts border lines
    → Tells step_of (reading.Advertisement h refs allowed) (lines ++ Flush ∷ []) (tolds.Advertisement h refs)
border_tells h refs allowed [] [] are texts = closes h refs allowed
border_tells h refs allowed [] (line ∷ lines) are texts = absurd texts
border_tells h refs allowed (said ∷ border) [] are texts = absurd texts
border_tells h refs allowed (said ∷ border) (line ∷ lines) ((digits, id, is, spelled), are) texts =
    first_tells step_of (reading.Advertisement h refs allowed) (reading.Advertisement h refs next.Shallow) line (lines ++ Flush ∷ []) (tolds.Advertisement h refs)
    (border_step h refs allowed said line digits id texts.0 is spelled) (border_tells h refs next.Shallow border lines are texts.1)

-- ---- the references

peel_step : (h : Handshake) (before : List Ref) (r : Ref) (id : ObjectId) (said : List ℕ) (line : Line) → IsText said line → IsNamed h.object_hash id (name_in r ++ codes "^{}") said → peeled_in r ≡ Some id
    → step_of (reading.Advertisement h (before ++ unpeeled r ∷ []) next.Reference) line ≡ goes (reading.Advertisement h (before ++ r ∷ []) next.Peeled)
peel_step h before r id said line text is has =
    name_step h (before ++ unpeeled r ∷ []) next.Reference id (name_in r ++ codes "^{}") said line (Some (name_in r)) (reading.Advertisement h (before ++ r ∷ []) next.Peeled) text is (peel_read (name_in r))
    (ap (option_map (λ refs. reading.Advertisement h refs next.Peeled)) (peel_told h before r id has))

-- what a tag peels to, where that is told, and what tells x from there
peel_tells : (h : Handshake) (before : List Ref) (r : Ref) (peeled : Option ObjectId) (said more : List (List ℕ)) (lines : List Line) (x : ParsedReply) → peeled_in r ≡ peeled → ArePeels h.object_hash (name_in r) peeled said → AreTexts (said ++ more) lines
    → ((front : List Line) → AreTexts more front → Tells step_of (reading.Advertisement h (before ++ r ∷ []) (behind_ref peeled)) (front ++ Flush ∷ []) x)
    → Tells step_of (reading.Advertisement h (before ++ unpeeled r ∷ []) next.Reference) (lines ++ Flush ∷ []) x
peel_tells h before r None said more lines x has are texts goes_on =
    subst (λ (s : Ref). Tells step_of (reading.Advertisement h (before ++ s ∷ []) next.Reference) (lines ++ Flush ∷ []) x) (sym (not_peeled r has))
    (goes_on lines (subst (λ (l : List (List ℕ)). AreTexts (l ++ more) lines) are texts))
peel_tells h before r (Some id) [] more lines x has are texts goes_on = absurd are
peel_tells h before r (Some id) (text ∷ others) more [] x has are texts goes_on = absurd texts
peel_tells h before r (Some id) (text ∷ others) more (line ∷ lines) x has are texts goes_on =
    first_tells step_of (reading.Advertisement h (before ++ unpeeled r ∷ []) next.Reference) (reading.Advertisement h (before ++ r ∷ []) next.Peeled) line (lines ++ Flush ∷ []) x
    (peel_step h before r id text line texts.0 are.0 has) (goes_on lines (subst (λ (l : List (List ℕ)). AreTexts (l ++ more) lines) are.1 texts.1))

own_step : (h : Handshake) (before : List Ref) (allowed : Advertised) (r : Ref) (own : List ℕ) (behind : List (List ℕ)) (line : Line) → IsText own line → IsAdvertised h r own behind → is_listed before r ≡ false → IsOpen allowed
    → step_of (reading.Advertisement h before allowed) line ≡ goes (reading.Advertisement h (before ++ unpeeled r ∷ []) next.Reference)
own_step h before allowed r own behind line text is new open_yet =
    name_step h before allowed is.id (name_in r) own line None (reading.Advertisement h (before ++ unpeeled r ∷ []) next.Reference) text is.text is.unpeeled
    (named_by h before allowed is.id (name_in r) open_yet ∙ ap (option_map (λ x. reading.Advertisement h (before ++ x ∷ []) next.Reference)) (own_told h before r is.id is.name (sym is.target) is.born new))

-- what comes behind the text of a reference, where this tells the references after it
behind_tells : (h : Handshake) (before : List Ref) (r : Ref) (refs : List Ref) (own : List ℕ) (said border : List (List ℕ)) (lines : List Line) → AreAdvertised h (r ∷ refs) (own ∷ said) → AreTexts (said ++ border) lines
    → ((others : List (List ℕ)) (front : List Line) → AreAdvertised h refs others → AreTexts (others ++ border) front
    → Tells step_of (reading.Advertisement h (before ++ r ∷ []) (behind_ref (peeled_in r))) (front ++ Flush ∷ []) (tolds.Advertisement h ((before ++ r ∷ []) ++ refs)))
    → Tells step_of (reading.Advertisement h (before ++ unpeeled r ∷ []) next.Reference) (lines ++ Flush ∷ []) (tolds.Advertisement h (before ++ r ∷ refs))
behind_tells h before r refs own said border lines (behind, others, same, is, more) texts goes_on =
    peel_tells h before r (peeled_in r) behind (others ++ border) lines (tolds.Advertisement h (before ++ r ∷ refs)) refl is.peel
    (subst (λ (l : List (List ℕ)). AreTexts l lines) (ap (λ (l : List (List ℕ)). l ++ border) same ∙ append_assoc behind others border) texts)
    (λ front fronts. subst (λ (l : List Ref). Tells step_of (reading.Advertisement h (before ++ r ∷ []) (behind_ref (peeled_in r))) (front ++ Flush ∷ []) (tolds.Advertisement h l)) (append_assoc before (r ∷ []) refs) (goes_on others front more fronts))

-- references after those before, commits of the border, and the flush
refs_tell : (h : Handshake) (before : List Ref) (allowed : Advertised) (refs : List Ref) (said border : List (List ℕ)) (lines : List Line) → AreAdvertised h refs said → AreShallow h.object_hash border → AreNamedOnce (before ++ refs) → IsOpen allowed
    → AreTexts (said ++ border) lines → Tells step_of (reading.Advertisement h before allowed) (lines ++ Flush ∷ []) (tolds.Advertisement h (before ++ refs))
refs_tell h before allowed [] said border lines are shallow once open_yet texts =
    subst (λ (l : List Ref). Tells step_of (reading.Advertisement h before allowed) (lines ++ Flush ∷ []) (tolds.Advertisement h l)) (sym (append-nil before))
    (border_tells h before allowed border lines shallow (subst (λ (l : List (List ℕ)). AreTexts (l ++ border) lines) are texts))
refs_tell h before allowed (r ∷ refs) [] border lines are shallow once open_yet texts = absurd are
refs_tell h before allowed (r ∷ refs) (own ∷ said) border [] are shallow once open_yet texts = absurd texts
refs_tell h before allowed (r ∷ refs) (own ∷ said) border (line ∷ lines) (behind, others, same, is, more) shallow once open_yet texts =
    first_tells step_of (reading.Advertisement h before allowed) (reading.Advertisement h (before ++ unpeeled r ∷ []) next.Reference) line (lines ++ Flush ∷ []) (tolds.Advertisement h (before ++ r ∷ refs))
    (own_step h before allowed r own behind line texts.0 is (apart before r refs once) open_yet)
    (behind_tells h before r refs own said border lines (behind, others, same, is, more) texts.1
    (λ rest front are_rest fronts. refs_tell h (before ++ r ∷ []) (behind_ref (peeled_in r)) refs rest border front are_rest shallow (subst AreNamedOnce (sym (append_assoc before (r ∷ []) refs)) once) (stays_open (peeled_in r)) fronts))

-- ---- the first text

first_read : (cs : List Capability) (id : ObjectId) (name first capabilities : List ℕ) (now : ReplyParser) → IsWithout 0 first → All IsTellable cs → AreWords (map capability_text cs) capabilities → IsNamed (handshake_1 cs).object_hash id name first
    → first_named (handshake_1 cs) (id, name) ≡ Some now → at_first (first ++ 0 ∷ capabilities) ≡ Some now
first_read cs id name first capabilities now whole are are_words is at =
    ap (option_and_then (λ parts. option_and_then (λ found. option_and_then (first_named (handshake_1 found)) (id_and_name (handshake_1 found).object_hash parts.0)) (with_words [] (words parts.1))))
    ((splits 0 (first ++ 0 ∷ capabilities)).only first capabilities refl whole)
    ∙ ap (option_and_then (λ found. option_and_then (first_named (handshake_1 found)) (id_and_name (handshake_1 found).object_hash first))) (capabilities_read cs capabilities are are_words)
    ∙ ap (option_and_then (first_named (handshake_1 cs))) (name_read (handshake_1 cs).object_hash id name first is) ∙ at

-- what the first text does, and what the lines behind it tell then
record Opens (h : Handshake) (refs : List Ref) (said : List ℕ) (others : List (List ℕ)) : Type 0 where
  now : ReplyParser
  reads : at_first said ≡ Some now
  tells : (lines : List Line) → AreTexts others lines → Tells step_of now (lines ++ Flush ∷ []) (tolds.Advertisement h refs)

opens : (cs : List Capability) (refs : List Ref) (first capabilities : List ℕ) (others border : List (List ℕ)) → IsWithout 0 first → All IsTellable cs → AreWords (map capability_text cs) capabilities → AreReferences (handshake_1 cs) refs first others
    → AreShallow (handshake_1 cs).object_hash border → AreNamedOnce refs → Opens (handshake_1 cs) refs (first ++ 0 ∷ capabilities) (others ++ border)
opens cs [] first capabilities others border whole are are_words ((id, null, is), none) shallow once = record {
  now = reading.Advertisement (handshake_1 cs) [] next.Shallow;
  reads = first_read cs id (codes "capabilities^{}") first capabilities (reading.Advertisement (handshake_1 cs) [] next.Shallow) whole are are_words is (no_ref (handshake_1 cs) id null);
  tells = λ lines texts. border_tells (handshake_1 cs) [] next.Shallow border lines shallow (subst (λ (l : List (List ℕ)). AreTexts (l ++ border) lines) none texts);
}
opens cs (r ∷ refs) first capabilities others border whole are are_words (behind, rest, same, is, more) shallow once =
    let h = handshake_1 cs in
    record {
      now = reading.Advertisement h (unpeeled r ∷ []) next.Reference;
      reads = first_read cs is.id (name_in r) first capabilities (reading.Advertisement h (unpeeled r ∷ []) next.Reference) whole are are_words is.text
          (first_named_is h is.id (name_in r) is.unpeeled ∙ ap (option_map (λ x. reading.Advertisement h ([] ++ x ∷ []) next.Reference)) (own_told h [] r is.id is.name (sym is.target) is.born refl));
      tells = λ lines texts. behind_tells h [] r refs first others border lines (behind, rest, same, is, more) texts
          (λ after front are_after fronts. refs_tell h (r ∷ []) (behind_ref (peeled_in r)) refs after border front are_after shallow once (stays_open (peeled_in r)) fronts);
    }

-- a text with a NUL is no word without it
not_word : (word first capabilities : List ℕ) → IsWithout 0 word → bytes_eq (first ++ 0 ∷ capabilities) word ≡ false
not_word word first capabilities none = by_test (bytes_eq (first ++ 0 ∷ capabilities) word) refl
  where
    by_test : (b : Bool) → bytes_eq (first ++ 0 ∷ capabilities) word ≡ b → b ≡ false
    by_test false e = refl
    by_test true e = absurd (not_within 0 first capabilities (subst (IsWithout 0) (sym ((bytes_eq-Decides (first ++ 0 ∷ capabilities) word).0 e)) none))

not_version_2 : (first capabilities : List ℕ) → is_version_2 (first ++ 0 ∷ capabilities) ≡ false
unfolding is_version_2
not_version_2 first capabilities = not_word (codes "version 2") first capabilities refl

not_version_1 : (first capabilities : List ℕ) → is_version_1 (first ++ 0 ∷ capabilities) ≡ false
unfolding is_version_1
not_version_1 first capabilities = not_word (codes "version 1") first capabilities refl

-- ---- the whole

version_opens : (line : Line) → IsText (codes "version 1") line → step_of reading.Greeting line ≡ goes reading.Version
unfolding step_of is_version_2 is_version_1
version_opens line text = by_spelled breaks breaks at_greeting (codes "version 1") line text

-- the first text behind `version 1`
opens_behind : (said : List ℕ) (line : Line) (now : ReplyParser) → IsText said line → at_first said ≡ Some now → step_of reading.Version line ≡ goes now
unfolding step_of
opens_behind said line now text at = by_spelled breaks breaks (λ t. or_breaks (at_first t) (λ s. goes s)) said line text ∙ ap (λ o. or_breaks o (λ s. goes s)) at

greeting_by : (first capabilities : List ℕ) → at_greeting (first ++ 0 ∷ capabilities) ≡ or_breaks (at_first (first ++ 0 ∷ capabilities)) (λ s. goes s)
greeting_by first capabilities = rw (not_version_2 first capabilities, not_version_1 first capabilities) refl

-- the first text where no version is told
opens_alone : (first capabilities : List ℕ) (line : Line) (now : ReplyParser) → IsText (first ++ 0 ∷ capabilities) line → at_first (first ++ 0 ∷ capabilities) ≡ Some now → step_of reading.Greeting line ≡ goes now
unfolding step_of
opens_alone first capabilities line now text at =
    by_spelled breaks breaks at_greeting (first ++ 0 ∷ capabilities) line text ∙ greeting_by first capabilities ∙ ap (λ o. or_breaks o (λ s. goes s)) at

alone_tells : (h : Handshake) (refs : List Ref) (first capabilities : List ℕ) (others : List (List ℕ)) (front : List Line) → Opens h refs (first ++ 0 ∷ capabilities) others → AreTexts ((first ++ 0 ∷ capabilities) ∷ others) front
    → Tells step_of reading.Greeting (front ++ Flush ∷ []) (tolds.Advertisement h refs)
alone_tells h refs first capabilities others [] o texts = absurd texts
alone_tells h refs first capabilities others (line ∷ front) o texts =
    first_tells step_of reading.Greeting o.now line (front ++ Flush ∷ []) (tolds.Advertisement h refs) (opens_alone first capabilities line o.now texts.0 o.reads) (o.tells front texts.1)

versioned_tells : (h : Handshake) (refs : List Ref) (said : List ℕ) (others : List (List ℕ)) (front : List Line) → Opens h refs said others → AreTexts (codes "version 1" ∷ said ∷ others) front
    → Tells step_of reading.Greeting (front ++ Flush ∷ []) (tolds.Advertisement h refs)
versioned_tells h refs said others [] o texts = absurd texts
versioned_tells h refs said others (version ∷ []) o texts = absurd texts.1
versioned_tells h refs said others (version ∷ line ∷ front) o texts =
    first_tells step_of reading.Greeting reading.Version version (line ∷ front ++ Flush ∷ []) (tolds.Advertisement h refs) (version_opens version texts.0)
    (first_tells step_of reading.Version o.now line (front ++ Flush ∷ []) (tolds.Advertisement h refs) (opens_behind said line o.now texts.1.0 o.reads) (o.tells front texts.1.1))

opened_tells : (h : Handshake) (refs : List Ref) (first capabilities : List ℕ) (others : List (List ℕ)) (lines : List Line) → Opens h refs (first ++ 0 ∷ capabilities) others
    → AreFlushed ((first ++ 0 ∷ capabilities) ∷ others) lines ⊎ AreFlushed (codes "version 1" ∷ (first ++ 0 ∷ capabilities) ∷ others) lines → Tells step_of reading.Greeting lines (tolds.Advertisement h refs)
opened_tells h refs first capabilities others lines o (inl (front, same, texts)) =
    subst (λ (l : List Line). Tells step_of reading.Greeting l (tolds.Advertisement h refs)) (sym same) (alone_tells h refs first capabilities others front o texts)
opened_tells h refs first capabilities others lines o (inr (front, same, texts)) =
    subst (λ (l : List Line). Tells step_of reading.Greeting l (tolds.Advertisement h refs)) (sym same) (versioned_tells h refs (first ++ 0 ∷ capabilities) others front o texts)

pub advertisement_read : (h : Handshake) (refs : List Ref) (lines : List Line) → IsAdvertisement h refs lines → Tells step_of reading.Greeting lines (tolds.Advertisement h refs)
advertisement_read h refs lines is =
    let cs = h.capabilities in
    let references = subst (λ (g : Handshake). AreReferences g refs is.first is.others) is.made is.references in
    let shallow = subst (λ (g : Handshake). AreShallow g.object_hash is.border) is.made is.shallow in
    subst (λ (g : Handshake). Tells step_of reading.Greeting lines (tolds.Advertisement g refs)) (sym is.made)
    (opened_tells (handshake_1 cs) refs is.first is.capabilities (is.others ++ is.border) lines (opens cs refs is.first is.capabilities is.others is.border is.whole is.tellable is.words references shallow is.once) is.lines_are)
