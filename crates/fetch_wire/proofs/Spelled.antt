-- Lines that were read are texts, and what they say.
use Rattle.std.proofs.Common.{◌≡◌, ◌≢◌, ◌⊎◌, inl, inr, ℕ, ◌+◌, ◌-◌, Bool, true, false, not, ◌&&◌, List, [], ◌∷◌, ◌++◌, map, length, take, get_or, slice_index_or, Option, Some, None, refl, sym, ap, ◌∙◌, subst, append_assoc, arith, All, codes, ◌==◌}
use Rattle.std.specs.Prelude.{nat_eq, ⊤, if◌then◌else◌}
use Rattle.std.specs.List.{starts_with, list_all}
use Rattle.std.specs.Option.{option_map, option_and_then, option_or}
use Rattle.std.proofs.lemmas.Bool.{eqb-true}
use Rattle.std.proofs.lemmas.List.{append-nil, take_all, take_more}
use Rattle.std.proofs.lemmas.List.Elements.{All-nil, All-cons}
use Rattle.std.proofs.lemmas.Slice.Eq.{bytes_eq-Decides}
use Rattle.fetch_base.specs.Lines.{IsWithout}
use Rattle.fetch_base.specs.Scan.{split_first}
use Rattle.fetch_base.specs.declared.id.ObjectId.{ObjectId}
use Rattle.fetch_base.proofs.LineLaws.{splits}
use Rattle.fetch_replies.specs.declared.replies.reply.ParsedReply.{ParsedReply}
use Rattle.fetch_replies.specs.declared.replies.reply.ParsedReply.TheVariants as tolds
use Rattle.fetch_lines.specs.declared.greetings.handshake.Capability.{Capability}
use Rattle.fetch_lines.specs.declared.greetings.handshake.Handshake.{Handshake}
use Rattle.fetch_lines.specs.declared.lines.line.Line.{Line}
use Rattle.fetch_lines.specs.declared.lines.line.Line.TheVariants.{Payload, Flush, Delim, End}
use Rattle.fetch_replies.specs.declared.replies.parser.Advertised.{Advertised}
use Rattle.fetch_replies.specs.declared.replies.parser.Advertised.TheVariants as nexts
use Rattle.fetch_replies.specs.declared.replies.parser.ReplyParser.{ReplyParser}
use Rattle.fetch_replies.specs.declared.replies.parser.ReplyParser.TheVariants as reading
use Rattle.fetch_lines.specs.declared.listings.reference.Ref.{Ref}
use Rattle.fetch_replies.specs.Advertisements.{is_version_1, with_words, handshake_1, id_and_name, before_peel, is_no_name, is_null, advertised, with_peel, at_name, at_reference, at_advertised, first_named, at_first}
use Rattle.fetch_replies.specs.Awaited.{step_of, at_capability, at_greeting}
use Rattle.fetch_replies.specs.FetchReplies.{shallow_in}
use Rattle.fetch_lines.specs.Greetings.{capability_in, key_and_value, if_key, if_known, is_known, handshake_of, is_version_2}
use Rattle.fetch_replies.specs.LinesTold.{Tells}
use Rattle.fetch_lines.specs.ServerLines.{with_value, capability_text, IsTellable}
use Rattle.fetch_wire.specs.Spellings.{IsText, AreFlushed, IsGreeting}
use Rattle.fetch_replies.specs.Stepping.{Step, goes, ends, breaks, says, or_breaks}
use Rattle.fetch_replies.specs.Steps.{by_line, error_text}
use Rattle.fetch_lines.specs.Texts.{is_error, without_lf}
use Rattle.fetch_lines.specs.Words.{words}

-- one step or another
abbrev pub if_step : Bool → Step ReplyParser ParsedReply → Step ReplyParser ParsedReply → Step ReplyParser ParsedReply
if_step b x y = if b then x else y

-- ---- texts

-- a line that moved on is a text that did
pub text_goes : {S T : Type 0} (flush delim : Step S T) (f : List ℕ → Step S T) (line : Line) (t : S) → flush ≢ goes t → delim ≢ goes t → by_line flush delim f line ≡ goes t → (text : List ℕ) × IsText text line × (f text ≡ goes t)
text_goes flush delim f (Payload payload) t no_flush no_delim is = by_error (is_error payload) refl is
  where
    by_error : (b : Bool) → is_error payload ≡ b → (if b then says (error_text payload) else f (without_lf payload)) ≡ goes t → (text : List ℕ) × IsText text (Payload payload) × (f text ≡ goes t)
    by_error true e is = absurd cc
    by_error false e is = (without_lf payload, record { payload = payload; is = refl; text = refl; no_error = e }, is)
text_goes flush delim f Flush t no_flush no_delim is = absurd (no_flush is)
text_goes flush delim f Delim t no_flush no_delim is = absurd (no_delim is)
text_goes flush delim f End t no_flush no_delim is = absurd cc

-- a line that ended is a text that did
pub text_ends : {S T : Type 0} (f : List ℕ → Step S T) (line : Line) (x : T) → by_line breaks breaks f line ≡ ends x → (text : List ℕ) × IsText text line × (f text ≡ ends x)
text_ends f (Payload payload) x is = by_error (is_error payload) refl is
  where
    by_error : (b : Bool) → is_error payload ≡ b → (if b then says (error_text payload) else f (without_lf payload)) ≡ ends x → (text : List ℕ) × IsText text (Payload payload) × (f text ≡ ends x)
    by_error true e is = absurd cc
    by_error false e is = (without_lf payload, record { payload = payload; is = refl; text = refl; no_error = e }, is)
text_ends f Flush x is = absurd cc
text_ends f Delim x is = absurd cc
text_ends f End x is = absurd cc

-- a line that ended is a flush, where no text ends
pub flush_ends : {S T : Type 0} (x : T) (f : List ℕ → Step S T) (line : Line) (y : T) → ((text : List ℕ) → f text ≢ ends y) → by_line (ends x) breaks f line ≡ ends y → (line ≡ Flush) × (x ≡ y)
flush_ends x f (Payload payload) y never is = by_error (is_error payload) is
  where
    by_error : (b : Bool) → (if b then says (error_text payload) else f (without_lf payload)) ≡ ends y → (Payload payload ≡ Flush) × (x ≡ y)
    by_error true is = absurd cc
    by_error false is = absurd (never (without_lf payload) is)
flush_ends x f Flush y never is = (refl, cc)
flush_ends x f Delim y never is = absurd cc
flush_ends x f End y never is = absurd cc

pub some_goes : {A S T : Type 0} (o : Option A) (g : A → S) (t : S) → or_breaks {T = T} o (λ x. goes (g x)) ≡ goes t → (x : A) × (o ≡ Some x) × (g x ≡ t)
some_goes None g t is = absurd cc
some_goes (Some x) g t is = (x, refl, cc)

pub never_ends : {A S T : Type 0} (o : Option A) (g : A → S) (y : T) → or_breaks o (λ x. goes (g x)) ≢ ends y
never_ends None g y = λ is. cc
never_ends (Some x) g y = λ is. cc

-- one text more
pub flushed_more : (text : List ℕ) (texts : List (List ℕ)) (line : Line) (lines : List Line) → IsText text line → AreFlushed texts lines → AreFlushed (text ∷ texts) (line ∷ lines)
flushed_more text texts line lines is (front, same, are) = (line ∷ front, ap (λ (l : List Line). line ∷ l) same, (is, are))

pub flushed_none : (line : Line) → line ≡ Flush → AreFlushed [] (line ∷ [])
flushed_none line is = ([], ap (λ (l : Line). l ∷ []) is, tt)

-- ---- a text that is told is no error

none_in : (text : List ℕ) → starts_with nat_eq text (codes "ERR ") ≡ false → starts_with nat_eq (text ++ 10 ∷ []) (codes "ERR ") ≡ false
none_in [] e = refl
none_in (a ∷ []) e = by_one (69 == a)
  where
    by_one : (x : Bool) → (x && false) ≡ false
    by_one true = refl
    by_one false = refl
none_in (a ∷ b ∷ []) e = by_two (69 == a) (82 == b)
  where
    by_two : (x y : Bool) → (x && (y && false)) ≡ false
    by_two true true = refl
    by_two true false = refl
    by_two false y = refl
none_in (a ∷ b ∷ c ∷ []) e = by_three (69 == a) (82 == b) (82 == c)
  where
    by_three : (x y z : Bool) → (x && (y && (z && false))) ≡ false
    by_three true true true = refl
    by_three true true false = refl
    by_three true false z = refl
    by_three false y z = refl
none_in (a ∷ b ∷ c ∷ d ∷ text) e = e

last_is : (payload : List ℕ) → (slice_index_or payload (length payload - 1) 0 == 10) ≡ true → payload ≡ take (length payload - 1) payload ++ (10 ∷ [])
last_is [] e = absurd cc
last_is (x ∷ xs) e =
    let n : length (x ∷ xs) - 1 ≡ length xs = omega arith in
    let here : get_or (x ∷ xs) (length xs) 0 ≡ 10 = eqb-true _ _ (ap (λ (k : ℕ). slice_index_or (x ∷ xs) k 0 == 10) (sym n) ∙ e) in
    let whole : length xs + 1 ≡ length (x ∷ xs) = omega arith in
    sym (ap (λ (k : ℕ). take k (x ∷ xs)) whole ∙ take_all (length (x ∷ xs)) (x ∷ xs) (omega arith)) ∙ take_more (x ∷ xs) (length xs) 0 (omega arith) ∙ ap (λ (b : ℕ). take (length xs) (x ∷ xs) ++ (b ∷ [])) here
    ∙ ap (λ (k : ℕ). take k (x ∷ xs) ++ (10 ∷ [])) (sym n)

lf_or_not : (payload : List ℕ) → (payload ≡ without_lf payload ++ 10 ∷ []) ⊎ (payload ≡ without_lf payload)
unfolding without_lf
lf_or_not payload = by_last (slice_index_or payload (length payload - 1) 0 == 10) refl
  where
    by_last : (b : Bool) → (slice_index_or payload (length payload - 1) 0 == 10) ≡ b
        → (payload ≡ (if b then take (length payload - 1) payload else payload) ++ 10 ∷ []) ⊎ (payload ≡ (if b then take (length payload - 1) payload else payload))
    by_last false e = inr refl
    by_last true e = inl (last_is payload e)

pub told_no_error : (said : List ℕ) (line : Line) → IsText said line → is_error (said ++ 10 ∷ []) ≡ false
unfolding is_error
told_no_error said line is = by_feed (lf_or_not is.payload)
  where
    by_feed : (is.payload ≡ without_lf is.payload ++ 10 ∷ []) ⊎ (is.payload ≡ without_lf is.payload) → is_error (said ++ 10 ∷ []) ≡ false
    by_feed (inl fed) = ap (λ (t : List ℕ). is_error (t ++ 10 ∷ [])) (sym is.text) ∙ ap is_error (sym fed) ∙ is.no_error
    by_feed (inr same) = none_in said (ap is_error (sym (same ∙ is.text)) ∙ is.no_error)

-- ---- a greeting

-- a text that isn't without the byte has a first one
first_at : (c : ℕ) (text : List ℕ) → list_all (λ b. not (b == c)) text ≡ false → (before : List ℕ) × (behind : List ℕ) × (text ≡ before ++ c ∷ behind) × IsWithout c before
first_at c [] e = absurd cc
first_at c (b ∷ text) e = by_test (b == c) refl e (first_at c text)
  where
    by_test : (t : Bool) → (b == c) ≡ t → (not t && list_all (λ b. not (b == c)) text) ≡ false
        → (list_all (λ b. not (b == c)) text ≡ false → (before : List ℕ) × (behind : List ℕ) × (text ≡ before ++ c ∷ behind) × IsWithout c before)
        → (before : List ℕ) × (behind : List ℕ) × (b ∷ text ≡ before ++ c ∷ behind) × IsWithout c before
    by_test true is h more = ([], text, ap (λ (x : ℕ). x ∷ text) (eqb-true _ _ is), refl)
    by_test false is h more = let w = more h in (b ∷ w.0, w.1, ap (λ (l : List ℕ). b ∷ l) w.2, rw is w.3)

-- a text in which the byte isn't found
pub none_found : (c : ℕ) (text : List ℕ) → split_first c text ≡ None → IsWithout c text
none_found c text none = by_test (list_all (λ b. not (b == c)) text) refl
  where
    by_test : (t : Bool) → list_all (λ b. not (b == c)) text ≡ t → list_all (λ b. not (b == c)) text ≡ true
    by_test true e = e
    by_test false e = let w = first_at c text e in let s = (splits c text).only w.0 w.1 w.2 w.3 in absurd cc

-- what a capability's text tells
pub record WasTold (c : Capability) (said : List ℕ) : Type 0 where
  pub text : said ≡ capability_text c
  pub named : c.name ≢ []
  pub plain : IsWithout 61 c.name
  pub known : is_known c ≡ true

known_so : (c d : Capability) → if_known c ≡ Some d → (c ≡ d) × (is_known c ≡ true)
known_so c d is = by_test (is_known c) refl is
  where
    by_test : (b : Bool) → is_known c ≡ b → (if b then Some c else None) ≡ Some d → (c ≡ d) × (is_known c ≡ true)
    by_test true e h = (cc, e)
    by_test false e h = absurd cc

told_as : (said name : List ℕ) (value : Option (List ℕ)) (c : Capability) → option_and_then if_known (if_key name value) ≡ Some c → said ≡ with_value name value → IsWithout 61 name → WasTold c said
told_as said [] value c is text plain = absurd cc
told_as said (b ∷ bs) value c is text plain =
    let k = known_so (record { name = b ∷ bs; value = value }) c is in
    subst (λ (x : Capability). WasTold x said) k.0 (record { text = text; named = λ e. cc; plain = plain; known = k.1 })

pub capability_told : (said : List ℕ) (c : Capability) → option_and_then if_known (capability_in said) ≡ Some c → WasTold c said
unfolding capability_in
capability_told said c is = by_split (split_first 61 said) refl is
  where
    by_split : (found : Option (List ℕ × List ℕ)) → split_first 61 said ≡ found → option_and_then if_known (key_and_value said found) ≡ Some c → WasTold c said
    by_split None e h = told_as said said None c h refl (none_found 61 said e)
    by_split (Some (before, behind)) e h = let s = (splits 61 said).found before behind e in told_as said before (Some behind) c h s.0 s.1

tellable : (c : Capability) (said : List ℕ) (line : Line) → WasTold c said → IsText said line → IsTellable c
tellable c said line w is = record { named = w.named; plain = w.plain; known = w.known; no_error = ap (λ (t : List ℕ). is_error (t ++ 10 ∷ [])) (sym w.text) ∙ told_no_error said line is }

-- capabilities after those that were told before
record Capable (before : List Capability) (lines : List Line) (x : ParsedReply) : Type 0 where
  capabilities : List Capability
  tellable : All IsTellable capabilities
  texts : AreFlushed (map capability_text capabilities) lines
  told : x ≡ tolds.Greeting (handshake_of (before ++ capabilities))

capable : (before : List Capability) (lines : List Line) (x : ParsedReply) → Tells step_of (reading.Capabilities before) lines x → Capable before lines x
unfolding step_of
capable before [] x h = absurd h
capable before (line ∷ []) x h =
    let e = flush_ends (tolds.Greeting (handshake_of before)) (at_capability before) line x (λ text. never_ends (option_and_then if_known (capability_in text)) (λ c. reading.Capabilities (before ++ c ∷ [])) x) h in
    record { capabilities = []; tellable = All-nil IsTellable; texts = flushed_none line e.0; told = sym e.1 ∙ ap (λ (cs : List Capability). tolds.Greeting (handshake_of cs)) (sym (append-nil before)) }
capable before (line ∷ next ∷ lines) x (t, goes_on, h) =
    let g = text_goes (ends (tolds.Greeting (handshake_of before))) breaks (at_capability before) line t (λ e. cc) (λ e. cc) goes_on in
    let s = some_goes (option_and_then if_known (capability_in g.0)) (λ c. reading.Capabilities (before ++ c ∷ [])) t g.2 in
    let w = capability_told g.0 s.0 s.1 in
    let more = capable (before ++ s.0 ∷ []) (next ∷ lines) x (subst (λ (r : ReplyParser). Tells step_of r (next ∷ lines) x) (sym s.2) h) in
    record {
      capabilities = s.0 ∷ more.capabilities;
      tellable = All-cons IsTellable s.0 more.capabilities (tellable s.0 g.0 line w g.1) more.tellable;
      texts = flushed_more (capability_text s.0) (map capability_text more.capabilities) line (next ∷ lines) (subst (λ (t : List ℕ). IsText t line) w.text g.1) more.texts;
      told = more.told ∙ ap (λ (cs : List Capability). tolds.Greeting (handshake_of cs)) (append_assoc before (s.0 ∷ []) more.capabilities);
    }

pub no_capabilities : (lines : List Line) (h : Handshake) (refs : List Ref) → Tells step_of (reading.Capabilities []) lines (tolds.Advertisement h refs) → ⊥
no_capabilities lines h refs tells = let e = (capable [] lines (tolds.Advertisement h refs) tells).told in cc

-- ---- an advertisement is no greeting of version 2

abbrev pub IsAd : ReplyParser → Type 0
IsAd reading.Greeting = ⊥
IsAd (reading.Capabilities before) = ⊥
IsAd reading.Version = ⊥
IsAd (reading.Advertisement handshake before next) = ⊤
IsAd (reading.Listing kind before) = ⊥
IsAd (reading.Reply asked part reply) = ⊥

mapped : {A : Type 0} (g : A → ReplyParser) (o : Option A) (t : ReplyParser) → ((a : A) → IsAd (g a)) → option_map g o ≡ Some t → IsAd t
mapped g None t each is = absurd cc
mapped g (Some a) t each is = subst IsAd (let s : g a ≡ t = cc in s) (each a)

chained : {A : Type 0} (f : A → Option ReplyParser) (o : Option A) (t : ReplyParser) → ((a : A) → f a ≡ Some t → IsAd t) → option_and_then f o ≡ Some t → IsAd t
chained f None t each is = absurd cc
chained f (Some a) t each is = each a is

pub chosen : (o : Option ReplyParser) (t : ReplyParser) → or_breaks {T = ParsedReply} o (λ s. goes s) ≡ goes t → o ≡ Some t
chosen None t is = absurd cc
chosen (Some s) t is = cc

name_ad : (h : Handshake) (before : List Ref) (allowed : Advertised) (id : ObjectId) (name : List ℕ) (short : Option (List ℕ)) (t : ReplyParser) → at_name h before allowed id name short ≡ Some t → IsAd t
name_ad h before nexts.Reference id name None t is = mapped (λ r. reading.Advertisement h (before ++ r ∷ []) nexts.Reference) (advertised h before id name) t (λ r. tt) is
name_ad h before nexts.Reference id name (Some short) t is = mapped (λ refs. reading.Advertisement h refs nexts.Peeled) (with_peel id short before) t (λ r. tt) is
name_ad h before nexts.Peeled id name None t is = mapped (λ r. reading.Advertisement h (before ++ r ∷ []) nexts.Reference) (advertised h before id name) t (λ r. tt) is
name_ad h before nexts.Peeled id name (Some short) t is = absurd cc
name_ad h before nexts.Shallow id name short t is = absurd cc

advertised_ad : (h : Handshake) (before : List Ref) (allowed : Advertised) (text : List ℕ) (t : ReplyParser) → at_advertised h before allowed text ≡ goes t → IsAd t
advertised_ad h before allowed text t is = by_shallow (shallow_in h.object_hash text) (chosen _ t is)
  where
    by_shallow : (o : Option ObjectId) → option_or (option_map (λ id. reading.Advertisement h before nexts.Shallow) o) (at_reference h before allowed text) ≡ Some t → IsAd t
    by_shallow (Some id) e = subst IsAd (let s : reading.Advertisement h before nexts.Shallow ≡ t = cc in s) tt
    by_shallow None e = chained (λ (x : ObjectId × List ℕ). at_name h before allowed x.0 x.1 (before_peel x.1)) (id_and_name h.object_hash text) t (λ x. name_ad h before allowed x.0 x.1 (before_peel x.1) t) e

named_ad : (h : Handshake) (x : ObjectId × List ℕ) (t : ReplyParser) → first_named h x ≡ Some t → IsAd t
named_ad h (id, name) t is = by_name (is_no_name name) (is_null id) is
  where
    by_name : (a b : Bool) → (if a then (if b then Some (reading.Advertisement h [] nexts.Shallow) else None) else at_name h [] nexts.Peeled id name (before_peel name)) ≡ Some t → IsAd t
    by_name true true e = subst IsAd (let s : reading.Advertisement h [] nexts.Shallow ≡ t = cc in s) tt
    by_name true false e = absurd cc
    by_name false b e = name_ad h [] nexts.Peeled id name (before_peel name) t e

first_ad : (text : List ℕ) (t : ReplyParser) → at_first text ≡ Some t → IsAd t
first_ad text t is =
    chained (λ (parts : List ℕ × List ℕ). option_and_then (λ capabilities. option_and_then (first_named (handshake_1 capabilities)) (id_and_name (handshake_1 capabilities).object_hash parts.0)) (with_words [] (words parts.1))) (split_first 0 text) t (λ parts.
    chained (λ (capabilities : List Capability). option_and_then (first_named (handshake_1 capabilities)) (id_and_name (handshake_1 capabilities).object_hash parts.0)) (with_words [] (words parts.1)) t (λ capabilities.
    chained (first_named (handshake_1 capabilities)) (id_and_name (handshake_1 capabilities).object_hash parts.0) t (λ x. named_ad (handshake_1 capabilities) x t))) is

no_ad_greets : (s : ReplyParser) (lines : List Line) (h : Handshake) → IsAd s → Tells step_of s lines (tolds.Greeting h) → ⊥
unfolding step_of
no_ad_greets s [] h ad tells = tells
no_ad_greets reading.Greeting (line ∷ lines) h ad tells = ad
no_ad_greets (reading.Capabilities before) (line ∷ lines) h ad tells = ad
no_ad_greets reading.Version (line ∷ lines) h ad tells = ad
no_ad_greets (reading.Listing kind before) (line ∷ lines) h ad tells = ad
no_ad_greets (reading.Reply asked part reply) (line ∷ lines) h ad tells = ad
no_ad_greets (reading.Advertisement g before allowed) (line ∷ []) h ad tells =
    let e = flush_ends (tolds.Advertisement g before) (at_advertised g before allowed) line (tolds.Greeting h) (λ text. never_ends _ (λ s. s) (tolds.Greeting h)) tells in cc
no_ad_greets (reading.Advertisement g before allowed) (line ∷ next ∷ lines) h ad (t, goes_on, tells) =
    let x = text_goes (ends (tolds.Advertisement g before)) breaks (at_advertised g before allowed) line t (λ e. cc) (λ e. cc) goes_on in
    no_ad_greets t (next ∷ lines) h (advertised_ad g before allowed x.0 t x.2) tells

no_version_greets : (lines : List Line) (h : Handshake) → Tells step_of reading.Version lines (tolds.Greeting h) → ⊥
unfolding step_of
no_version_greets [] h tells = tells
no_version_greets (line ∷ []) h tells = let e = text_ends (λ text. or_breaks (at_first text) (λ s. goes s)) line (tolds.Greeting h) tells in never_ends (at_first e.0) (λ s. s) (tolds.Greeting h) e.2
no_version_greets (line ∷ next ∷ lines) h (t, goes_on, tells) =
    let x = text_goes breaks breaks (λ text. or_breaks (at_first text) (λ s. goes s)) line t (λ e. cc) (λ e. cc) goes_on in
    no_ad_greets t (next ∷ lines) h (first_ad x.0 t (chosen (at_first x.0) t x.2)) tells

-- ---- the whole

pub greeting_never_ends : (text : List ℕ) (x : ParsedReply) → at_greeting text ≢ ends x
greeting_never_ends text x = λ is. by_version (is_version_2 text) (is_version_1 text) is
  where
    by_version : (a b : Bool) → (if a then goes (reading.Capabilities []) else (if b then goes reading.Version else or_breaks (at_first text) (λ s. goes s))) ≡ ends x → ⊥
    by_version true b e = cc
    by_version false true e = cc
    by_version false false e = never_ends (at_first text) (λ s. s) x e

same_greeting : (g h : Handshake) → tolds.Greeting g ≡ tolds.Greeting h → g ≡ h
same_greeting g h is = cc

pub greeted : (lines : List Line) (h : Handshake) → Tells step_of reading.Greeting lines (tolds.Greeting h) → IsGreeting h lines
unfolding step_of is_version_2
greeted [] h tells = absurd tells
greeted (line ∷ []) h tells = let e = text_ends at_greeting line (tolds.Greeting h) tells in absurd (greeting_never_ends e.0 (tolds.Greeting h) e.2)
greeted (line ∷ next ∷ lines) h (t, goes_on, tells) =
    let x = text_goes breaks breaks at_greeting line t (λ e. cc) (λ e. cc) goes_on in by_version x.0 x.1 (is_version_2 x.0) (is_version_1 x.0) refl x.2
  where
    by_version : (text : List ℕ) → IsText text line → (a b : Bool) → is_version_2 text ≡ a
        → (if_step a (goes (reading.Capabilities [])) (if_step b (goes reading.Version) (or_breaks (at_first text) (λ s. goes s)))) ≡ goes t → IsGreeting h (line ∷ next ∷ lines)
    by_version text is true b e g =
        let more = capable [] (next ∷ lines) (tolds.Greeting h) (subst (λ (r : ReplyParser). Tells step_of r (next ∷ lines) (tolds.Greeting h)) (let s : reading.Capabilities [] ≡ t = cc in sym s) tells) in
        let made : h ≡ handshake_of more.capabilities = same_greeting h (handshake_of more.capabilities) more.told in
        let version : text ≡ codes "version 2" = (bytes_eq-Decides text (codes "version 2")).0 e in
        subst (λ (g : Handshake). IsGreeting g (line ∷ next ∷ lines)) (sym made)
        (record { made = refl; tellable = more.tellable; texts = flushed_more (codes "version 2") (map capability_text more.capabilities) line (next ∷ lines) (subst (λ (s : List ℕ). IsText s line) version is) more.texts })
    by_version text is false true e g = absurd (no_version_greets (next ∷ lines) h (subst (λ (r : ReplyParser). Tells step_of r (next ∷ lines) (tolds.Greeting h)) (let s : reading.Version ≡ t = cc in sym s) tells))
    by_version text is false false e g = absurd (no_ad_greets t (next ∷ lines) h (first_ad text t (chosen (at_first text) t g)) tells)
