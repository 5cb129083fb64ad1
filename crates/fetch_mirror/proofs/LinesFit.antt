-- No line that a worker sends is too long: a name that is served has 30,000 bytes at most.
use Rattle.std.proofs.Common.{◌≡◌, ℕ, ◌≤◌, Bool, true, false, not, ◌||◌, List, [], ◌∷◌, ◌++◌, length, length-append, length-take, map, filter, nat_lt, take, get_or, Option, None, refl, sym, ap, ◌∙◌, subst, ⊎_elim, arith, codes, All, Contains}
use Rattle.std.specs.Prelude.{is_some, nat_eq, if◌then◌else◌}
use Rattle.std.specs.List.{list_any, starts_with}
use Rattle.std.specs.Option.{option_or}
use Rattle.std.specs.Str.{bytes_eq}
use Rattle.std.proofs.lemmas.Bool.{and_parts}
use Rattle.std.proofs.lemmas.Bool.Decides.{nat_tests}
use Rattle.std.proofs.lemmas.List.Elements.{Contains-get_or}
use Rattle.std.proofs.lemmas.Slice.Eq.{bytes_eq-Decides}
use Rattle.hex.specs.Hex.{encode_lower}
use Rattle.fetch_base.specs.Id.{bytes_of}
use Rattle.fetch_base.specs.declared.id.Kind.{Kind}
use Rattle.fetch_base.specs.declared.id.Kind.TheVariants.{Sha1, Sha256}
use Rattle.fetch_base.specs.declared.id.ObjectId.{ObjectId}
use Rattle.fetch_store.proofs.Members.{cases_in, first_in, kept_in, later_in, none_in}
use Rattle.fetch_specs.specs.Categories.{refs}
use Rattle.fetch_specs.specs.Matches.{has_star}
use Rattle.fetch_specs.specs.Parses.{head, id_named}
use Rattle.fetch_specs.specs.Prefixes.{asks_for_all, expansions, prefixes_of, second_slash, source_prefixes, spec_prefixes}
use Rattle.fetch_specs.proofs.Ascending.{is_listing}
use Rattle.fetch_refs.specs.declared.target.Target.{Target}
use Rattle.fetch_lines.specs.Greetings.{format_in, is_format}
use Rattle.fetch_lines.specs.RequestLines.{id_lines}
use Rattle.fetch_lines.specs.RequestWords.{agent_word, command_word, done_word, format_is, format_word, plain_pack, plain_pack_2, shallow_word, want_word}
use Rattle.fetch_lines.specs.Requests.{detail_texts, kind_text, listing_lines, listing_word, prefix_text, sent, text_line}
use Rattle.fetch_lines.specs.ServerLines.{IsIdOf}
use Rattle.fetch_lines.specs.Written.{first_too_long, too_long_in}
use Rattle.fetch_lines.specs.declared.lines.line.Line.{Line}
use Rattle.fetch_lines.specs.declared.lines.line.Line.TheVariants.{Delim, Flush}
use Rattle.fetch_negotiate.specs.Requests.{Asked as Request, fetch_request}
use Rattle.fetch_serve.specs.Offered.{capabilities_of}
use Rattle.fetch_asked.specs.Requests.{format_text}
use Rattle.fetch_serve.specs.Servable.{IsServable, is_long, is_refused, end_of, is_unlistable, is_unservable, unservable_names}
use Rattle.fetch_serve.specs.Served.{Data, references_of}
use Rattle.fetch_serve.proofs.Fitting.{text_fits}
use Rattle.fetch_serve.proofs.Ids.{short_id}
use Rattle.fetch_serve.proofs.Lines.{both_fit, ids_fit}
use Rattle.fetch_mirror.specs.Born.{born_of}
use Rattle.fetch_mirror.specs.Fetches.{AreAbove, AreNew, IsWanting}
use Rattle.fetch_mirror.specs.Limits.{IsShare}
use Rattle.fetch_mirror.specs.Listings.{greeting_of}
use Rattle.fetch_mirror.specs.Shares.{IsUnderRefs, as_itself}
use Rattle.fetch_mirror.proofs.FetchRead.{details_lines, request_is, spelled, spelled_so, wants_lines}
use Rattle.fetch_mirror.proofs.Numbered.{nothing_at}
use Rattle.fetch_mirror.proofs.OfferedOwn.{born_at}
use Rattle.fetch_mirror.proofs.Places.{at_contains, mapped_at}

-- ---- names

not_long : (name : List ℕ) → nat_lt 30000 (length name) ≡ false → length name ≤ 30000
not_long name e = grind (arith, nat_tests)

-- a reference that is served isn't long
entry_short : (d : Data) (e : List ℕ × Target) → IsServable d → Contains (references_of d) e → length e.0 ≤ 30000
entry_short d e servable among = by (is_unservable d e) refl
  where
    by_length : (b : Bool) → is_long e.0 ≡ b → is_unservable d e ≡ false → length e.0 ≤ 30000
    by_length true long is = absurd (let both : true ≡ false = sym (ap (λ (b : Bool). b || is_unlistable e.1 || is_refused (end_of d e.0 e.1)) long) ∙ is in cc)
    by_length false short is = not_long e.0 short

    by : (b : Bool) → is_unservable d e ≡ b → length e.0 ≤ 30000
    by true is =
        let at = at_contains (filter (is_unservable d) (references_of d)) e (kept_in (is_unservable d) (references_of d) e is among) in
        absurd (nothing_at (unservable_names d) at.0 e.0 servable.names (mapped_at (λ (x : List ℕ × Target). x.0) (filter (is_unservable d) (references_of d)) at.0 e at.1))
    by false is = by_length (is_long e.0) refl is

born_short : (d : Data) (name : List ℕ) (id : ObjectId) → IsServable d → Contains (born_of d) (name, id) → length name ≤ 30000
born_short d name id servable among =
    let b = born_at d name id among in
    subst (λ (n : List ℕ). length n ≤ 30000) b.name_is (entry_short d b.entry servable b.among)

-- ---- prefixes

or_true : (a : Bool) → (a || false) ≡ true → a ≡ true
or_true true is = refl
or_true false is = absurd cc

or_right : (a b : Bool) → b ≡ true → (a || b) ≡ true
or_right true b is = refl
or_right false b is = is

any_of : (p : List ℕ) (xs : List (List ℕ)) → Contains xs p → list_any (bytes_eq p) xs ≡ true
any_of p [] h = absurd (none_in p h)
any_of p (x ∷ xs) h =
    ⊎_elim
    (λ (same : x ≡ p). ap (λ (b : Bool). b || list_any (bytes_eq p) xs) ((bytes_eq-Decides p x).1 (sym same)))
    (λ (later : Contains xs p). or_right (bytes_eq p x) (list_any (bytes_eq p) xs) (any_of p xs later))
    (cases_in p x xs h)

short_head : (p : List ℕ) → p ≡ head → length p ≤ 30000
unfolding head
short_head p is = subst (λ (x : List ℕ). length x ≤ 30000) (sym is) (omega arith)

-- what a source under `refs/` asks for isn't longer than it
one_short : (p name : List ℕ) → length name ≤ 30000 → starts_with nat_eq name refs ≡ true → list_any (bytes_eq p) (source_prefixes name) ≡ true → length p ≤ 30000
one_short p name short under is = by (is_some (id_named name)) (bytes_eq name head) (starts_with nat_eq name refs) (has_star (take (second_slash name) name)) under is
  where
    front_short : p ≡ take (second_slash name) name → length p ≤ 30000
    front_short same =
        let n = length-take (second_slash name) name in
        subst (λ (x : List ℕ). length x ≤ 30000) (sym same) (omega (arith, n, short))

    by : (named is_head refs_name star : Bool) → refs_name ≡ true
        → list_any (bytes_eq p) (if named then [] else if is_head then head ∷ [] else if refs_name then (if star then [] else take (second_slash name) name ∷ []) else if has_star name then [] else expansions name) ≡ true → length p ≤ 30000
    by true is_head refs_name star under is = absurd cc
    by false true refs_name star under is = short_head p ((bytes_eq-Decides p head).0 (or_true (bytes_eq p head) is))
    by false false true true under is = absurd cc
    by false false true false under is = front_short ((bytes_eq-Decides p (take (second_slash name) name)).0 (or_true (bytes_eq p (take (second_slash name) name)) is))
    by false false false star under is = absurd cc

begins : (name : List ℕ) → IsUnderRefs name → starts_with nat_eq name refs ≡ true
unfolding refs
begins name u = ap (λ (n : List ℕ). starts_with nat_eq n refs) u.is

some_short : (p : List ℕ) (share : List (List ℕ)) → ((name : List ℕ) → Contains share name → (length name ≤ 30000) × (starts_with nat_eq name refs ≡ true))
    → list_any (λ spec. list_any (bytes_eq p) (spec_prefixes spec)) (map as_itself share) ≡ true → length p ≤ 30000
some_short p [] short is = absurd cc
some_short p (name ∷ share) short is =
    by (list_any (bytes_eq p) (source_prefixes name)) refl is (some_short p share (λ n among. short n (later_in n name share among)))
  where
    by : (b : Bool) → list_any (bytes_eq p) (source_prefixes name) ≡ b → (b || list_any (λ spec. list_any (bytes_eq p) (spec_prefixes spec)) (map as_itself share)) ≡ true
        → (list_any (λ spec. list_any (bytes_eq p) (spec_prefixes spec)) (map as_itself share) ≡ true → length p ≤ 30000) → length p ≤ 30000
    by true here any rest = let s = short name (first_in name share) in one_short p name s.0 s.1 here
    by false here any rest = rest any

prefix_fits : (p : List ℕ) → length p ≤ 30000 → too_long_in (text_line (prefix_text p)) ≡ None
unfolding prefix_text
prefix_fits p short = text_fits (codes "ref-prefix " ++ p) (let n = length-append (codes "ref-prefix ") p in omega (arith, n, short))

prefixes_fit : (prefixes : List (List ℕ)) → ((p : List ℕ) → Contains prefixes p → length p ≤ 30000) → first_too_long (sent (map prefix_text prefixes)) ≡ None
prefixes_fit [] short = refl
prefixes_fit (p ∷ prefixes) short =
    ap (λ (o : Option ℕ). option_or o (first_too_long (sent (map prefix_text prefixes)))) (prefix_fits p (short p (first_in p prefixes)))
    ∙ prefixes_fit prefixes (λ q among. short q (later_in q p prefixes among))

-- ---- the listing request

first_lines : Kind → List Line
first_lines hash = text_line listing_word ∷ text_line (format_text hash) ∷ Delim ∷ text_line (codes "symrefs") ∷ text_line (codes "peel") ∷ text_line (codes "unborn") ∷ []

first_fit : (hash : Kind) → first_too_long (first_lines hash) ≡ None
unfolding first_lines listing_word format_text format_is kind_text
first_fit Sha1 = refl
first_fit Sha256 = refl

listing_is : (hash : Kind) (agent : List ℕ) (prefixes : List (List ℕ)) → listing_lines (greeting_of hash) agent prefixes ≡ first_lines hash ++ (sent (map prefix_text prefixes) ++ Flush ∷ [])
unfolding first_lines capabilities_of kind_text is_format format_in agent_word format_word format_is listing_word detail_texts format_text
listing_is Sha1 agent prefixes = refl
listing_is Sha256 agent prefixes = refl

lines_fit : (hash : Kind) (agent : List ℕ) (prefixes : List (List ℕ)) → ((p : List ℕ) → Contains prefixes p → length p ≤ 30000) → first_too_long (listing_lines (greeting_of hash) agent prefixes) ≡ None
lines_fit hash agent prefixes short =
    ap first_too_long (listing_is hash agent prefixes)
    ∙ both_fit (first_lines hash) (sent (map prefix_text prefixes) ++ Flush ∷ []) (first_fit hash)
    (both_fit (sent (map prefix_text prefixes)) (Flush ∷ []) (prefixes_fit prefixes short) refl)

pub listing_fits : (d : Data) (share : List (List ℕ)) (agent : List ℕ) → IsServable d → IsShare d share → first_too_long (listing_lines (greeting_of d.hash) agent (prefixes_of (map as_itself share))) ≡ None
listing_fits d share agent servable sh = lines_fit d.hash agent (prefixes_of (map as_itself share)) short
  where
    each : (name : List ℕ) → Contains share name → (length name ≤ 30000) × (starts_with nat_eq name refs ≡ true)
    each name among =
        let at = at_contains share name among in
        let b = sh.born at.0 name at.1 in
        (born_short d name b.0 servable b.1, begins name (sh.own.under at.0 name at.1))

    short : (p : List ℕ) → Contains (prefixes_of (map as_itself share)) p → length p ≤ 30000
    short p among =
        let listing = is_listing (map as_itself share) in
        let both = sym (listing.members p) ∙ any_of p (prefixes_of (map as_itself share)) among in
        some_short p share each (and_parts (not (list_any asks_for_all (map as_itself share))) (list_any (λ spec. list_any (bytes_eq p) (spec_prefixes spec)) (map as_itself share)) both).1

-- ---- the request for a pack

new_ids : (hash : Kind) (before ids : List ObjectId) → AreNew hash before ids → (id : ObjectId) → Contains ids id → IsIdOf hash id
new_ids hash before [] new id among = absurd (none_in id among)
new_ids hash before (x ∷ ids) new id among =
    ⊎_elim (λ (same : x ≡ id). subst (IsIdOf hash) same new.0) (λ (later : Contains ids id). new_ids hash (before ++ x ∷ []) ids new.2 id later) (cases_in id x ids among)

above_ids : (hash : Kind) (before ids : List ObjectId) → AreAbove hash before ids → (id : ObjectId) → Contains ids id → IsIdOf hash id
above_ids hash before [] above id among = absurd (none_in id among)
above_ids hash before (x ∷ ids) above id among =
    ⊎_elim (λ (same : x ≡ id). subst (IsIdOf hash) same above.0) (λ (later : Contains ids id). above_ids hash (before ++ x ∷ []) ids above.2 id later) (cases_in id x ids among)

all_short : (hash : Kind) (ids : List ObjectId) → ((id : ObjectId) → Contains ids id → IsIdOf hash id) → All (λ id. length (encode_lower (bytes_of id)) ≤ 64) ids
all_short hash ids own = λ k x lt. short_id hash (get_or ids k x) (own (get_or ids k x) (Contains-get_or ids k x lt))

word_fits : (length shallow_word ≤ 100) × (length want_word ≤ 100)
unfolding shallow_word want_word
word_fits = (omega arith, omega arith)

last_fits : first_too_long (text_line done_word ∷ Flush ∷ []) ≡ None
unfolding done_word
last_fits = refl

head_fits : (hash : Kind) → first_too_long (spelled hash []) ≡ None
unfolding command_word format_text format_is kind_text plain_pack plain_pack_2
head_fits Sha1 = refl
head_fits Sha256 = refl

pub request_fits : (hash : Kind) (a : Request) (border : List ObjectId) (id : ObjectId) (wants : List ObjectId) → IsWanting hash a border id wants → AreAbove hash [] border → AreNew hash [] (id ∷ wants)
    → first_too_long (fetch_request a [] true) ≡ None
request_fits hash a border id wants is above new =
    ap first_too_long (request_is hash a border id wants is ∙ spelled_so hash a.agent border id wants)
    ∙ both_fit (spelled hash []) (details_lines border id wants) (head_fits hash)
    (both_fit (sent (id_lines shallow_word border)) (wants_lines id wants) (ids_fit shallow_word border word_fits.0 (all_short hash border (above_ids hash [] border above)))
    (both_fit (sent (id_lines want_word (id ∷ wants))) (text_line done_word ∷ Flush ∷ []) (ids_fit want_word (id ∷ wants) word_fits.1 (all_short hash (id ∷ wants) (new_ids hash [] (id ∷ wants) new))) last_fits))
