-- What is written of a header or an entry is read back, a line each.
use Rattle.std.proofs.Common.{◌≡◌, ℕ, suc, ◌+◌, Bool, true, false, cond, not, ◌||◌, eqb, List, [], ◌∷◌, ◌++◌, length, take, drop, Option, Some, None, refl, ap, ◌∙◌, arith, append_assoc, append-nil}
use Rattle.std.specs.List.{list_all, flat_map, prefix_len, take_while}
use Rattle.std.specs.Option.{option_map}
use Rattle.std.specs.Char.{is_ascii_alphabetic}
use Rattle.std.specs.Int.{is_in_range}
use Rattle.std.proofs.lemmas.Bool.{eqb-true, and_parts, and_from}
use Rattle.std.proofs.lemmas.List.Folds.{list_all-append}
use Rattle.fetch_base.specs.Scan.{◌>>=◌}
use Rattle.fetch_config.specs.declared.line.Line.TheVariants.{Nothing, Header, Entry}
use Rattle.fetch_config.specs.Pieces.{is_blank, is_name_byte, skip_blanks, is_name, is_key, behind, IsWithout}
use Rattle.fetch_config.specs.Values.{subsection_of}
use Rattle.fetch_config.specs.Lines.{header_before, header_with_sub, header_behind, header_of, entry_behind, entry_of, line_at, has_nul, line_of}
use Rattle.fetch_config.specs.Print.{value_byte, is_blank_or_return, needs_quotes, escaped, value_text, equals_text, sub_byte, sub_text}
use Rattle.fetch_config.specs.Kept.{is_nul, is_nul_or_feed, is_kept_value, is_kept_sub}
use Rattle.fetch_config.proofs.WrittenValues.{EndsWell, well-append, no_blank, one_blank, value_back, value_ends, sub_back, by_byte, plain_byte}

-- no NUL and no line feed
abbrev is_plain : ℕ → Bool
is_plain c = not (is_nul_or_feed c)

abbrev pub IsPlain : List ℕ → Type 0
IsPlain text = list_all is_plain text ≡ true

plain-append : (s t : List ℕ) → IsPlain s → IsPlain t → IsPlain (s ++ t)
plain-append s t h k = list_all-append is_plain s t ∙ and_from (list_all is_plain s) (list_all is_plain t) h k

plain-cons : (c : ℕ) (cs : List ℕ) → is_plain c ≡ true → IsPlain cs → IsPlain (c ∷ cs)
plain-cons c cs h k = and_from (is_plain c) (list_all is_plain cs) h k

-- A byte that passes a test isn't one that fails it.
pub other_byte : (p : ℕ → Bool) (n c : ℕ) → p n ≡ false → p c ≡ true → eqb c n ≡ false
other_byte p n c fails passes = by_test (eqb c n) refl where
  by_test : (t : Bool) → eqb c n ≡ t → eqb c n ≡ false
  by_test true is = absurd (let e = ap p (eqb-true c n is) in cc)
  by_test false is = is

pub neither : (a b : Bool) → a ≡ false → b ≡ false → (a || b) ≡ false
neither a b h k = ap (λ a. a || b) h ∙ k

name-plain : (c : ℕ) → is_name_byte c ≡ true → is_plain c ≡ true
name-plain c h = ap not (neither (eqb c 0) (eqb c 10) (other_byte is_name_byte 0 c refl h) (other_byte is_name_byte 10 c refl h))

pub names-plain : (text : List ℕ) → list_all is_name_byte text ≡ true → IsPlain text
names-plain [] h = refl
names-plain (c ∷ cs) h = let b = and_parts (is_name_byte c) (list_all is_name_byte cs) h in plain-cons c cs (name-plain c b.0) (names-plain cs b.1)

-- the bytes of a value and of a subsection

value-plain : (c : ℕ) → not (is_nul c) ≡ true → IsPlain (value_byte c)
value-plain = by_byte (λ c. not (is_nul c) ≡ true → IsPlain (value_byte c)) (λ _. refl) (λ _. refl) (λ _. refl) (λ _. refl) (λ _. refl)
    (λ c a b d e f h. ap (list_all is_plain) (plain_byte c a b d e f) ∙ plain-cons c [] (ap not (neither (eqb c 0) (eqb c 10) (untrue (eqb c 0) h) d)) refl)
  where
    untrue : (b : Bool) → not b ≡ true → b ≡ false
    untrue true h = absurd cc
    untrue false h = refl

escaped-plain : (v : List ℕ) → list_all (λ c. not (is_nul c)) v ≡ true → IsPlain (escaped v)
escaped-plain [] h = refl
escaped-plain (c ∷ cs) h = let b = and_parts (not (is_nul c)) (list_all (λ c. not (is_nul c)) cs) h in plain-append (value_byte c) (escaped cs) (value-plain c b.0) (escaped-plain cs b.1)

text-plain : (v : List ℕ) → list_all (λ c. not (is_nul c)) v ≡ true → IsPlain (value_text v)
unfolding value_text
text-plain v h = by_test (needs_quotes v) where
  by_test : (b : Bool) → IsPlain (cond b (34 ∷ (escaped v ++ 34 ∷ [])) (escaped v))
  by_test true = plain-cons 34 (escaped v ++ 34 ∷ []) refl (plain-append (escaped v) (34 ∷ []) (escaped-plain v h) refl)
  by_test false = escaped-plain v h

equals-plain : (value : Option (List ℕ)) → is_kept_value value ≡ true → IsPlain (equals_text value)
equals-plain None h = refl
equals-plain (Some v) h = plain-cons 32 (61 ∷ 32 ∷ value_text v) refl (plain-cons 61 (32 ∷ value_text v) refl (plain-cons 32 (value_text v) refl (text-plain v h)))

sub_byte-plain : (c : ℕ) → is_plain c ≡ true → IsPlain (sub_byte c)
sub_byte-plain c h = by_test (eqb c 92 || eqb c 34) where
  by_test : (b : Bool) → IsPlain (cond b (92 ∷ c ∷ []) (c ∷ []))
  by_test true = plain-cons 92 (c ∷ []) refl (plain-cons c [] h refl)
  by_test false = plain-cons c [] h refl

subs-plain : (s : List ℕ) → IsPlain s → IsPlain (flat_map sub_byte s)
subs-plain [] h = refl
subs-plain (c ∷ cs) h = let b = and_parts (is_plain c) (list_all is_plain cs) h in plain-append (sub_byte c) (flat_map sub_byte cs) (sub_byte-plain c b.0) (subs-plain cs b.1)

sub-plain : (sub : Option (List ℕ)) → is_kept_sub sub ≡ true → IsPlain (sub_text sub)
sub-plain None h = refl
sub-plain (Some s) h = plain-cons 32 (34 ∷ (flat_map sub_byte s ++ 34 ∷ [])) refl (plain-cons 34 (flat_map sub_byte s ++ 34 ∷ []) refl (plain-append (flat_map sub_byte s) (34 ∷ []) (subs-plain s h) refl))

-- A plain text has no NUL and no line feed.
unplain : (a b r : Bool) → not (a || b) ≡ true → r ≡ false → (a || r) ≡ false
unplain true b r h k = absurd cc
unplain false b r h k = k

pub no_nul : (text : List ℕ) → IsPlain text → has_nul text ≡ false
no_nul [] h = refl
no_nul (c ∷ cs) h = let b = and_parts (is_plain c) (list_all is_plain cs) h in unplain (eqb c 0) (eqb c 10) (has_nul cs) b.0 (no_nul cs b.1)

unfed : (a b : Bool) → not (a || b) ≡ true → not b ≡ true
unfed true b h = absurd cc
unfed false b h = h

pub no_feed : (text : List ℕ) → IsPlain text → IsWithout 10 text
no_feed [] h = refl
no_feed (c ∷ cs) h = let b = and_parts (is_plain c) (list_all is_plain cs) h in and_from (not (eqb c 10)) (list_all (λ b. not (eqb b 10)) cs) (unfed (eqb c 0) (eqb c 10) b.0) (no_feed cs b.1)

-- a name and what follows it

unfoldable pub is_stop : List ℕ → Bool
is_stop [] = true
is_stop (c ∷ cs) = not (is_name_byte c)

pub record IsDivided (name rest : List ℕ) : Type 0 where
  pub front : take_while is_name_byte (name ++ rest) ≡ name
  pub back : drop (prefix_len is_name_byte (name ++ rest)) (name ++ rest) ≡ rest

stop_here : (rest : List ℕ) → is_stop rest ≡ true → IsDivided [] rest
unfolding is_stop
stop_here [] h = record { front = refl; back = refl }
stop_here (c ∷ cs) h = by_test (is_name_byte c) refl h where
  by_test : (t : Bool) → is_name_byte c ≡ t → not t ≡ true → IsDivided [] (c ∷ cs)
  by_test true is h = absurd cc
  by_test false is h = record {
    front = ap (λ t. take (cond t (1 + prefix_len is_name_byte cs) 0) (c ∷ cs)) is;
    back = ap (λ t. drop (cond t (1 + prefix_len is_name_byte cs) 0) (c ∷ cs)) is;
  }

pub divided : (name rest : List ℕ) → list_all is_name_byte name ≡ true → is_stop rest ≡ true → IsDivided name rest
divided [] rest h k = stop_here rest k
divided (c ∷ cs) rest h k =
    let b = and_parts (is_name_byte c) (list_all is_name_byte cs) h in
    let d = divided cs rest b.1 k in
    let n = prefix_len is_name_byte (cs ++ rest) in
    let one : 1 + n ≡ suc n = omega arith in
    record {
      front = ap (λ t. take (cond t (1 + n) 0) (c ∷ (cs ++ rest))) b.0 ∙ ap (λ m. take m (c ∷ (cs ++ rest))) one ∙ ap (λ t. c ∷ t) d.front;
      back = ap (λ t. drop (cond t (1 + n) 0) (c ∷ (cs ++ rest))) b.0 ∙ ap (λ m. drop m (c ∷ (cs ++ rest))) one ∙ d.back;
    }

-- a header

abbrev pub header_line : List ℕ → Option (List ℕ) → List ℕ
header_line name sub = 91 ∷ (name ++ (sub_text sub ++ 93 ∷ []))

quoted_sub : (name s : List ℕ) → header_with_sub name (34 ∷ ((flat_map sub_byte s ++ 34 ∷ []) ++ 93 ∷ [])) ≡ Some (Header name (Some s))
quoted_sub name s =
    ap (λ (o : Option (List ℕ × List ℕ)). o >>= λ sub. behind 93 sub.1 >>= λ tail. header_before name (Some sub.0) tail)
    (ap (subsection_of false) (append_assoc (flat_map sub_byte s) (34 ∷ []) (93 ∷ [])) ∙ sub_back s (93 ∷ []))

behind_name : (name : List ℕ) (sub : Option (List ℕ)) → header_behind name (sub_text sub ++ 93 ∷ []) ≡ Some (Header name sub)
behind_name name None = refl
behind_name name (Some s) = quoted_sub name s

stops-header : (sub : Option (List ℕ)) → is_stop (sub_text sub ++ 93 ∷ []) ≡ true
unfolding is_stop
stops-header None = refl
stops-header (Some s) = refl

pub name_bytes : (name : List ℕ) → is_name name ≡ true → list_all is_name_byte name ≡ true
name_bytes name h = (and_parts (not (eqb (length name) 0)) (list_all is_name_byte name) h).1

header_read : (name : List ℕ) (sub : Option (List ℕ)) → is_name name ≡ true → header_of (name ++ (sub_text sub ++ 93 ∷ [])) ≡ Some (Header name sub)
header_read name sub h =
    let rest = sub_text sub ++ 93 ∷ [] in
    let d = divided name rest (name_bytes name h) (stops-header sub) in
    ap (λ n. cond (is_name n) (header_behind n (drop (prefix_len is_name_byte (name ++ rest)) (name ++ rest))) None) d.front
    ∙ ap (λ r. cond (is_name name) (header_behind name r) None) d.back
    ∙ ap (λ t. cond t (header_behind name rest) None) h
    ∙ behind_name name sub

pub header-plain : (name : List ℕ) (sub : Option (List ℕ)) → is_name name ≡ true → is_kept_sub sub ≡ true → IsPlain (header_line name sub)
header-plain name sub h k =
    plain-cons 91 (name ++ (sub_text sub ++ 93 ∷ [])) refl
    (plain-append name (sub_text sub ++ 93 ∷ []) (names-plain name (name_bytes name h)) (plain-append (sub_text sub) (93 ∷ []) (sub-plain sub k) refl))

pub header-ends : (name : List ℕ) (sub : Option (List ℕ)) → EndsWell (header_line name sub)
header-ends name sub = well-append (91 ∷ name) (sub_text sub ++ 93 ∷ []) (record { front = sub_text sub; last = 93; is = refl; fine = refl })

pub header_back : (name : List ℕ) (sub : Option (List ℕ)) → is_name name ≡ true → is_kept_sub sub ≡ true → line_of (header_line name sub) ≡ Some (Header name sub)
unfolding line_of
header_back name sub h k = ap (λ t. cond t None (header_of (name ++ (sub_text sub ++ 93 ∷ [])))) (no_nul (header_line name sub) (header-plain name sub h k)) ∙ header_read name sub h

-- an entry

abbrev pub entry_line : List ℕ × Option (List ℕ) → List ℕ
entry_line entry = 9 ∷ (entry.0 ++ equals_text entry.1)

stops-entry : (value : Option (List ℕ)) → is_stop (equals_text value) ≡ true
unfolding is_stop
stops-entry None = refl
stops-entry (Some v) = refl

behind_key : (key : List ℕ) (value : Option (List ℕ)) → entry_behind key (skip_blanks (equals_text value)) ≡ Some (Entry key value)
behind_key key None = refl
behind_key key (Some v) = ap (λ (o : Option (List ℕ)). option_map (λ value. Entry key (Some value)) o) (value_back v)

pub letter : (c : ℕ) → is_ascii_alphabetic c ≡ true → is_name_byte c ≡ true
letter c h = by_parts (is_in_range 48 57 c) (is_in_range 65 90 c) (is_in_range 97 122 c) h where
  by_parts : (a b d : Bool) → (b || d) ≡ true → (((a || b) || d) || eqb c 45) ≡ true
  by_parts true b d h = refl
  by_parts false true d h = refl
  by_parts false false true h = refl
  by_parts false false false h = absurd cc

pub key_bytes : (key : List ℕ) → is_key key ≡ true → list_all is_name_byte key ≡ true
key_bytes [] h = absurd cc
key_bytes (c ∷ cs) h = let b = and_parts (is_ascii_alphabetic c) (list_all is_name_byte cs) h in and_from (is_name_byte c) (list_all is_name_byte cs) (letter c b.0) b.1

entry_read : (key : List ℕ) (value : Option (List ℕ)) → is_key key ≡ true → entry_of (key ++ equals_text value) ≡ Some (Entry key value)
entry_read key value h =
    let rest = equals_text value in
    let d = divided key rest (key_bytes key h) (stops-entry value) in
    ap (λ n. cond (is_key n) (entry_behind n (skip_blanks (drop (prefix_len is_name_byte (key ++ rest)) (key ++ rest)))) None) d.front
    ∙ ap (λ r. cond (is_key key) (entry_behind key (skip_blanks r)) None) d.back
    ∙ ap (λ t. cond t (entry_behind key (skip_blanks rest)) None) h
    ∙ behind_key key value

-- A line that begins with a letter is an entry.
letter_line : (c : ℕ) (cs : List ℕ) → is_ascii_alphabetic c ≡ true → line_at (skip_blanks (9 ∷ c ∷ cs)) ≡ entry_of (c ∷ cs)
letter_line c cs h =
    ap line_at (one_blank 9 (c ∷ cs) refl ∙ no_blank c cs (neither (eqb c 32) (eqb c 9) (other_byte is_ascii_alphabetic 32 c refl h) (other_byte is_ascii_alphabetic 9 c refl h)))
    ∙ ap (λ t. cond t (Some Nothing) (cond (eqb c 91) (header_of cs) (entry_of (c ∷ cs)))) (neither (eqb c 35) (eqb c 59) (other_byte is_ascii_alphabetic 35 c refl h) (other_byte is_ascii_alphabetic 59 c refl h))
    ∙ ap (λ t. cond t (header_of cs) (entry_of (c ∷ cs))) (other_byte is_ascii_alphabetic 91 c refl h)

key_line : (key : List ℕ) (value : Option (List ℕ)) → is_key key ≡ true → line_at (skip_blanks (entry_line (key, value))) ≡ Some (Entry key value)
key_line [] value h = absurd cc
key_line (c ∷ cs) value h = letter_line c (cs ++ equals_text value) (and_parts (is_ascii_alphabetic c) (list_all is_name_byte cs) h).0 ∙ entry_read (c ∷ cs) value h

pub entry-plain : (key : List ℕ) (value : Option (List ℕ)) → is_key key ≡ true → is_kept_value value ≡ true → IsPlain (entry_line (key, value))
entry-plain key value h k = plain-cons 9 (key ++ equals_text value) refl (plain-append key (equals_text value) (names-plain key (key_bytes key h)) (equals-plain value k))

pub entry_back : (key : List ℕ) (value : Option (List ℕ)) → is_key key ≡ true → is_kept_value value ≡ true → line_of (entry_line (key, value)) ≡ Some (Entry key value)
unfolding line_of
entry_back key value h k = ap (λ t. cond t None (line_at (skip_blanks (entry_line (key, value))))) (no_nul (entry_line (key, value)) (entry-plain key value h k)) ∙ key_line key value h

name_ends : (c : ℕ) → is_name_byte c ≡ true → is_blank_or_return c ≡ false
name_ends c h = neither (is_blank c) (eqb c 13) (neither (eqb c 32) (eqb c 9) (other_byte is_name_byte 32 c refl h) (other_byte is_name_byte 9 c refl h)) (other_byte is_name_byte 13 c refl h)

names-end : (c : ℕ) (cs : List ℕ) → list_all is_name_byte (c ∷ cs) ≡ true → EndsWell (c ∷ cs)
names-end c [] h = record { front = []; last = c; is = refl; fine = name_ends c (and_parts (is_name_byte c) true h).0 }
names-end c (d ∷ ds) h = well-append (c ∷ []) (d ∷ ds) (names-end d ds (and_parts (is_name_byte c) (list_all is_name_byte (d ∷ ds)) h).1)

pub entry-ends : (key : List ℕ) (value : Option (List ℕ)) → is_key key ≡ true → EndsWell (entry_line (key, value))
entry-ends [] value h = absurd cc
entry-ends (c ∷ cs) None h =
    let w = names-end c cs (key_bytes (c ∷ cs) h) in
    let v = well-append (9 ∷ []) (c ∷ cs) w in
    record { front = v.front; last = v.last; is = ap (λ t. 9 ∷ t) (append-nil (c ∷ cs)) ∙ v.is; fine = v.fine }
entry-ends (c ∷ cs) (Some v) h = well-append (9 ∷ (c ∷ cs)) (32 ∷ 61 ∷ 32 ∷ value_text v) (well-append (32 ∷ 61 ∷ 32 ∷ []) (value_text v) (value_ends v))
