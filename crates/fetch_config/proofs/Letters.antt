-- A subsection is read as its letters say, and each one that is read has them.
use Rattle.std.proofs.Common.{◌≡◌, ◌↔◌, ℕ, Bool, true, false, cond, not, eqb, subst, List, [], ◌∷◌, ◌++◌, map, Option, Some, None, refl, sym, ap, ◌∙◌, append_assoc}
use Rattle.std.specs.List.{list_all, flat_map}
use Rattle.std.proofs.lemmas.Bool.{eqb-true, and_parts, and_from}
use Rattle.fetch_config.specs.Values.{with_front, subsection_of}
use Rattle.fetch_config.specs.Subsections.{Letter, Plain, Escaped, letter_text, letter_byte, is_letter, IsQuotedName}
use Rattle.fetch_config.proofs.Marks.{untrue}

-- from the letters to the name

second : {A : Type 0} (a b : Bool) (x y z : A) → a ≡ false → b ≡ false → cond a x (cond b y z) ≡ z
second a b x y z e f = rw (e, f) refl

read-letter : (l : Letter) (t : List ℕ) → is_letter l ≡ true → subsection_of false (letter_text l ++ t) ≡ with_front (letter_byte l) (subsection_of false t)
unfolding subsection_of
read-letter (Plain c) t h =
    let b = and_parts (not (eqb c 34)) (not (eqb c 92)) h in
    second (eqb c 34) (eqb c 92) (Some ([], t)) (subsection_of true t) (with_front c (subsection_of false t)) (untrue (eqb c 34) b.0) (untrue (eqb c 92) b.1)
read-letter (Escaped c) t h = refl

read-close : (rest : List ℕ) → subsection_of false (34 ∷ rest) ≡ Some ([], rest)
unfolding subsection_of
read-close rest = refl

pub read-letters : (ls : List Letter) (rest : List ℕ) → list_all is_letter ls ≡ true → subsection_of false (flat_map letter_text ls ++ 34 ∷ rest) ≡ Some (map letter_byte ls, rest)
read-letters [] rest h = read-close rest
read-letters (l ∷ ls) rest h =
    let b = and_parts (is_letter l) (list_all is_letter ls) h in
    ap (subsection_of false) (append_assoc (letter_text l) (flat_map letter_text ls) (34 ∷ rest))
    ∙ read-letter l (flat_map letter_text ls ++ 34 ∷ rest) b.0
    ∙ ap (with_front (letter_byte l)) (read-letters ls rest b.1)

-- from the name to the letters

record IsOneMore (c : ℕ) (o : Option (List ℕ × List ℕ)) (name rest : List ℕ) : Type 0 where
  behind : List ℕ
  is : o ≡ Some (behind, rest)
  name_is : c ∷ behind ≡ name

same_pair : (p q : List ℕ × List ℕ) → Some p ≡ Some q → p ≡ q
same_pair p q h = cc

one_more : (c : ℕ) (o : Option (List ℕ × List ℕ)) (name rest : List ℕ) → with_front c o ≡ Some (name, rest) → IsOneMore c o name rest
one_more c None name rest h = absurd cc
one_more c (Some (behind, others)) name rest h =
    let same = same_pair (c ∷ behind, others) (name, rest) h in
    record { behind = behind; is = ap (λ (p : List ℕ × List ℕ). Some (behind, p.1)) same; name_is = ap (λ (p : List ℕ × List ℕ). p.0) same }

add_letter : (l : Letter) (text name rest : List ℕ) → is_letter l ≡ true → IsQuotedName text name rest → IsQuotedName (letter_text l ++ text) (letter_byte l ∷ name) rest
add_letter l text name rest h r = record {
  letters = l ∷ r.letters;
  well = and_from (is_letter l) (list_all is_letter r.letters) h r.well;
  text_is = ap (λ t. letter_text l ++ t) r.text_is ∙ sym (append_assoc (letter_text l) (flat_map letter_text r.letters) (34 ∷ rest));
  name_is = ap (λ v. letter_byte l ∷ v) r.name_is;
}

-- what follows says its letters
abbrev Follows : List ℕ → Type 0
Follows text = (name rest : List ℕ) → subsection_of false text ≡ Some (name, rest) → IsQuotedName text name rest

-- what follows a backslash says its letters
abbrev FollowsEscape : List ℕ → Type 0
FollowsEscape text = (name rest : List ℕ) → subsection_of true text ≡ Some (name, rest) → IsQuotedName (92 ∷ text) name rest

nothing_follows : Follows []
unfolding subsection_of
nothing_follows name rest h = absurd cc

nothing_escaped : FollowsEscape []
unfolding subsection_of
nothing_escaped name rest h = absurd cc

more_by : (l : Letter) (text name rest : List ℕ) → is_letter l ≡ true → Follows text → with_front (letter_byte l) (subsection_of false text) ≡ Some (name, rest) → IsQuotedName (letter_text l ++ text) name rest
more_by l text name rest well follows h =
    let m = one_more (letter_byte l) (subsection_of false text) name rest h in
    subst (λ n. IsQuotedName (letter_text l ++ text) n rest) m.name_is (add_letter l text m.behind rest well (follows m.behind rest m.is))

one_escaped : (d : ℕ) (ds : List ℕ) → Follows ds → FollowsEscape (d ∷ ds)
unfolding subsection_of
one_escaped d ds follows name rest h = more_by (Escaped d) ds name rest refl follows h

closed : (cs name rest : List ℕ) → ◌≡◌ {A = Option (List ℕ × List ℕ)} (Some ([], cs)) (Some (name, rest)) → IsQuotedName (34 ∷ cs) name rest
closed cs name rest h =
    let same = same_pair ([], cs) (name, rest) h in
    record { letters = []; well = refl; text_is = ap (λ (p : List ℕ × List ℕ). 34 ∷ p.1) same; name_is = sym (ap (λ (p : List ℕ × List ℕ). p.0) same) }

read_byte : (c : ℕ) (cs : List ℕ) → Follows cs → FollowsEscape cs → Follows (c ∷ cs)
unfolding subsection_of
read_byte c cs follows escaped name rest = quote (eqb c 34) refl where
  slash : (t : Bool) → eqb c 34 ≡ false → eqb c 92 ≡ t → cond t (subsection_of true cs) (with_front c (subsection_of false cs)) ≡ Some (name, rest) → IsQuotedName (c ∷ cs) name rest
  slash true unquote is h = subst (λ n. IsQuotedName (n ∷ cs) name rest) (sym (eqb-true c 92 is)) (escaped name rest h)
  slash false unquote is h = more_by (Plain c) cs name rest (and_from (not (eqb c 34)) (not (eqb c 92)) (ap not unquote) (ap not is)) follows h

  quote : (t : Bool) → eqb c 34 ≡ t → cond t (Some ([], cs)) (cond (eqb c 92) (subsection_of true cs) (with_front c (subsection_of false cs))) ≡ Some (name, rest) → IsQuotedName (c ∷ cs) name rest
  quote true is h = subst (λ n. IsQuotedName (n ∷ cs) name rest) (sym (eqb-true c 34 is)) (closed cs name rest h)
  quote false is h = slash (eqb c 92) is refl h

pub in_letters : (text : List ℕ) → Follows text
in_letters [] = nothing_follows
in_letters (c ∷ []) = read_byte c [] nothing_follows nothing_escaped
in_letters (c ∷ d ∷ ds) = read_byte c (d ∷ ds) (in_letters (d ∷ ds)) (one_escaped d ds (in_letters ds))

pub backslash_takes : (text name rest : List ℕ) → (subsection_of false text ≡ Some (name, rest)) ↔ IsQuotedName text name rest
backslash_takes text name rest =
    (in_letters text name rest, λ r. ap (subsection_of false) r.text_is ∙ read-letters r.letters rest r.well ∙ ap (λ n. Some (n, rest)) (sym r.name_is))
