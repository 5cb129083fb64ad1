-- Beginnings of a journal, and the entries of one number.
use Rattle.std.proofs.Common.{◌≡◌, ◌≢◌, ℕ, zero, suc, ◌<◌, ◌≤◌, ◌==◌, cond, List, [], ◌∷◌, ◌++◌, length, refl, sym, ap, ◌∙◌, subst, arith, append_assoc, length-append, ne_eqb, eq-eqb, All}
use Rattle.std.proofs.lemmas.List.{append-nil}
use Rattle.std.proofs.lemmas.List.Elements.{filter-append}
use Rattle.fetch_journal.specs.declared.entry.Entry.{Entry}
use Rattle.fetch_journal.specs.Journals.{Begins, entries_of, pass_of}

pub begins_self : (xs : List Entry) → Begins xs xs
begins_self xs = record { rest = []; is = append-nil xs }

pub begins_trans : (xs ys zs : List Entry) → Begins xs ys → Begins ys zs → Begins xs zs
begins_trans xs ys zs p q = record { rest = p.rest ++ q.rest; is = sym (append_assoc xs p.rest q.rest) ∙ (ap (λ w. w ++ q.rest) p.is ∙ q.is) }

pub begins_more : (xs ys more : List Entry) → Begins xs ys → Begins xs (ys ++ more)
begins_more xs ys more p = begins_trans xs ys (ys ++ more) p (record { rest = more; is = refl })

-- of two beginnings of one journal the shorter begins the longer
pub begins_shorter : (xs ys zs : List Entry) → Begins xs zs → Begins ys zs → length xs ≤ length ys → Begins xs ys
begins_shorter [] ys zs p q le = record { rest = ys; is = refl }
begins_shorter (x ∷ xs) [] zs p q le = absurd (omega arith)
begins_shorter (x ∷ xs) (y ∷ ys) [] p q le = absurd (cc (p.is))
begins_shorter (x ∷ xs) (y ∷ ys) (z ∷ zs) p q le =
    let heads : x ≡ y = cc (p.is, q.is) in
    let below = begins_shorter xs ys zs (record { rest = p.rest; is = cc (p.is) }) (record { rest = q.rest; is = cc (q.is) }) (omega arith) in
    record { rest = below.rest; is = cc (heads, below.is) }

pub begins_length : (xs ys : List Entry) → Begins xs ys → length xs ≤ length ys
begins_length xs ys p = omega (arith, sym (ap length p.is) ∙ length-append xs p.rest)

pub entries_of-append : (n : ℕ) (xs ys : List Entry) → entries_of n (xs ++ ys) ≡ entries_of n xs ++ entries_of n ys
entries_of-append n xs ys = filter-append (λ (e : Entry). pass_of e == n) xs ys

pub entries_of-other : (n : ℕ) (e : Entry) (xs : List Entry) → pass_of e ≢ n → entries_of n (xs ++ e ∷ []) ≡ entries_of n xs
entries_of-other n e xs other =
    let none : entries_of n (e ∷ []) ≡ [] = ap (λ b. cond b (e ∷ []) []) (ne_eqb (pass_of e) n other) in
    entries_of-append n xs (e ∷ []) ∙ (ap (λ ys. entries_of n xs ++ ys) none ∙ append-nil (entries_of n xs))

-- a beginning has no entry of a number of which the journal has none
pub begins_none : (n : ℕ) (xs ys : List Entry) → Begins xs ys → entries_of n ys ≡ [] → entries_of n xs ≡ []
begins_none n xs ys p none = nil_left (entries_of n xs) (entries_of n p.rest) (sym (entries_of-append n xs p.rest) ∙ (ap (entries_of n) p.is ∙ none))
  where
    nil_left : (xs ys : List Entry) → xs ++ ys ≡ [] → xs ≡ []
    nil_left [] ys e = refl
    nil_left (x ∷ xs) ys e = absurd cc

-- a front between two others which have the same entries of a number has them too
pub entries_between : (n : ℕ) (xs ys zs : List Entry) → Begins xs ys → Begins ys zs → entries_of n zs ≡ entries_of n xs → entries_of n ys ≡ entries_of n xs
entries_between n xs ys zs p q same =
    let mid = sym (entries_of-append n xs p.rest) ∙ ap (entries_of n) p.is in
    let end = sym (entries_of-append n ys q.rest) ∙ ap (entries_of n) q.is in
    let short : length (entries_of n p.rest) ≡ 0 = omega (arith, ap length mid, ap length end, ap length same, length-append (entries_of n xs) (entries_of n p.rest), length-append (entries_of n ys) (entries_of n q.rest)) in
    sym mid ∙ (ap (λ es. entries_of n xs ++ es) (empty (entries_of n p.rest) short) ∙ append-nil (entries_of n xs))
  where
    empty : (es : List Entry) → length es ≡ 0 → es ≡ []
    empty [] e = refl
    empty (x ∷ es) e = absurd (omega arith)

-- a front with all entries of each number is the journal
pub all_entries : (xs ys : List Entry) (top : ℕ) → Begins xs ys → All (λ e. pass_of e < top) ys → ((n : ℕ) → n < top → entries_of n ys ≡ entries_of n xs) → xs ≡ ys
all_entries xs ys top p below same = ends p.rest p.is
  where
    ends : (rest : List Entry) → xs ++ rest ≡ ys → xs ≡ ys
    ends [] e = sym (append-nil xs) ∙ e
    ends (x ∷ rest) e =
        let low : pass_of x < top = All_at xs x rest (subst (All (λ e. pass_of e < top)) (sym e) below) in
        let more = sym (entries_of-append (pass_of x) xs (x ∷ rest)) ∙ (ap (entries_of (pass_of x)) e ∙ same (pass_of x) low) in
        let one : entries_of (pass_of x) (x ∷ rest) ≡ x ∷ entries_of (pass_of x) rest = ap (λ b. cond b (x ∷ entries_of (pass_of x) rest) (entries_of (pass_of x) rest)) (eq-eqb (pass_of x) (pass_of x) refl) in
        absurd (omega (arith, ap length more, ap length one, length-append (entries_of (pass_of x) xs) (entries_of (pass_of x) (x ∷ rest))))
      where
        All_at : (xs : List Entry) (x : Entry) (rest : List Entry) → All (λ e. pass_of e < top) (xs ++ x ∷ rest) → pass_of x < top
        All_at [] x rest all = all 0 x (omega arith)
        All_at (y ∷ xs) x rest all = All_at xs x rest (λ k d l. all (suc k) d (omega arith))

pub all_one : (e : Entry) (top : ℕ) → pass_of e < top → All (λ x. pass_of x < top) (e ∷ [])
all_one e top low zero d l = low
all_one e top low (suc k) d l = absurd (omega arith)
