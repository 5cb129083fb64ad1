-- A text of records has one reading.
use Rattle.std.proofs.Common.{◌≡◌, ◌≢◌, ℕ, ◌+◌, ◌^◌, ◌<◌, List, [], ◌∷◌, ◌++◌, length, Some, refl, sym, ap, ◌∙◌, append_assoc, arith, length-append}
use Rattle.std.proofs.lemmas.List.{append_cancel_left}
use Rattle.fetch_base.specs.Id.{byte_len}
use Rattle.fetch_base.specs.declared.id.Kind.{Kind}
use Rattle.fetch_disk.specs.declared.journal_error.JournalError.{JournalError}
use Rattle.fetch_disk.specs.declared.journal_error.JournalError.TheVariants as errors
use Rattle.fetch_disk.specs.declared.record.Record.{Record}
use Rattle.fetch_disk.specs.Reading.{first}
use Rattle.fetch_disk.specs.Records.{mark, payload, spelled, front, opened, Stands, HasVersion, BeginsNothing, IsDamagedAt, IsForeign}
use Rattle.fetch_disk.proofs.Found.{again, length-payload}

some_is : {A : Type 0} (x y : A) → Some x ≡ Some y → x ≡ y
some_is x y e = cc

head_is : (x y : ℕ) (xs ys : List ℕ) → x ∷ xs ≡ y ∷ ys → x ≡ y
head_is x y xs ys e = cc

pub length-spelled : (hash : Kind) (e : Record) (es : List Record) → length (spelled hash (e ∷ es)) ≡ 10 + length e.body + byte_len hash + length (spelled hash es)
length-spelled hash e es = omega (arith, length-append (payload hash e) (spelled hash es), length-payload hash e)

pub length-opened : (hash : Kind) (es : List Record) → length (opened hash es) ≡ 9 + length (spelled hash es)
unfolding opened front
length-opened hash es = omega arith

-- the first of the records, and what is behind it
next : (hash : Kind) (e : Record) (es : List Record) (rest : List ℕ) → length e.body < 2 ^ 64 → first hash (spelled hash (e ∷ es) ++ rest) ≡ Some (e, spelled hash es ++ rest)
next hash e es rest small = ap (λ (l : List ℕ). first hash (1 ∷ l)) (append_assoc (payload hash e) (spelled hash es) rest) ∙ again hash e (spelled hash es ++ rest) small

pub one_spelled : (hash : Kind) (es fs : List Record) (g h : ℕ) (X Y : List ℕ) → g ≢ 1 → h ≢ 1 → length (spelled hash es) < 2 ^ 64 → length (spelled hash fs) < 2 ^ 64
    → spelled hash es ++ g ∷ X ≡ spelled hash fs ++ h ∷ Y → es ≡ fs
one_spelled hash [] [] g h X Y p q s t is = refl
one_spelled hash [] (f ∷ fs) g h X Y p q s t is = absurd (p (head_is _ _ _ _ is))
one_spelled hash (e ∷ es) [] g h X Y p q s t is = absurd (q (sym (head_is _ _ _ _ is)))
one_spelled hash (e ∷ es) (f ∷ fs) g h X Y p q s t is =
    let m = length-spelled hash e es in
    let n = length-spelled hash f fs in
    let a = next hash e es (g ∷ X) (omega arith) in
    let b = next hash f fs (h ∷ Y) (omega arith) in
    let both = some_is (e, spelled hash es ++ g ∷ X) (f, spelled hash fs ++ h ∷ Y) (sym a ∙ ap (first hash) is ∙ b) in
    let rest : es ≡ fs = one_spelled hash es fs g h X Y p q (omega arith) (omega arith) (ap (λ (x : Record × List ℕ). x.1) both) in
    λ i. (both i).0 ∷ rest i

pub one_reading : (hash : Kind) (bytes : List ℕ) (es fs : List Record) → Stands hash bytes es → Stands hash bytes fs → es ≡ fs
unfolding opened
one_reading hash bytes es fs s t =
    let is = sym (append_assoc front (spelled hash es) (s.gate ∷ s.behind)) ∙ sym s.whole ∙ t.whole ∙ append_assoc front (spelled hash fs) (t.gate ∷ t.behind) in
    one_spelled hash es fs s.gate t.gate s.behind t.behind s.shut t.shut (omega (arith, s.small, length-opened hash es)) (omega (arith, t.small, length-opened hash fs)) (append_cancel_left front _ _ is)

-- ---- one damage, and none where records stand

cons_tail : (x y : ℕ) (xs ys : List ℕ) → x ∷ xs ≡ y ∷ ys → xs ≡ ys
cons_tail x y xs ys e = cc

-- the same record in front of both, and what is behind it
both_next : (hash : Kind) (e f : Record) (es fs : List Record) (R S : List ℕ) → length e.body < 2 ^ 64 → length f.body < 2 ^ 64 → spelled hash (e ∷ es) ++ R ≡ spelled hash (f ∷ fs) ++ S → (e ≡ f) × (spelled hash es ++ R ≡ spelled hash fs ++ S)
both_next hash e f es fs R S s t is =
    let both = some_is (e, spelled hash es ++ R) (f, spelled hash fs ++ S) (sym (next hash e es R s) ∙ ap (first hash) is ∙ next hash f fs S t) in
    (ap (λ (x : Record × List ℕ). x.0) both, ap (λ (x : Record × List ℕ). x.1) both)

-- a record in front is no nothing
is_record : (hash : Kind) (e : Record) (es : List Record) (R S : List ℕ) → length e.body < 2 ^ 64 → BeginsNothing hash S → S ≡ spelled hash (e ∷ es) ++ R → ⊥
is_record hash e es R S small nothing is = nothing.no_record e (spelled hash es ++ R) small (is ∙ ap (λ (l : List ℕ). 1 ∷ l) (append_assoc (payload hash e) (spelled hash es) R))

pub one_end : (hash : Kind) (es fs : List Record) (R S : List ℕ) → BeginsNothing hash R → BeginsNothing hash S → length (spelled hash es) < 2 ^ 64 → length (spelled hash fs) < 2 ^ 64 → spelled hash es ++ R ≡ spelled hash fs ++ S → es ≡ fs
one_end hash [] [] R S p q s t is = refl
one_end hash [] (f ∷ fs) R S p q s t is = let n = length-spelled hash f fs in absurd (is_record hash f fs S R (omega arith) p is)
one_end hash (e ∷ es) [] R S p q s t is = let m = length-spelled hash e es in absurd (is_record hash e es R S (omega arith) q (sym is))
one_end hash (e ∷ es) (f ∷ fs) R S p q s t is =
    let m = length-spelled hash e es in
    let n = length-spelled hash f fs in
    let b = both_next hash e f es fs R S (omega arith) (omega arith) is in
    let rest : es ≡ fs = one_end hash es fs R S p q (omega arith) (omega arith) b.1 in
    λ i. b.0 i ∷ rest i

pub no_end : (hash : Kind) (es fs : List Record) (g : ℕ) (X S : List ℕ) → g ≢ 1 → BeginsNothing hash S → length (spelled hash es) < 2 ^ 64 → length (spelled hash fs) < 2 ^ 64 → spelled hash es ++ g ∷ X ≡ spelled hash fs ++ S → ⊥
no_end hash [] [] g X S p q s t is = p (q.no_gate g X (sym is))
no_end hash [] (f ∷ fs) g X S p q s t is = p (head_is _ _ _ _ is)
no_end hash (e ∷ es) [] g X S p q s t is = let m = length-spelled hash e es in is_record hash e es (g ∷ X) S (omega arith) q (sym is)
no_end hash (e ∷ es) (f ∷ fs) g X S p q s t is =
    let m = length-spelled hash e es in
    let n = length-spelled hash f fs in
    no_end hash es fs g X S p q (omega arith) (omega arith) (both_next hash e f es fs (g ∷ X) S (omega arith) (omega arith) is).1

pub one_place : (hash : Kind) (bytes : List ℕ) (p q : ℕ) → IsDamagedAt hash bytes p → IsDamagedAt hash bytes q → p ≡ q
unfolding opened
one_place hash bytes p q d e =
    let is = sym (append_assoc front (spelled hash d.before) d.rest) ∙ sym d.whole ∙ e.whole ∙ append_assoc front (spelled hash e.before) e.rest in
    let same = one_end hash d.before e.before d.rest e.rest d.nothing e.nothing (omega (arith, d.small, length-opened hash d.before)) (omega (arith, e.small, length-opened hash e.before)) (append_cancel_left front _ _ is) in
    d.stands ∙ ap (λ (es : List Record). length (opened hash es)) same ∙ sym e.stands

pub sound : (hash : Kind) (bytes : List ℕ) (es : List Record) (p : ℕ) → Stands hash bytes es → IsDamagedAt hash bytes p → ⊥
unfolding opened
sound hash bytes es p s d =
    let is = sym (append_assoc front (spelled hash es) (s.gate ∷ s.behind)) ∙ sym s.whole ∙ d.whole ∙ append_assoc front (spelled hash d.before) d.rest in
    no_end hash es d.before s.gate s.behind d.rest s.shut d.nothing (omega (arith, s.small, length-opened hash es)) (omega (arith, d.small, length-opened hash d.before)) (append_cancel_left front _ _ is)

-- a journal begins with the mark and the version 1
begins : (hash : Kind) (bytes : List ℕ) (es : List Record) → Stands hash bytes es → HasVersion bytes 1
unfolding opened front
begins hash bytes es s = (spelled hash es ++ s.gate ∷ s.behind, s.whole)

version_is : (bytes : List ℕ) (v w : ℕ) → HasVersion bytes v → HasVersion bytes w → v ≡ w
version_is bytes v w a b = head_is v w a.0 b.0 (append_cancel_left mark _ _ (sym a.1 ∙ b.1))

pub known : (hash : Kind) (bytes : List ℕ) (es : List Record) (e : JournalError) → Stands hash bytes es → IsForeign bytes e → ⊥
known hash bytes es errors.NotARepository s f = f 1 (begins hash bytes es s)
known hash bytes es (errors.Version found) s f = f.1 (version_is bytes found 1 f.0 (begins hash bytes es s))
known hash bytes es (errors.Damaged place) s f = f
known hash bytes es errors.Failed s f = f
known hash bytes es errors.Full s f = f
known hash bytes es errors.Disk s f = f
known hash bytes es errors.NoMemory s f = f
