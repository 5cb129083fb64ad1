-- What calls with passes give back.
use Rattle.std.proofs.Common.{◌≡◌, ◌≢◌, ◌⊎◌, ◌↔◌, ℕ, zero, suc, ◌+◌, List, [], ◌∷◌, ◌++◌, length, refl, sym, ap, ◌∙◌, subst, inl, inr, ⊎_elim, arith, Option, Some, slice_get, cond, eq-eqb}
use mathlib.Core.Logic.{dite}
use native.Mathlib.Decide.{ℕ_discrete}
use Rattle.atomic_table.specs.Table.{Me}
use Rattle.atomic_table.specs.Seated.{TableId}
use Rattle.fetch_journal.specs.declared.entry.Entry.{Entry}
use Rattle.fetch_shared.specs.declared.view.Span.{Span}
use Rattle.fetch_shared.specs.declared.view.View.{View}
use Rattle.fetch_shared.specs.declared.view.Stage.TheVariants.{Resting}
use Rattle.fetch_journal.specs.Journals.{Begins, entries_of, pass_of}
use Rattle.fetch_shared.specs.Numbers.{times_held, Holds}
use Rattle.fetch_shared.specs.LockRule.{own_at, own, turning, resting, settled, both_parts, AreJoined}
use Rattle.fetch_shared.specs.Passes.{Holder, holder_of, IsBack}
use Rattle.fetch_journal.proofs.Journals.{begins_trans, begins_more, entries_of-other, entries_of-append}
use Rattle.fetch_shared.proofs.Held.{times_held-append}
use Rattle.fetch_journal.specs.Shared.{SharedValue}

-- a pass that had the turn, and saw a longer journal
pub comes_back : (table table' : TableId) (v w : View) (journal : List Entry) → v.stage ≡ Resting → table' ≡ table → w ≡ resting (turning v journal) → Begins v.front journal
    → ((n : ℕ) → Holds (own v) n → n ≢ v.number → entries_of n journal ≡ entries_of n v.front) → IsBack (holder_of table v) (holder_of table' w)
comes_back table table' v w journal is same now begins others = subst (λ (u : View). IsBack (holder_of table v) (holder_of table' u)) (sym now) (record {
  shared = λ i. record { table = same i; opening = v.opening };
  number = refl;
  unused = refl;
  held = sym (ap (own_at v) is);
  begins = begins;
  others = others;
})

pub back_trans : (a b c : Holder) → IsBack a b → IsBack b c → IsBack a c
back_trans a b c p q = record {
  shared = q.shared ∙ p.shared;
  number = q.number ∙ p.number;
  unused = q.unused ∙ p.unused;
  held = q.held ∙ p.held;
  begins = begins_trans a.front b.front c.front p.begins q.begins;
  others = λ n h other. q.others n (subst (λ (held : List Span). Holds held n) (sym p.held) h) (λ e. other (e ∙ p.number)) ∙ p.others n h other;
}

-- what stands in a front stands in each that begins with it, at the same place
pub stays_at : (xs ys : List Entry) (k : ℕ) (e : Entry) → Begins xs ys → slice_get xs k ≡ Some e → slice_get ys k ≡ Some e
stays_at [] ys k e p h = absurd cc
stays_at (x ∷ xs) [] k e p h = absurd (cc (p.is))
stays_at (x ∷ xs) (y ∷ ys) zero e p h = cc (p.is, h)
stays_at (x ∷ xs) (y ∷ ys) (suc k) e p h = stays_at xs ys k e (record { rest = p.rest; is = cc (p.is) }) h

pub slice_get-last : (xs : List Entry) (e : Entry) → slice_get (xs ++ e ∷ []) (length xs) ≡ Some e
slice_get-last [] e = refl
slice_get-last (x ∷ xs) e = slice_get-last xs e

-- a pass that took in another holds what both held
pub joined_held : (v w : View) (m m' : Me (Option SharedValue) View) → v.stage ≡ Resting → m.0 ≡ both_parts v w → AreJoined m m' (own w) w.front
    → (n : ℕ) → Holds (own m'.0) n ↔ (Holds (own v) n ⊎ Holds (own w) n)
joined_held v w m m' is both t n =
    let now : own m'.0 ≡ own_at v Resting ++ own w = ap (λ (x : Me (Option SharedValue) View). own x.0) t.1 ∙ ap (λ (u : View). own (settled u (own w) t.0)) both in
    let mine : times_held n (own v) ≡ times_held n (own_at v Resting) = ap (λ st. times_held n (own_at v st)) is in
    let all : times_held n (own m'.0) ≡ times_held n (own_at v Resting) + times_held n (own w) = ap (times_held n) now ∙ times_held-append n (own_at v Resting) (own w) in (
      (λ h. dite (ℕ_discrete (times_held n (own v)) 0) (λ none_here. inr (omega arith)) (λ some_here. inl (omega arith))),
      ⊎_elim (λ (h : Holds (own v) n). omega arith) (λ (h : Holds (own w) n). omega arith),
    )

-- a journal with one entry more goes on from each of its beginnings, and has no entry more of another number
pub begins_entered : (xs ys zs : List Entry) (e : Entry) → Begins xs ys → zs ≡ ys ++ e ∷ [] → Begins xs zs
begins_entered xs ys zs e p is = subst (Begins xs) (sym is) (begins_more xs ys (e ∷ []) p)

pub others_entered : (n : ℕ) (xs ys zs : List Entry) (e : Entry) → entries_of n ys ≡ entries_of n xs → pass_of e ≢ n → zs ≡ ys ++ e ∷ [] → entries_of n zs ≡ entries_of n xs
others_entered n xs ys zs e same other is = ap (entries_of n) is ∙ (entries_of-other n e ys other ∙ same)

-- and has it as its last of its own number
pub own_entered : (n : ℕ) (xs ys zs : List Entry) (e : Entry) → entries_of n ys ≡ entries_of n xs → pass_of e ≡ n → zs ≡ ys ++ e ∷ [] → entries_of n zs ≡ entries_of n xs ++ e ∷ []
own_entered n xs ys zs e same own is =
    let one : entries_of n (e ∷ []) ≡ e ∷ [] = ap (λ b. cond b (e ∷ []) []) (eq-eqb (pass_of e) n own) in
    ap (entries_of n) is ∙ (entries_of-append n ys (e ∷ []) ∙ (ap (λ es. es ++ entries_of n (e ∷ [])) same ∙ ap (λ es. entries_of n xs ++ es) one))

pub last_entered : (xs ys : List Entry) (e : Entry) (k : ℕ) → ys ≡ xs ++ e ∷ [] → k ≡ length xs → slice_get ys k ≡ Some e
last_entered xs ys e k is at = subst (λ (x : List Entry × ℕ). slice_get x.0 x.1 ≡ Some e) (λ i. (sym is i, sym at i)) (slice_get-last xs e)
