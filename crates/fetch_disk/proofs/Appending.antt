-- The spans of `append`, of a journal at rest.
use Rattle.std.proofs.Common.{◌≡◌, inl, ℕ, ◌+◌, ◌^◌, ◌<◌, Bool, true, false, List, [], ◌∷◌, ◌++◌, length, refl, sym, ◌∙◌, ap, subst, arith}
use Rattle.std.specs.Bool.{OnFalse}
use Rattle.fetch_base.specs.Id.{byte_len}
use Rattle.fetch_base.specs.declared.id.Kind.{Kind}
use Rattle.fetch_disk.specs.Directory.{Directory, InJournal, in_journal}
use Rattle.fetch_disk.specs.Disk.{overwritten, Torn, After, JournalIs, LeavesOnly, Follows}
use Rattle.fetch_disk.specs.Records.{payload, Stands, IsAtRest, MayAdd}
use Rattle.fetch_disk.specs.declared.record.Record.{Record}
use Rattle.fetch_disk.proofs.Moments.{weaker}
use Rattle.fetch_disk.proofs.Crash.{staged, ended, at_rest_is, torn_behind, written_behind, torn_gate, written_gate, added, may_add}

pub on_false : (b : Bool) (P : Type 0) → OnFalse b P → b ≡ false → P
on_false true P h is = absurd cc
on_false false P h is = h

-- no time passes
pub stands_still : {D : Type 0} (moment : D → ℕ) (left_since : D → ℕ → Directory → Type 0) (may_leave : D → Directory → Type 0) (only : (d : D) (l : Directory) → left_since d (moment d) l → may_leave d l)
    → (disk : D) (Step : List ℕ → List ℕ → Type 0) → ((bytes : List ℕ) → Step bytes bytes) → LeavesOnly moment left_since disk disk (After (InJournal Step) (may_leave disk))
stands_still moment left_since may_leave only disk Step same = record {
  later = omega arith;
  each = λ l left. (l, only disk l left, (same l.journal, refl));
  before = λ t l le left. inl left;
}

module _ {D : Type 0} (moment : D → ℕ) (left_since : D → ℕ → Directory → Type 0) (may_leave : D → Directory → Type 0) (hash : Kind) (e : Record) (bytes : List ℕ) (es : List Record) (end : ℕ) (r : IsAtRest hash bytes es end) (small : end < 2 ^ 60) (old : D) (only : JournalIs bytes (may_leave old)) where
  stands_at : (d : Directory) → may_leave old d → Stands hash d.journal es
  stands_at d is = subst (λ (l : List ℕ). Stands hash l es) (sym (only d is)) r.stands

  pub first_span : (new : D) (n : ℕ) → LeavesOnly moment left_since old new (After (InJournal (Torn (end + 1) n)) (may_leave old)) → LeavesOnly moment left_since old new (After (InJournal (MayAdd hash e)) (may_leave old))
  first_span new n span =
      weaker moment left_since old new (After (InJournal (Torn (end + 1) n)) (may_leave old)) (After (InJournal (MayAdd hash e)) (may_leave old)) span (λ l a.
      let torn : Torn (end + 1) n (ended hash es r.stands.gate) l.journal = subst (λ (b : List ℕ). Torn (end + 1) n b l.journal) (only a.0 a.1 ∙ at_rest_is hash bytes es end r) a.2.0 in
      let now : Stands hash l.journal es = torn_behind hash es r.stands.gate r.stands.shut end r.place (omega arith) n l.journal torn in
      (a.0, a.1, (may_add hash es e a.0.journal l.journal (stands_at a.0 a.1) (inl now), a.2.1)))

  pub second_span : (mid new : D) (n : ℕ) → end + 10 + length e.body + byte_len hash < 2 ^ 64 → JournalIs (staged hash es r.stands.gate e) (may_leave mid) → Follows (InJournal (Torn (end + 1) n)) (may_leave old) (may_leave mid)
      → LeavesOnly moment left_since mid new (After (InJournal (Torn end 1)) (may_leave mid)) → LeavesOnly moment left_since mid new (After (InJournal (MayAdd hash e)) (may_leave old))
  second_span mid new n fits is crash span =
      weaker moment left_since mid new (After (InJournal (Torn end 1)) (may_leave mid)) (After (InJournal (MayAdd hash e)) (may_leave old)) span (λ l b.
      let a = crash b.0 b.1 in
      let torn : Torn end 1 (staged hash es r.stands.gate e) l.journal = subst (λ (x : List ℕ). Torn end 1 x l.journal) (is b.0 b.1) b.2.0 in
      (a.0, a.1, (may_add hash es e a.0.journal l.journal (stands_at a.0 a.1) (torn_gate hash es r.stands.gate r.stands.shut end r.place (omega arith) e l.journal fits torn), b.2.1 ∙ a.2.1)))

  -- the file between the writes, and after them
  pub middle_is : (seen next : Directory) (text : List ℕ) → seen.journal ≡ bytes → text ≡ payload hash e ++ 0 ∷ [] → next ≡ in_journal (overwritten (end + 1) text) seen → next.journal ≡ staged hash es r.stands.gate e
  middle_is seen next text is are done =
      ap (λ (d : Directory). d.journal) done ∙ ap (overwritten (end + 1) text) (is ∙ at_rest_is hash bytes es end r) ∙ ap (λ (t : List ℕ). overwritten (end + 1) t (ended hash es r.stands.gate)) are
      ∙ written_behind hash es r.stands.gate r.stands.shut end r.place (omega arith) e

  pub last_is : (next last : Directory) → next.journal ≡ staged hash es r.stands.gate e → last ≡ in_journal (overwritten end (1 ∷ [])) next → last.journal ≡ ended hash (es ++ e ∷ []) 0
  last_is next last is done = ap (λ (d : Directory). d.journal) done ∙ ap (overwritten end (1 ∷ [])) is ∙ written_gate hash es r.stands.gate r.stands.shut end r.place (omega arith) e

  pub added_is : (last : List ℕ) (new_end : ℕ) → end + 10 + length e.body + byte_len hash < 2 ^ 64 → last ≡ ended hash (es ++ e ∷ []) 0 → new_end ≡ end + 10 + length e.body + byte_len hash → IsAtRest hash last (es ++ e ∷ []) new_end
  added_is last new_end fits is there = added hash es r.stands.gate r.stands.shut end r.place (omega arith) e new_end last fits is there
