-- What a crash leaves while a journal is opened.
use Rattle.std.proofs.Common.{◌≡◌, inl, inr, ℕ, zero, suc, ◌+◌, ◌≤◌, List, [], ◌∷◌, ◌++◌, length, take, refl, sym, ◌∙◌, ap, subst, arith, append_assoc, length-append}
use Rattle.std.proofs.lemmas.List.{take_at}
use Rattle.std.specs.Prelude.{Result, Err, IfErr}
use Rattle.fetch_base.specs.Faults.{Faults, Counts, Rose-earlier}
use Rattle.fetch_base.specs.declared.id.Kind.{Kind}
use Rattle.fetch_disk.specs.declared.disk_error.DiskError.{DiskError}
use Rattle.fetch_disk.specs.declared.disk_error.DiskError.TheVariants as disk
use Rattle.fetch_disk.specs.declared.journal_error.JournalError.{JournalError}
use Rattle.fetch_disk.specs.declared.journal_error.JournalError.TheVariants as errors
use Rattle.fetch_disk.specs.Errors.{journal_error}
use Rattle.fetch_disk.specs.Journal.{OpenCause}
use Rattle.fetch_disk.specs.Directory.{Directory, InJournal}
use Rattle.fetch_disk.specs.Disk.{Shortened, After, NoOther, JournalIs, LeavesOnly, HasCause}
use Rattle.fetch_disk.specs.Records.{opened, Stands, IsAtRest, SameRecords, StaysOrReads, IsRead, IsUnread}
use Rattle.fetch_disk.specs.declared.record.Record.{Record}
use Rattle.fetch_disk.proofs.Moments.{weaker}

-- a front that goes past the begin has it
take_past : (xs ys : List ℕ) (m : ℕ) → length xs ≤ m → (n : ℕ) × (take m (xs ++ ys) ≡ xs ++ take n ys)
take_past [] ys m le = (m, refl)
take_past (x ∷ xs) ys zero le = absurd (omega arith)
take_past (x ∷ xs) ys (suc m) le = let p = take_past xs ys m (omega arith) in (p.0, ap (λ (l : List ℕ). x ∷ l) p.1)

module _ (hash : Kind) (bytes : List ℕ) (es : List Record) (end : ℕ) (r : IsRead hash bytes es end) where
  -- the records and the gate, and what is behind them
  whole_is : bytes ≡ (opened hash es ++ r.stands.gate ∷ []) ++ r.stands.behind
  whole_is = r.stands.whole ∙ sym (append_assoc (opened hash es) (r.stands.gate ∷ []) r.stands.behind)

  length-kept : length (opened hash es ++ r.stands.gate ∷ []) ≡ end + 1
  length-kept = omega (arith, r.gate, length-append (opened hash es) (r.stands.gate ∷ []))

  pub within : end + 1 ≤ length bytes
  within = omega (arith, ap length whole_is, length-append (opened hash es ++ r.stands.gate ∷ []) r.stands.behind, length-kept)

  -- each cut keeps the records
  pub cut_keeps : (c : List ℕ) → Shortened (end + 1) bytes c → Stands hash c es
  cut_keeps c cut =
      let long : end + 1 ≤ length c = omega (arith, cut.least, within) in
      let p = take_past (opened hash es ++ r.stands.gate ∷ []) r.stands.behind (length c) (omega (arith, length-kept)) in
      let is : c ≡ (opened hash es ++ r.stands.gate ∷ []) ++ take p.0 r.stands.behind = sym cut.front ∙ ap (λ (l : List ℕ). take (length c) l) whole_is ∙ p.1 in
      record {
        gate = r.stands.gate;
        behind = take p.0 r.stands.behind;
        shut = r.stands.shut;
        whole = is ∙ append_assoc (opened hash es) (r.stands.gate ∷ []) (take p.0 r.stands.behind);
        small = r.stands.small;
      }

  pub cut_is : (new : List ℕ) → new ≡ take (end + 1) bytes → IsAtRest hash new es end
  cut_is new is = record {
    stands = record {
      gate = r.stands.gate;
      behind = [];
      shut = r.stands.shut;
      whole = is ∙ ap (take (end + 1)) whole_is ∙ take_at (opened hash es ++ r.stands.gate ∷ []) r.stands.behind (end + 1) length-kept;
      small = r.stands.small;
    };
    nothing_behind = refl;
    place = r.gate;
  }

  -- what stands for these records, stands for what the bytes stand for
  pub same_records : (c : List ℕ) → Stands hash c es → SameRecords hash bytes c
  same_records c now = (es, r.stands, now)

  module _ {D : Type 0} (moment : D → ℕ) (left_since : D → ℕ → Directory → Type 0) (may_leave : D → Directory → Type 0) where
    -- the cut of a disk whose outcomes all have these bytes
    pub cut_span : (first old new : D) → NoOther (may_leave first) (may_leave old) → JournalIs bytes (may_leave old) → LeavesOnly moment left_since old new (After (InJournal (Shortened (end + 1))) (may_leave old))
        → LeavesOnly moment left_since old new (After (InJournal (StaysOrReads hash bytes)) (may_leave first))
    cut_span first old new no_other is span =
        weaker moment left_since old new (After (InJournal (Shortened (end + 1))) (may_leave old)) (After (InJournal (StaysOrReads hash bytes)) (may_leave first)) span (λ l a.
        let cut : Shortened (end + 1) bytes l.journal = subst (λ (b : List ℕ). Shortened (end + 1) b l.journal) (is a.0 a.1) a.2.0 in
        (a.0, no_other a.0 a.1, (inr (same_records l.journal (cut_keeps l.journal cut)), a.2.1)))

-- what stays is a step of each reading
pub stays : {D : Type 0} (moment : D → ℕ) (left_since : D → ℕ → Directory → Type 0) (may_leave : D → Directory → Type 0) (hash : Kind) (bytes : List ℕ) (first old new : D) → LeavesOnly moment left_since old new (may_leave first)
    → LeavesOnly moment left_since old new (After (InJournal (StaysOrReads hash bytes)) (may_leave first))
stays moment left_since may_leave hash bytes first old new span =
    weaker moment left_since old new (may_leave first) (After (InJournal (StaysOrReads hash bytes)) (may_leave first)) span (λ l is. (l, is, (inl refl, refl)))

-- ---- why it isn't opened

cause_of : {T : Type 0} (hash : Kind) (bytes : List ℕ) (first before now : Faults) (r : Result T DiskError) (e : DiskError) → Counts first before → HasCause before now r → r ≡ Err e → OpenCause hash bytes first now (journal_error e)
cause_of hash bytes first before now r disk.Failed counts h is = Rose-earlier first before now counts (h.failed is)
cause_of hash bytes first before now r disk.Full counts h is = Rose-earlier first before now counts (h.full is)
cause_of hash bytes first before now r disk.NoMemory counts h is = tt

-- an error of the disk is one of the journal
pub open_cause : {T U : Type 0} (hash : Kind) (bytes : List ℕ) (first before now : Faults) (r : Result T DiskError) (e : DiskError) (s : Result U JournalError) (f : JournalError) → Counts first before → HasCause before now r → r ≡ Err e → s ≡ Err f → f ≡ journal_error e
    → IfErr s (OpenCause hash bytes first now)
open_cause {U = U} hash bytes first before now r e s f counts h was is same =
    subst (λ (t : Result U JournalError). IfErr t (OpenCause hash bytes first now)) (sym is) (subst (OpenCause hash bytes first now) (sym same) (cause_of hash bytes first before now r e counts h was))

-- an error of the bytes is one of the journal
unread_is : (hash : Kind) (bytes : List ℕ) (first now : Faults) (e : JournalError) → IsUnread hash bytes e → OpenCause hash bytes first now e
unread_is hash bytes first now errors.NotARepository h = h
unread_is hash bytes first now (errors.Version found) h = h
unread_is hash bytes first now (errors.Damaged place) h = h
unread_is hash bytes first now errors.Failed h = h
unread_is hash bytes first now errors.Full h = absurd h
unread_is hash bytes first now errors.Disk h = absurd h
unread_is hash bytes first now errors.NoMemory h = tt

pub unread_cause : {U : Type 0} (hash : Kind) (read bytes : List ℕ) (first now : Faults) (e : JournalError) (s : Result U JournalError) (f : JournalError) → read ≡ bytes → IsUnread hash read e → s ≡ Err f → f ≡ e → IfErr s (OpenCause hash bytes first now)
unread_cause {U = U} hash read bytes first now e s f same h is that =
    subst (λ (t : Result U JournalError). IfErr t (OpenCause hash bytes first now)) (sym is) (subst (OpenCause hash bytes first now) (sym that) (unread_is hash bytes first now e (subst (λ (b : List ℕ). IsUnread hash b e) same h)))
