-- A journal that is written whole.
use Rattle.std.proofs.Common.{◌≡◌, inr, ℕ, ◌+◌, ◌^◌, ◌<◌, List, [], ◌∷◌, length, refl, sym, ◌∙◌, ap, subst, arith, length-append, false}
use Rattle.std.specs.Prelude.{Result, Err, IfErr}
use Rattle.fetch_base.specs.Faults.{Faults}
use Rattle.fetch_base.specs.declared.id.Kind.{Kind}
use Rattle.fetch_disk.specs.Disk.{HasCause}
use Rattle.fetch_disk.specs.Errors.{journal_error}
use Rattle.fetch_disk.specs.Journal.{WriteCause}
use Rattle.fetch_disk.specs.Records.{opened, journal_of, IsAtRest}
use Rattle.fetch_disk.specs.declared.disk_error.DiskError.{DiskError}
use Rattle.fetch_disk.specs.declared.disk_error.DiskError.TheVariants as disk
use Rattle.fetch_disk.specs.declared.journal_error.JournalError.{JournalError}
use Rattle.fetch_disk.specs.declared.record.Record.{Record}

pub whole_at_rest : (hash : Kind) (bytes : List ℕ) (es : List Record) (end : ℕ) → bytes ≡ journal_of hash es → end + 1 ≡ length bytes → length bytes < 2 ^ 64 → IsAtRest hash bytes es end
whole_at_rest hash bytes es end is size small =
    let long : length bytes ≡ length (opened hash es) + 1 = ap length is ∙ length-append (opened hash es) (0 ∷ []) in
    record {
      stands = record { gate = 0; behind = []; shut = λ h. absurd (omega arith); whole = is; small = omega arith };
      nothing_behind = refl;
      place = omega arith;
    }

write_is : {T : Type 0} (TooLong : Type 0) (before now : Faults) (r : Result T DiskError) (e : DiskError) → HasCause before now r → r ≡ Err e → WriteCause false TooLong before now (journal_error e)
write_is TooLong before now r disk.Failed h is = h.failed is
write_is TooLong before now r disk.Full h is = inr (h.full is)
write_is TooLong before now r disk.NoMemory h is = tt

pub write_cause : {T U : Type 0} (TooLong : Type 0) (before now : Faults) (r : Result T DiskError) (e : DiskError) (s : Result U JournalError) (f : JournalError) → HasCause before now r → r ≡ Err e → s ≡ Err f → f ≡ journal_error e → IfErr s (WriteCause false TooLong before now)
write_cause {U = U} TooLong before now r e s f h was is same =
    subst (λ (t : Result U JournalError). IfErr t (WriteCause false TooLong before now)) (sym is) (subst (WriteCause false TooLong before now) (sym same) (write_is TooLong before now r e h was))
