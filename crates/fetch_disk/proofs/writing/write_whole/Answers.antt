use Rattle.std.proofs.Common.{◌≡◌, ◌∙◌, ◌+◌, ◌-◌, [], ◌∷◌, length-append, inl, ap, subst, refl, length, List, ℕ, arith}
use Rattle.std.specs.Prelude.{Err}
use Rattle.std.proofs.lemmas.Result.{err_from_is_err_and}
use Rattle.fetch_base.specs.Faults.{Counts-none}
use Rattle.fetch_disk.specs.Directory.{Directory, InJournal}
use Rattle.fetch_disk.specs.Disk.{After, IsOldOr, LeavesOnly}
use Rattle.fetch_disk.specs.Records.{opened, journal_of}
use Rattle.fetch_disk.proofs.Appending.{stands_still}
use Rattle.fetch_disk.proofs.Whole.{whole_at_rest, write_cause}
use Rattle.fetch_disk.proofs.writing.write_whole.Goals as goal

pub returns-in_err-bytes-clause-any_moment : goal.returns-in_err-bytes-clause-any_moment
returns-in_err-bytes-clause-any_moment g c =
    let v = g.D.Volume in
    stands_still v.moment v.left_since v.may_leave v.only_now c.args.disk.now (IsOldOr (λ (old : List ℕ). journal_of c.args.hash c.args.records.now)) (λ bytes. inl refl)

pub returns-in_err-bytes-clause-counts : goal.returns-in_err-bytes-clause-counts
returns-in_err-bytes-clause-counts g c = Counts-none (g.D.Volume.faults c.args.disk.now)

pub returns-in_err-replace_durable-clause-any_moment : goal.returns-in_err-replace_durable-clause-any_moment
returns-in_err-replace_durable-clause-any_moment g c =
    let v = g.D.Volume in
    subst (λ (b : List ℕ). LeavesOnly v.moment v.left_since c.args.disk.now c.replace_durable.new.disk (After (InJournal (IsOldOr (λ (old : List ℕ). b))) (v.may_leave c.args.disk.now)))
    (c.deref.ensures.value ∙ c.in_ok-bytes.ensures) c.replace_durable.ensures.any_moment

pub returns-in_err-replace_durable-clause-counts : goal.returns-in_err-replace_durable-clause-counts
returns-in_err-replace_durable-clause-counts g c = c.replace_durable.ensures.cause.counts

pub returns-in_err-replace_durable-clause-cause : goal.returns-in_err-replace_durable-clause-cause
returns-in_err-replace_durable-clause-cause g c =
    let v = g.D.Volume in
    let frm = c.from_residual-in_err-replace_durable in
    let p = err_from_is_err_and frm.result frm.ensures.1 in
    let was : c.replace_durable.result ≡ Err c.in_err-replace_durable.field-0.0 = c.in_err-replace_durable.was in
    write_cause ⊥ (v.faults c.args.disk.now) (v.faults c.replace_durable.new.disk) c.replace_durable.result c.in_err-replace_durable.field-0.0 frm.result p.0 c.replace_durable.ensures.cause was p.1 p.2

pub returns-clause-any_moment : goal.returns-clause-any_moment
returns-clause-any_moment g c =
    let v = g.D.Volume in
    subst (λ (b : List ℕ). LeavesOnly v.moment v.left_since c.args.disk.now c.replace_durable.new.disk (After (InJournal (IsOldOr (λ (old : List ℕ). b))) (v.may_leave c.args.disk.now)))
    (c.deref.ensures.value ∙ c.in_ok-bytes.ensures) c.replace_durable.ensures.any_moment

pub returns-clause-counts : goal.returns-clause-counts
returns-clause-counts g c = c.replace_durable.ensures.cause.counts

pub returns-clause-written : goal.returns-clause-written
returns-clause-written g c =
    ap (λ (d : Directory). d.journal) c.in_ok-replace_durable.ensures.replaced ∙ c.deref.ensures.value ∙ c.in_ok-bytes.ensures

pub returns-clause-packs : goal.returns-clause-packs
returns-clause-packs g c = ap (λ (d : Directory). d.packs) c.in_ok-replace_durable.ensures.replaced

pub returns-clause-durable : goal.returns-clause-durable
returns-clause-durable g c = c.in_ok-replace_durable.ensures.durable

pub returns-clause-at_rest : goal.returns-clause-at_rest
returns-clause-at_rest g c =
    let file = (g.D.Volume.seen c.replace_durable.new.disk).journal in
    let same : file ≡ c.in_ok-bytes.bytes.items = ap (λ (d : Directory). d.journal) c.in_ok-replace_durable.ensures.replaced ∙ c.deref.ensures.value in
    let is : file ≡ journal_of c.args.hash c.args.records.now = same ∙ c.in_ok-bytes.ensures in
    let long : length file ≡ length (opened c.args.hash c.args.records.now) + 1 = ap length is ∙ length-append (opened c.args.hash c.args.records.now) (0 ∷ []) in
    let size : length file ≡ length c.in_ok-bytes.bytes.items = ap length same in
    whole_at_rest c.args.hash file c.args.records.now (c.len.result - 1) is (omega (arith, c.len.ensures)) (omega arith)
