use Rattle.std.proofs.Common.{◌≡◌, ◌≤◌, length, ◌∙◌, ap, sym, subst, List, ℕ, ◌+◌, take}
use Rattle.std.specs.Prelude.{Err}
use Rattle.std.proofs.lemmas.Result.{err_from_is_err_and, IfErr-at_err}
use Rattle.fetch_base.specs.Faults.{Counts-none, Counts-then}
use Rattle.fetch_disk.specs.Directory.{Directory, InJournal}
use Rattle.fetch_disk.specs.Disk.{After, JournalIs, LeavesOnly}
use Rattle.fetch_disk.specs.Records.{IsRead, IsUnread, StaysOrReads}
use Rattle.fetch_disk.proofs.Moments.{joined, weaker}
use Rattle.fetch_disk.proofs.Recovering.{within, cut_is, cut_span, stays, open_cause, unread_cause}
use Rattle.fetch_disk.proofs.opening.recover.Goals as goal

pub returns-in_err-settle-clause-any_moment : goal.returns-in_err-settle-clause-any_moment
returns-in_err-settle-clause-any_moment g c =
    let v = g.D.Volume in
    let first = c.args.disk.now in
    let hash = c.args.hash in
    let file = (v.seen first).journal in
    stays v.moment v.left_since v.may_leave hash file first first c.settle.new.disk c.settle.ensures.any_moment

pub returns-in_err-settle-clause-counts : goal.returns-in_err-settle-clause-counts
returns-in_err-settle-clause-counts g c =
    c.settle.ensures.cause.counts

pub returns-in_err-settle-clause-cause : goal.returns-in_err-settle-clause-cause
returns-in_err-settle-clause-cause g c =
    let v = g.D.Volume in
    let first = c.args.disk.now in
    let hash = c.args.hash in
    let file = (v.seen first).journal in
    let p = err_from_is_err_and c.from_residual.result c.from_residual.ensures.1 in
    let was : c.settle.result ≡ Err c.in_err-settle.field-0.0 = c.in_err-settle.was in
    open_cause hash file (v.faults first) (v.faults first) (v.faults c.settle.new.disk) c.settle.result c.in_err-settle.field-0.0 c.from_residual.result p.0 (Counts-none (v.faults first)) c.settle.ensures.cause was p.1 p.2

pub returns-in_err-bytes-clause-any_moment : goal.returns-in_err-bytes-clause-any_moment
returns-in_err-bytes-clause-any_moment g c =
    let v = g.D.Volume in
    let first = c.args.disk.now in
    let hash = c.args.hash in
    let file = (v.seen first).journal in
    let P = After (InJournal (StaysOrReads hash file)) (v.may_leave first) in
    let read = weaker v.moment v.left_since c.settle.new.disk c.read_all.new.disk (v.may_leave c.settle.new.disk) (v.may_leave first) c.read_all.ensures.any_moment c.settle.ensures.crash in
    let so_far : LeavesOnly v.moment v.left_since first c.read_all.new.disk P = joined v.moment v.left_since first c.settle.new.disk c.read_all.new.disk P
    (stays v.moment v.left_since v.may_leave hash file first first c.settle.new.disk c.settle.ensures.any_moment)
    (stays v.moment v.left_since v.may_leave hash file first c.settle.new.disk c.read_all.new.disk read) in
    so_far

pub returns-in_err-bytes-clause-counts : goal.returns-in_err-bytes-clause-counts
returns-in_err-bytes-clause-counts g c =
    let v = g.D.Volume in
    let first = c.args.disk.now in
    let hash = c.args.hash in
    let file = (v.seen first).journal in
    Counts-then (v.faults first) (v.faults c.settle.new.disk) (v.faults c.read_all.new.disk) c.settle.ensures.cause.counts c.read_all.ensures.cause.counts

pub returns-in_err-bytes-clause-cause : goal.returns-in_err-bytes-clause-cause
returns-in_err-bytes-clause-cause g c =
    let v = g.D.Volume in
    let first = c.args.disk.now in
    let hash = c.args.hash in
    let file = (v.seen first).journal in
    let p = err_from_is_err_and c.from_residual-in_err-bytes.result c.from_residual-in_err-bytes.ensures.1 in
    let was : c.read_all.result ≡ Err c.in_err-bytes.field-0.0 = c.in_err-bytes.was in
    open_cause hash file (v.faults first) (v.faults c.settle.new.disk) (v.faults c.read_all.new.disk) c.read_all.result c.in_err-bytes.field-0.0 c.from_residual-in_err-bytes.result p.0 (c.settle.ensures.cause.counts) c.read_all.ensures.cause was p.1 p.2

pub returns-in_err-found-clause-any_moment : goal.returns-in_err-found-clause-any_moment
returns-in_err-found-clause-any_moment g c =
    let v = g.D.Volume in
    let first = c.args.disk.now in
    let hash = c.args.hash in
    let file = (v.seen first).journal in
    let P = After (InJournal (StaysOrReads hash file)) (v.may_leave first) in
    let read = weaker v.moment v.left_since c.settle.new.disk c.read_all.new.disk (v.may_leave c.settle.new.disk) (v.may_leave first) c.read_all.ensures.any_moment c.settle.ensures.crash in
    let so_far : LeavesOnly v.moment v.left_since first c.read_all.new.disk P = joined v.moment v.left_since first c.settle.new.disk c.read_all.new.disk P
    (stays v.moment v.left_since v.may_leave hash file first first c.settle.new.disk c.settle.ensures.any_moment)
    (stays v.moment v.left_since v.may_leave hash file first c.settle.new.disk c.read_all.new.disk read) in
    so_far

pub returns-in_err-found-clause-counts : goal.returns-in_err-found-clause-counts
returns-in_err-found-clause-counts g c =
    let v = g.D.Volume in
    let first = c.args.disk.now in
    let hash = c.args.hash in
    let file = (v.seen first).journal in
    Counts-then (v.faults first) (v.faults c.settle.new.disk) (v.faults c.read_all.new.disk) c.settle.ensures.cause.counts c.read_all.ensures.cause.counts

pub returns-in_err-found-clause-cause : goal.returns-in_err-found-clause-cause
returns-in_err-found-clause-cause g c =
    let v = g.D.Volume in
    let first = c.args.disk.now in
    let hash = c.args.hash in
    let file = (v.seen first).journal in
    let bytes : c.deref.result.now ≡ file = c.deref.ensures.value ∙ c.in_ok-bytes.ensures.bytes ∙ ap (λ (d : Directory). d.journal) c.settle.ensures.seen in
    let p = err_from_is_err_and c.from_residual-in_err-found.result c.from_residual-in_err-found.ensures.1 in
    let e = c.in_err-found.field-0.0 in
    let was : c.read_records.result ≡ Err e = c.in_err-found.was in
    unread_cause hash c.deref.result.now file (v.faults first) (v.faults c.read_all.new.disk) e c.from_residual-in_err-found.result p.0 bytes (IfErr-at_err (IsUnread hash c.deref.result.now) was c.read_records.ensures.cause) p.1 p.2

pub cut_durable-requires : goal.cut_durable-requires
cut_durable-requires g c =
    let v = g.D.Volume in
    let first = c.args.disk.now in
    let hash = c.args.hash in
    let file = (v.seen first).journal in
    let same : v.seen c.read_all.new.disk ≡ v.seen first = c.read_all.ensures.seen ∙ c.settle.ensures.seen in
    let bytes : c.deref.result.now ≡ file = c.deref.ensures.value ∙ c.in_ok-bytes.ensures.bytes ∙ ap (λ (d : Directory). d.journal) c.settle.ensures.seen in
    let es = c.in_ok-found.found.records in
    let end = c.in_ok-found.found.end in
    let r : IsRead hash file es end = subst (λ (b : List ℕ). IsRead hash b es end) bytes c.in_ok-found.ensures.read in
    subst (λ (d : Directory). end + 1 ≤ length d.journal) (sym same) (within hash file es end r)

pub returns-in_err-cut_durable-clause-any_moment : goal.returns-in_err-cut_durable-clause-any_moment
returns-in_err-cut_durable-clause-any_moment g c =
    let v = g.D.Volume in
    let first = c.args.disk.now in
    let hash = c.args.hash in
    let file = (v.seen first).journal in
    let P = After (InJournal (StaysOrReads hash file)) (v.may_leave first) in
    let read = weaker v.moment v.left_since c.settle.new.disk c.read_all.new.disk (v.may_leave c.settle.new.disk) (v.may_leave first) c.read_all.ensures.any_moment c.settle.ensures.crash in
    let so_far : LeavesOnly v.moment v.left_since first c.read_all.new.disk P = joined v.moment v.left_since first c.settle.new.disk c.read_all.new.disk P
    (stays v.moment v.left_since v.may_leave hash file first first c.settle.new.disk c.settle.ensures.any_moment)
    (stays v.moment v.left_since v.may_leave hash file first c.settle.new.disk c.read_all.new.disk read) in
    let bytes : c.deref.result.now ≡ file = c.deref.ensures.value ∙ c.in_ok-bytes.ensures.bytes ∙ ap (λ (d : Directory). d.journal) c.settle.ensures.seen in
    let es = c.in_ok-found.found.records in
    let end = c.in_ok-found.found.end in
    let r : IsRead hash file es end = subst (λ (b : List ℕ). IsRead hash b es end) bytes c.in_ok-found.ensures.read in
    let is : JournalIs file (v.may_leave c.read_all.new.disk) = λ l left. c.in_ok-settle.ensures.durable l (c.read_all.ensures.crash l left) in
    let no_other = λ (l : Directory) (left : v.may_leave c.read_all.new.disk l). c.settle.ensures.crash l (c.read_all.ensures.crash l left) in
    joined v.moment v.left_since first c.read_all.new.disk c.cut_durable.new.disk P so_far
    (cut_span hash file es end r v.moment v.left_since v.may_leave first c.read_all.new.disk c.cut_durable.new.disk no_other is c.cut_durable.ensures.any_moment)

pub returns-in_err-cut_durable-clause-counts : goal.returns-in_err-cut_durable-clause-counts
returns-in_err-cut_durable-clause-counts g c =
    let v = g.D.Volume in
    let first = c.args.disk.now in
    let hash = c.args.hash in
    let file = (v.seen first).journal in
    Counts-then (v.faults first) (v.faults c.read_all.new.disk) (v.faults c.cut_durable.new.disk) (Counts-then (v.faults first) (v.faults c.settle.new.disk) (v.faults c.read_all.new.disk) c.settle.ensures.cause.counts c.read_all.ensures.cause.counts) c.cut_durable.ensures.cause.counts

pub returns-in_err-cut_durable-clause-cause : goal.returns-in_err-cut_durable-clause-cause
returns-in_err-cut_durable-clause-cause g c =
    let v = g.D.Volume in
    let first = c.args.disk.now in
    let hash = c.args.hash in
    let file = (v.seen first).journal in
    let p = err_from_is_err_and c.from_residual-in_err-cut_durable.result c.from_residual-in_err-cut_durable.ensures.1 in
    let was : c.cut_durable.result ≡ Err c.in_err-cut_durable.field-0.0 = c.in_err-cut_durable.was in
    open_cause hash file (v.faults first) (v.faults c.read_all.new.disk) (v.faults c.cut_durable.new.disk) c.cut_durable.result c.in_err-cut_durable.field-0.0 c.from_residual-in_err-cut_durable.result p.0 (Counts-then (v.faults first) (v.faults c.settle.new.disk) (v.faults c.read_all.new.disk) c.settle.ensures.cause.counts c.read_all.ensures.cause.counts) c.cut_durable.ensures.cause was p.1 p.2

pub returns-clause-any_moment : goal.returns-clause-any_moment
returns-clause-any_moment g c =
    let v = g.D.Volume in
    let first = c.args.disk.now in
    let hash = c.args.hash in
    let file = (v.seen first).journal in
    let P = After (InJournal (StaysOrReads hash file)) (v.may_leave first) in
    let read = weaker v.moment v.left_since c.settle.new.disk c.read_all.new.disk (v.may_leave c.settle.new.disk) (v.may_leave first) c.read_all.ensures.any_moment c.settle.ensures.crash in
    let so_far : LeavesOnly v.moment v.left_since first c.read_all.new.disk P = joined v.moment v.left_since first c.settle.new.disk c.read_all.new.disk P
    (stays v.moment v.left_since v.may_leave hash file first first c.settle.new.disk c.settle.ensures.any_moment)
    (stays v.moment v.left_since v.may_leave hash file first c.settle.new.disk c.read_all.new.disk read) in
    let bytes : c.deref.result.now ≡ file = c.deref.ensures.value ∙ c.in_ok-bytes.ensures.bytes ∙ ap (λ (d : Directory). d.journal) c.settle.ensures.seen in
    let es = c.in_ok-found.found.records in
    let end = c.in_ok-found.found.end in
    let r : IsRead hash file es end = subst (λ (b : List ℕ). IsRead hash b es end) bytes c.in_ok-found.ensures.read in
    let is : JournalIs file (v.may_leave c.read_all.new.disk) = λ l left. c.in_ok-settle.ensures.durable l (c.read_all.ensures.crash l left) in
    let no_other = λ (l : Directory) (left : v.may_leave c.read_all.new.disk l). c.settle.ensures.crash l (c.read_all.ensures.crash l left) in
    joined v.moment v.left_since first c.read_all.new.disk c.cut_durable.new.disk P so_far
    (cut_span hash file es end r v.moment v.left_since v.may_leave first c.read_all.new.disk c.cut_durable.new.disk no_other is c.cut_durable.ensures.any_moment)

pub returns-clause-counts : goal.returns-clause-counts
returns-clause-counts g c =
    let v = g.D.Volume in
    let first = c.args.disk.now in
    let hash = c.args.hash in
    let file = (v.seen first).journal in
    Counts-then (v.faults first) (v.faults c.read_all.new.disk) (v.faults c.cut_durable.new.disk) (Counts-then (v.faults first) (v.faults c.settle.new.disk) (v.faults c.read_all.new.disk) c.settle.ensures.cause.counts c.read_all.ensures.cause.counts) c.cut_durable.ensures.cause.counts

pub returns-clause-records : goal.returns-clause-records
returns-clause-records g c =
    let v = g.D.Volume in
    let first = c.args.disk.now in
    let hash = c.args.hash in
    let file = (v.seen first).journal in
    let bytes : c.deref.result.now ≡ file = c.deref.ensures.value ∙ c.in_ok-bytes.ensures.bytes ∙ ap (λ (d : Directory). d.journal) c.settle.ensures.seen in
    let es = c.in_ok-found.found.records in
    let end = c.in_ok-found.found.end in
    let r : IsRead hash file es end = subst (λ (b : List ℕ). IsRead hash b es end) bytes c.in_ok-found.ensures.read in
    r.stands

pub returns-clause-at_rest : goal.returns-clause-at_rest
returns-clause-at_rest g c =
    let v = g.D.Volume in
    let first = c.args.disk.now in
    let hash = c.args.hash in
    let file = (v.seen first).journal in
    let same : v.seen c.read_all.new.disk ≡ v.seen first = c.read_all.ensures.seen ∙ c.settle.ensures.seen in
    let bytes : c.deref.result.now ≡ file = c.deref.ensures.value ∙ c.in_ok-bytes.ensures.bytes ∙ ap (λ (d : Directory). d.journal) c.settle.ensures.seen in
    let es = c.in_ok-found.found.records in
    let end = c.in_ok-found.found.end in
    let r : IsRead hash file es end = subst (λ (b : List ℕ). IsRead hash b es end) bytes c.in_ok-found.ensures.read in
    cut_is hash file es end r (v.seen c.cut_durable.new.disk).journal (ap (λ (d : Directory). d.journal) c.in_ok-cut_durable.ensures.cut ∙ ap (λ (d : Directory). take (end + 1) d.journal) same)

pub returns-clause-packs : goal.returns-clause-packs
returns-clause-packs g c =
    let v = g.D.Volume in
    let first = c.args.disk.now in
    let hash = c.args.hash in
    let file = (v.seen first).journal in
    let same : v.seen c.read_all.new.disk ≡ v.seen first = c.read_all.ensures.seen ∙ c.settle.ensures.seen in
    ap (λ (d : Directory). d.packs) c.in_ok-cut_durable.ensures.cut ∙ ap (λ (d : Directory). d.packs) same

pub returns-clause-durable : goal.returns-clause-durable
returns-clause-durable g c =
    c.in_ok-cut_durable.ensures.durable
