use Rattle.std.proofs.Common.{◌∙◌, ap, refl}
use Rattle.std.specs.Prelude.{reverse, Err}
use Rattle.std.proofs.lemmas.Result.{err_from_is_err_and}
use Rattle.fetch_base.specs.Faults.{counted}
use Rattle.fetch_disk.specs.History.{packs_of}
use Rattle.fetch_disk.specs.declared.call.Call.TheVariants as calls
use Rattle.fetch_disk.proofs.Moments.{shortened_same}
use Rattle.fetch_disk.proofs.Histories.{elapses_same, elapses_call, leaves, stayed, cause_ok, cause_memory}
use Rattle.fetch_disk.proofs.memory_disk.MemoryDiskDevice.cut.Goals as goal

pub returns-in_err-admit-clause-crash : goal.returns-in_err-admit-clause-crash
returns-in_err-admit-clause-crash c = λ l is. (l, is, (shortened_same c.args.len l.journal, refl))

pub returns-in_err-admit-clause-time : goal.returns-in_err-admit-clause-time
returns-in_err-admit-clause-time c = elapses_same (reverse c.args.self.now.calls.items) (reverse c.args.self.now.calls.items) refl

pub returns-in_err-cut_file-clause-crash : goal.returns-in_err-cut_file-clause-crash
returns-in_err-cut_file-clause-crash c = λ l left. let is = stayed (reverse c.args.self.now.calls.items) (reverse c.cut_file.new.calls.items) c.in_err-cut_file.ensures.err l left in (l, is, (shortened_same c.args.len l.journal, refl))

pub returns-in_err-cut_file-clause-time : goal.returns-in_err-cut_file-clause-time
returns-in_err-cut_file-clause-time c = elapses_same (reverse c.args.self.now.calls.items) (reverse c.cut_file.new.calls.items) c.in_err-cut_file.ensures.err

pub returns-in_err-cut_file-clause-cause : goal.returns-in_err-cut_file-clause-cause
returns-in_err-cut_file-clause-cause c =
    let p = err_from_is_err_and c.from_residual-in_err-cut_file.result c.from_residual-in_err-cut_file.ensures.1 in
    cause_memory (counted c.args.self.now.failed) (counted c.admit.new.failed) c.admit.result c.from_residual-in_err-cut_file.result c.admit.ensures (p.1 ∙ ap Err p.2)

pub returns-clause-crash : goal.returns-clause-crash
returns-clause-crash c = leaves (reverse c.args.self.now.calls.items) (reverse c.cut_file.new.calls.items) (calls.Cut c.args.len) c.in_ok-cut_file.ensures.noted

pub returns-clause-time : goal.returns-clause-time
returns-clause-time c = elapses_call (reverse c.args.self.now.calls.items) (reverse c.cut_file.new.calls.items) (calls.Cut c.args.len) c.in_ok-cut_file.ensures.noted

pub returns-clause-cause : goal.returns-clause-cause
returns-clause-cause c = cause_ok (counted c.args.self.now.failed) (counted c.admit.new.failed) c.admit.result tt c.admit.ensures

pub returns-clause-cut : goal.returns-clause-cut
returns-clause-cut c = λ i. record { journal = c.in_ok-cut_file.ensures.cut i; packs = packs_of (c.in_ok-cut_file.ensures.noted i) }
