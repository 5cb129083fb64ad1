use Rattle.std.proofs.Common.{◌∙◌, ap, refl, sym, subst}
use Rattle.std.specs.Prelude.{reverse, Err}
use Rattle.std.proofs.lemmas.Result.{err_from_is_err_and}
use Rattle.fetch_base.specs.Faults.{counted}
use Rattle.fetch_disk.specs.Directory.{Directory}
use Rattle.fetch_disk.specs.History.{packs_of, MayLeave}
use Rattle.fetch_disk.specs.declared.call.Call.TheVariants as calls
use Rattle.fetch_disk.proofs.Histories.{elapses_same, elapses_call, leaves, stayed, cause_ok, cause_memory}
use Rattle.fetch_disk.proofs.memory_disk.MemoryDiskDevice.sync.Goals as goal

pub returns-in_err-admit-clause-crash : goal.returns-in_err-admit-clause-crash
returns-in_err-admit-clause-crash c = λ l is. is

pub returns-in_err-admit-clause-time : goal.returns-in_err-admit-clause-time
returns-in_err-admit-clause-time c = elapses_same (reverse c.args.self.now.calls.items) (reverse c.args.self.now.calls.items) refl

pub returns-in_err-sync_file-clause-crash : goal.returns-in_err-sync_file-clause-crash
returns-in_err-sync_file-clause-crash c = stayed (reverse c.args.self.now.calls.items) (reverse c.sync_file.new.calls.items) c.in_err-sync_file.ensures.err

pub returns-in_err-sync_file-clause-time : goal.returns-in_err-sync_file-clause-time
returns-in_err-sync_file-clause-time c = elapses_same (reverse c.args.self.now.calls.items) (reverse c.sync_file.new.calls.items) c.in_err-sync_file.ensures.err

pub returns-in_err-sync_file-clause-seen : goal.returns-in_err-sync_file-clause-seen
returns-in_err-sync_file-clause-seen c = λ i. record { journal = c.args.self.now.journal.items; packs = packs_of (c.in_err-sync_file.ensures.err i) }

pub returns-in_err-sync_file-clause-cause : goal.returns-in_err-sync_file-clause-cause
returns-in_err-sync_file-clause-cause c =
    let p = err_from_is_err_and c.from_residual-in_err-sync_file.result c.from_residual-in_err-sync_file.ensures.1 in
    cause_memory (counted c.args.self.now.failed) (counted c.admit.new.failed) c.admit.result c.from_residual-in_err-sync_file.result c.admit.ensures (p.1 ∙ ap Err p.2)

-- what may be left is what might have been left before
pub returns-clause-crash : goal.returns-clause-crash
returns-clause-crash c = λ l left.
    let h = reverse c.args.self.now.calls.items in
    let a = leaves h (reverse c.sync_file.new.calls.items) (calls.Sync c.deref.result.now) c.in_ok-sync_file.ensures.noted l left in
    subst (λ (x : Directory). MayLeave h x) (sym a.2.0) a.1

pub returns-clause-time : goal.returns-clause-time
returns-clause-time c = elapses_call (reverse c.args.self.now.calls.items) (reverse c.sync_file.new.calls.items) (calls.Sync c.deref.result.now) c.in_ok-sync_file.ensures.noted

pub returns-clause-seen : goal.returns-clause-seen
returns-clause-seen c = λ i. record { journal = c.args.self.now.journal.items; packs = packs_of (c.in_ok-sync_file.ensures.noted i) }

-- of these only what has the file
pub returns-clause-durable : goal.returns-clause-durable
returns-clause-durable c = λ l left.
    (leaves (reverse c.args.self.now.calls.items) (reverse c.sync_file.new.calls.items) (calls.Sync c.deref.result.now) c.in_ok-sync_file.ensures.noted l left).2.1 ∙ c.deref.ensures.value

pub returns-clause-cause : goal.returns-clause-cause
returns-clause-cause c = cause_ok (counted c.args.self.now.failed) (counted c.admit.new.failed) c.admit.result tt c.admit.ensures
