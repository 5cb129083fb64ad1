use Rattle.std.proofs.Common.{◌∙◌, inl, inr, ap, refl}
use Rattle.std.specs.Prelude.{reverse, Err}
use Rattle.std.proofs.lemmas.Result.{err_from_is_err_and}
use Rattle.fetch_base.specs.Faults.{counted}
use Rattle.fetch_disk.specs.History.{packs_of}
use Rattle.fetch_disk.specs.declared.call.Call.TheVariants as calls
use Rattle.fetch_disk.proofs.Histories.{elapses_same, elapses_call, leaves, stayed, cause_ok, cause_memory, kept_after_put}
use Rattle.fetch_disk.proofs.memory_disk.MemoryDiskPacks.put.Goals as goal

pub returns-in_err-admit-clause-crash : goal.returns-in_err-admit-clause-crash
returns-in_err-admit-clause-crash c = λ l is. (l, is, (inl refl, refl))

pub returns-in_err-admit-clause-time : goal.returns-in_err-admit-clause-time
returns-in_err-admit-clause-time c = elapses_same (reverse c.args.self.now.calls.items) (reverse c.args.self.now.calls.items) refl

pub returns-in_err-put_pack-clause-crash : goal.returns-in_err-put_pack-clause-crash
returns-in_err-put_pack-clause-crash c = λ l left. let is = stayed (reverse c.args.self.now.calls.items) (reverse c.put_pack.new.calls.items) c.in_err-put_pack.ensures.err l left in (l, is, (inl refl, refl))

pub returns-in_err-put_pack-clause-time : goal.returns-in_err-put_pack-clause-time
returns-in_err-put_pack-clause-time c = elapses_same (reverse c.args.self.now.calls.items) (reverse c.put_pack.new.calls.items) c.in_err-put_pack.ensures.err

pub returns-in_err-put_pack-clause-cause : goal.returns-in_err-put_pack-clause-cause
returns-in_err-put_pack-clause-cause c =
    let p = err_from_is_err_and c.from_residual-in_err-put_pack.result c.from_residual-in_err-put_pack.ensures.1 in
    cause_memory (counted c.args.self.now.failed) (counted c.admit.new.failed) c.admit.result c.from_residual-in_err-put_pack.result c.admit.ensures (p.1 ∙ ap Err p.2)

pub returns-clause-crash : goal.returns-clause-crash
returns-clause-crash c = λ l left. let a = leaves (reverse c.args.self.now.calls.items) (reverse c.put_pack.new.calls.items) (calls.Put c.args.name.now c.args.bytes.now) c.in_ok-put_pack.ensures.noted l left in (a.0, a.1, (inr a.2.0, a.2.1))

pub returns-clause-time : goal.returns-clause-time
returns-clause-time c = elapses_call (reverse c.args.self.now.calls.items) (reverse c.put_pack.new.calls.items) (calls.Put c.args.name.now c.args.bytes.now) c.in_ok-put_pack.ensures.noted

pub returns-clause-cause : goal.returns-clause-cause
returns-clause-cause c = cause_ok (counted c.args.self.now.failed) (counted c.admit.new.failed) c.admit.result tt c.admit.ensures

pub returns-clause-put : goal.returns-clause-put
returns-clause-put c = λ i. record { journal = c.args.self.now.journal.items; packs = packs_of (c.in_ok-put_pack.ensures.noted i) }

pub returns-clause-durable : goal.returns-clause-durable
returns-clause-durable c = kept_after_put (reverse c.args.self.now.calls.items) (reverse c.put_pack.new.calls.items) c.args.name.now c.args.bytes.now c.in_ok-put_pack.ensures.noted
