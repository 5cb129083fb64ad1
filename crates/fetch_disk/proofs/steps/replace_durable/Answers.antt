use Rattle.std.proofs.Common.{inl, refl, List, ℕ}
use Rattle.fetch_disk.specs.Disk.{IsOldOr}
use Rattle.fetch_disk.proofs.Moments.{changed}
use Rattle.fetch_disk.proofs.steps.replace_durable.Goals as goal

pub returns-clause-any_moment : goal.returns-clause-any_moment
returns-clause-any_moment g c =
    let v = g.D.Volume in
    changed v.moment v.left_since v.may_leave v.only_now c.args.disk.now c.replace.new.self (IsOldOr (λ (old : List ℕ). c.args.bytes.now)) (λ bytes. inl refl) c.replace.ensures.time c.replace.ensures.crash
