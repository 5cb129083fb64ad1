use Rattle.std.proofs.Common.{inl, refl, List, ℕ}
use Rattle.fetch_disk.specs.Disk.{IsOldOr}
use Rattle.fetch_disk.specs.Records.{journal_of}
use Rattle.fetch_disk.proofs.Appending.{stands_still}
use Rattle.fetch_disk.proofs.journal.Journal.replace.Goals as goal

pub returns-then-self-clause-any_moment : goal.returns-then-self-clause-any_moment
returns-then-self-clause-any_moment g c =
    let v = g.D.Volume in
    stands_still v.moment v.left_since v.may_leave v.only_now c.args.self.now.disk (IsOldOr (λ (old : List ℕ). journal_of c.args.self.now.hash c.args.records.now)) (λ bytes. inl refl)
