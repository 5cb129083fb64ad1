use Rattle.std.proofs.Common.{◌≡◌, ◌++◌, drop, rules, arith}
use Rattle.fetch_asked.proofs.Intakes.{read_more}
use Rattle.fetch_asked.proofs.intake.Intake.feed.Goals as goal

pub invariant_of-self-2 : goal.invariant_of-self-2
invariant_of-self-2 c =
    let i = c.self.inside in
    let items : c.extend_from_slice.new.self.items ≡ drop i.start i.bytes.items ++ c.args.piece.now = search rules in
    (omega arith, rw items (read_more i.hash i.begun (drop i.start i.bytes.items) i.place i.reading c.args.piece.now c.self.invariant.1))
