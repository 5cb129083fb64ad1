use Rattle.std.proofs.Common.{rules, ◌∙◌, sym}
use Rattle.fetch_mirror.proofs.Halves.{changes_first, changes_both}
use Rattle.fetch_mirror.proofs.pairs.+halves.Goals as goal

pub returns-then-left-eq1 : goal.returns-then-left-eq1
returns-then-left-eq1 g t c =
    changes_first g.F.Fn c.args.f.now c.args.left.now c.args.right.now c.index-left-0.result c.at_one.new.left c.index-right-0.result c.at_one.new.right
    c.if-left-eq1.true c.requires.same c.at_one.ensures

pub returns : goal.returns
returns g t c =
    let left = c.split_at_mut-front_left in
    let right = c.split_at_mut-front_right in
    search (
      rules,
      changes_both g.F.Fn c.args.f.now c.args.left.now left.result.0.now left.result.1.now c.args.right.now right.result.0.now right.result.1.now
          left.ensures.value right.ensures.value (left.ensures.front_len ∙ sym right.ensures.front_len),
    )
