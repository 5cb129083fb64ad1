use Rattle.std.proofs.Common.{refl}
use Rattle.fetch_negotiate.specs.Reading.{read_in}
use Rattle.fetch_negotiate.proofs.Commons.{common_in_grown}
use Rattle.fetch_negotiate.proofs.Growing.{grows_then}
use Rattle.fetch_negotiate.proofs.Taking.{line_after, so_far_same}
use Rattle.fetch_negotiate.proofs.walk.prepare.Goals as goal

pub returns-in_err-mark_acknowledged-clause-stays : goal.returns-in_err-mark_acknowledged-clause-stays
returns-in_err-mark_acknowledged-clause-stays g c =
    let w = c.args.walk.now in
    let e = c.in_err-mark_acknowledged.ensures in
    record {
      walk = record {
        common = e.common;
        frontier = line_after (read_in w.table) (read_in c.mark_acknowledged.new.table) w.border w.common.commits.items c.mark_acknowledged.new.common.commits.items w.frontier e.grows e.more c.requires.walk.frontier;
      };
      told = e.told;
      grows = e.grows;
      so_far = so_far_same w (record w { common = c.mark_acknowledged.new.common; table = c.mark_acknowledged.new.table }) refl refl refl refl e.acknowledged;
    }

pub enter-requires-clause-frontier : goal.enter-requires-clause-frontier
enter-requires-clause-frontier g c =
    let w = c.args.walk.now in
    let e = c.in_ok-mark_acknowledged.ensures in
    line_after (read_in w.table) (read_in c.mark_acknowledged.new.table) w.border w.common.commits.items c.mark_acknowledged.new.common.commits.items w.frontier e.grows e.more c.requires.walk.frontier

pub returns-clause-stays : goal.returns-clause-stays
returns-clause-stays g c =
    let w = c.args.walk.now in
    let m = c.in_ok-mark_acknowledged.ensures in
    let e = c.enter.ensures in
    record {
      walk = record { common = common_in_grown (read_in c.mark_acknowledged.new.table) (read_in c.enter.new.table) w.border c.mark_acknowledged.new.common e.grows m.common; frontier = e.frontier };
      told = e.told;
      grows = grows_then (read_in w.table) (read_in c.mark_acknowledged.new.table) (read_in c.enter.new.table) m.grows e.grows;
      so_far = so_far_same w (record w { common = c.mark_acknowledged.new.common; table = c.enter.new.table; frontier = c.enter.new.frontier }) refl e.tips e.candidates e.taken m.acknowledged;
    }
