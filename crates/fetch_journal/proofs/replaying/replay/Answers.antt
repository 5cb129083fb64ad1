use Rattle.std.proofs.Common.{sym, subst, ◌∙◌, arith}
use borrow.Author.Count.{below_more}
use Rattle.fetch_journal.specs.Faults.{TellsFault}
use Rattle.fetch_journal.specs.Replays.{outline}
use Rattle.fetch_journal.proofs.Playing.{all_met, caused_here, left_kept, memory_alone, met_here, shows_next, told_here}
use Rattle.fetch_journal.proofs.replaying.replay.Goals as goal

pub returns-in-Err-clause-fault : goal.returns-in-Err-clause-fault
returns-in-Err-clause-fault c =
    let v = outline c.args.opening.now in
    let at = c.loop-place in
    let cause = caused_here v c.args.journal.now at.place c.index-journal-place.result at.playing c.loop-place-test.true c.index-journal-place.is at.invariant.shows c.in-Err.cause c.in-Err.ensures.refusal in
    subst (TellsFault v c.args.journal.now) (sym c.fault.ensures) (told_here v c.args.journal.now at.place c.in-Err.cause cause at.invariant.met)

pub returns-in-Err-clause-memory : goal.returns-in-Err-clause-memory
returns-in-Err-clause-memory c met =
    let v = outline c.args.opening.now in
    let at = c.loop-place in
    c.fault.ensures ∙ memory_alone v c.args.journal.now at.place c.in-Err.cause met
    (caused_here v c.args.journal.now at.place c.index-journal-place.result at.playing c.loop-place-test.true c.index-journal-place.is at.invariant.shows c.in-Err.cause c.in-Err.ensures.refusal)

pub loop-place-preserved : goal.loop-place-preserved
loop-place-preserved c =
    let v = outline c.args.opening.now in
    let at = c.loop-place in
    record {
      shows = shows_next v c.args.journal.now at.place c.index-journal-place.result at.playing c.loop-place-test.true c.index-journal-place.is at.invariant.shows c.play.new.self c.in_default.ensures.ok;
      met = below_more _ at.place at.invariant.met (met_here v c.args.journal.now at.place c.index-journal-place.result at.playing c.loop-place-test.true c.index-journal-place.is at.invariant.shows c.in_default.ensures.refusal);
    }

pub returns-clause-met : goal.returns-clause-met
returns-clause-met c = all_met (outline c.args.opening.now) c.args.journal.now (λ k low. c.loop-place.invariant.met k (omega arith))

pub returns-in-Err-clause-closed : goal.returns-in-Err-clause-closed
returns-in-Err-clause-closed c r kept = returns-in-Err-clause-memory c kept.met

pub returns-clause-closed : goal.returns-clause-closed
returns-clause-closed c r kept =
    left_kept c.args.opening.now r c.args.journal.now c.loop-place.place c.loop-place.playing c.left.result c.loop-place-test.false c.loop-place.invariant.shows c.left.ensures.left kept
