use Rattle.std.proofs.Common.{rules, refl, sym, ◌∙◌}
use Rattle.fetch_race.specs.Racing.{Race}
use Rattle.fetch_race.proofs.Arrived.{all_held}
use Rattle.fetch_race.proofs.Races.{all_over, all_raced}
use Rattle.fetch_race.proofs.GivenPasses.{all_shared, rest_at}
use Rattle.fetch_race.proofs.passes.race_among.Goals as goal

pub race_over-requires : goal.race_over-requires
race_over-requires g c = (search rules, (search rules, all_shared c.args.shared.now _ c.give_passes-rest.new.job_runs c.give_passes-rest.ensures.given_passes))

pub gather-requires-clause-rest : goal.gather-requires-clause-rest
gather-requires-clause-rest g c = rest_at c.args.shared.now _ _ c.give_passes-rest.result (sym c.give_passes-rest.auto.job_runs ∙ sym c.race_over.auto.job_runs) c.give_passes-rest.ensures.rest

pub gather-requires-clause-over : goal.gather-requires-clause-over
gather-requires-clause-over g c =
    let race : Race g.row.P.Denot = record { answers = g.P.Peer.answers; told = g.P.Peer.told; faults = g.P.Peer.faults; trees = c.args.worktrees.now; opening = c.args.shared.now.opening } in
    all_over race c.args.shared.now refl _ c.give_passes-rest.new.job_runs c.race_over.new.job_runs c.race_over.auto.job_runs c.give_passes-rest.ensures.given_passes c.race_over.ensures.ran

pub returns-clause-all : goal.returns-clause-all
returns-clause-all g c =
    let race : Race g.row.P.Denot = record { answers = g.P.Peer.answers; told = g.P.Peer.told; faults = g.P.Peer.faults; trees = c.args.worktrees.now; opening = c.args.shared.now.opening } in
    let over = all_over race c.args.shared.now refl _ c.give_passes-rest.new.job_runs c.race_over.new.job_runs c.race_over.auto.job_runs c.give_passes-rest.ensures.given_passes c.race_over.ensures.ran in
    all_held c.args.shared.now c.race_over.new.job_runs c.gather.result over c.gather.ensures.gathered

pub returns-clause-raced : goal.returns-clause-raced
returns-clause-raced g c =
    let race : Race g.row.P.Denot = record { answers = g.P.Peer.answers; told = g.P.Peer.told; faults = g.P.Peer.faults; trees = c.args.worktrees.now; opening = c.args.shared.now.opening } in
    all_raced race c.args.shared.now refl _ c.give_passes-rest.new.job_runs c.race_over.new.job_runs c.race_over.auto.job_runs c.give_passes-rest.ensures.given_passes c.race_over.ensures.ran
    c.gather.new.job_runs c.gather.result c.gather.ensures.answers c.gather.ensures.jobs c.gather.ensures.gathered
