use Rattle.std.proofs.Common.{rules, List, [], map, refl, sym, subst, ◌∙◌}
use Rattle.fetch_journal.specs.declared.entry.Entry.{Entry}
use Rattle.fetch_race.specs.Racing.{Race}
use Rattle.fetch_race.specs.Passes.{HaveRaced}
use Rattle.fetch_race.proofs.Arrived.{all_held}
use Rattle.fetch_race.proofs.GivenPasses.{all_shared}
use Rattle.fetch_mirror.specs.Lent.{all_owning}
use Rattle.fetch_mirror.proofs.Lent.{lent_over, lent_raced}
use Rattle.fetch_mirror.proofs.working.fetch_in.Goals as goal

pub fetch_all-requires-clause-shared : goal.fetch_all-requires-clause-shared
fetch_all-requires-clause-shared g c = search (rules, all_shared c.args.shared (map (λ r. r.job) c.args.job_runs.now) c.give_passes-rest.new.job_runs c.give_passes-rest.ensures.given_passes)

pub gather-pass-requires-clause-over : goal.gather-pass-requires-clause-over
gather-pass-requires-clause-over g c =
    let race : Race g.row.P.Denot = record { answers = g.P.Peer.answers; told = g.P.Peer.told; faults = g.P.Peer.faults; trees = []; opening = c.args.shared.opening } in
    lent_over race c.args.shared refl c.args.job_runs.now c.give_passes-rest.new.job_runs c.fetch_all.new.job_runs c.args.peers.now c.fetch_all.new.peers (c.give_passes-rest.auto.job_runs ∙ c.requires.same) c.fetch_all.ensures.job_run_count
    c.fetch_all.ensures.peer_count c.give_passes-rest.ensures.given_passes c.fetch_all.ensures.ran

pub closed-requires-clause-all : goal.closed-requires-clause-all
closed-requires-clause-all g c =
    let race : Race g.row.P.Denot = record { answers = g.P.Peer.answers; told = g.P.Peer.told; faults = g.P.Peer.faults; trees = []; opening = c.args.shared.opening } in
    let over = lent_over race c.args.shared refl c.args.job_runs.now c.give_passes-rest.new.job_runs c.fetch_all.new.job_runs c.args.peers.now c.fetch_all.new.peers (c.give_passes-rest.auto.job_runs ∙ c.requires.same) c.fetch_all.ensures.job_run_count
    c.fetch_all.ensures.peer_count c.give_passes-rest.ensures.given_passes c.fetch_all.ensures.ran in
    all_held c.args.shared c.fetch_all.new.job_runs c.gather-pass.result over c.gather-pass.ensures.gathered

pub returns-clause-raced : goal.returns-clause-raced
returns-clause-raced g c =
    let race : Race g.row.P.Denot = record { answers = g.P.Peer.answers; told = g.P.Peer.told; faults = g.P.Peer.faults; trees = []; opening = c.args.shared.opening } in
    let raced = lent_raced race c.args.shared refl c.args.job_runs.now c.give_passes-rest.new.job_runs c.fetch_all.new.job_runs c.args.peers.now c.fetch_all.new.peers (c.give_passes-rest.auto.job_runs ∙ c.requires.same) c.fetch_all.ensures.job_run_count
    c.fetch_all.ensures.peer_count c.give_passes-rest.ensures.given_passes c.fetch_all.ensures.ran c.gather-pass.new.job_runs c.gather-pass.result c.gather-pass.auto.job_runs c.gather-pass.ensures.answers c.gather-pass.ensures.jobs
    c.gather-pass.ensures.gathered in
    subst (λ (journal : List Entry). HaveRaced race journal (map (λ r. r.job) (all_owning c.args.job_runs.now c.args.peers.now)) (all_owning c.gather-pass.new.job_runs c.fetch_all.new.peers)) (sym c.closed.ensures.journal) raced
