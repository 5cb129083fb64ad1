use Rattle.std.proofs.Common.{subst}
use Rattle.fetch_journal.specs.declared.entry.Entry.TheVariants as entries
use Rattle.fetch_journal.specs.Machine.{start}
use Rattle.fetch_journal.specs.Replays.{outline, AllMet}
use Rattle.fetch_journal.proofs.Fronts.{run_pinned}
use Rattle.fetch_journal.proofs.Replays.{run_tells, start_tells, met_at}
use Rattle.fetch_journal.proofs.Runs.{run_setup}
use Rattle.fetch_journal.proofs.laws.a_journal_replays.Goals as goal

pub returns-clause-replays : goal.returns-clause-replays
returns-clause-replays c r events = (run_tells (outline r) (start r) events (start_tells r)).replays

pub returns-clause-met : goal.returns-clause-met
returns-clause-met c r events front rest pass edits committer is =
    met_at (outline r) front (entries.Commit pass edits committer) rest (subst (AllMet (outline r)) is (run_tells (outline r) (start r) events (start_tells r)).met)

pub returns-clause-state : goal.returns-clause-state
returns-clause-state c r events named = record { told = (run_tells (outline r) (start r) events (start_tells r)).replays; pinned = run_pinned (start r) events named }

pub returns-clause-setup : goal.returns-clause-setup
returns-clause-setup c r events = run_setup (start r) events
