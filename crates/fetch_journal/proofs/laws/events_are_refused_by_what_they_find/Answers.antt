use Rattle.fetch_journal.specs.Machine.{held}
use Rattle.fetch_journal.proofs.Refusals.{collided, disconnected, allowed_take, take_allowed, commit_met, met_commit, collision_told, missing_told}
use Rattle.fetch_journal.proofs.laws.events_are_refused_by_what_they_find.Goals as goal

pub returns-clause-collision : goal.returns-clause-collision
returns-clause-collision c s pass wants pack id = (collided (held s.repository) wants pack id, collision_told (held s.repository) wants pack id)

pub returns-clause-disconnected : goal.returns-clause-disconnected
returns-clause-disconnected c s pass wants pack link = (disconnected (held s.repository) wants pack link, λ both. missing_told (held s.repository) wants pack link both.0 both.1)

pub returns-clause-take : goal.returns-clause-take
returns-clause-take c s pass wants pack = (allowed_take (held s.repository) wants pack, λ both. take_allowed (held s.repository) wants pack both.0 both.1)

pub returns-clause-commit : goal.returns-clause-commit
returns-clause-commit c s pass edits committer = (commit_met s.repository.state.refs.names edits, met_commit s.repository.state.refs.names edits)
