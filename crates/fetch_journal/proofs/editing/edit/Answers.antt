use Rattle.fetch_journal.proofs.Unmet.{made, answered}
use Rattle.fetch_journal.proofs.editing.edit.Goals as goal

pub returns-in-Ok-clause-refusal : goal.returns-in-Ok-clause-refusal
returns-in-Ok-clause-refusal c = made c.args.repo.now.state.refs.names c.args.edits.now _ c.in-Ok.ensures.refusal

pub returns-in-Err-clause-refusal : goal.returns-in-Err-clause-refusal
returns-in-Err-clause-refusal c = answered c.args.repo.now.state.refs.names c.args.edits.now c.in-Err.cause c.told.result c.in-Err.ensures.refusal c.told.ensures
