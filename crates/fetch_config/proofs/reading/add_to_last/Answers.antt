use Rattle.std.proofs.Common.{◌∙◌, arith}
use Rattle.fetch_config.proofs.Edits.{on_last}
use Rattle.fetch_config.proofs.reading.add_to_last.Goals as goal

pub returns-clause-sections : goal.returns-clause-sections
returns-clause-sections c = c.in_ok-push_entry.ensures.ok ∙ on_last (c.args.key, c.args.value) _ c.args.sections.now.items (grind arith)
