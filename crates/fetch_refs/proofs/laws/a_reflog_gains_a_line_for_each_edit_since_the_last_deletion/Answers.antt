use Rattle.fetch_refs.proofs.GainedLines.{gained_lines, lines_since}
use Rattle.fetch_refs.proofs.laws.a_reflog_gains_a_line_for_each_edit_since_the_last_deletion.Goals as goal

pub returns-clause-stood : goal.returns-clause-stood
returns-clause-stood c = gained_lines

pub returns-clause-deleted : goal.returns-clause-deleted
returns-clause-deleted c = lines_since
