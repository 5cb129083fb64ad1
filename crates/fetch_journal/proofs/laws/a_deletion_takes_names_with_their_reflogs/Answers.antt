use Rattle.fetch_journal.proofs.Deleted.{names_at, logs_at, packed_at, hash_kept}
use Rattle.fetch_journal.proofs.laws.a_deletion_takes_names_with_their_reflogs.Goals as goal

pub returns-clause-names : goal.returns-clause-names
returns-clause-names c = names_at

pub returns-clause-logs : goal.returns-clause-logs
returns-clause-logs c = logs_at

pub returns-clause-packed : goal.returns-clause-packed
returns-clause-packed c = packed_at

pub returns-clause-hash : goal.returns-clause-hash
returns-clause-hash c = hash_kept
