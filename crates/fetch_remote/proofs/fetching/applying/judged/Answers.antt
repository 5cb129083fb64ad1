use Rattle.fetch_remote.proofs.Applied.{told_only}
use Rattle.fetch_remote.proofs.fetching.applying.judged.Goals as goal

pub returns-clause-only : goal.returns-clause-only
returns-clause-only g c = told_only _ _ _ c.judge.result c.judge.ensures.judged
