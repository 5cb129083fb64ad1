use Rattle.fetch_remote.proofs.Deletions.{text_kept}
use Rattle.fetch_remote.proofs.deleting.text_without.Goals as goal

pub returns-in-Ok : goal.returns-in-Ok
returns-in-Ok c = text_kept _ _ c.in-Ok.text c.without_branch_sections.ensures c.in-Ok.ensures.ok
