use Rattle.std.proofs.Common.{◌∙◌}
use Rattle.fetch_lookup.proofs.SavedLoops.{new-there}
use Rattle.fetch_lookup.proofs.saving.push_new.Goals as goal
use Rattle.fetch_lookup.proofs.saving.push_new.Goals.{in-Ok, in-Err}

pub returns-clause-used : goal.returns-clause-used
returns-clause-used c = elim c.match-push_section.branch [
  | in-Ok w ↦ rw w.result-is (new-there c.args.file.now _ c.args.name.now _ _ (c.in_ok-meta.ensures ∙ c.meta.ensures) w.in-Ok.ensures.ok w.in-Ok.ensures.index)
  | in-Err w ↦ rw w.result-is tt
]
