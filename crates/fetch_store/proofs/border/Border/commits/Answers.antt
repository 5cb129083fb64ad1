use Rattle.std.proofs.Common.{sym, ap, ◌∙◌}
use Rattle.fetch_store.specs.Borders.{ids_of}
use Rattle.fetch_store.proofs.Borders.{ids_of-set}
use Rattle.fetch_store.proofs.border.Border.commits.Goals as goal

pub returns-clause-members : goal.returns-clause-members
returns-clause-members c = c.as_slice.ensures.value ∙ sym (ids_of-set c.self.inside.ids.items c.self.invariant) ∙ ap ids_of c.self.view_is
