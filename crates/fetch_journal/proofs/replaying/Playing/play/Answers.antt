use Rattle.std.proofs.Common.{List, ◌++◌, map, refl, ap, ap₂, ◌∙◌}
use Rattle.fetch_store.specs.Borders.{merged}
use Rattle.fetch_base.specs.declared.id.ObjectId.{ObjectId}
use Rattle.fetch_journal.specs.Deletions.{deletion}
use Rattle.fetch_journal.proofs.Playing.{taken, deleted}
use Rattle.fetch_journal.proofs.replaying.Playing.play.Goals as goal

pub returns-in-Take-clause-ok : goal.returns-in-Take-clause-ok
returns-in-Take-clause-ok c v shows =
    taken v c.args.self.now _ c.args.entry.now _ _ _ _ c.in-Take.is shows refl
    (c.in_ok-extend_from_slice-in-Take.ensures.items ∙ ap (λ (ids : List ObjectId). c.args.self.now.ids.items ++ ids) c.as_slice.ensures)
    (c.in_ok-self-in-Take.ensures ∙ ap₂ (merged c.args.self.now.border) c.as_slice-in-Take.ensures c.as_slice-in-Take-2.ensures) refl

pub returns-in-Ok-clause-ok : goal.returns-in-Ok-clause-ok
returns-in-Ok-clause-ok c v shows =
    deleted v c.args.self.now _ c.args.entry.now _ _ _ c.nobody.result c.in-Delete.is shows
    (c.as_slice-in-Delete-2.ensures.value ∙ c.in_ok-edits-in-Delete.ensures ∙ ap (map deletion) c.as_slice-in-Delete.ensures) c.in-Ok.ensures.ok refl refl refl
