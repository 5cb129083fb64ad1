use Rattle.std.proofs.Common.{List, ◌++◌, ap, ◌∙◌}
use Rattle.std.specs.Option.{option_to_list}
use Rattle.fetch_refs.specs.declared.undo.Undo.{Undo}
use Rattle.fetch_refs.proofs.Undoing.{same_room, stepped-room, stepped-before}
use Rattle.fetch_refs.proofs.apply.apply_log.Goals as goal

pub returns-in_err-undo-clause-room : goal.returns-in_err-undo-clause-room
returns-in_err-undo-clause-room c = same_room c.args.journal.now.contents c.log.new.contents c.log.ensures.keeps c.args.journal.now.undo.items c.reserve.new.self.items c.reserve.ensures.items c.requires

pub returns-clause-room : goal.returns-clause-room
returns-clause-room c =
    stepped-room c.args.journal.now.contents c.log.new.contents c.log.ensures.keeps c.args.journal.now.undo.items c.requires c.in_ok-undo.undo c.note.new.undo.items
    (c.note.ensures ∙ ap (λ (us : List Undo). us ++ option_to_list c.in_ok-undo.undo) c.reserve.ensures.items) c.in_ok-undo.ensures.undo

pub returns-clause-before : goal.returns-clause-before
returns-clause-before c =
    stepped-before c.args.journal.now.contents c.log.new.contents c.log.ensures.keeps c.args.journal.now.undo.items c.requires c.in_ok-undo.undo c.note.new.undo.items
    (c.note.ensures ∙ ap (λ (us : List Undo). us ++ option_to_list c.in_ok-undo.undo) c.reserve.ensures.items) c.in_ok-undo.ensures.undo
