use Rattle.std.proofs.Common.{◌∙◌}
use Rattle.fetch_refs.proofs.Undoing.{room_popped, room_kept, unwound_popped}
use Rattle.fetch_refs.proofs.journal.Journal.restore.Goals as goal

pub take_back-requires : goal.take_back-requires
take_back-requires c = (room_popped c.undo.contents c.undo.undo.items c.pop.new.self.items c.in-Some.change c.in-Some.ensures.items c.undo.invariant.0).1

pub undo-preserved : goal.undo-preserved
undo-preserved c = (
  room_kept c.undo.contents c.take_back.new.self c.take_back.ensures.keeps c.pop.new.self.items (room_popped c.undo.contents c.undo.undo.items c.pop.new.self.items c.in-Some.change c.in-Some.ensures.items c.undo.invariant.0).0,
  unwound_popped c.undo.contents c.take_back.new.self c.undo.undo.items c.pop.new.self.items c.in-Some.change c.in-Some.ensures.items c.take_back.ensures.shown ∙ c.undo.invariant.1,
)
