use Rattle.std.proofs.Common.{◌≡◌, true, length}
use Rattle.fetch_refs.specs.Contents.{shown_in, has_room, unwound}
use Rattle.fetch_refs.proofs.journal.Journal.restore.Given as goal

abbrev pub invariant-undo : goal.invariant-undo
invariant-undo l = (has_room l.contents l.undo.items ≡ true) × (unwound l.undo.items (shown_in l.contents) ≡ unwound l.fn.self.undo.items (shown_in l.fn.self.contents))

abbrev pub decreases-undo : goal.decreases-undo
decreases-undo l = length l.undo.items
