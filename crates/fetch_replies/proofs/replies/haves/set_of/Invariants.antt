use Rattle.std.proofs.Common.{take}
use Rattle.fetch_lines.specs.KnownIds.{HasIds}
use Rattle.fetch_replies.proofs.replies.haves.set_of.Given as goal

abbrev pub invariant-loop-id : goal.invariant-loop-id
invariant-loop-id l = HasIds l.known (take l.id-index l.ids)
