use Rattle.std.proofs.Common.{◌≡◌, take}
use Rattle.fetch_lines.specs.KnownIds.{each_once}
use Rattle.fetch_replies.proofs.replies.haves.each_once.Given as goal

abbrev pub invariant-loop-id : goal.invariant-loop-id
invariant-loop-id l = l.once ≡ each_once (take l.id-index l.ids)
