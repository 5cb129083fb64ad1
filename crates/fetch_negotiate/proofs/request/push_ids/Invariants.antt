use Rattle.std.proofs.Common.{◌≡◌, ◌++◌, take}
use Rattle.fetch_lines.specs.RequestLines.{id_lines}
use Rattle.fetch_negotiate.proofs.request.push_ids.Given as goal

abbrev pub invariant-loop-id : goal.invariant-loop-id
invariant-loop-id l = l.lines.items ≡ l.fn.lines.items ++ id_lines l.word (take l.id-index l.ids)
