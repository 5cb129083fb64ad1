use Rattle.std.proofs.Common.{◌≡◌, ◌++◌, take}
use Rattle.fetch_lines.specs.RequestLines.{id_lines}
use Rattle.fetch_lines.proofs.server.server_lines.append_ids.Given as goal

abbrev pub invariant-loop-id : goal.invariant-loop-id
invariant-loop-id l = l.texts.items ≡ l.fn.texts.items ++ id_lines l.word (take l.id-index l.ids)
