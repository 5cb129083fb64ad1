use Rattle.std.proofs.Common.{◌≡◌, ◌++◌, drop}
use Rattle.fetch_lines.specs.RequestLines.{id_lines}
use Rattle.fetch_lines.specs.Requests.{sent}
use Rattle.fetch_lines.specs.Written.{lines_text}
use Rattle.fetch_serve.proofs.fetching.append_ids.Given as goal

abbrev pub invariant-loop-id : goal.invariant-loop-id
invariant-loop-id l = l.out.items ++ lines_text (sent (id_lines l.word (drop l.id-index l.ids))) ≡ l.initial.out.items ++ lines_text (sent (id_lines l.word l.ids))
