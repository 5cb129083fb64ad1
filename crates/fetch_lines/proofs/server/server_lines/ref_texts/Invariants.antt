use Rattle.std.proofs.Common.{◌≡◌, take, map}
use Rattle.fetch_lines.specs.ServerLines.{ref_text}
use Rattle.fetch_lines.proofs.server.server_lines.ref_texts.Given as goal

abbrev pub invariant-loop-reference : goal.invariant-loop-reference
invariant-loop-reference l = l.texts.items ≡ map ref_text (take l.reference-index l.refs)
