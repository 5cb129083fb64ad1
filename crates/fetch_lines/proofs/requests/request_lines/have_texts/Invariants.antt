use Rattle.std.proofs.Common.{◌≡◌, take}
use Rattle.fetch_lines.specs.RequestLines.{id_lines}
use Rattle.fetch_lines.specs.RequestWords.{have_word}
use Rattle.fetch_lines.proofs.requests.request_lines.have_texts.Given as goal

abbrev pub invariant-loop-id : goal.invariant-loop-id
invariant-loop-id l = l.texts.items ≡ id_lines have_word (take l.id-index l.haves)
