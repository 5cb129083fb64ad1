use Rattle.std.proofs.Common.{◌≡◌, ◌++◌, drop}
use Rattle.fetch_lines.specs.ServerLines.{spaced}
use Rattle.fetch_lines.proofs.server.advertising.append_spaced.Given as goal

abbrev pub invariant-loop-word : goal.invariant-loop-word
invariant-loop-word l = l.out.items ++ spaced (drop l.word-index l.words) ≡ l.fn.out.items ++ spaced l.words
