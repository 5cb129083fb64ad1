use Rattle.std.proofs.Common.{◌≡◌, ◌++◌, drop}
use Rattle.fetch_lines.specs.Written.{lines_text}
use Rattle.fetch_bench.proofs.served.append_lines.Given as goal

abbrev pub invariant-loop-line : goal.invariant-loop-line
invariant-loop-line l = l.out.items ++ lines_text (drop l.line-index l.lines) ≡ l.fn.out.items ++ lines_text l.lines
