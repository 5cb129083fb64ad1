use Rattle.std.proofs.Common.{◌≡◌, ◌++◌, drop}
use Rattle.fetch_lines.specs.Written.{lines_text, first_too_long}
use Rattle.fetch_lines.proofs.lines.write.write_lines.Given as goal

abbrev pub invariant-loop-line : goal.invariant-loop-line
invariant-loop-line l = record {
  written : l.out.items ++ lines_text (drop l.line-index l.lines) ≡ lines_text l.lines;
  fit : first_too_long (drop l.line-index l.lines) ≡ first_too_long l.lines;
}
