use Rattle.std.proofs.Common.{◌≡◌, ◌++◌, drop, None}
use Rattle.fetch_lines.specs.Written.{first_too_long, lines_text}
use Rattle.fetch_serve.proofs.replying.append_lines.Given as goal

abbrev pub invariant-loop-line : goal.invariant-loop-line
invariant-loop-line l = record {
  written : l.out.items ++ lines_text (drop l.line-index l.lines) ≡ l.initial.out.items ++ lines_text l.lines;
  fit : first_too_long (drop l.line-index l.lines) ≡ None;
}
