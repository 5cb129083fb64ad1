use Rattle.std.proofs.Common.{sym, ◌∙◌}
use Rattle.fetch_lines.specs.LineViews.{line_of}
use Rattle.fetch_check.proofs.Digits.{begins, capital_none, refused_none}
use Rattle.fetch_check.proofs.scanning.written_line.Goals as goal

pub returns-then-has_capital-clause-none : goal.returns-then-has_capital-clause-none
returns-then-has_capital-clause-none c = λ _. capital_none c.args.bytes.now (sym c.has_capital.ensures ∙ c.if-has_capital.true)

pub returns-else-has_capital-clause-line : goal.returns-else-has_capital-clause-line
returns-else-has_capital-clause-line c =
    begins c.args.bytes.now (line_of c.in-Ok.line) c.in-Ok.count (sym c.in-Ok.ensures.value) (sym c.has_capital.ensures ∙ c.if-has_capital.false) c.in-Ok.ensures.len

pub returns-in-Err-clause-none : goal.returns-in-Err-clause-none
returns-in-Err-clause-none c = λ _. refused_none c.args.bytes.now c.in-Err.field-0 (sym c.in-Err.ensures.value)
