use Rattle.std.proofs.Common.{Err, ap, ◌∙◌}
use Rattle.fetch_refs.specs.declared.error.PackedError.{PackedError}
use Rattle.fetch_refs.proofs.reading.read_places.Goals as goal

pub returns-in-Err-Line-clause-refused : goal.returns-in-Err-Line-clause-refused
returns-in-Err-Line-clause-refused c =
    c.read_lines.ensures.line c.in-Err-Line.place (c.in-Err-Line.is ∙ ap (λ (e : PackedError). Err e) c.in-Err-Line.field-0-is)

pub returns-in-Err-Order-clause-refused : goal.returns-in-Err-Order-clause-refused
returns-in-Err-Order-clause-refused c =
    c.read_lines.ensures.order c.in-Err-Order.place (c.in-Err-Order.is ∙ ap (λ (e : PackedError). Err e) c.in-Err-Order.field-0-is)
