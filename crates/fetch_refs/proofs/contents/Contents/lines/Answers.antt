use Rattle.std.proofs.Common.{[], unwrap_or, ap, sym, ◌∙◌}
use Rattle.std.specs.Prelude.{List, Option}
use Rattle.fetch_refs.specs.declared.log.LogLine.{LogLine}
use Rattle.fetch_refs.proofs.Overlays.{lines-logs_of}
use Rattle.fetch_refs.proofs.contents.Contents.lines.Goals as goal

pub returns-in-Some : goal.returns-in-Some
returns-in-Some c = c.as_slice.ensures ∙ ap (λ (o : Option (List LogLine)). unwrap_or o []) c.in-Some.ensures.value ∙ sym (lines-logs_of c.args.self.now.logs.entries c.args.name.now)

pub returns-in-None : goal.returns-in-None
returns-in-None c = ap (λ (o : Option (List LogLine)). unwrap_or o []) c.in-None.ensures.value ∙ sym (lines-logs_of c.args.self.now.logs.entries c.args.name.now)
