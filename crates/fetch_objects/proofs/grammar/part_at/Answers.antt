use Rattle.std.proofs.Common.{sym, ap, ◌∙◌}
use Rattle.fetch_objects.specs.declared.grammar.Expected.{Expected}
use Rattle.fetch_objects.specs.Grammar.{part_at}
use Rattle.fetch_objects.proofs.grammar.part_at.Goals as goal

pub returns-in-CommitterLine : goal.returns-in-CommitterLine
returns-in-CommitterLine c = c.committer_line.ensures c.args.hash ∙ ap (λ (e : Expected). part_at c.args.hash e c.args.bytes.now) (sym c.in-CommitterLine.is)

pub returns-in-TypeLine : goal.returns-in-TypeLine
returns-in-TypeLine c = c.type_line.ensures c.args.hash ∙ ap (λ (e : Expected). part_at c.args.hash e c.args.bytes.now) (sym c.in-TypeLine.is)
