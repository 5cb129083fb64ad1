use Rattle.std.proofs.Common.{◌∙◌, sym}
use Rattle.fetch_files.specs.Paths.{parts_of}
use Rattle.fetch_files.proofs.TreeChanges.{told_here, told_nowhere}
use Rattle.fetch_files.proofs.file_tree.find_told.Goals as goal

pub returns-then-is_told_by : goal.returns-then-is_told_by
returns-then-is_told_by c =
    told_here (parts_of c.args.path.now) c.in-Some.key.now c.in-Some.node.now c.nodes.key-iterator c.next.new.self c.args.nodes.now.entries c.in-Some.ensures.steps c.nodes.invariant (sym c.if-is_told_by.true ∙ c.is_told_by.ensures)

pub returns : goal.returns
returns c = told_nowhere (parts_of c.args.path.now) c.nodes.key-iterator c.args.nodes.now.entries c.in-None.ensures.steps.0 c.nodes.invariant
