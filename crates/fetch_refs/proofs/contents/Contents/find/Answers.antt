use Rattle.std.proofs.Common.{◌∙◌}
use Rattle.fetch_refs.specs.Contents.{value_of}
use Rattle.fetch_refs.proofs.Undoing.{found-some, found-none}
use Rattle.fetch_refs.proofs.contents.Contents.find.Goals as goal

pub returns-in-Some : goal.returns-in-Some
returns-in-Some c = c.shown.ensures ∙ found-some value_of c.args.self.now.names.entries c.args.name.now _ c.in-Some.ensures.value

pub returns-in-None : goal.returns-in-None
returns-in-None c = found-none value_of c.args.self.now.names.entries c.args.name.now c.in-None.ensures.value
