use Rattle.fetch_refs.specs.Contents.{packed_of}
use Rattle.fetch_refs.proofs.Undoing.{found-some, found-none}
use Rattle.fetch_refs.proofs.contents.Contents.packed_id.Goals as goal

pub returns-in-Some : goal.returns-in-Some
returns-in-Some c = found-some packed_of c.args.self.now.names.entries c.args.name.now _ c.in-Some.ensures.value

pub returns-in-None : goal.returns-in-None
returns-in-None c = found-none packed_of c.args.self.now.names.entries c.args.name.now c.in-None.ensures.value
