use Rattle.fetch_objects.specs.declared.grammar.Expected.TheVariants as expect
use Rattle.fetch_objects.proofs.Silent.{no_parents}
use Rattle.std.proofs.Common.{refl}
use Rattle.fetch_objects.proofs.object.ObjectRef.no_ids.Goals as goal

pub returns : goal.returns
returns c = no_parents c.args.self.now.hash expect.Anything c.args.self.now.bytes.now refl
