use Rattle.std.proofs.Common.{rules}
use Rattle.examples.proofs.Packed.{small_fit}
use Rattle.examples.proofs.serving.pack_of.Goals as goal

pub write_pack-requires : goal.write_pack-requires
write_pack-requires c = small_fit c.args.objects.now (search rules) (search rules)
