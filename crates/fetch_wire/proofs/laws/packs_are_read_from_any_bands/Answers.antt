use Rattle.fetch_replies.specs.BandsTold.{pack_tells}
use Rattle.fetch_wire.proofs.laws.packs_are_read_from_any_bands.Goals as goal

pub returns : goal.returns
returns c = pack_tells
