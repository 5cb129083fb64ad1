use Rattle.fetch_wire.proofs.AdvertisementLines.{advertisement_tells}
use Rattle.fetch_wire.proofs.laws.advertisements_are_read_back.Goals as goal

pub returns : goal.returns
returns c = advertisement_tells
