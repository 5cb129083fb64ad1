use Rattle.fetch_journal.specs.Machine.{held}
use Rattle.fetch_journal.proofs.Connecting.{connects_later}
use Rattle.fetch_journal.proofs.Fronts.{fronts_grow}
use Rattle.fetch_journal.proofs.laws.an_honest_pack_connects_at_a_later_front.Goals as goal

pub returns : goal.returns
returns c opening front more planned now wants haves pack at later alike sound shut fit none honest =
    connects_later planned.state.hash (record { held = held planned; wants = wants; haves = haves }) now pack sound.of_hash sound.closed shut (fronts_grow opening front more planned now at later alike) fit none honest
