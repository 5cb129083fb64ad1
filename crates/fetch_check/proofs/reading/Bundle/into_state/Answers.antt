use Rattle.std.proofs.Common.{subst, sym}
use Rattle.fetch_store.specs.Stores.{AreOf}
use Rattle.fetch_check.specs.Bundles.{pack_of}
use Rattle.fetch_check.specs.Reading.{bundle_of, contents_in}
use Rattle.fetch_check.proofs.Stocked.{of_read}
use Rattle.fetch_check.proofs.reading.Bundle.into_state.Goals as goal

pub store_of-requires : goal.store_of-requires
store_of-requires c =
    let b = bundle_of c.args.self in
    subst (AreOf b.hash) (sym c.into_vec.ensures) (of_read b.hash (pack_of b) (contents_in b) c.requires.pack)
