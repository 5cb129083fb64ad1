use Rattle.std.proofs.Common.{sym}
use Rattle.fetch_update.proofs.Whole.{one_each}
use Rattle.fetch_update.proofs.pairing.MappingUpdatesExactSizeIterator.len.Goals as goal

pub returns-clause-value : goal.returns-clause-value
returns-clause-value c =
    let it = c.args.self.now in
    sym (one_each it.mappings.now it.refspecs.now it.extra_refspecs.now it.edits.now it.updates.now it.indices)
