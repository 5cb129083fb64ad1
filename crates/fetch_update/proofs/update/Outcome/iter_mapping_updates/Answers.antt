use Rattle.std.proofs.Common.{List, ap, ◌∙◌, length}
use Rattle.fetch_update.specs.Pairs.{pairs_of}
use Rattle.fetch_update.specs.declared.update.Update.{Update}
use Rattle.fetch_update.proofs.Whole.{one_each}
use Rattle.fetch_update.proofs.update.Outcome.iter_mapping_updates.Goals as goal

pub returns-clause-whole : goal.returns-clause-whole
returns-clause-whole c =
    ap (λ (us : List Update). length (pairs_of c.args.mappings.now c.args.refspecs.now c.args.extra_refspecs.now c.as_slice-2.result.now us)) c.as_slice.ensures
    ∙ one_each c.args.mappings.now c.args.refspecs.now c.args.extra_refspecs.now c.as_slice-2.result.now c.args.self.now.updates c.requires
