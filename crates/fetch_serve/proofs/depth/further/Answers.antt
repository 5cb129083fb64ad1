use Rattle.std.proofs.Common.{ap, filter, ◌∙◌}
use Rattle.std.specs.FinSet as set
use Rattle.fetch_store.specs.Graph.{graph_of}
use Rattle.fetch_serve.proofs.Kept.{further_is}
use Rattle.fetch_serve.proofs.depth.further.Goals as goal

pub returns : goal.returns
returns c =
    further_is (graph_of c.args.walk.store.now.objects) c.args.border.now c.args.roots.now c.args.depth c.in_ok-near.near c.as_slice-2.result.now c.in_ok-beyond.beyond c.as_slice-3.result.now c.as_slice-4.result.now c.union.result
    c.in_ok-near.ensures (c.as_slice-2.ensures ∙ c.in_ok-met.ensures ∙ ap (filter (set.contains c.args.border.now)) c.as_slice.ensures) c.in_ok-beyond.ensures c.as_slice-3.ensures c.as_slice-4.ensures c.union.ensures.each c.union.ensures.ascending
