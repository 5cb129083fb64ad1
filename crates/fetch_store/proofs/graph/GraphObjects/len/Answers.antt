use Rattle.std.proofs.Common.{ap, ◌∙◌}
use Rattle.std.specs.FinMap.{len}
use Rattle.fetch_store.specs.Graph.{Graph}
use Rattle.fetch_store.proofs.GraphsAdded.{len_of_nodes}
use Rattle.fetch_store.proofs.graph.GraphObjects.len.Goals as goal

pub returns : goal.returns
returns c = c.len.ensures ∙ c.self.inside.nodes.ok.0 ∙ len_of_nodes c.self.inside.nodes.items c.self.invariant ∙ ap (λ (m : Graph). len m) c.self.view_is
