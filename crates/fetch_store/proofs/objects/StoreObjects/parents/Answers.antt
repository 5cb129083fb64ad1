use Rattle.std.proofs.Common.{[], Some, None, sym, ap, ◌∙◌}
use Rattle.std.specs.Option.{option_map_or}
use Rattle.fetch_store.specs.Graph.{Node}
use Rattle.fetch_objects.specs.References.{seen}
use Rattle.fetch_store.proofs.Graphs.{at}
use Rattle.fetch_store.proofs.objects.StoreObjects.parents.Goals as goal

pub returns-in-Some : goal.returns-in-Some
returns-in-Some c = c.parents.ensures ∙ sym (ap (λ o. option_map_or (λ (n : Node). n.parents) o []) (at c.args.self.now.objects c.args.id.now (Some (seen c.in-Some.object)) c.in-Some.ensures.object))

pub returns-in-None : goal.returns-in-None
returns-in-None c = sym (ap (λ o. option_map_or (λ (n : Node). n.parents) o []) (at c.args.self.now.objects c.args.id.now None c.in-None.ensures.object))
