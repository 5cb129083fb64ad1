use Rattle.std.proofs.Common.{◌≡◌, ◌+◌, ◌^◌, ◌<◌, List, [], length}
use Rattle.std.specs.FinMap.{len}
use Rattle.fetch_base.specs.declared.id.ObjectId.{ObjectId}
use Rattle.fetch_refs.specs.Leading.{Leads, next_tag}
use Rattle.fetch_refs.specs.Peeled.{through}
use Rattle.fetch_refs.proofs.peel.along_tags.Given as goal

abbrev pub invariant-tags : goal.invariant-tags
invariant-tags g l =
    let graph = g.O.Objects.graph l.objects in
    (way : List ObjectId) × Leads (next_tag graph) l.fn.first way l.id × (length way ≡ l.count) × (through graph l.left way l.id ≡ through graph (len graph) [] l.fn.first) × (l.count + l.left < 2 ^ 64)

abbrev pub decreases-tags : goal.decreases-tags
decreases-tags g l = l.left
