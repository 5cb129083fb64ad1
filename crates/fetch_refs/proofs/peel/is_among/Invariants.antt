use Rattle.std.proofs.Common.{◌≡◌, List, length}
use Rattle.fetch_base.specs.declared.id.ObjectId.{ObjectId}
use Rattle.fetch_refs.specs.Leading.{Leads, next_tag}
use Rattle.fetch_refs.proofs.TagWays.{eq}
use Rattle.fetch_refs.proofs.Walks.{IsRest}
use Rattle.fetch_refs.proofs.peel.is_among.Given as goal

abbrev pub invariant-tags : goal.invariant-tags
invariant-tags g l =
    let next = next_tag (g.O.Objects.graph l.objects) in
    (way : List ObjectId) (end : ObjectId) → Leads next l.fn.first way end → length way ≡ l.count → IsRest eq next way end l.at l.left l.id

abbrev pub decreases-tags : goal.decreases-tags
decreases-tags g l = l.left
