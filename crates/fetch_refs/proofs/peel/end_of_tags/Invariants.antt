use Rattle.std.proofs.Common.{List}
use Rattle.fetch_base.specs.declared.id.ObjectId.{ObjectId}
use Rattle.fetch_refs.specs.Leading.{Leads, next_tag}
use Rattle.fetch_refs.proofs.peel.end_of_tags.Given as goal

abbrev pub invariant-tags : goal.invariant-tags
invariant-tags g l = (way : List ObjectId) × Leads (next_tag (g.O.Objects.graph l.objects)) l.fn.first way l.id

abbrev pub decreases-tags : goal.decreases-tags
decreases-tags g l = l.left
