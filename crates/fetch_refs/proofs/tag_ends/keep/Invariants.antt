use Rattle.fetch_refs.specs.TagEnds.{AreEnds, EndsAt}
use Rattle.fetch_refs.proofs.tag_ends.keep.Given as goal

abbrev pub invariant-tags : goal.invariant-tags
invariant-tags g l = record {
  known : AreEnds (g.O.Objects.graph l.objects) l.ends.entries;
  end : EndsAt (g.O.Objects.graph l.objects) l.id l.fn.end;
}

abbrev pub decreases-tags : goal.decreases-tags
decreases-tags g l = l.left
