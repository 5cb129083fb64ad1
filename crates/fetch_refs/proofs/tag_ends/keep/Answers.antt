use Rattle.std.proofs.Common.{sym}
use Rattle.fetch_refs.proofs.Ends.{one_on}
use Rattle.fetch_refs.proofs.tag_ends.keep.Goals as goal

pub tags-preserved : goal.tags-preserved
tags-preserved g c =
    let graph = g.O.Objects.graph c.args.objects.now in
    record {
      known = c.add.ensures graph c.tags.invariant.known c.tags.invariant.end;
      end = one_on graph c.tags.id c.args.end c.in-Some.target c.tags.invariant.end (sym c.in-Some.ensures);
    }
