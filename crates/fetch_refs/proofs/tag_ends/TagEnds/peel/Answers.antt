use Rattle.std.proofs.Common.{sym, ◌∙◌}
use Rattle.fetch_refs.proofs.TagWays.{ended_at}
use Rattle.fetch_refs.proofs.tag_ends.TagEnds.peel.Goals as goal

pub returns-in-Some-clause-answer : goal.returns-in-Some-clause-answer
returns-in-Some-clause-answer g c =
    let (way, leads, none) = c.in-Some.ensures in
    c.if_stored.ensures ∙ sym (ended_at (g.O.Objects.graph c.args.objects.now) c.args.first way c.in-Some.end leads none)
