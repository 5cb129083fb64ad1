use Rattle.std.proofs.Common.{List, ap, ◌∙◌}
use Rattle.fetch_base.specs.declared.id.ObjectId.{ObjectId}
use Rattle.fetch_lines.specs.KnownIds.{has_id}
use Rattle.fetch_replies.proofs.KnownIds.{contains_is}
use Rattle.fetch_replies.proofs.replies.haves.Haves.contains.Goals as goal

pub returns : goal.returns
returns c =
    c.contains.ensures ∙ contains_is c.self.inside.known c.args.id.now ∙ c.self.invariant c.args.id.now ∙ ap (λ (l : List ObjectId). has_id c.args.id.now l) c.self.view_is
