use Rattle.std.proofs.Common.{◌∙◌}
use Rattle.fetch_conversation.proofs.Nil.{nil_length}
use Rattle.fetch_conversation.proofs.listing.are_none.Goals as goal

pub returns : goal.returns
returns c = c.is_empty.ensures ∙ nil_length c.args.specs.now
