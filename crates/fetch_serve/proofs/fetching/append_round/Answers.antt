use Rattle.std.proofs.Common.{ap, ◌∙◌}
use Rattle.fetch_lines.specs.ServerLines.{round_lines}
use Rattle.fetch_lines.specs.Written.{first_too_long}
use Rattle.fetch_serve.specs.Parts.{held_by}
use Rattle.fetch_serve.proofs.Appending.{known_fit}
use Rattle.fetch_serve.proofs.fetching.append_round.Goals as goal

pub append_lines-requires : goal.append_lines-requires
append_lines-requires c =
    ap first_too_long (c.deref.ensures.value ∙ c.in_ok-lines.ensures ∙ ap round_lines (c.as_slice.ensures ∙ c.in_ok-haves.ensures)) ∙ known_fit (held_by c.args.parts) c.args.haves.now c.requires
