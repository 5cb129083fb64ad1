use Rattle.std.proofs.Common.{ap, ◌∙◌}
use Rattle.fetch_lines.specs.ServerLines.{greeting_lines}
use Rattle.fetch_lines.specs.Written.{first_too_long}
use Rattle.fetch_serve.proofs.Fitting.{greeting_fits}
use Rattle.fetch_serve.proofs.replying.append_greeting.Goals as goal

pub append_lines-requires : goal.append_lines-requires
append_lines-requires c =
    ap first_too_long (c.deref-2.ensures.value ∙ c.in_ok-lines.ensures ∙ ap greeting_lines (c.deref.ensures.value ∙ c.in_ok-capabilities.ensures)) ∙ greeting_fits c.args.hash
