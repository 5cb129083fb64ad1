use Rattle.std.proofs.Common.{ap, ◌∙◌}
use Rattle.fetch_lines.specs.ServerLines.{listing_lines_of}
use Rattle.fetch_lines.specs.Written.{first_too_long}
use Rattle.fetch_serve.specs.Parts.{held_by}
use Rattle.fetch_serve.proofs.Fitting.{listing_fits}
use Rattle.fetch_serve.proofs.replying.append_listing.Goals as goal

pub append_lines-requires : goal.append_lines-requires
append_lines-requires c =
    ap first_too_long (c.deref-2.ensures.value ∙ c.in_ok-lines.ensures ∙ ap listing_lines_of (c.deref.ensures.value ∙ c.in_ok-references.ensures))
    ∙ listing_fits (held_by c.args.parts) c.args.wanted.unborn c.args.wanted.prefixes.now c.requires
