use Rattle.std.proofs.Common.{sym, ap, ◌∙◌}
use Rattle.std.specs.List.{list_all}
use Rattle.fetch_refs.specs.Contents.{shown_in, value_of}
use Rattle.fetch_refs.specs.Hashing.{has_no_ids, is_empty, leads}
use Rattle.fetch_refs.specs.Overlay.{shown_lines}
use Rattle.fetch_refs.proofs.Hashes.{direct, lined}
use Rattle.fetch_refs.proofs.Standing.{entries-each}
use Rattle.fetch_refs.proofs.refs.Refs.has_no_ids.Goals as goal

pub returns-else-lead_to_names : goal.returns-else-lead_to_names
returns-else-lead_to_names c =
    let k = c.self.inside.contents in
    direct (shown_in k) c.lead_to_names.result
    (c.lead_to_names.ensures.leads ∙ ap (list_all leads) (sym (entries-each value_of k.names.entries c.lead_to_names.ensures.ordered))) c.if-lead_to_names.false
    ∙ ap has_no_ids c.self.view_is

pub returns-then-lead_to_names : goal.returns-then-lead_to_names
returns-then-lead_to_names c =
    let k = c.self.inside.contents in
    lined (shown_in k) c.lead_to_names.result c.have_no_lines.result
    (c.lead_to_names.ensures.leads ∙ ap (list_all leads) (sym (entries-each value_of k.names.entries c.lead_to_names.ensures.ordered))) c.if-lead_to_names.true
    (c.have_no_lines.ensures.lines ∙ ap is_empty (sym (entries-each shown_lines k.logs.entries c.have_no_lines.ensures.ordered)))
    ∙ ap has_no_ids c.self.view_is
