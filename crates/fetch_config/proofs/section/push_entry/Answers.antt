use Rattle.std.proofs.Common.{ap, ◌∙◌, arith}
use Rattle.std.specs.Prelude.{slice_set}
use Rattle.fetch_config.specs.Contents.{with_entry}
use Rattle.fetch_config.proofs.Edits.{set-on_section}
use Rattle.fetch_config.proofs.section.push_entry.Goals as goal

pub returns-clause-ok : goal.returns-clause-ok
returns-clause-ok c =
    let s = c.index_mut-section.result.now in
    ap (λ es. slice_set c.args.sections.now.items c.args.index (record { name = s.name; sub = s.sub; meta = s.meta; entries = es })) c.in_ok-push.ensures.ok
    ∙ set-on_section (with_entry (c.args.key, c.args.value)) c.args.index s c.args.sections.now.items (omega arith) c.index_mut-section.ensures.value
