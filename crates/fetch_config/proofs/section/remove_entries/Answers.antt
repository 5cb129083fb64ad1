use Rattle.std.proofs.Common.{ap, ◌∙◌, arith}
use Rattle.std.specs.Prelude.{slice_set}
use Rattle.fetch_config.specs.Contents.{without_key}
use Rattle.fetch_config.proofs.Edits.{set-on_section}
use Rattle.fetch_config.proofs.section.remove_entries.Goals as goal

pub returns : goal.returns
returns c =
    let s = c.index_mut-section.result.now in
    ap (λ es. slice_set c.args.sections.now.items c.args.index (record { name = s.name; sub = s.sub; meta = s.meta; entries = es })) c.keep_others.ensures
    ∙ set-on_section (without_key c.args.key.now) c.args.index s c.args.sections.now.items (omega arith) c.index_mut-section.ensures.value
