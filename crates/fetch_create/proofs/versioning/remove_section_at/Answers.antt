use Rattle.std.proofs.Common.{sym, ◌∙◌}
use Rattle.fetch_lookup.proofs.Edits.{stays, goes}
use Rattle.fetch_create.proofs.Settings.{gone_at, gone, other}
use Rattle.fetch_create.proofs.versioning.remove_section_at.Goals as goal

pub returns-then-is_plain : goal.returns-then-is_plain
returns-then-is_plain c =
    let s = c.index-sections-index.result in
    goes c.args.file.now c.args.index (gone_at c.args.name.now) c.sections.result.now s c.sections.ensures.sections c.requires c.index-sections-index.is _ (gone c.args.name.now s (sym c.is_plain.ensures ∙ c.if-is_plain.true)) c.remove_section.ensures

pub returns-else-is_plain : goal.returns-else-is_plain
returns-else-is_plain c =
    let s = c.index-sections-index.result in
    stays c.args.file.now c.args.index (gone_at c.args.name.now) c.sections.result.now s c.sections.ensures.sections c.requires c.index-sections-index.is (other c.args.name.now s (sym c.is_plain.ensures ∙ c.if-is_plain.false))
