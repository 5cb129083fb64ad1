use Rattle.std.proofs.Common.{sym, ◌∙◌}
use Rattle.fetch_config.specs.Contents.{without_key}
use Rattle.fetch_lookup.proofs.Edits.{stays, changes}
use Rattle.fetch_create.proofs.Settings.{cleared_at, cleared, kept}
use Rattle.fetch_create.proofs.versioning.remove_key_at.Goals as goal

pub returns-then-is_plain : goal.returns-then-is_plain
returns-then-is_plain c =
    let s = c.index-sections-index.result in
    changes c.args.file.now c.args.index (cleared_at c.args.name.now c.args.key.now) c.sections.result.now s c.sections.ensures.sections c.requires c.index-sections-index.is _ (without_key c.args.key.now) (cleared c.args.name.now c.args.key.now s (sym c.is_plain.ensures ∙ c.if-is_plain.true)) c.remove_key.ensures

pub returns-else-is_plain : goal.returns-else-is_plain
returns-else-is_plain c =
    let s = c.index-sections-index.result in
    stays c.args.file.now c.args.index (cleared_at c.args.name.now c.args.key.now) c.sections.result.now s c.sections.ensures.sections c.requires c.index-sections-index.is (kept c.args.name.now c.args.key.now s (sym c.is_plain.ensures ∙ c.if-is_plain.false))
