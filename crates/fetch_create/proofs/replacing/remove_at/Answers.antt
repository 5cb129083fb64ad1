use Rattle.std.proofs.Common.{◌≡◌, true, false, List, [], ◌∷◌, sym, ◌∙◌, refl}
use Rattle.fetch_config.specs.declared.section.Section.{Section}
use Rattle.fetch_create.specs.Replacing.{is_replaced}
use Rattle.fetch_lookup.proofs.Edits.{stays, goes}
use Rattle.fetch_create.proofs.Gone.{gone_at}
use Rattle.fetch_create.proofs.replacing.remove_at.Goals as goal

gone : (news : List Section) (s : Section) → is_replaced news s ≡ true → gone_at news s ≡ []
gone news s e = rw e refl

other : (news : List Section) (s : Section) → is_replaced news s ≡ false → gone_at news s ≡ s ∷ []
other news s e = rw e refl

pub returns-then-is_replaced : goal.returns-then-is_replaced
returns-then-is_replaced c =
    let s = c.index-sections-index.result in
    goes c.args.file.now c.args.index (gone_at c.args.news.now.sections) c.sections.result.now s c.sections.ensures.sections c.requires c.index-sections-index.is _ (gone c.args.news.now.sections s (sym c.is_replaced.ensures ∙ c.if-is_replaced.true)) c.remove_section.ensures

pub returns-else-is_replaced : goal.returns-else-is_replaced
returns-else-is_replaced c =
    let s = c.index-sections-index.result in
    stays c.args.file.now c.args.index (gone_at c.args.news.now.sections) c.sections.result.now s c.sections.ensures.sections c.requires c.index-sections-index.is (other c.args.news.now.sections s (sym c.is_replaced.ensures ∙ c.if-is_replaced.false))
