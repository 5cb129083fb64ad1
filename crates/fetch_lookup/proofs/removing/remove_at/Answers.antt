use Rattle.std.proofs.Common.{◌≡◌, ℕ, true, false, List, [], ◌∷◌, sym, ◌∙◌, refl}
use Rattle.fetch_config.specs.declared.section.Section.{Section}
use Rattle.fetch_lookup.specs.Removed.{is_branch_of}
use Rattle.fetch_lookup.proofs.Edits.{stays, goes}
use Rattle.fetch_lookup.proofs.Removal.{gone_at}
use Rattle.fetch_lookup.proofs.removing.remove_at.Goals as goal

gone : (names : List (List ℕ)) (s : Section) → is_branch_of names s ≡ true → gone_at names s ≡ []
gone names s e = rw e refl

other : (names : List (List ℕ)) (s : Section) → is_branch_of names s ≡ false → gone_at names s ≡ s ∷ []
other names s e = rw e refl

pub returns-then-is_branch_of : goal.returns-then-is_branch_of
returns-then-is_branch_of c =
    let s = c.index-sections-index.result in
    goes c.args.file.now c.args.index (gone_at c.args.names.now.keys) c.sections.result.now s c.sections.ensures.sections c.requires c.index-sections-index.is _ (gone c.args.names.now.keys s (sym c.is_branch_of.ensures ∙ c.if-is_branch_of.true)) c.remove_section.ensures

pub returns-else-is_branch_of : goal.returns-else-is_branch_of
returns-else-is_branch_of c =
    let s = c.index-sections-index.result in
    stays c.args.file.now c.args.index (gone_at c.args.names.now.keys) c.sections.result.now s c.sections.ensures.sections c.requires c.index-sections-index.is (other c.args.names.now.keys s (sym c.is_branch_of.ensures ∙ c.if-is_branch_of.false))
