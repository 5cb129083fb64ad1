use Rattle.std.proofs.Common.{◌≡◌, true, false, List, [], ◌∷◌, ℕ, sym, ◌∙◌, rules, refl}
use Rattle.fetch_config.specs.declared.section.Section.{Section}
use Rattle.fetch_lookup.specs.Saved as spec
use Rattle.fetch_lookup.proofs.Edits.{stays, goes, changes}
use Rattle.fetch_lookup.proofs.cleaning.clean_at.Goals as goal

of-other : (name : List ℕ) (s : Section) → spec.is_of_remote name s ≡ false → spec.cleaned_at name s ≡ s ∷ []
unfolding spec.cleaned_at
of-other name s e = rw e refl

emptied : (name : List ℕ) (s : Section) → spec.is_of_remote name s ≡ true → spec.is_emptied s ≡ true → spec.cleaned_at name s ≡ []
unfolding spec.cleaned_at
emptied name s e f = rw (e, f) refl

others-left : (name : List ℕ) (s : Section) → spec.is_of_remote name s ≡ true → spec.is_emptied s ≡ false → spec.cleaned_at name s ≡ spec.cleaned_section s ∷ []
unfolding spec.cleaned_at
others-left name s e f = rw (e, f) refl

pub returns-then-not-is_of_remote : goal.returns-then-not-is_of_remote
returns-then-not-is_of_remote c =
    let s = c.index-sections-index.result in
    let off : c.is_of_remote.result ≡ false = search (rules, c.if-not-is_of_remote.true) in
    stays c.args.file.now c.args.index (spec.cleaned_at c.args.name.now) c.sections.result.now s c.sections.ensures.sections c.requires c.index-sections-index.is (of-other c.args.name.now s (sym c.is_of_remote.ensures ∙ off))

pub returns-then-is_emptied : goal.returns-then-is_emptied
returns-then-is_emptied c =
    let s = c.index-sections-index.result in
    let on : c.is_of_remote.result ≡ true = search (rules, c.if-not-is_of_remote.false) in
    goes c.args.file.now c.args.index (spec.cleaned_at c.args.name.now) c.sections.result.now s c.sections.ensures.sections c.requires c.index-sections-index.is _ (emptied c.args.name.now s (sym c.is_of_remote.ensures ∙ on) (sym c.is_emptied.ensures ∙ c.if-is_emptied.true)) c.remove_section.ensures

pub returns-else-is_emptied : goal.returns-else-is_emptied
returns-else-is_emptied c =
    let s = c.index-sections-index.result in
    let on : c.is_of_remote.result ≡ true = search (rules, c.if-not-is_of_remote.false) in
    changes c.args.file.now c.args.index (spec.cleaned_at c.args.name.now) c.sections.result.now s c.sections.ensures.sections c.requires c.index-sections-index.is _ spec.cleaned_section (others-left c.args.name.now s (sym c.is_of_remote.ensures ∙ on) (sym c.is_emptied.ensures ∙ c.if-is_emptied.false)) c.remove_keys.ensures
