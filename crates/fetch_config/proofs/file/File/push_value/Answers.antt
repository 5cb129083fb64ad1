use Rattle.std.proofs.Common.{sym, ap, subst, ◌∙◌, List, ℕ, Some}
use Rattle.fetch_config.specs.Contents.{on_section, with_entry}
use Rattle.fetch_config.specs.Kept.{AreKept}
use Rattle.fetch_config.proofs.Keeping.{kept-with_entry}
use Rattle.fetch_config.proofs.file.File.push_value.Goals as goal

pub invariant_of-self-2 : goal.invariant_of-self-2
invariant_of-self-2 c =
    let same = c.in_ok-push_entry.ensures.ok ∙ ap (λ (k : List ℕ). on_section c.args.index (with_entry (k, Some c.in_ok-value.value)) c.self.inside.sections.items) c.in_ok-key.ensures
    ∙ ap (λ (v : List ℕ). on_section c.args.index (with_entry (c.args.key.now, Some v)) c.self.inside.sections.items) c.in_ok-value.ensures in
    subst AreKept (sym same) (kept-with_entry c.args.key.now c.args.value.now c.args.index c.self.inside.sections.items (sym c.in_default.ensures) c.self.invariant)
