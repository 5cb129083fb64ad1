use Rattle.std.proofs.Common.{ℕ, ◌++◌, List, drop, length, ap, ◌∙◌}
use Rattle.std.specs.Str.{bytes_eq}
use Rattle.fetch_specs.specs.Categories.{refs, heads}
use Rattle.fetch_specs.specs.Matches.{completed, source_given}
use Rattle.fetch_specs.proofs.Forms.{one_form, three_forms}
use Rattle.fetch_specs.proofs.leading.sources_leading.Goals as goal

pub returns : goal.returns
unfolding refs heads
returns c =
    let name = c.args.name.now in
    let given = source_given c.args.specs.now c.args.spec.now in
    let full = λ (text : List ℕ). bytes_eq (completed text) name in
    three_forms given full name (drop (length refs) name) (drop (length heads) name)
    c.push_source.new.sources.items c.push_source-2.new.sources.items c.push_source-3.new.sources.items
    (c.in_ok-push_source.ensures ∙ ap (λ (xs : List (List ℕ)). xs ++ one_form given full name) c.new-sources.ensures.items)
    (c.in_ok-push_source-2.ensures ∙ ap (λ (text : List ℕ). c.push_source.new.sources.items ++ one_form given full text) c.behind.ensures)
    (c.in_ok-push_source-3.ensures ∙ ap (λ (text : List ℕ). c.push_source-2.new.sources.items ++ one_form given full text) c.behind-2.ensures)
