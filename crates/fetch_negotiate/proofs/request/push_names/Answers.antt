use Rattle.std.proofs.Common.{◌++◌, List, ℕ, ap, ◌∙◌, ◌∷◌, []}
use Rattle.fetch_lines.specs.RequestWords.{not_word}
use Rattle.fetch_negotiate.proofs.Lines.{mapped_more}
use Rattle.fetch_negotiate.proofs.request.push_names.Goals as goal

pub loop-name-preserved : goal.loop-name-preserved
unfolding not_word
loop-name-preserved c =
    mapped_more (λ (name : List ℕ). not_word ++ name) c.args.names.now c.loop-name.name-index c.name-item.result c.args.lines.now.items c.loop-name.lines.items c.push.new.self.items
    c.loop-name-test.true c.name-item.is c.loop-name.invariant
    (c.in_ok-push.ensures.items ∙ ap (λ (t : List ℕ). c.loop-name.lines.items ++ t ∷ []) (c.in_ok-joined.ensures ∙ ap (λ (t : List ℕ). not_word ++ t) c.as_bytes.ensures.bytes))
