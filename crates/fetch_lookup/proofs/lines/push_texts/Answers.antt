use Rattle.std.proofs.Common.{arith, ap, ◌∙◌, List, ℕ, [], ◌∷◌, ◌++◌}
use Rattle.fetch_lookup.specs.Saved.{KeyLine}
use Rattle.fetch_lookup.proofs.Edits.{push-step, push-end}
use Rattle.fetch_lookup.proofs.lines.push_texts.Goals as goal

pub loop-text-preserved : goal.loop-text-preserved
loop-text-preserved c =
    let f : List ℕ → KeyLine = λ text. (c.args.key.now, text) in
    push-step f c.args.texts.now c.loop-text.text-index c.text-item.result c.loop-text.lines.items _ _ c.loop-text-test.true c.text-item.is
    (c.in_ok-push.ensures ∙ ap (λ t. c.loop-text.lines.items ++ f t ∷ []) c.in_ok-try_clone.ensures) c.loop-text.invariant

pub returns : goal.returns
returns c =
    let f : List ℕ → KeyLine = λ text. (c.args.key.now, text) in
    push-end f c.args.texts.now c.loop-text.text-index c.loop-text.lines.items _ (omega arith) c.loop-text.invariant
