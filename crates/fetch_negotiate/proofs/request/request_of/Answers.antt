use Rattle.std.proofs.Common.{List, ℕ, [], ◌∷◌, ◌++◌, ap, ◌∙◌, append_assoc}
use Rattle.fetch_negotiate.specs.Requests as spec
use Rattle.fetch_negotiate.proofs.Lines.{three}
use Rattle.fetch_negotiate.proofs.request.request_of.Goals as goal

pub returns-clause-lines : goal.returns-clause-lines
returns-clause-lines c =
    let word = c.in_ok-push_word.ensures ∙ ap (λ (t : List ℕ). c.push_head.new.lines.items ++ t ∷ []) c.pack_word.ensures in
    let all = three c.new-lines.result.items (spec.head_of c.args.handshake.now c.args.agent.now) (spec.pack_word c.args.handshake.now ∷ []) (spec.details_of c.args.tags c.args.shallow.now c.args.border.now c.args.wants.now)
    c.push_head.new.lines.items c.push_word.new.lines.items c.push_details.new.lines.items
    c.in_ok-push_head.ensures word c.in_ok-push_details.ensures in
    let head = spec.head_of c.args.handshake.now c.args.agent.now in
    let whole = rw c.new-lines.ensures.items at all in
    c.from.ensures ∙ whole ∙ append_assoc head (spec.pack_word c.args.handshake.now ∷ []) (spec.details_of c.args.tags c.args.shallow.now c.args.border.now c.args.wants.now)
