use Rattle.std.proofs.Common.{◌∷◌, [], ◌++◌, List, ℕ, ap, ◌∙◌, append_assoc}
use Rattle.fetch_lines.specs.RequestWords.{command_word}
use Rattle.fetch_lines.specs.Requests.{head_texts}
use Rattle.fetch_negotiate.proofs.request.push_head.Goals as goal

pub returns : goal.returns
unfolding command_word
returns c =
    let head = head_texts c.args.handshake.now c.args.agent.now in
    c.in_ok-append_head.ensures ∙ ap (λ (l : List (List ℕ)). l ++ head) c.in_ok-push_word.ensures ∙ append_assoc c.args.lines.now.items (command_word ∷ []) head
