use Rattle.std.proofs.Common.{◌≡◌, ◌++◌, ◌∷◌, [], ℕ, List, length, ap, sym, ◌∙◌}
use Rattle.fetch_base.specs.Digits.{hex_of}
use Rattle.fetch_lines.specs.Written.{line_text}
use Rattle.fetch_lines.specs.declared.lines.line.Line.TheVariants.{Payload}
use Rattle.fetch_serve.proofs.Appending.{id_short, on_ok}
use Rattle.fetch_serve.proofs.fetching.append_id.Goals as goal

pub append_line-requires : goal.append_line-requires
append_line-requires c =
    let id = c.args.id.now in
    let word = c.args.word.now in
    let text : c.as_slice.result.now ≡ (word ++ hex_of id) ++ 10 ∷ [] =
    c.as_slice.ensures.value ∙ c.in_ok-push.ensures.items ∙ ap (λ (t : List ℕ). t ++ 10 ∷ []) (c.in_ok-append_hex.ensures.ok ∙ ap (λ (t : List ℕ). t ++ hex_of id) c.in_ok-text.ensures.items) in
    id_short word id c.as_slice.result.now c.requires text (sym (ap (length {A = ℕ}) c.as_bytes-bytes.ensures.bytes) ∙ c.as_bytes-bytes.ensures.len)

pub returns : goal.returns
returns c =
    let id = c.args.id.now in
    let word = c.args.word.now in
    let text : c.as_slice.result.now ≡ (word ++ hex_of id) ++ 10 ∷ [] =
    c.as_slice.ensures.value ∙ c.in_ok-push.ensures.items ∙ ap (λ (t : List ℕ). t ++ 10 ∷ []) (c.in_ok-append_hex.ensures.ok ∙ ap (λ (t : List ℕ). t ++ hex_of id) c.in_ok-text.ensures.items) in
    on_ok c.append_line.result _ _ (λ is. is ∙ ap (λ (t : List ℕ). c.args.out.now.items ++ line_text (Payload t)) text) c.append_line.ensures
