use Rattle.std.proofs.Common.{◌≡◌, ◌++◌, ◌∷◌, [], ℕ, List, codes, length, ap, sym, ◌∙◌, arith}
use Rattle.std.proofs.lemmas.List.{length-append}
use Rattle.fetch_base.specs.Digits.{hex_of}
use Rattle.fetch_check.proofs.Lines.{short_hex, not_too_long}
use Rattle.fetch_check.proofs.writing.append_commit.Goals as goal

pub append_line-requires : goal.append_line-requires
append_line-requires c =
    let id = c.args.id.now in
    let text : c.as_slice.result.now ≡ (codes "border " ++ hex_of id) ++ 10 ∷ [] =
    c.as_slice.ensures.value ∙ c.in_ok-push.ensures.items ∙ ap (λ (t : List ℕ). t ++ 10 ∷ []) (c.in_ok-append_hex.ensures.ok ∙ ap (λ (t : List ℕ). t ++ hex_of id) c.in_ok-text.ensures.items) in
    let digits = short_hex id (sym (ap (length {A = ℕ}) c.as_bytes-bytes.ensures.bytes) ∙ c.as_bytes-bytes.ensures.len) in
    not_too_long c.as_slice.result.now (omega (arith, ap (length {A = ℕ}) text, length-append (codes "border " ++ hex_of id) (10 ∷ []), length-append (codes "border ") (hex_of id), digits))
