use Rattle.std.proofs.Common.{◌≡◌, ◌++◌, ◌∷◌, [], ℕ, List, codes, length, ap, sym, ◌∙◌}
use Rattle.fetch_base.specs.Digits.{hex_of}
use Rattle.fetch_serve.proofs.Appending.{on_ok, refusal_is, refusal_short}
use Rattle.fetch_serve.proofs.fetching.append_not_offered.Goals as goal

pub append_line-requires : goal.append_line-requires
append_line-requires c =
    let id = c.args.id.now in
    let text : c.as_slice.result.now ≡ (codes "ERR want " ++ hex_of id) ++ (codes " not offered" ++ 10 ∷ []) =
    c.as_slice.ensures.value ∙ c.in_ok-extend_from_slice.ensures.items
    ∙ ap (λ (t : List ℕ). t ++ (codes " not offered" ++ 10 ∷ [])) (c.in_ok-append_hex.ensures.ok ∙ ap (λ (t : List ℕ). t ++ hex_of id) c.in_ok-text.ensures.items) in
    refusal_short id c.as_slice.result.now text (sym (ap (length {A = ℕ}) c.as_bytes-bytes.ensures.bytes) ∙ c.as_bytes-bytes.ensures.len)

pub returns : goal.returns
returns c =
    let id = c.args.id.now in
    let text : c.as_slice.result.now ≡ (codes "ERR want " ++ hex_of id) ++ (codes " not offered" ++ 10 ∷ []) =
    c.as_slice.ensures.value ∙ c.in_ok-extend_from_slice.ensures.items
    ∙ ap (λ (t : List ℕ). t ++ (codes " not offered" ++ 10 ∷ [])) (c.in_ok-append_hex.ensures.ok ∙ ap (λ (t : List ℕ). t ++ hex_of id) c.in_ok-text.ensures.items) in
    on_ok c.append_line.result _ _ (refusal_is id c.as_slice.result.now c.args.out.now.items c.append_line.new.out.items text) c.append_line.ensures
