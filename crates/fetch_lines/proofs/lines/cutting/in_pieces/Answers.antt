use Rattle.std.proofs.Common.{◌≡◌, ◌++◌, ◌∷◌, [], ℕ, List, take, drop, sym, ap, ◌∙◌, arith}
use Rattle.std.proofs.lemmas.List.{append-nil}
use Rattle.fetch_lines.specs.Cutting as spec
use Rattle.fetch_lines.proofs.Cut.{cut_more, cut_none}
use Rattle.fetch_lines.proofs.lines.cutting.in_pieces.Goals as goal

pub pieces-preserved : goal.pieces-preserved
pieces-preserved c =
    let more = cut_more c.args.size c.args.bytes.now c.pieces.rest.now c.split_at.result.0.now c.split_at.result.1.now c.pieces.pieces.items (omega arith) (omega arith)
    (c.split_at.ensures.front ∙ ap (λ (n : ℕ). take n c.pieces.rest.now) c.min.ensures) (c.split_at.ensures.back ∙ ap (λ (n : ℕ). drop n c.pieces.rest.now) c.min.ensures) c.pieces.invariant in
    let pushed : c.push.new.self.items ≡ c.pieces.pieces.items ++ c.split_at.result.0.now ∷ [] = cc (c.in_ok-push.ensures.items, c.in_ok-new.ensures) in
    ap (λ (l : List (List ℕ)). l ++ spec.in_pieces c.args.size c.split_at.result.1.now) pushed ∙ more

pub returns : goal.returns
returns c =
    let none = cut_none c.args.size c.pieces.rest.now (omega arith) in
    sym (append-nil c.pieces.pieces.items) ∙ (rw none at c.pieces.invariant)
