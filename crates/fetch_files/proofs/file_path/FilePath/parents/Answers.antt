use Rattle.std.proofs.Common.{◌∙◌, ap, sym, arith, List, ◌++◌, ◌∷◌, [], take, length, ℕ, ◌≡◌}
use Rattle.fetch_files.specs.Paths.{Path, parents_of}
use Rattle.fetch_files.proofs.Slashes.{parents-step, parents-all}
use Rattle.fetch_files.proofs.file_path.FilePath.parents.Goals as goal

pub loop-depth-preserved : goal.loop-depth-preserved
loop-depth-preserved c =
    c.in_ok-push.ensures.items ∙ ap (λ (xs : List Path). xs ++ c.in_ok-prefix.field-0 ∷ []) c.loop-depth.invariant
    ∙ ap (λ (p : Path). take c.loop-depth.depth (parents_of c.args.self.now) ++ p ∷ []) c.in_ok-prefix.ensures
    ∙ sym (parents-step c.args.self.now c.loop-depth.depth (omega (arith, c.loop-depth-test.true, c.len-depth-end.ensures)))

pub returns : goal.returns
returns c =
    let end : c.loop-depth.depth ≡ length c.args.self.now = omega (arith, c.loop-depth-test.false, c.loop-depth.auto.depth-end, c.len-depth-end.ensures) in
    c.loop-depth.invariant ∙ ap (λ (n : ℕ). take n (parents_of c.args.self.now)) end ∙ parents-all c.args.self.now
