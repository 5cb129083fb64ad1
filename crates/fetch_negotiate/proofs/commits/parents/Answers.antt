use Rattle.std.proofs.Common.{List, ◌++◌, [], ◌∷◌, sym, ap, ◌∙◌, append_assoc}
use Rattle.std.proofs.lemmas.List.{append-nil}
use Rattle.fetch_base.specs.declared.id.ObjectId.{ObjectId}
use Rattle.fetch_objects.specs.References.{parents_left}
use Rattle.fetch_negotiate.proofs.commits.parents.Goals as goal

pub loop-parent-preserved : goal.loop-parent-preserved
loop-parent-preserved g c =
    let rest = parents_left c.next.new.self in
    ap (λ (ps : List ObjectId). ps ++ rest) c.in_ok-push.ensures.items
    ∙ append_assoc c.loop-parent.parents.items (c.in-Some.parent ∷ []) rest
    ∙ ap (λ (ps : List ObjectId). c.loop-parent.parents.items ++ ps) (sym c.in-Some.ensures.steps)
    ∙ c.loop-parent.invariant

pub returns : goal.returns
returns g c =
    sym (append-nil c.loop-parent.parents.items)
    ∙ ap (λ (ps : List ObjectId). c.loop-parent.parents.items ++ ps) (sym c.in_default.ensures.steps.0)
    ∙ c.loop-parent.invariant
