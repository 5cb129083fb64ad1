use Rattle.std.proofs.Common.{ap, ◌∙◌, [], ◌∷◌, ◌++◌}
use Rattle.std.specs.BTreeSet.{insert_key}
use Rattle.fetch_specs.specs.Specs.{Spec}
use Rattle.fetch_lookup.specs.SpecOrder.{spec_cmp}
use Rattle.fetch_lookup.proofs.AddedSpecs.{stays-known, grows, known-grows}
use Rattle.fetch_lookup.proofs.extending.add_new.Goals as goal

pub returns-then-is_known-clause-all : goal.returns-then-is_known-clause-all
returns-then-is_known-clause-all c = stays-known c.args.known.now.keys c.args.all.now.items c.args.refspec.now c.is_known.result c.requires c.is_known.ensures c.if-is_known.true

pub returns-clause-all : goal.returns-clause-all
returns-clause-all c =
    let all = c.args.all.now.items in
    grows c.args.known.now.keys all _ c.args.refspec.now c.is_known.result c.requires c.is_known.ensures c.if-is_known.false (c.in_ok-push.ensures.items ∙ ap (λ (s : Spec). all ++ s ∷ []) c.in_ok-try_clone-2.ensures)

pub returns-clause-known : goal.returns-clause-known
returns-clause-known c =
    let all = c.args.all.now.items in
    known-grows c.args.known.now.keys _ all _ c.args.refspec.now c.requires (c.in_ok-place.ensures ∙ ap (insert_key spec_cmp c.args.known.now.keys) c.in_ok-try_clone.ensures) (c.in_ok-push.ensures.items ∙ ap (λ (s : Spec). all ++ s ∷ []) c.in_ok-try_clone-2.ensures)
