use Rattle.std.proofs.Common.{◌≡◌, ℕ, List, arith, ap, subst, ◌∙◌}
use Rattle.std.specs.Prelude.{IfOk}
use Rattle.std.specs.BTreeSet.{insert_key}
use Rattle.fetch_refs.specs.Names.{name_cmp}
use Rattle.fetch_remote.specs.Deleting.{in_order}
use Rattle.fetch_remote.proofs.Deletions.{put-step, put-end}
use Rattle.fetch_remote.proofs.deleting.in_order.Goals as goal

pub loop-name-preserved : goal.loop-name-preserved
loop-name-preserved c = put-step name_cmp c.args.names.now c.loop-name.name-index c.name-item.result c.loop-name.set.keys _ _ c.loop-name-test.true c.name-item.is (c.in_ok-place.ensures ∙ ap (insert_key name_cmp c.loop-name.set.keys) c.in_ok-try_clone.ensures) c.loop-name.invariant

pub returns : goal.returns
returns c =
    subst (λ (keys : List (List ℕ)). IfOk c.list.result (λ list. list ≡ keys))
    (put-end name_cmp c.args.names.now c.loop-name.name-index c.loop-name.set.keys (in_order c.args.names.now) (omega arith) c.loop-name.invariant) c.list.ensures
