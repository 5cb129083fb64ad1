use Rattle.std.proofs.Common.{Contains, sym, subst, ◌∙◌}
use Rattle.std.specs.Prelude.{◌↔◌}
use Rattle.fetch_base.specs.declared.id.ObjectId.{ObjectId}
use Rattle.fetch_store.specs.Closed.{Reached, holding}
use Rattle.fetch_check.specs.Finding.{direct_ids}
use Rattle.fetch_check.proofs.Unreached.{are_unreached}
use Rattle.fetch_check.proofs.leaving.unreached.Goals as goal

pub returns : goal.returns
returns c =
    let h = holding c.args.store.now.objects c.args.border.now in
    let names = c.args.refs.now.names in
    are_unreached names h c.as_slice.result.now c.as_slice-2.result.now c.difference.result (c.as_slice.ensures.value ∙ c.in-Ok.ensures.ids)
    (subst (λ ids. (id : ObjectId) → Contains ids id ↔ Reached h (direct_ids names) id) (sym c.as_slice-2.ensures) c.in_ok-reached.ensures.ids) c.difference.ensures.each c.difference.ensures.ascending
