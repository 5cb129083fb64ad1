use Rattle.std.proofs.Common.{Contains, subst, ◌∙◌}
use Rattle.std.specs.Prelude.{IfOk, ◌↔◌}
use Rattle.fetch_base.specs.declared.id.ObjectId.{ObjectId}
use Rattle.fetch_store.specs.Closed.{Reached, holding}
use Rattle.fetch_check.proofs.leaving.reached_from_refs.Goals as goal

pub returns-clause-ids : goal.returns-clause-ids
returns-clause-ids c =
    subst (λ starts. IfOk c.reached_from.result (λ ids. (id : ObjectId) → Contains ids id ↔ Reached (holding c.args.store.now.objects c.args.border.now) starts id))
    (c.as_slice.ensures.value ∙ c.in_ok-starts.ensures) c.reached_from.ensures.ids
