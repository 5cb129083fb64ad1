use Rattle.std.proofs.Common.{Contains, ap, sym, subst, ◌∙◌}
use Rattle.std.specs.Prelude.{◌↔◌}
use Rattle.fetch_store.specs.Borders.{merged}
use Rattle.fetch_store.specs.Closed.{Reached}
use Rattle.fetch_base.specs.declared.id.ObjectId.{ObjectId}
use Rattle.fetch_serve.specs.Packs.{seen_by, stored_in}
use Rattle.fetch_serve.specs.Parts.{held_by}
use Rattle.fetch_serve.proofs.Collecting.{needed_ok}
use Rattle.fetch_serve.proofs.served.needed.Goals as goal

pub returns-clause-each : goal.returns-clause-each
returns-clause-each c =
    let d = held_by c.args.parts in
    let x = c.args.depth.now in
    let after = c.in_ok-after.after in
    needed_ok d c.args.asked.now x after c.args.border.now c.deref.result.now c.as_slice-3.result.now c.as_slice-4.result.now c.as_slice-2.result.now c.difference.result
    (c.in_ok-after.ensures ∙ ap (λ b. merged b x.shallow x.unshallow) c.requires) c.requires (c.deref.ensures.value ∙ c.in_ok-starts.ensures)
    (c.as_slice-2.ensures ∙ c.in_ok-haves.ensures ∙ ap (stored_in d.objects) c.as_slice.ensures)
    (subst (λ ids. (id : ObjectId) → Contains ids id ↔ Reached (seen_by d after) c.deref.result.now id) (sym c.as_slice-3.ensures) c.in_ok-all.ensures.ids)
    (subst (λ ids. (id : ObjectId) → Contains ids id ↔ Reached (seen_by d c.args.border.now) c.as_slice-2.result.now id) (sym c.as_slice-4.ensures) c.in_ok-held.ensures.ids) c.difference.ensures.each
