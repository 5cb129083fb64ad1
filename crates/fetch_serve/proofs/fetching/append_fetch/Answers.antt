use Rattle.std.proofs.Common.{◌≡◌, Some, None, filter, not, sym, ap, ◌∙◌}
use Rattle.std.specs.Prelude.{slice_get}
use Rattle.std.specs.List.{flat_map}
use Rattle.fetch_serve.specs.Offered.{ids_in, offered_ids}
use Rattle.fetch_serve.specs.Parts.{held_by}
use Rattle.fetch_serve.specs.Replies.{first_unoffered}
use Rattle.fetch_asked.specs.Requests.{has_id}
use Rattle.fetch_serve.proofs.Appending.{fetch_by, on_ok}
use Rattle.fetch_serve.proofs.fetching.append_fetch.Goals as goal

pub returns-in-Some : goal.returns-in-Some
returns-in-Some c =
    let d = held_by c.args.parts in
    let found : c.in_ok-unoffered.unoffered ≡ first_unoffered d c.args.asked.now =
    c.in_ok-unoffered.ensures ∙ ap (λ refs. slice_get (filter (λ id. not (has_id id (flat_map ids_in refs))) c.as_slice.result.now) 0) (c.deref.ensures.value ∙ c.in_ok-references.ensures)
    ∙ ap (λ wants. slice_get (filter (λ id. not (has_id id (offered_ids d))) wants) 0) c.as_slice.ensures in
    on_ok c.append_not_offered.result _ _ (fetch_by d c.args.asked.now (Some c.in-Some.id) c.args.out.now.items c.append_not_offered.new.out.items (sym c.in-Some.is ∙ found)) c.append_not_offered.ensures

pub returns : goal.returns
returns c =
    let d = held_by c.args.parts in
    let found : c.in_ok-unoffered.unoffered ≡ first_unoffered d c.args.asked.now =
    c.in_ok-unoffered.ensures ∙ ap (λ refs. slice_get (filter (λ id. not (has_id id (flat_map ids_in refs))) c.as_slice.result.now) 0) (c.deref.ensures.value ∙ c.in_ok-references.ensures)
    ∙ ap (λ wants. slice_get (filter (λ id. not (has_id id (offered_ids d))) wants) 0) c.as_slice.ensures in
    on_ok c.append_fetched.result _ _ (fetch_by d c.args.asked.now None c.args.out.now.items c.append_fetched.new.out.items (sym c.in-None.is ∙ found)) c.append_fetched.ensures
