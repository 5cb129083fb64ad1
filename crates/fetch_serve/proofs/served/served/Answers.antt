use Rattle.std.proofs.Common.{Contains, ap, sym, subst, ◌∙◌}
use Rattle.std.specs.Prelude.{IfOk, ◌↔◌, ◌⊎◌}
use Rattle.std.specs.List.{flat_map}
use Rattle.std.specs.List.Sorted.{IsStrictlySortedBy}
use Rattle.fetch_base.specs.Id.{id_cmp}
use Rattle.fetch_base.specs.declared.id.ObjectId.{ObjectId}
use Rattle.fetch_serve.specs.Packs.{tags_of}
use Rattle.fetch_serve.specs.Parts.{held_by}
use Rattle.fetch_asked.specs.Requests.{has_id}
use Rattle.fetch_serve.specs.Served.{history_of}
use Rattle.fetch_serve.proofs.Collecting.{served_ok, served_plain}
use Rattle.fetch_serve.proofs.served.served.Goals as goal

pub tags_along-requires : goal.tags_along-requires
tags_along-requires c = subst (IsStrictlySortedBy id_cmp) (sym c.as_slice.ensures) c.in_ok-needed.ensures.ascending

pub returns-then-not-asked : goal.returns-then-not-asked
returns-then-not-asked c =
    served_plain (held_by c.args.parts) c.args.asked.now c.args.depth.now c.in_ok-needed.needed c.requires.servable c.in_ok-needed.ensures.each c.in_ok-needed.ensures.ascending c.if-not-asked.true

pub returns : goal.returns
returns c =
    let d = held_by c.args.parts in
    let needed = c.in_ok-needed.needed in
    served_ok d c.args.asked.now c.args.depth.now needed c.as_slice-3.result.now c.union.result c.requires.servable c.in_ok-needed.ensures.each c.if-not-asked.false
    (c.as_slice-3.ensures.value ∙ c.in_ok-tags.ensures ∙ ap (λ ids. flat_map (tags_of (history_of d) (λ id. has_id id ids)) c.args.references.now) c.as_slice.ensures
    ∙ ap (flat_map (tags_of (history_of d) (λ id. has_id id needed))) c.requires.offered) c.union.ensures.ascending
    (subst (λ ids. IfOk c.union.result (λ all. (id : ObjectId) → Contains all id ↔ (Contains ids id ⊎ Contains c.as_slice-3.result.now id))) c.as_slice-2.ensures c.union.ensures.each)
