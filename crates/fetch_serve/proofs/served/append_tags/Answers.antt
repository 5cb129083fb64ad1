use Rattle.std.proofs.Common.{ℕ, ◌-◌, ◌≡◌, ◌++◌, ◌∷◌, [], List, append_assoc, sym, ap, ◌∙◌, arith}
use Rattle.std.proofs.lemmas.List.{append-nil}
use Rattle.fetch_store.specs.Graph.{graph_of}
use Rattle.fetch_base.specs.declared.id.ObjectId.{ObjectId}
use Rattle.fetch_store.proofs.Graphs.{len-graph_of}
use Rattle.fetch_serve.specs.Packs.{tags_from}
use Rattle.fetch_serve.proofs.Collecting.{tags_go, tags_stop}
use Rattle.fetch_serve.proofs.served.append_tags.Goals as goal

pub tags-init : goal.tags-init
tags-init c =
    let g = graph_of c.args.store.now.objects in
    ap (λ (n : ℕ). c.args.ids.now.items ++ tags_from g n c.args.first) (c.len-left.ensures ∙ sym (len-graph_of c.args.store.now.objects))

pub tags-preserved : goal.tags-preserved
tags-preserved c =
    let g = graph_of c.args.store.now.objects in
    let ids = c.tags.ids.items in
    let id = c.tags.id in
    let next = c.in-Some.next in
    ap (λ (l : List ObjectId). l ++ tags_from g (c.tags.left - 1) next) c.in_ok-push-in-Some.ensures.items ∙ append_assoc ids (id ∷ []) (tags_from g (c.tags.left - 1) next)
    ∙ ap (λ (l : List ObjectId). ids ++ l) (sym (tags_go g c.tags.left id next (omega arith) (sym c.tag_target.ensures ∙ c.in-Some.is))) ∙ c.tags.invariant

pub returns-in-None : goal.returns-in-None
returns-in-None c =
    let g = graph_of c.args.store.now.objects in
    sym (append-nil c.tags.ids.items) ∙ ap (λ (l : List ObjectId). c.tags.ids.items ++ l) (sym (tags_stop g c.tags.left c.tags.id (sym c.tag_target.ensures ∙ c.in-None.is))) ∙ c.tags.invariant

pub returns : goal.returns
returns c =
    let g = graph_of c.args.store.now.objects in
    let none : c.tags.left ≡ 0 = omega arith in
    sym (append-nil c.tags.ids.items) ∙ ap (λ (l : List ObjectId). c.tags.ids.items ++ l) (sym (ap (λ (n : ℕ). tags_from g n c.tags.id) none)) ∙ c.tags.invariant
