use Rattle.std.proofs.Common.{rules, replicate, ap, ◌∙◌}
use Rattle.fetch_serve.specs.Servings.{Serving, unfed}
use Rattle.fetch_serve.specs.Served.{Data, data_of}
use Rattle.fetch_mirror.specs.Copying.{IsUncopied, fresh}
use Rattle.fetch_mirror.specs.declared.error.MirrorError.TheVariants as errors
use Rattle.fetch_mirror.specs.Mirroring.{IsFew}
use Rattle.fetch_mirror.proofs.Completed.{complete_by, complete_so}
use Rattle.fetch_mirror.proofs.Copied.{always, copied_told, limited_so, uncopied_so, whole_told}
use Rattle.fetch_mirror.proofs.copying.run_mirror.Goals as goal

pub returns-in-Err-clause-complete : goal.returns-in-Err-clause-complete
returns-in-Err-clause-complete g c =
    let d : Data = data_of c.args.store.now c.args.refs.now in
    let refused : IsUncopied d c.args.border.now c.args.options.committer c.args.options.workers c.args.options.max_reply_bytes (errors.Server c.in-Err.e) = search rules in
    λ can. complete_by d c.args.border.now c.args.options.committer c.args.options.workers c.args.options.max_reply_bytes (errors.Server c.in-Err.e) refused can

pub returns-clause-copied : goal.returns-clause-copied
returns-clause-copied g c =
    let few : IsFew c.args.options.workers = search rules in
    let d : Data = data_of c.args.store.now c.args.refs.now in
    let lister_is = c.new-lister.ensures ∙ ap (λ (s : Serving). fresh s.served) (c.fresh.ensures ∙ ap (λ (s : Serving). unfed s.served) c.in-Ok.ensures.server) in
    let peers_are = c.as_mut_slice.ensures.value ∙ c.in_ok-peers.ensures ∙ ap (λ (s : Serving). replicate c.args.options.workers (fresh s.served)) c.in-Ok.ensures.server in
    copied_told d c.in-Ok.ensures.servable c.args.border.now c.args.options.committer c.args.options.workers c.args.options.max_reply_bytes few c.new-lister.result c.mirror_from.new.lister c.as_mut_slice.result.now c.mirror_from.new.peers c.kind.result
    lister_is peers_are c.kind.ensures.kind c.mirror_from.result c.mirror_from.ensures.mirrored

pub returns-clause-limited : goal.returns-clause-limited
returns-clause-limited g c =
    let few : IsFew c.args.options.workers = search rules in
    let d : Data = data_of c.args.store.now c.args.refs.now in
    let lister_is = c.new-lister.ensures ∙ ap (λ (s : Serving). fresh s.served) (c.fresh.ensures ∙ ap (λ (s : Serving). unfed s.served) c.in-Ok.ensures.server) in
    let peers_are = c.as_mut_slice.ensures.value ∙ c.in_ok-peers.ensures ∙ ap (λ (s : Serving). replicate c.args.options.workers (fresh s.served)) c.in-Ok.ensures.server in
    limited_so d c.args.options.committer c.args.options.workers c.args.options.max_reply_bytes c.args.border.now c.mirror_from.result
    (uncopied_so d c.in-Ok.ensures.servable c.args.border.now c.args.options.committer c.args.options.workers c.args.options.max_reply_bytes few c.new-lister.result c.mirror_from.new.lister c.as_mut_slice.result.now c.mirror_from.new.peers c.kind.result
    lister_is peers_are c.kind.ensures.kind c.mirror_from.result c.mirror_from.ensures.refused)

pub returns-clause-complete : goal.returns-clause-complete
returns-clause-complete g c =
    let few : IsFew c.args.options.workers = search rules in
    let d : Data = data_of c.args.store.now c.args.refs.now in
    let lister_is = c.new-lister.ensures ∙ ap (λ (s : Serving). fresh s.served) (c.fresh.ensures ∙ ap (λ (s : Serving). unfed s.served) c.in-Ok.ensures.server) in
    let peers_are = c.as_mut_slice.ensures.value ∙ c.in_ok-peers.ensures ∙ ap (λ (s : Serving). replicate c.args.options.workers (fresh s.served)) c.in-Ok.ensures.server in
    complete_so d c.args.border.now c.args.options.committer c.args.options.workers c.args.options.max_reply_bytes c.mirror_from.result
    (uncopied_so d c.in-Ok.ensures.servable c.args.border.now c.args.options.committer c.args.options.workers c.args.options.max_reply_bytes few c.new-lister.result c.mirror_from.new.lister c.as_mut_slice.result.now c.mirror_from.new.peers c.kind.result
    lister_is peers_are c.kind.ensures.kind c.mirror_from.result c.mirror_from.ensures.refused)

pub returns-clause-mirrored : goal.returns-clause-mirrored
returns-clause-mirrored g c =
    let few : IsFew c.args.options.workers = search rules in
    let d : Data = data_of c.args.store.now c.args.refs.now in
    let lister_is = c.new-lister.ensures ∙ ap (λ (s : Serving). fresh s.served) (c.fresh.ensures ∙ ap (λ (s : Serving). unfed s.served) c.in-Ok.ensures.server) in
    let peers_are = c.as_mut_slice.ensures.value ∙ c.in_ok-peers.ensures ∙ ap (λ (s : Serving). replicate c.args.options.workers (fresh s.served)) c.in-Ok.ensures.server in
    whole_told d c.args.options.committer c.args.options.workers c.args.options.max_reply_bytes c.mirror_from.result
    (copied_told d c.in-Ok.ensures.servable c.args.border.now c.args.options.committer c.args.options.workers c.args.options.max_reply_bytes few c.new-lister.result c.mirror_from.new.lister c.as_mut_slice.result.now c.mirror_from.new.peers c.kind.result
    lister_is peers_are c.kind.ensures.kind c.mirror_from.result c.mirror_from.ensures.mirrored)

pub returns-clause-refused : goal.returns-clause-refused
returns-clause-refused g c =
    let few : IsFew c.args.options.workers = search rules in
    let d : Data = data_of c.args.store.now c.args.refs.now in
    let lister_is = c.new-lister.ensures ∙ ap (λ (s : Serving). fresh s.served) (c.fresh.ensures ∙ ap (λ (s : Serving). unfed s.served) c.in-Ok.ensures.server) in
    let peers_are = c.as_mut_slice.ensures.value ∙ c.in_ok-peers.ensures ∙ ap (λ (s : Serving). replicate c.args.options.workers (fresh s.served)) c.in-Ok.ensures.server in
    uncopied_so d c.in-Ok.ensures.servable c.args.border.now c.args.options.committer c.args.options.workers c.args.options.max_reply_bytes few c.new-lister.result c.mirror_from.new.lister c.as_mut_slice.result.now c.mirror_from.new.peers c.kind.result
    lister_is peers_are c.kind.ensures.kind c.mirror_from.result c.mirror_from.ensures.refused

pub returns-clause-whole : goal.returns-clause-whole
returns-clause-whole g c = always c.mirror_from.result _ c.in-Ok.ensures.whole
