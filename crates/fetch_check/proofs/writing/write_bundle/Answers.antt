use Rattle.std.proofs.Common.{sym, subst}
use Rattle.fetch_store.specs.Closed.{holding}
use Rattle.fetch_check.specs.Refusals.{AreReached}
use Rattle.fetch_check.proofs.Bundling.{missing_told}
use Rattle.fetch_check.proofs.writing.write_bundle.Goals as goal

pub returns-in-Some-clause-refused : goal.returns-in-Some-clause-refused
returns-in-Some-clause-refused c = missing_told c.args.refs.now.names (holding c.args.store.now.objects c.args.border.now) c.in-Some.link c.in-Some.ensures

pub append_bundle-requires-clause-reached : goal.append_bundle-requires-clause-reached
append_bundle-requires-clause-reached c =
    let ids : AreReached c.args.refs.now.names (holding c.args.store.now.objects c.args.border.now) c.in_ok-ids.ids = record { each = c.in_ok-ids.ensures.ids; ascending = c.in_ok-ids.ensures.ascending } in
    subst (AreReached c.args.refs.now.names (holding c.args.store.now.objects c.args.border.now)) (sym c.as_slice.ensures) ids

pub returns-in-Ok-clause-text : goal.returns-in-Ok-clause-text
returns-in-Ok-clause-text c =
    let ids : AreReached c.args.refs.now.names (holding c.args.store.now.objects c.args.border.now) c.in_ok-ids.ids = record { each = c.in_ok-ids.ensures.ids; ascending = c.in_ok-ids.ensures.ascending } in
    (c.as_slice.result.now, subst (AreReached c.args.refs.now.names (holding c.args.store.now.objects c.args.border.now)) (sym c.as_slice.ensures) ids, c.in-Ok.ensures.text)
