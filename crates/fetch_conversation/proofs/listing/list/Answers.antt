use Rattle.std.proofs.Common.{◌≡◌, Bool, true, false, Some, None, sym, ap, ◌∙◌}
use Rattle.std.specs.Prelude.{◌&&◌, if◌then◌else◌}
use Rattle.fetch_conversation.specs.ListStage.{LsRefsValue, no_specs, is_nil}
use Rattle.fetch_conversation.specs.declared.prepare.Error.TheVariants as errors
use Rattle.fetch_conversation.proofs.Listings.{lists_missing, lists_named}
use Rattle.fetch_conversation.proofs.listing.list.Goals as goal

none_named : (q : LsRefsValue) (b : Bool) → b ≡ (is_nil q.specs && is_nil q.options.extra_refspecs) → b ≡ true → no_specs q ≡ Some errors.MissingRefSpecs
none_named q b is test = ap (λ (x : Bool). if x then Some errors.MissingRefSpecs else None) (sym is ∙ test)

some_named : (q : LsRefsValue) (b : Bool) → b ≡ (is_nil q.specs && is_nil q.options.extra_refspecs) → b ≡ false → no_specs q ≡ None
some_named q b is test = ap (λ (x : Bool). if x then Some errors.MissingRefSpecs else None) (sym is ∙ test)

pub returns-then-names_none-clause-held : goal.returns-then-names_none-clause-held
returns-then-names_none-clause-held g c =
    let q : LsRefsValue = record { address = c.args.query.now.address.now; agent = c.args.query.now.agent.now; specs = c.args.query.now.specs.now; tags = c.args.query.now.tags; options = c.args.options } in
    lists_missing g.P.Peer.answers (g.P.Peer.told c.args.peer.now) q (none_named q c.names_none.result c.names_none.ensures c.if-names_none.true)

pub returns-clause-held : goal.returns-clause-held
returns-clause-held g c =
    let q : LsRefsValue = record { address = c.args.query.now.address.now; agent = c.args.query.now.agent.now; specs = c.args.query.now.specs.now; tags = c.args.query.now.tags; options = c.args.options } in
    lists_named g.P.Peer.answers (g.P.Peer.told c.args.peer.now) (g.P.Peer.told c.ls_refs.new.peer) q c.ls_refs.result (some_named q c.names_none.result c.names_none.ensures c.if-names_none.false) c.ls_refs.ensures.held
