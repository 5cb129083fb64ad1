use Rattle.std.proofs.Common.{refl}
use Rattle.std.proofs.lemmas.Result.{err_from_is_err_and}
use Rattle.fetch_conversation.specs.declared.prepare.Error.TheVariants as errors
use Rattle.fetch_conversation.proofs.Listings.{ls_refs_free}
use Rattle.fetch_mirror.specs.Naming.{inquiry_by}
use Rattle.fetch_mirror.proofs.Specified.{always_specified}
use Rattle.fetch_mirror.proofs.listing.list.Goals as goal

pub returns-in_err-everything-clause-held : goal.returns-in_err-everything-clause-held
returns-in_err-everything-clause-held g c =
    let p = err_from_is_err_and c.from_residual.result c.from_residual.ensures.1 in
    rw (p.1, p.2) (ls_refs_free g.P.Peer.answers (g.P.Peer.told c.args.lister.now) (inquiry_by c.args.bound) errors.NoMemory refl refl)

pub returns-clause-held : goal.returns-clause-held
returns-clause-held g c = rw (c.in_ok-everything.ensures, c.map_options.ensures) at c.ls_refs.ensures.held

pub returns-in_err-everything-clause-specified : goal.returns-in_err-everything-clause-specified
returns-in_err-everything-clause-specified g c =
    let p = err_from_is_err_and c.from_residual.result c.from_residual.ensures.1 in
    rw (p.1, p.2) (λ same. absurd cc)

pub returns-clause-specified : goal.returns-clause-specified
returns-clause-specified g c =
    let held = rw (c.in_ok-everything.ensures, c.map_options.ensures) at c.ls_refs.ensures.held in
    always_specified c.args.bound (inquiry_by c.args.bound) g.P.Peer.answers (g.P.Peer.told c.args.lister.now) (g.P.Peer.told c.ls_refs.new.peer) _ c.ls_refs.result held
