use Rattle.std.proofs.Common.{◌≡◌, ℕ, Result, Ok, Err, IfOk, refl, ap, ◌∙◌}
use Rattle.std.proofs.lemmas.Result.{err_from_is_err_and}
use Rattle.fetch_wire.specs.SessionStates.{SessionState}
use Rattle.fetch_conversation.specs.Listing.{Answers}
use Rattle.fetch_conversation.specs.ListStage.{LsRefsValue}
use Rattle.fetch_conversation.specs.declared.listing.Listed.{Listed}
use Rattle.fetch_conversation.specs.declared.prepare.Error.{Error}
use Rattle.fetch_conversation.specs.declared.prepare.Error.TheVariants as errors
use Rattle.fetch_conversation.proofs.Driven.{finished_unrefused}
use Rattle.fetch_conversation.proofs.Listings.{ls_refs_free, ls_refs_unopened, ls_refs_stopped, ls_refs_found, ls_refs_bound, opened_drivable}
use Rattle.fetch_conversation.proofs.Heeded.{prepare_asks, stop_prepared}
use Rattle.fetch_conversation.proofs.Blame.{interrupt_still, interrupt_as}
use Rattle.fetch_conversation.proofs.Keeping.{finished_listed}
use Rattle.fetch_conversation.proofs.listing.ls_refs.Goals as goal

bound_by : (q : LsRefsValue) (s : SessionState) (result : Result Listed Error) (n : ℕ) → Answers q s result → s.intake.bound ≡ n → IfOk result (λ l. l.session.intake.bound ≡ n)
bound_by q s (Ok l) n a is = ap (λ (t : SessionState). t.intake.bound) a.1 ∙ is
bound_by q s (Err e) n a is = tt

pub returns-in_err-extra-clause-held : goal.returns-in_err-extra-clause-held
returns-in_err-extra-clause-held g c =
    let q : LsRefsValue = record { address = c.args.query.now.address.now; agent = c.args.query.now.agent.now; specs = c.args.query.now.specs.now; tags = c.args.query.now.tags; options = c.args.options } in
    let p = err_from_is_err_and c.from_residual.result c.from_residual.ensures.1 in
    rw (p.1, p.2) (ls_refs_free g.P.Peer.answers (g.P.Peer.told c.args.peer.now) q errors.NoMemory refl refl)

pub returns-in_err-specs-clause-held : goal.returns-in_err-specs-clause-held
returns-in_err-specs-clause-held g c =
    let q : LsRefsValue = record { address = c.args.query.now.address.now; agent = c.args.query.now.agent.now; specs = c.args.query.now.specs.now; tags = c.args.query.now.tags; options = c.args.options } in
    let p = err_from_is_err_and c.from_residual-in_err-specs.result c.from_residual-in_err-specs.ensures.1 in
    rw (p.1, p.2) (ls_refs_free g.P.Peer.answers (g.P.Peer.told c.args.peer.now) q errors.NoMemory refl refl)

pub returns-in_err-session-clause-held : goal.returns-in_err-session-clause-held
returns-in_err-session-clause-held g c =
    let q : LsRefsValue = record { address = c.args.query.now.address.now; agent = c.args.query.now.agent.now; specs = c.args.query.now.specs.now; tags = c.args.query.now.tags; options = c.args.options } in
    let p = err_from_is_err_and c.from_residual-in_err-session.result c.from_residual-in_err-session.ensures.1 in
    rw (p.1, p.2) (ls_refs_unopened g.P.Peer.answers (g.P.Peer.told c.args.peer.now) q c.in_err-session.field-0.0 c.in_err-session.ensures.refused)

pub returns-in_err-buffer-clause-held : goal.returns-in_err-buffer-clause-held
returns-in_err-buffer-clause-held g c =
    let q : LsRefsValue = record { address = c.args.query.now.address.now; agent = c.args.query.now.agent.now; specs = c.args.query.now.specs.now; tags = c.args.query.now.tags; options = c.args.options } in
    let p = err_from_is_err_and c.from_residual-in_err-buffer.result c.from_residual-in_err-buffer.ensures.1 in
    rw (p.1, p.2) (ls_refs_free g.P.Peer.answers (g.P.Peer.told c.args.peer.now) q errors.NoMemory refl refl)

pub returns-in_err-drive-clause-held : goal.returns-in_err-drive-clause-held
returns-in_err-drive-clause-held g c =
    let q : LsRefsValue = record { address = c.args.query.now.address.now; agent = c.args.query.now.agent.now; specs = c.args.query.now.specs.now; tags = c.args.query.now.tags; options = c.args.options } in
    let p = err_from_is_err_and c.from_residual-in_err-drive.result c.from_residual-in_err-drive.ensures.1 in
    rw (p.1, p.2) (ls_refs_stopped g.P.Peer.answers (g.P.Peer.told c.args.peer.now) (g.P.Peer.told c.drive.new.peer) q c.in_ok-session.session c.in_err-drive.field-0.0 c.in_ok-session.ensures.opened c.in_err-drive.ensures.driven)

pub returns-clause-held : goal.returns-clause-held
returns-clause-held g c =
    let q : LsRefsValue = record { address = c.args.query.now.address.now; agent = c.args.query.now.agent.now; specs = c.args.query.now.specs.now; tags = c.args.query.now.tags; options = c.args.options } in
    ls_refs_found g.P.Peer.answers (g.P.Peer.told c.args.peer.now) (g.P.Peer.told c.drive.new.peer) q c.in_ok-session.session c.drive.new.session c.map_listed.result c.in_ok-session.ensures.opened c.in_ok-drive.ensures.driven c.map_listed.ensures.uninterrupted c.map_listed.ensures.answer

pub returns-clause-bound : goal.returns-clause-bound
returns-clause-bound g c =
    let q : LsRefsValue = record { address = c.args.query.now.address.now; agent = c.args.query.now.agent.now; specs = c.args.query.now.specs.now; tags = c.args.query.now.tags; options = c.args.options } in
    bound_by q c.drive.new.session c.map_listed.result c.args.options.max_reply_bytes c.map_listed.ensures.answer
    (ls_refs_bound g.P.Peer.answers (g.P.Peer.told c.args.peer.now) (g.P.Peer.told c.drive.new.peer) q c.in_ok-session.session c.drive.new.session c.in_ok-session.ensures.opened c.in_ok-drive.ensures.driven)

pub map_listed-requires-clause-unrefused : goal.map_listed-requires-clause-unrefused
map_listed-requires-clause-unrefused g c =
    let q : LsRefsValue = record { address = c.args.query.now.address.now; agent = c.args.query.now.agent.now; specs = c.args.query.now.specs.now; tags = c.args.query.now.tags; options = c.args.options } in
    finished_unrefused g.P.Peer.answers (g.P.Peer.told c.args.peer.now) (g.P.Peer.told c.drive.new.peer) c.in_ok-session.session c.drive.new.session (opened_drivable q c.in_ok-session.session c.in_ok-session.ensures.opened).unrefused c.in_ok-drive.ensures.driven

pub map_listed-requires-clause-handshake : goal.map_listed-requires-clause-handshake
map_listed-requires-clause-handshake g c =
    let q : LsRefsValue = record { address = c.args.query.now.address.now; agent = c.args.query.now.agent.now; specs = c.args.query.now.specs.now; tags = c.args.query.now.tags; options = c.args.options } in
    (finished_listed g.P.Peer.answers (g.P.Peer.told c.args.peer.now) (g.P.Peer.told c.drive.new.peer) q c.in_ok-session.session c.drive.new.session c.in_ok-session.ensures.opened c.in_ok-drive.ensures.driven).handshake

pub map_listed-requires-clause-refs : goal.map_listed-requires-clause-refs
map_listed-requires-clause-refs g c =
    let q : LsRefsValue = record { address = c.args.query.now.address.now; agent = c.args.query.now.agent.now; specs = c.args.query.now.specs.now; tags = c.args.query.now.tags; options = c.args.options } in
    (finished_listed g.P.Peer.answers (g.P.Peer.told c.args.peer.now) (g.P.Peer.told c.drive.new.peer) q c.in_ok-session.session c.drive.new.session c.in_ok-session.ensures.opened c.in_ok-drive.ensures.driven).refs

pub returns-in_err-session-clause-interrupt : goal.returns-in_err-session-clause-interrupt
returns-in_err-session-clause-interrupt g c =
    let p = err_from_is_err_and c.from_residual-in_err-session.result c.from_residual-in_err-session.ensures.1 in
    rw (p.1, p.2) (interrupt_still _ _ _ _ (prepare_asks (Unit {0}) c.in_err-session.field-0.0))

pub returns-in_err-buffer-clause-interrupt : goal.returns-in_err-buffer-clause-interrupt
returns-in_err-buffer-clause-interrupt g c =
    let p = err_from_is_err_and c.from_residual-in_err-buffer.result c.from_residual-in_err-buffer.ensures.1 in
    rw (p.1, p.2) (interrupt_still (g.I.Interrupt.yes c.args.interrupt.now) (g.I.Interrupt.will_stop c.args.interrupt.now) (g.P.Peer.told c.args.peer.now) 0 refl)

pub returns-in_err-drive-clause-interrupt : goal.returns-in_err-drive-clause-interrupt
returns-in_err-drive-clause-interrupt g c =
    let p = err_from_is_err_and c.from_residual-in_err-drive.result c.from_residual-in_err-drive.ensures.1 in
    rw (p.1, p.2) (interrupt_as _ _ _ _ _ _ _ _ (stop_prepared (Unit {0}) (Unit {0}) c.in_err-drive.field-0.0) c.in_err-drive.ensures.interrupt)
