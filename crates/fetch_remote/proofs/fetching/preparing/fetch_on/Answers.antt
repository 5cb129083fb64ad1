use Rattle.std.proofs.Common.{◌≡◌, ◌≢◌, false, refl, ◌∙◌, IfErr, Result, Ok, Err, inl, inr}
use Rattle.std.proofs.lemmas.Result.{err_from_is_err_and}
use Rattle.fetch_conversation.specs.Errors.{is_client, is_stopped}
use Rattle.fetch_conversation.specs.ListStage.{shown}
use Rattle.fetch_conversation.specs.declared.fetch.Error.{Error}
use Rattle.fetch_conversation.specs.declared.fetch.Error.TheVariants as receive
use Rattle.fetch_conversation.proofs.Blame.{interrupt_still, interrupt_as}
use Rattle.fetch_conversation.proofs.Heeded.{none_asked}
use Rattle.fetch_remote.specs.Form.{Given}
use Rattle.fetch_remote.specs.Repositories.{state_of, setup_of}
use Rattle.fetch_remote.proofs.Asked.{receiving_yes, applying_yes, spares_peer}
use Rattle.fetch_remote.proofs.Blamed.{files_still, trees_still, peer_as, none_told}
use Rattle.fetch_remote.proofs.Complete.{complete}
use Rattle.fetch_remote.proofs.Fetched.{is_fetched}
use Rattle.fetch_remote.proofs.Refused.{broken_off, not_applied}
use Rattle.fetch_remote.proofs.Steps.{has_received, exchanged_on, breaks_on, forgot_on, gives_up_here, spoken_keep, spoken_trees, of_ok, of_err, received_by}
use Rattle.fetch_remote.proofs.fetching.preparing.fetch_on.Goals as goal

-- the applying tells no yes of the interrupt
unstopped : {T : Type 0} (p : Error → Type 0) (result : Result T Error) → IfErr result p → ((e : Error) → p e → e ≢ receive.Interrupted) → IfErr result (λ e. is_stopped e ≡ false)
unstopped p (Ok x) h isnt = tt
unstopped p (Err e) h isnt = receiving_yes e ∙ applying_yes e (isnt e h)

-- nor a fault of the peer
unblamed : {T : Type 0} (p : Error → Type 0) (result : Result T Error) → IfErr result p → ((e : Error) → p e → e ≢ receive.Client) → IfErr result (λ e. is_client e ≡ false)
unblamed p (Ok x) h isnt = tt
unblamed p (Err e) h isnt = spares_peer e (isnt e h)

-- ---- memory runs out before anything is asked

pub returns-in_err-how-clause-refused : goal.returns-in_err-how-clause-refused
returns-in_err-how-clause-refused g c =
    let p = err_from_is_err_and c.from_residual.result c.from_residual.ensures.1 in
    rw (p.1, p.2) (λ begun h. forgot_on _ _ _ _ _ _ _ _ h)

pub returns-in_err-how-clause-received : goal.returns-in_err-how-clause-received
returns-in_err-how-clause-received g c =
    let p = err_from_is_err_and c.from_residual.result c.from_residual.ensures.1 in
    let given : Given = record { remote = c.args.remote.now; options = c.args.prepared.options; setup = setup_of c.args.repo.now } in
    rw (p.1, p.2) (inl (record { broke = gives_up_here _ _ given (state_of c.args.repo.now) c.args.prepared.listed; same_state = refl; same_files = refl }))

pub returns-in_err-how-clause-complete : goal.returns-in_err-how-clause-complete
returns-in_err-how-clause-complete g c =
    let p = err_from_is_err_and c.from_residual.result c.from_residual.ensures.1 in
    rw (p.1, p.2) (λ begun h v. refl)

-- ---- the conversation breaks off

pub returns-in_err-exchange-clause-refused : goal.returns-in_err-exchange-clause-refused
returns-in_err-exchange-clause-refused g c =
    let p = err_from_is_err_and c.from_residual-in_err-exchange.result c.from_residual-in_err-exchange.ensures.1 in
    rw (p.1, p.2) (λ begun h. broken_off _ _ _ _ _ _ (state_of c.args.repo.now) _ (breaks_on _ _ _ _ _ _ _ c.in_err-exchange.field-0.0 h c.in_err-exchange.ensures.held.held))

pub returns-in_err-exchange-clause-received : goal.returns-in_err-exchange-clause-received
returns-in_err-exchange-clause-received g c =
    let p = err_from_is_err_and c.from_residual-in_err-exchange.result c.from_residual-in_err-exchange.ensures.1 in
    rw (p.1, p.2) (inl (record { broke = c.in_err-exchange.ensures.held.held; same_state = refl; same_files = refl }))

pub returns-in_err-exchange-clause-complete : goal.returns-in_err-exchange-clause-complete
returns-in_err-exchange-clause-complete g c =
    let p = err_from_is_err_and c.from_residual-in_err-exchange.result c.from_residual-in_err-exchange.ensures.1 in
    let told = g.W.Worktrees.told c.args.worktrees.now in
    let files = g.F.Files.told c.args.files.now in
    rw (p.1, p.2) (λ begun h v. complete _ _ _ told files files _ _ _ _ (broken_off _ _ _ told files _ (state_of c.args.repo.now) _ (breaks_on _ _ _ _ _ _ _ c.in_err-exchange.field-0.0 h c.in_err-exchange.ensures.held.held)) v)

-- ---- what was received is applied

pub returns-clause-received : goal.returns-clause-received
returns-clause-received g c =
    let t = c.in_ok-exchange.ensures.held.held in
    let given : Given = record { remote = c.args.remote.now; options = c.args.prepared.options; setup = setup_of c.args.repo.now } in
    received_by g.P.Peer.answers (g.P.Peer.told c.args.peer.now) (g.P.Peer.told c.negotiate_and_receive.new.peer) (g.W.Worktrees.told c.args.worktrees.now) (g.F.Files.told c.args.files.now) (g.F.Files.told c.apply_reply.new.files) given (state_of c.args.repo.now) (state_of c.apply_reply.new.repo) c.args.prepared.listed c.apply_reply.result
    (of_ok c.apply_reply.result (λ outcome s.
    has_received _ _ _ _ _ _ _ (state_of c.args.repo.now) (state_of c.apply_reply.new.repo) c.args.prepared.listed outcome c.in_ok-exchange.exchange.received _ t.pack (rw (c.in_ok-how.ensures, c.fetch_tags.ensures, t.wants, t.kept) at s.0) s.1)
    c.apply_reply.ensures.applied c.apply_reply.ensures.kept)
    (of_err c.apply_reply.result (λ e s.
    inr (record { received = c.in_ok-exchange.exchange.received; rest = _; pack = t.pack; unapplied = rw (c.in_ok-how.ensures, c.fetch_tags.ensures, t.wants, t.kept) at s }))
    c.apply_reply.ensures.refused)

pub returns-clause-fetched : goal.returns-clause-fetched
returns-clause-fetched g c =
    of_ok c.apply_reply.result (λ outcome s begun h.
    let t = exchanged_on _ _ _ _ _ _ _ _ h c.in_ok-exchange.ensures.held.held in
    is_fetched _ _ _ _ _ _ _ (state_of c.args.repo.now) (state_of c.apply_reply.new.repo) outcome (shown c.in_ok-exchange.exchange.listed) c.in_ok-exchange.exchange.received _ t.told (rw (c.in_ok-how.ensures, c.fetch_tags.ensures, t.wants) at s.0) s.1)
    c.apply_reply.ensures.applied c.apply_reply.ensures.kept

pub returns-clause-refused : goal.returns-clause-refused
returns-clause-refused g c =
    of_err c.apply_reply.result (λ e s begun h.
    let t = exchanged_on _ _ _ _ _ _ _ _ h c.in_ok-exchange.ensures.held.held in
    not_applied _ _ _ _ _ _ _ (state_of c.args.repo.now) (state_of c.apply_reply.new.repo) (shown c.in_ok-exchange.exchange.listed) c.in_ok-exchange.exchange.received _ e t.told (rw (c.in_ok-how.ensures, c.fetch_tags.ensures, t.wants) at s))
    c.apply_reply.ensures.refused

pub returns-clause-complete : goal.returns-clause-complete
returns-clause-complete g c =
    let known = g.W.Worktrees.told c.args.worktrees.now in
    of_err c.apply_reply.result (λ e s begun h v.
    let t = exchanged_on _ _ _ _ _ _ _ _ h c.in_ok-exchange.ensures.held.held in
    complete _ _ _ known _ _ _ _ _ _ (not_applied _ _ _ known _ _ _ (state_of c.args.repo.now) (state_of c.apply_reply.new.repo) (shown c.in_ok-exchange.exchange.listed) c.in_ok-exchange.exchange.received _ e t.told (rw (c.in_ok-how.ensures, c.fetch_tags.ensures, t.wants) at s)) v)
    c.apply_reply.ensures.refused

-- ---- who is blamed

pub returns-in_err-how-clause-interrupt : goal.returns-in_err-how-clause-interrupt
returns-in_err-how-clause-interrupt g c =
    let p = err_from_is_err_and c.from_residual.result c.from_residual.ensures.1 in
    rw (p.1, p.2) (interrupt_still _ _ _ _ refl)

pub returns-in_err-exchange-clause-interrupt : goal.returns-in_err-exchange-clause-interrupt
returns-in_err-exchange-clause-interrupt g c =
    let p = err_from_is_err_and c.from_residual-in_err-exchange.result c.from_residual-in_err-exchange.ensures.1 in
    rw (p.1, p.2) c.in_err-exchange.ensures.interrupt

pub returns-in_err-exchange-clause-files : goal.returns-in_err-exchange-clause-files
returns-in_err-exchange-clause-files g c =
    let p = err_from_is_err_and c.from_residual-in_err-exchange.result c.from_residual-in_err-exchange.ensures.1 in
    let given : Given = record { remote = c.args.remote.now; options = c.args.prepared.options; setup = setup_of c.args.repo.now } in
    rw (p.1, p.2) (files_still _ _ (spoken_keep _ _ _ given (state_of c.args.repo.now) c.args.prepared.listed c.in_err-exchange.field-0.0 c.in_err-exchange.ensures.held.held))

pub returns-in_err-exchange-clause-worktrees : goal.returns-in_err-exchange-clause-worktrees
returns-in_err-exchange-clause-worktrees g c =
    let p = err_from_is_err_and c.from_residual-in_err-exchange.result c.from_residual-in_err-exchange.ensures.1 in
    let given : Given = record { remote = c.args.remote.now; options = c.args.prepared.options; setup = setup_of c.args.repo.now } in
    rw (p.1, p.2) (trees_still _ _ (spoken_trees _ _ _ given (state_of c.args.repo.now) c.args.prepared.listed c.in_err-exchange.field-0.0 c.in_err-exchange.ensures.held.held))

pub returns-clause-peer : goal.returns-clause-peer
returns-clause-peer g c = peer_as _ _ _ _ (none_told is_client c.apply_reply.result (unblamed _ c.apply_reply.result c.apply_reply.ensures.refused (λ e u. u.by.unheard.0))) c.in_ok-exchange.ensures.peer

pub returns-clause-interrupt : goal.returns-clause-interrupt
returns-clause-interrupt g c = interrupt_as _ _ _ _ _ _ _ _ (none_asked is_stopped c.apply_reply.result (unstopped _ c.apply_reply.result c.apply_reply.ensures.refused (λ e u. u.by.unheard.1))) c.in_ok-exchange.ensures.interrupt

pub returns-in_err-how-clause-files : goal.returns-in_err-how-clause-files
returns-in_err-how-clause-files g c =
    let p = err_from_is_err_and c.from_residual.result c.from_residual.ensures.1 in
    rw (p.1, p.2) (files_still _ _ refl)

pub returns-in_err-how-clause-worktrees : goal.returns-in_err-how-clause-worktrees
returns-in_err-how-clause-worktrees g c =
    let p = err_from_is_err_and c.from_residual.result c.from_residual.ensures.1 in
    rw (p.1, p.2) (trees_still _ _ refl)

-- ---- the files as found

pub returns-in_err-how-clause-untouched : goal.returns-in_err-how-clause-untouched
returns-in_err-how-clause-untouched g c =
    let p = err_from_is_err_and c.from_residual.result c.from_residual.ensures.1 in
    rw (p.1, p.2) (record { dry = λ _. refl; unread = tt; early = λ _. refl })

pub returns-in_err-exchange-clause-untouched : goal.returns-in_err-exchange-clause-untouched
returns-in_err-exchange-clause-untouched g c =
    let p = err_from_is_err_and c.from_residual-in_err-exchange.result c.from_residual-in_err-exchange.ensures.1 in
    rw (p.1, p.2) (record { dry = λ _. refl; unread = tt; early = λ _. refl })

pub returns-clause-untouched : goal.returns-clause-untouched
returns-clause-untouched g c = rw c.in_ok-how.ensures at c.apply_reply.ensures.untouched
