use Rattle.std.proofs.Common.{refl, sym, ◌∙◌}
use Rattle.std.proofs.lemmas.Result.{err_from_is_err_and}
use Rattle.fetch_conversation.specs.Errors.{is_interrupted, is_stopped}
use Rattle.fetch_conversation.proofs.Blame.{peer_then, interrupt_as, interrupt_then}
use Rattle.fetch_conversation.proofs.Heeded.{same_question}
use Rattle.fetch_remote.specs.Blame.{fault_told, keep_fault_told}
use Rattle.fetch_remote.specs.Errors.{preparing, receiving, is_yes, is_of_peer}
use Rattle.fetch_remote.specs.Form.{Given}
use Rattle.fetch_remote.specs.Refused.{is_early}
use Rattle.fetch_remote.specs.Repositories.{state_of, setup_of}
use Rattle.fetch_remote.proofs.Asked.{listing_yes, receiving_yes}
use Rattle.fetch_remote.proofs.Blamed.{as_prepared, as_received, peer_as, files_still, files_as, trees_still, trees_as}
use Rattle.fetch_remote.proofs.Complete.{complete}
use Rattle.fetch_remote.proofs.Refused.{broken_off}
use Rattle.fetch_remote.proofs.Steps.{breaks_off}
use Rattle.fetch_remote.proofs.remote.Remote.fetch.Goals as goal

-- ---- the listing breaks off

pub returns-in_err-prepared-clause-refused : goal.returns-in_err-prepared-clause-refused
returns-in_err-prepared-clause-refused g c =
    let p = err_from_is_err_and c.from_residual.result c.from_residual.ensures.1 in
    let given : Given = record { remote = c.args.self.now; options = c.args.options; setup = setup_of c.args.repo.now } in
    rw (p.1, p.2) (broken_off _ _ _ _ _ _ (state_of c.args.repo.now) _ (breaks_off _ _ _ given _ c.in_err-prepared.field-0.0 c.in_err-prepared.ensures.refused))

pub returns-in_err-prepared-clause-complete : goal.returns-in_err-prepared-clause-complete
returns-in_err-prepared-clause-complete g c =
    let p = err_from_is_err_and c.from_residual.result c.from_residual.ensures.1 in
    let given : Given = record { remote = c.args.self.now; options = c.args.options; setup = setup_of c.args.repo.now } in
    let told = g.W.Worktrees.told c.args.worktrees.now in
    let files = g.F.Files.told c.args.files.now in
    rw (p.1, p.2) (λ v. complete _ _ _ told files files _ _ _ _ (broken_off _ _ _ told files _ (state_of c.args.repo.now) _ (breaks_off _ _ _ given _ c.in_err-prepared.field-0.0 c.in_err-prepared.ensures.refused)) v)

-- ---- what was listed is refused

pub returns-in_err-outcome-clause-refused : goal.returns-in_err-outcome-clause-refused
returns-in_err-outcome-clause-refused g c =
    let p = err_from_is_err_and c.from_residual-in_err-outcome.result c.from_residual-in_err-outcome.ensures.1 in
    let h = rw c.in_ok-prepared.ensures.options at c.in_err-outcome.ensures.refused in
    rw (p.1, p.2) (h _ c.in_ok-prepared.ensures.listed)

pub returns-in_err-outcome-clause-complete : goal.returns-in_err-outcome-clause-complete
returns-in_err-outcome-clause-complete g c =
    let p = err_from_is_err_and c.from_residual-in_err-outcome.result c.from_residual-in_err-outcome.ensures.1 in
    let h = rw c.in_ok-prepared.ensures.options at c.in_err-outcome.ensures.complete in
    rw (p.1, p.2) (h _ c.in_ok-prepared.ensures.listed)

-- ---- both are done

pub returns-clause-fetched : goal.returns-clause-fetched
returns-clause-fetched g c =
    let h = rw c.in_ok-prepared.ensures.options at c.in_ok-outcome.ensures.fetched in
    h _ c.in_ok-prepared.ensures.listed

-- ---- who is blamed

pub returns-in_err-prepared-clause-peer : goal.returns-in_err-prepared-clause-peer
returns-in_err-prepared-clause-peer g c =
    let p = err_from_is_err_and c.from_residual.result c.from_residual.ensures.1 in
    rw (p.1, p.2) (peer_as _ _ _ _ (as_prepared is_of_peer c.in_err-prepared.field-0.0 refl) c.in_err-prepared.ensures.peer)

pub returns-in_err-prepared-clause-interrupt : goal.returns-in_err-prepared-clause-interrupt
returns-in_err-prepared-clause-interrupt g c =
    let p = err_from_is_err_and c.from_residual.result c.from_residual.ensures.1 in
    let e = c.in_err-prepared.field-0.0 in
    rw (p.1, p.2) (interrupt_as _ _ _ _ _ _ _ _ (same_question (Unit {0}) (Unit {0}) is_interrupted is_yes e (preparing e) (listing_yes e)) c.in_err-prepared.ensures.interrupt)

pub returns-in_err-prepared-clause-files : goal.returns-in_err-prepared-clause-files
returns-in_err-prepared-clause-files g c =
    let p = err_from_is_err_and c.from_residual.result c.from_residual.ensures.1 in
    rw (p.1, p.2) (files_still _ _ (sym (as_prepared keep_fault_told c.in_err-prepared.field-0.0 refl)))

pub returns-in_err-prepared-clause-worktrees : goal.returns-in_err-prepared-clause-worktrees
returns-in_err-prepared-clause-worktrees g c =
    let p = err_from_is_err_and c.from_residual.result c.from_residual.ensures.1 in
    rw (p.1, p.2) (trees_still _ _ (sym (as_prepared fault_told c.in_err-prepared.field-0.0 refl)))

pub returns-in_err-outcome-clause-peer : goal.returns-in_err-outcome-clause-peer
returns-in_err-outcome-clause-peer g c =
    let p = err_from_is_err_and c.from_residual-in_err-outcome.result c.from_residual-in_err-outcome.ensures.1 in
    rw (p.1, p.2) (peer_as _ _ _ _ (as_received is_of_peer c.in_err-outcome.field-0.0 refl) (peer_then _ _ _ _ c.in_ok-prepared.ensures.peer.counts c.in_err-outcome.ensures.peer))

pub returns-in_err-outcome-clause-interrupt : goal.returns-in_err-outcome-clause-interrupt
returns-in_err-outcome-clause-interrupt g c =
    let p = err_from_is_err_and c.from_residual-in_err-outcome.result c.from_residual-in_err-outcome.ensures.1 in
    let e = c.in_err-outcome.field-0.0 in
    rw (p.1, p.2) (interrupt_as _ _ _ _ _ _ _ _ (same_question (Unit {0}) (Unit {0}) is_stopped is_yes e (receiving e) (receiving_yes e)) (interrupt_then _ _ _ _ _ _ _ _ _ _ c.in_ok-prepared.ensures.interrupt c.in_err-outcome.ensures.interrupt))

pub returns-in_err-outcome-clause-files : goal.returns-in_err-outcome-clause-files
returns-in_err-outcome-clause-files g c =
    let p = err_from_is_err_and c.from_residual-in_err-outcome.result c.from_residual-in_err-outcome.ensures.1 in
    rw (p.1, p.2) (files_as _ _ _ _ (as_received keep_fault_told c.in_err-outcome.field-0.0 refl) c.in_err-outcome.ensures.files)

pub returns-in_err-outcome-clause-worktrees : goal.returns-in_err-outcome-clause-worktrees
returns-in_err-outcome-clause-worktrees g c =
    let p = err_from_is_err_and c.from_residual-in_err-outcome.result c.from_residual-in_err-outcome.ensures.1 in
    rw (p.1, p.2) (trees_as _ _ _ _ (as_received fault_told c.in_err-outcome.field-0.0 refl) c.in_err-outcome.ensures.worktrees)

pub returns-clause-interrupt : goal.returns-clause-interrupt
returns-clause-interrupt g c = interrupt_then _ _ _ _ _ _ _ _ _ _ c.in_ok-prepared.ensures.interrupt c.in_ok-outcome.ensures.interrupt

pub returns-clause-peer : goal.returns-clause-peer
returns-clause-peer g c = peer_then _ _ _ _ c.in_ok-prepared.ensures.peer.counts c.in_ok-outcome.ensures.peer

-- ---- the files as found

pub returns-in_err-prepared-clause-untouched : goal.returns-in_err-prepared-clause-untouched
returns-in_err-prepared-clause-untouched g c =
    let p = err_from_is_err_and c.from_residual.result c.from_residual.ensures.1 in
    rw (p.1, p.2) (record { dry = λ _. refl; unread = tt; early = λ _. refl })

pub returns-in_err-outcome-clause-untouched : goal.returns-in_err-outcome-clause-untouched
returns-in_err-outcome-clause-untouched g c =
    let p = err_from_is_err_and c.from_residual-in_err-outcome.result c.from_residual-in_err-outcome.ensures.1 in
    let u = c.in_err-outcome.ensures.untouched in
    rw (p.1, p.2) (record { dry = u.dry; unread = tt; early = λ early. u.early (as_received is_early c.in_err-outcome.field-0.0 refl ∙ early) })

pub returns-clause-untouched : goal.returns-clause-untouched
returns-clause-untouched g c = let u = c.in_ok-outcome.ensures.untouched in record { dry = u.dry; unread = u.unread; early = tt }
