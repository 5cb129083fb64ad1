use Rattle.std.proofs.Common.{refl, sym, ap}
use Rattle.fetch_conversation.specs.ListStage.{shown}
use Rattle.fetch_conversation.proofs.Blame.{interrupt_still, interrupt_as}
use Rattle.fetch_conversation.proofs.Heeded.{no_question}
use Rattle.fetch_remote.proofs.Blamed.{peer_as, files_still, trees_still}
use Rattle.fetch_journal.specs.Errors.{is_yes}
use Rattle.fetch_shared.specs.Fetching.{Call}
use Rattle.fetch_shared.specs.Passes.{Which}
use Rattle.fetch_shared.specs.Applying.{Matter}
use Rattle.fetch_shared.specs.Conversed.{Line, given_to}
use Rattle.fetch_shared.proofs.Back.{back_trans}
use Rattle.fetch_shared.proofs.Complete.{complete}
use Rattle.fetch_shared.proofs.Fetched.{silent, ran_out, broken, broken_keep, broken_trees, stopped, fetched}
use Rattle.fetch_shared.proofs.Owned.{unapplied_calm}
use Rattle.fetch_shared.proofs.Places.{receipt_none, receipt_broken, receipt_applied, receipt_unapplied}
use Rattle.fetch_shared.proofs.Saw.{back_self}
use Rattle.fetch_shared.proofs.fetching.fetch_shared.Goals as goal

pub returns-in-Err-clause-back : goal.returns-in-Err-clause-back
returns-in-Err-clause-back g c = back_self c.args.pass

pub returns-in-Err-clause-receipt : goal.returns-in-Err-clause-receipt
returns-in-Err-clause-receipt g c = rw (c.receipt.ensures, c.number-number.ensures) (receipt_none c.args.pass c.args.pass)

pub returns-in-Err-clause-refused : goal.returns-in-Err-clause-refused
returns-in-Err-clause-refused g c =
    let talk = g.P.Peer.told c.args.peer.now in
    let line : Line = record { answers = g.P.Peer.answers; old = talk; new = talk } in
    let call : Call = record { given = given_to c.args.remote.now c.args.options c.args.pass; before = c.args.pass; after = c.args.pass; known = g.W.Worktrees.told c.args.worktrees.now; files = g.F.Files.told c.args.files.now; left = g.F.Files.told c.args.files.now } in
    rw (c.receipt.ensures, c.number-number.ensures) (ran_out line call refl refl refl (λ s. silent g.P.Peer.answers talk call.given s))

pub returns-in-Err-answer-clause-receipt : goal.returns-in-Err-answer-clause-receipt
returns-in-Err-answer-clause-receipt g c =
    rw (c.receipt-in-Err-answer.ensures, c.number-number.ensures) (receipt_broken _ _ c.args.pass c.in-Err-answer.pass c.in-Err-answer.planned c.in-Err-answer.e c.in-Err-answer.ensures.broken)

pub returns-in-Err-answer-clause-refused : goal.returns-in-Err-answer-clause-refused
returns-in-Err-answer-clause-refused g c =
    let line : Line = record { answers = g.P.Peer.answers; old = g.P.Peer.told c.args.peer.now; new = g.P.Peer.told c.list_and_receive-answer.new.peer } in
    let call : Call = record { given = given_to c.args.remote.now c.args.options c.args.pass; before = c.args.pass; after = c.in-Err-answer.pass; known = g.W.Worktrees.told c.args.worktrees.now; files = g.F.Files.told c.args.files.now; left = g.F.Files.told c.args.files.now } in
    rw (c.receipt-in-Err-answer.ensures, c.number-number.ensures) (broken line call refl c.in-Err-answer.ensures.none c.in-Err-answer.planned c.in-Err-answer.e c.in-Err-answer.ensures.broken)

pub returns-in-Ok-apply_in_turns-clause-back : goal.returns-in-Ok-apply_in_turns-clause-back
returns-in-Ok-apply_in_turns-clause-back g c = back_trans _ _ _ c.in-Ok-answer.ensures.back c.in-Ok-apply_in_turns.ensures.back

pub returns-clause-back : goal.returns-clause-back
returns-clause-back g c = back_trans _ _ _ c.in-Ok-answer.ensures.back c.in-Err-apply_in_turns.ensures.back

pub returns-in-Ok-apply_in_turns-clause-receipt : goal.returns-in-Ok-apply_in_turns-clause-receipt
returns-in-Ok-apply_in_turns-clause-receipt g c =
    rw (c.receipt-receipt.ensures, c.number-number.ensures)
    (receipt_applied _ _ c.args.pass c.in-Ok-answer.exchange.0 c.in-Ok-apply_in_turns.pass c.in-Ok-answer.exchange.1 c.in-Ok-answer.exchange.2 c.in-Ok-answer.ensures.exchange c.in-Ok-apply_in_turns.ensures.back _ _ c.in-Ok-apply_in_turns.judged c.in-Ok-apply_in_turns.place c.in-Ok-apply_in_turns.outcome refl refl c.in-Ok-apply_in_turns.ensures.applied)

pub returns-clause-receipt : goal.returns-clause-receipt
returns-clause-receipt g c =
    rw (c.receipt-receipt-in-Err-apply_in_turns.ensures, c.number-number.ensures)
    (receipt_unapplied _ _ c.args.pass c.in-Ok-answer.exchange.0 c.in-Err-apply_in_turns.pass c.in-Ok-answer.exchange.1 c.in-Ok-answer.exchange.2 c.in-Ok-answer.ensures.exchange c.in-Err-apply_in_turns.ensures.back _ _ c.in-Err-apply_in_turns.judged c.in-Err-apply_in_turns.place c.in-Err-apply_in_turns.e refl refl c.in-Err-apply_in_turns.ensures.refused)

pub returns-in-Ok-apply_in_turns-clause-fetched : goal.returns-in-Ok-apply_in_turns-clause-fetched
returns-in-Ok-apply_in_turns-clause-fetched g c =
    let line : Line = record { answers = g.P.Peer.answers; old = g.P.Peer.told c.args.peer.now; new = g.P.Peer.told c.list_and_receive-answer.new.peer } in
    let call : Call = record { given = given_to c.args.remote.now c.args.options c.args.pass; before = c.args.pass; after = c.in-Ok-apply_in_turns.pass; known = g.W.Worktrees.told c.args.worktrees.now; files = g.F.Files.told c.args.files.now; left = g.F.Files.told c.apply_in_turns.new.files } in
    let t = c.in-Ok-answer.exchange.2 in
    let m : Matter = record { setup = c.args.shared.now.opening.setup; options = c.in-Ok.how; wants = t.wants; told = record { listed = shown t.listed; received = t.received } } in
    let how = rw c.fetch_tags.ensures at c.in-Ok.ensures in
    rw (c.receipt-receipt.ensures, c.number-number.ensures)
    (fetched line call c.in-Ok-answer.exchange.0 c.in-Ok-answer.exchange.1 t c.in-Ok-answer.ensures.exchange c.in-Ok-answer.ensures.back c.in-Ok-answer.ensures.none c.in-Ok-apply_in_turns.ensures.back
    m (ap (λ (w : Which). w.opening.setup) (sym c.requires)) how refl refl c.in-Ok-apply_in_turns.judged c.in-Ok-apply_in_turns.place c.in-Ok-apply_in_turns.outcome c.in-Ok-apply_in_turns.ensures.applied)

pub returns-clause-refused : goal.returns-clause-refused
returns-clause-refused g c =
    let line : Line = record { answers = g.P.Peer.answers; old = g.P.Peer.told c.args.peer.now; new = g.P.Peer.told c.list_and_receive-answer.new.peer } in
    let call : Call = record { given = given_to c.args.remote.now c.args.options c.args.pass; before = c.args.pass; after = c.in-Err-apply_in_turns.pass; known = g.W.Worktrees.told c.args.worktrees.now; files = g.F.Files.told c.args.files.now; left = g.F.Files.told c.apply_in_turns.new.files } in
    let t = c.in-Ok-answer.exchange.2 in
    let m : Matter = record { setup = c.args.shared.now.opening.setup; options = c.in-Ok.how; wants = t.wants; told = record { listed = shown t.listed; received = t.received } } in
    let how = rw c.fetch_tags.ensures at c.in-Ok.ensures in
    rw (c.receipt-receipt-in-Err-apply_in_turns.ensures, c.number-number.ensures)
    (stopped line call c.in-Ok-answer.exchange.0 c.in-Ok-answer.exchange.1 t c.in-Ok-answer.ensures.exchange c.in-Ok-answer.ensures.back c.in-Ok-answer.ensures.none c.in-Err-apply_in_turns.ensures.back
    m (ap (λ (w : Which). w.opening.setup) (sym c.requires)) how refl refl c.in-Err-apply_in_turns.judged c.in-Err-apply_in_turns.place c.in-Err-apply_in_turns.e c.in-Err-apply_in_turns.ensures.refused)

-- ---- who is blamed

pub returns-in-Err-clause-interrupt : goal.returns-in-Err-clause-interrupt
returns-in-Err-clause-interrupt g c = interrupt_still _ _ _ _ refl

pub returns-clause-peer : goal.returns-clause-peer
returns-clause-peer g c =
    let calm = unapplied_calm _ _ _ _ c.in-Err-apply_in_turns.e c.in-Err-apply_in_turns.ensures.refused in
    peer_as _ _ _ _ (sym calm.0) c.in-Ok-answer.ensures.peer

pub returns-clause-interrupt : goal.returns-clause-interrupt
returns-clause-interrupt g c =
    let calm = unapplied_calm _ _ _ _ c.in-Err-apply_in_turns.e c.in-Err-apply_in_turns.ensures.refused in
    interrupt_as _ _ _ _ _ _ _ _ (sym (no_question (Unit {0}) is_yes c.in-Err-apply_in_turns.e calm.1)) c.in-Ok-answer.ensures.interrupt

pub returns-in-Err-answer-clause-files : goal.returns-in-Err-answer-clause-files
returns-in-Err-answer-clause-files g c = files_still _ _ (broken_keep _ _ _ _ _ c.in-Err-answer.e c.in-Err-answer.ensures.broken)

pub returns-in-Err-answer-clause-worktrees : goal.returns-in-Err-answer-clause-worktrees
returns-in-Err-answer-clause-worktrees g c = trees_still _ _ (broken_trees _ _ _ _ _ c.in-Err-answer.e c.in-Err-answer.ensures.broken)

-- ---- valid input

pub returns-in-Err-clause-complete : goal.returns-in-Err-clause-complete
returns-in-Err-clause-complete g c v = refl

pub returns-in-Err-answer-clause-complete : goal.returns-in-Err-answer-clause-complete
returns-in-Err-answer-clause-complete g c v = complete c.in-Err-answer.e v (returns-in-Err-answer-clause-refused g c)

pub returns-clause-complete : goal.returns-clause-complete
returns-clause-complete g c v = complete c.in-Err-apply_in_turns.e v (returns-clause-refused g c)

-- ---- files and work trees, where nothing was asked of them, and behind the settling

pub returns-in-Err-clause-files : goal.returns-in-Err-clause-files
returns-in-Err-clause-files g c = files_still _ _ refl

pub returns-in-Err-clause-worktrees : goal.returns-in-Err-clause-worktrees
returns-in-Err-clause-worktrees g c = trees_still _ _ refl

pub returns-in-Err-clause-untouched : goal.returns-in-Err-clause-untouched
returns-in-Err-clause-untouched g c = record { dry = λ _. refl; unread = tt; early = λ _. refl }

pub returns-in-Err-answer-clause-untouched : goal.returns-in-Err-answer-clause-untouched
returns-in-Err-answer-clause-untouched g c = record { dry = λ _. refl; unread = tt; early = λ _. refl }

pub returns-in-Ok-apply_in_turns-clause-untouched : goal.returns-in-Ok-apply_in_turns-clause-untouched
returns-in-Ok-apply_in_turns-clause-untouched g c =
    let u = c.in-Ok-apply_in_turns.ensures.untouched in
    record { dry = λ is. u.dry (rw c.in-Ok.ensures is); unread = u.unread; early = tt }

pub returns-clause-untouched : goal.returns-clause-untouched
returns-clause-untouched g c =
    let u = c.in-Err-apply_in_turns.ensures.untouched in
    record { dry = λ is. u.dry (rw c.in-Ok.ensures is); unread = tt; early = u.early }
