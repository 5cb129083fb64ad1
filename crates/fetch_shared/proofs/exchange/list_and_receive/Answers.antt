use Rattle.std.proofs.Common.{refl, ◌∙◌}
use Rattle.fetch_conversation.specs.Errors.{is_interrupted, is_stopped}
use Rattle.fetch_conversation.proofs.Blame.{peer_then, interrupt_then, interrupt_as}
use Rattle.fetch_conversation.proofs.Heeded.{same_question}
use Rattle.fetch_journal.specs.Errors.{is_yes}
use Rattle.fetch_shared.specs.Conversed.{given_to}
use Rattle.fetch_shared.proofs.Saw.{back_self}
use Rattle.fetch_shared.proofs.Spoken.{has_conversed_over, broke_listing, broke_planning, broke_receiving, kind_received, named_by}
use Rattle.fetch_shared.proofs.Told.{listing_blamed, receiving_blamed, listing_asks, receiving_asks}
use Rattle.fetch_shared.proofs.exchange.list_and_receive.Goals as goal

-- ---- the listing was refused

pub returns-in-Err-clause-back : goal.returns-in-Err-clause-back
returns-in-Err-clause-back g c = back_self c.args.pass

pub returns-in-Err-clause-broken : goal.returns-in-Err-clause-broken
returns-in-Err-clause-broken g c =
    broke_listing _ _ _ (given_to c.args.asking.remote.now c.args.asking.options c.args.pass) c.args.pass c.args.pass c.in-Err.cause c.unlisted.result c.unlisted.ensures (rw (c.settings.ensures.settings, ← c.requires) at c.in-Err.ensures.held)

pub returns-in-Err-clause-peer : goal.returns-in-Err-clause-peer
returns-in-Err-clause-peer g c = listing_blamed _ _ c.in-Err.cause c.unlisted.result c.unlisted.ensures c.in-Err.ensures.peer

pub returns-in-Err-clause-interrupt : goal.returns-in-Err-clause-interrupt
returns-in-Err-clause-interrupt g c =
    interrupt_as _ _ _ _ _ _ _ _ (same_question (Unit {0}) (Unit {0}) is_interrupted is_yes c.in-Err.cause c.unlisted.result (listing_asks c.in-Err.cause c.unlisted.result c.unlisted.ensures)) c.in-Err.ensures.interrupt

-- ---- memory ran out as the plan was made

pub returns-in-Err-planned-clause-broken : goal.returns-in-Err-planned-clause-broken
returns-in-Err-planned-clause-broken g c =
    broke_planning _ _ _ (given_to c.args.asking.remote.now c.args.asking.options c.args.pass) c.args.pass _ c.in-Ok.listed _ c.in-Err-planned.ensures.memory (rw (c.settings.ensures.settings, ← c.requires) at c.in-Ok.ensures.held)

pub returns-in-Err-planned-clause-peer : goal.returns-in-Err-planned-clause-peer
returns-in-Err-planned-clause-peer g c = rw c.in-Err-planned.ensures.memory c.in-Ok.ensures.peer

pub returns-in-Err-planned-clause-interrupt : goal.returns-in-Err-planned-clause-interrupt
returns-in-Err-planned-clause-interrupt g c = rw c.in-Err-planned.ensures.memory c.in-Ok.ensures.interrupt

-- ---- the pack was refused

pub returns-clause-broken : goal.returns-clause-broken
returns-clause-broken g c =
    let p = c.in-Ok-planned.ensures.planned in
    let listed = rw (c.settings.ensures.settings, ← c.requires) at c.in-Ok.ensures.held in
    let k = rw (p.plan_is, c.fetch_tags-tags.ensures, c.settings-2.ensures.settings, ← c.requires, c.in-Ok.ensures.bound) at c.in-Err-answer.ensures.held in
    broke_receiving _ _ _ _ (given_to c.args.asking.remote.now c.args.asking.options c.args.pass) c.args.pass _ _ p.seen c.in-Ok.listed _ c.in-Err-answer.cause c.unreceived.result p.at c.unreceived.ensures listed k

pub returns-clause-peer : goal.returns-clause-peer
returns-clause-peer g c = peer_then _ _ _ _ c.in-Ok.ensures.peer.counts (receiving_blamed _ _ c.in-Err-answer.cause c.unreceived.result c.unreceived.ensures c.in-Err-answer.ensures.peer)

pub returns-clause-interrupt : goal.returns-clause-interrupt
returns-clause-interrupt g c =
    interrupt_as _ _ _ _ _ _ _ _ (same_question (Unit {0}) (Unit {0}) is_stopped is_yes c.in-Err-answer.cause c.unreceived.result (receiving_asks c.in-Err-answer.cause c.unreceived.result c.unreceived.ensures))
    (interrupt_then _ _ _ _ _ _ _ _ _ _ c.in-Ok.ensures.interrupt c.in-Err-answer.ensures.interrupt)

-- ---- it came to its end

pub returns-in-Ok-answer-clause-exchange : goal.returns-in-Ok-answer-clause-exchange
returns-in-Ok-answer-clause-exchange g c =
    let p = c.in-Ok-planned.ensures.planned in
    let listed = rw (c.settings.ensures.settings, ← c.requires) at c.in-Ok.ensures.held in
    let k = rw (p.plan_is, c.fetch_tags-tags.ensures, c.settings-2.ensures.settings, ← c.requires, c.in-Ok.ensures.bound) at c.in-Ok-answer.ensures.held in
    has_conversed_over _ _ _ _ (given_to c.args.asking.remote.now c.args.asking.options c.args.pass) c.args.pass _ _ p.seen c.in-Ok.listed _ _ c.in-Ok-answer.received p.at p.front c.in-Ok-answer.ensures.kept (rw (p.plan_is, c.fetch_tags-tags.ensures) refl) listed k

pub returns-in-Ok-answer-clause-of_kind : goal.returns-in-Ok-answer-clause-of_kind
returns-in-Ok-answer-clause-of_kind g c =
    let p = c.in-Ok-planned.ensures.planned in
    let k = rw (p.plan_is, c.fetch_tags-tags.ensures, c.settings-2.ensures.settings, ← c.requires, c.in-Ok.ensures.bound) at c.in-Ok-answer.ensures.held in
    let hash = rw (c.settings-2.ensures.settings, ← c.requires) at c.settings-2.ensures.hash in
    let same = kind_received _ _ _ (given_to c.args.asking.remote.now c.args.asking.options c.args.pass) p.seen.repository.state c.in-Ok.listed _ c.in-Ok-answer.received k ∙ hash in
    rw same at c.in-Ok-answer.ensures.of_kind

pub returns-in-Ok-answer-clause-named : goal.returns-in-Ok-answer-clause-named
returns-in-Ok-answer-clause-named g c =
    let p = c.in-Ok-planned.ensures.planned in
    let k = rw (p.plan_is, c.fetch_tags-tags.ensures, c.settings-2.ensures.settings, ← c.requires, c.in-Ok.ensures.bound) at c.in-Ok-answer.ensures.held in
    named_by _ _ _ (given_to c.args.asking.remote.now c.args.asking.options c.args.pass) p.seen.repository.state c.in-Ok.listed _ c.in-Ok-answer.received k

pub returns-in-Ok-answer-clause-peer : goal.returns-in-Ok-answer-clause-peer
returns-in-Ok-answer-clause-peer g c = peer_then _ _ _ _ c.in-Ok.ensures.peer.counts c.in-Ok-answer.ensures.peer

pub returns-in-Ok-answer-clause-interrupt : goal.returns-in-Ok-answer-clause-interrupt
returns-in-Ok-answer-clause-interrupt g c = interrupt_then _ _ _ _ _ _ _ _ _ _ c.in-Ok.ensures.interrupt c.in-Ok-answer.ensures.interrupt
