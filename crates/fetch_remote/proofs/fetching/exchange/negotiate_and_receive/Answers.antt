use Rattle.std.proofs.Common.{refl}
use Rattle.std.proofs.lemmas.Result.{err_from_is_err_and}
use Rattle.fetch_conversation.specs.ListStage.{shown}
use Rattle.fetch_conversation.proofs.Blame.{interrupt_still}
use Rattle.fetch_remote.specs.Form.{Given}
use Rattle.fetch_remote.specs.Repositories.{state_of, setup_of}
use Rattle.fetch_remote.proofs.Shown.{held_on}
use Rattle.fetch_remote.proofs.Steps.{gives_up_here, kind_on}
use Rattle.fetch_remote.proofs.fetching.exchange.negotiate_and_receive.Goals as goal

pub returns-in_err-view-clause-held : goal.returns-in_err-view-clause-held
returns-in_err-view-clause-held g c =
    let p = err_from_is_err_and c.from_residual.result c.from_residual.ensures.1 in
    let given : Given = record { remote = c.args.remote.now; options = c.args.options.now; setup = setup_of c.args.repo.now } in
    rw (p.1, p.2) (record { held = gives_up_here _ _ given (state_of c.args.repo.now) c.args.listed })

pub returns-in_err-received-clause-held : goal.returns-in_err-received-clause-held
returns-in_err-received-clause-held g c =
    let p = err_from_is_err_and c.from_residual-in_err-received.result c.from_residual-in_err-received.ensures.1 in
    let given : Given = record { remote = c.args.remote.now; options = c.args.options.now; setup = setup_of c.args.repo.now } in
    let shows = rw c.fetch_tags-tags.ensures at c.in_ok-view.ensures in
    let k = rw (c.fetch_tags-tags.ensures, c.settings.ensures.settings, c.store.ensures.objects, c.requires.bound) at c.in_err-received.ensures.held in
    rw (p.1, p.2) (record { held = (held_on _ _ _ _ _ given (state_of c.args.repo.now) (shown c.args.listed) _ _ shows k).held })

pub returns-clause-held : goal.returns-clause-held
returns-clause-held g c =
    let given : Given = record { remote = c.args.remote.now; options = c.args.options.now; setup = setup_of c.args.repo.now } in
    let shows = rw c.fetch_tags-tags.ensures at c.in_ok-view.ensures in
    let k = rw (c.fetch_tags-tags.ensures, c.settings.ensures.settings, c.store.ensures.objects, c.requires.bound) at c.in_ok-received.ensures.held in
    record { held = record { kept = c.in_ok-received.ensures.kept; wants = shows.wants; pack = (held_on _ _ _ _ _ given (state_of c.args.repo.now) (shown c.args.listed) _ _ shows k).held } }

pub returns-clause-of_kind : goal.returns-clause-of_kind
returns-clause-of_kind g c =
    let given : Given = record { remote = c.args.remote.now; options = c.args.options.now; setup = setup_of c.args.repo.now } in
    let shows = rw c.fetch_tags-tags.ensures at c.in_ok-view.ensures in
    let held = rw (c.fetch_tags-tags.ensures, c.settings.ensures.settings, c.store.ensures.objects, c.requires.bound) at c.in_ok-received.ensures.held in
    let k = held_on _ _ _ _ _ given (state_of c.args.repo.now) (shown c.args.listed) _ _ shows held in
    let same = rw c.settings.ensures.settings at c.settings.ensures.hash in
    rw (kind_on _ _ _ given (state_of c.args.repo.now) c.args.listed _ c.in_ok-received.received same k.held) at c.in_ok-received.ensures.of_kind

pub returns-in_err-view-clause-interrupt : goal.returns-in_err-view-clause-interrupt
returns-in_err-view-clause-interrupt g c =
    let p = err_from_is_err_and c.from_residual.result c.from_residual.ensures.1 in
    rw (p.1, p.2) (interrupt_still _ _ _ _ refl)

pub returns-in_err-received-clause-interrupt : goal.returns-in_err-received-clause-interrupt
returns-in_err-received-clause-interrupt g c =
    let p = err_from_is_err_and c.from_residual-in_err-received.result c.from_residual-in_err-received.ensures.1 in
    rw (p.1, p.2) c.in_err-received.ensures.interrupt
