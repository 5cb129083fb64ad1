use Rattle.std.proofs.Common.{◌≡◌, ℕ, suc, ◌+◌, ◌<◌, Bool, true, false, List, Option, Result, Ok, Err, refl, sym, ap, subst, ◌∙◌, length, length-append, arith}
use Rattle.std.specs.Prelude.{is_some}
use Rattle.std.specs.FinMap as map
use Rattle.std.proofs.lemmas.Result.{err_from_is_err_and}
use Rattle.fetch_base.specs.Faults.{Counts-none, Counts-then}
use Rattle.fetch_store.specs.Graph.{Graph}
use Rattle.fetch_lines.specs.Talks.{Talk}
use Rattle.fetch_lines.specs.declared.requests.records.FetchReply.{FetchReply}
use Rattle.fetch_negotiate.specs.Any.{algorithm_of}
use Rattle.fetch_negotiate.specs.declared.algorithm.Algorithm.{Algorithm}
use Rattle.fetch_negotiate.specs.declared.algorithm.Round.{Round}
use Rattle.fetch_conversation.specs.ConverseStage.{algorithm_in}
use Rattle.fetch_conversation.specs.Conversing.{Holds, rounds_state_of, arguments_told}
use Rattle.fetch_conversation.specs.Exchange.{FetchArgumentsValue}
use Rattle.fetch_conversation.specs.ListStage.{ListedValue, shown, pending_of}
use Rattle.fetch_conversation.specs.Rounds.{RoundsStateValue, first_rounds_state}
use Rattle.fetch_conversation.specs.declared.conversing.FetchArguments.{FetchArguments}
use Rattle.fetch_conversation.specs.declared.fetch.Error.{Error}
use Rattle.fetch_conversation.specs.declared.fetch.Error.TheVariants as errors
use Rattle.fetch_conversation.proofs.Blame.{interrupt_still, interrupt_then}
use Rattle.fetch_conversation.proofs.Ending.{IsRoundsState, first_is, rounds_state_on, few}
use Rattle.fetch_conversation.proofs.Held.{starts, goes_again, goes_to_end, goes_off, goes_nowhere}
use Rattle.fetch_conversation.proofs.rounds.negotiate.Goals as goal

-- a round, told of the session at the first one
holds_at : (answers : Bool) (b b' : ℕ) (old new : Option Talk) (pending rest : List ℕ) (l l' : ListedValue) (arguments : FetchArguments) (g : Graph) (a a' : Algorithm) (c now : RoundsStateValue) (kept : Option FetchReply) (result : Result Bool Error) → b ≡ b' → l ≡ l' → a ≡ a'
    → Holds answers b old new pending rest (arguments_told l arguments) g a c now kept result → Holds answers b' old new pending rest (arguments_told l' arguments) g a' c now kept result
holds_at answers b b' old new pending rest l l' arguments g a a' c now kept result bound listed algorithm h =
    subst (λ (n : ℕ). Holds answers n old new pending rest (arguments_told l' arguments) g a' c now kept result) bound
    (subst (λ (x : ListedValue). Holds answers b old new pending rest (arguments_told x arguments) g a' c now kept result) listed
    (subst (λ (x : Algorithm). Holds answers b old new pending rest (arguments_told l arguments) g x c now kept result) algorithm h))

pub returns-in_err-most-clause-held : goal.returns-in_err-most-clause-held
returns-in_err-most-clause-held g c =
    let t : FetchArgumentsValue = arguments_told (shown c.args.listed.now) c.args.arguments.now in
    let graph = g.O.Objects.graph c.args.objects.now in
    let algorithm = algorithm_in c.args.arguments.now.settings.now in
    let p = err_from_is_err_and c.from_residual.result c.from_residual.ensures.1 in
    rw (p.1, p.2) (goes_nowhere c.args.listed.now.session.intake.bound t graph algorithm g.P.Peer.answers (g.P.Peer.told c.args.peer.now) (pending_of c.args.listed.now) (pending_of c.args.listed.now) (suc (map.len graph)) (first_rounds_state algorithm c.args.arguments.now.view.now) errors.NoMemory refl refl)

pub returns-in_err-state-clause-held : goal.returns-in_err-state-clause-held
returns-in_err-state-clause-held g c =
    let t : FetchArgumentsValue = arguments_told (shown c.args.listed.now) c.args.arguments.now in
    let graph = g.O.Objects.graph c.args.objects.now in
    let algorithm = algorithm_in c.args.arguments.now.settings.now in
    let p = err_from_is_err_and c.from_residual-in_err-state.result c.from_residual-in_err-state.ensures.1 in
    rw (p.1, p.2) (goes_nowhere c.args.listed.now.session.intake.bound t graph algorithm g.P.Peer.answers (g.P.Peer.told c.args.peer.now) (pending_of c.args.listed.now) (pending_of c.args.listed.now) (suc (map.len graph)) (first_rounds_state algorithm c.args.arguments.now.view.now) errors.NoMemory refl refl)

pub returns-in_err-bytes-clause-held : goal.returns-in_err-bytes-clause-held
returns-in_err-bytes-clause-held g c =
    let t : FetchArgumentsValue = arguments_told (shown c.args.listed.now) c.args.arguments.now in
    let graph = g.O.Objects.graph c.args.objects.now in
    let algorithm = algorithm_in c.args.arguments.now.settings.now in
    let p = err_from_is_err_and c.from_residual-in_err-bytes.result c.from_residual-in_err-bytes.ensures.1 in
    rw (p.1, p.2) (goes_nowhere c.args.listed.now.session.intake.bound t graph algorithm g.P.Peer.answers (g.P.Peer.told c.args.peer.now) (pending_of c.args.listed.now) (pending_of c.args.listed.now) (suc (map.len graph)) (first_rounds_state algorithm c.args.arguments.now.view.now) errors.NoMemory refl refl)

pub returns-in_err-hold_round-clause-held : goal.returns-in_err-hold_round-clause-held
returns-in_err-hold_round-clause-held g c =
    let bound = c.args.listed.now.session.intake.bound in
    let t : FetchArgumentsValue = arguments_told (shown c.args.listed.now) c.args.arguments.now in
    let graph = g.O.Objects.graph c.args.objects.now in
    let algorithm = algorithm_in c.args.arguments.now.settings.now in
    let i = c.loop.invariant in
    let e : Error = c.in_err-hold_round.field-0.0 in
    let less : c.loop.counter < suc (map.len graph) = (let test = c.loop-test.true in let len = c.in_ok-most.ensures in omega arith) in
    let held = holds_at g.P.Peer.answers c.loop.listed.session.intake.bound bound (g.P.Peer.told c.loop.peer) (g.P.Peer.told c.hold_round.new.peer) (pending_of c.loop.listed) (pending_of c.hold_round.new.listed) (shown c.loop.listed) (shown c.args.listed.now) c.args.arguments.now graph (algorithm_of c.loop.state.negotiator) algorithm (rounds_state_of c.loop.state) (rounds_state_of c.hold_round.new.state) c.hold_round.new.listed.session.reply (Err e) i.bound i.kept i.algorithm c.in_err-hold_round.ensures.held in
    let p = err_from_is_err_and c.from_residual-in_err-hold_round.result c.from_residual-in_err-hold_round.ensures.1 in
    rw (p.1, p.2) (goes_off bound t graph algorithm g.P.Peer.answers (g.P.Peer.told c.args.peer.now) (g.P.Peer.told c.loop.peer) (g.P.Peer.told c.hold_round.new.peer) (pending_of c.args.listed.now) (pending_of c.loop.listed) (pending_of c.hold_round.new.listed) (suc (map.len graph)) (first_rounds_state algorithm c.args.arguments.now.view.now) (rounds_state_of c.loop.state) c.loop.counter e less i.goes held)

pub returns-then-branch-clause-held : goal.returns-then-branch-clause-held
returns-then-branch-clause-held g c =
    let bound = c.args.listed.now.session.intake.bound in
    let t : FetchArgumentsValue = arguments_told (shown c.args.listed.now) c.args.arguments.now in
    let graph = g.O.Objects.graph c.args.objects.now in
    let algorithm = algorithm_in c.args.arguments.now.settings.now in
    let i = c.loop.invariant in
    let less : c.loop.counter < suc (map.len graph) = (let test = c.loop-test.true in let len = c.in_ok-most.ensures in omega arith) in
    let told = subst (λ (b : Bool). Holds g.P.Peer.answers c.loop.listed.session.intake.bound (g.P.Peer.told c.loop.peer) (g.P.Peer.told c.hold_round.new.peer) (pending_of c.loop.listed) (pending_of c.hold_round.new.listed) (arguments_told (shown c.loop.listed) c.args.arguments.now) graph (algorithm_of c.loop.state.negotiator) (rounds_state_of c.loop.state) (rounds_state_of c.hold_round.new.state) c.hold_round.new.listed.session.reply (Ok b)) c.if-branch.true c.in_ok-hold_round.ensures.held in
    let held = holds_at g.P.Peer.answers c.loop.listed.session.intake.bound bound (g.P.Peer.told c.loop.peer) (g.P.Peer.told c.hold_round.new.peer) (pending_of c.loop.listed) (pending_of c.hold_round.new.listed) (shown c.loop.listed) (shown c.args.listed.now) c.args.arguments.now graph (algorithm_of c.loop.state.negotiator) algorithm (rounds_state_of c.loop.state) (rounds_state_of c.hold_round.new.state) c.hold_round.new.listed.session.reply (Ok true) i.bound i.kept i.algorithm told in
    goes_to_end bound t graph algorithm g.P.Peer.answers (g.P.Peer.told c.args.peer.now) (g.P.Peer.told c.loop.peer) (g.P.Peer.told c.hold_round.new.peer) (pending_of c.args.listed.now) (pending_of c.loop.listed) (pending_of c.hold_round.new.listed) (suc (map.len graph)) (first_rounds_state algorithm c.args.arguments.now.view.now) (rounds_state_of c.loop.state) (rounds_state_of c.hold_round.new.state) c.hold_round.new.listed.session.reply c.loop.counter (record { rounds = c.hold_round.new.state.rounds }) less i.goes refl held

pub loop-init : goal.loop-init
loop-init g c =
    let bound = c.args.listed.now.session.intake.bound in
    let t : FetchArgumentsValue = arguments_told (shown c.args.listed.now) c.args.arguments.now in
    let graph = g.O.Objects.graph c.args.objects.now in
    let algorithm = algorithm_in c.args.arguments.now.settings.now in
    let e = c.in_ok-state.ensures in
    record {
      goes = starts bound t graph algorithm g.P.Peer.answers (g.P.Peer.told c.args.peer.now) (pending_of c.args.listed.now) (suc (map.len graph)) (first_rounds_state algorithm c.args.arguments.now.view.now) (rounds_state_of c.in_ok-state.state) e.state;
      state = subst (IsRoundsState bound t graph algorithm c.args.arguments.now.view.now) (sym e.state) (first_is bound t graph algorithm c.args.arguments.now.view.now);
      held = ap (λ (x : RoundsStateValue). length x.rounds) e.state;
      ready = c.requires;
      bound = refl;
      kept = refl;
      algorithm = e.algorithm;
      told = record { told = λ id found is. absurd (let none = e.unread id in cc) };
      counts = Counts-none (g.P.Peer.faults c.args.peer.now);
      interrupt = interrupt_still (g.I.Interrupt.yes c.args.interrupt.now) (g.I.Interrupt.will_stop c.args.interrupt.now) (g.P.Peer.told c.args.peer.now) 0 refl;
    }

pub loop-preserved : goal.loop-preserved
loop-preserved g c =
    let bound = c.args.listed.now.session.intake.bound in
    let t : FetchArgumentsValue = arguments_told (shown c.args.listed.now) c.args.arguments.now in
    let graph = g.O.Objects.graph c.args.objects.now in
    let algorithm = algorithm_in c.args.arguments.now.settings.now in
    let i = c.loop.invariant in
    let e = c.in_ok-hold_round.ensures in
    let told = subst (λ (b : Bool). Holds g.P.Peer.answers c.loop.listed.session.intake.bound (g.P.Peer.told c.loop.peer) (g.P.Peer.told c.hold_round.new.peer) (pending_of c.loop.listed) (pending_of c.hold_round.new.listed) (arguments_told (shown c.loop.listed) c.args.arguments.now) graph (algorithm_of c.loop.state.negotiator) (rounds_state_of c.loop.state) (rounds_state_of c.hold_round.new.state) c.hold_round.new.listed.session.reply (Ok b)) c.if-branch.false e.held in
    let held = holds_at g.P.Peer.answers c.loop.listed.session.intake.bound bound (g.P.Peer.told c.loop.peer) (g.P.Peer.told c.hold_round.new.peer) (pending_of c.loop.listed) (pending_of c.hold_round.new.listed) (shown c.loop.listed) (shown c.args.listed.now) c.args.arguments.now graph (algorithm_of c.loop.state.negotiator) algorithm (rounds_state_of c.loop.state) (rounds_state_of c.hold_round.new.state) c.hold_round.new.listed.session.reply (Ok false) i.bound i.kept i.algorithm told in
    record {
      goes = goes_again bound t graph algorithm g.P.Peer.answers (g.P.Peer.told c.args.peer.now) (g.P.Peer.told c.loop.peer) (g.P.Peer.told c.hold_round.new.peer) (pending_of c.args.listed.now) (pending_of c.loop.listed) (pending_of c.hold_round.new.listed) (suc (map.len graph)) (first_rounds_state algorithm c.args.arguments.now.view.now) (rounds_state_of c.loop.state) (rounds_state_of c.hold_round.new.state) c.hold_round.new.listed.session.reply c.loop.counter i.goes held;
      state = subst (IsRoundsState bound t graph algorithm c.args.arguments.now.view.now) (sym (held.goes refl)) (rounds_state_on bound t graph algorithm c.args.arguments.now.view.now (rounds_state_of c.loop.state) held.reply i.state (sym held.ends));
      held = ap (λ (l : List Round). length l) held.rounds ∙ length-append (rounds_state_of c.loop.state).rounds _ ∙ ap (λ (n : ℕ). n + 1) i.held;
      ready = e.again.ready;
      bound = e.again.bound ∙ i.bound;
      kept = e.kept ∙ i.kept;
      algorithm = e.algorithm ∙ i.algorithm;
      told = e.told;
      counts = Counts-then (g.P.Peer.faults c.args.peer.now) (g.P.Peer.faults c.loop.peer) (g.P.Peer.faults c.hold_round.new.peer) i.counts e.peer.counts;
      interrupt = interrupt_then (g.I.Interrupt.yes c.args.interrupt.now) (g.I.Interrupt.yes c.loop.interrupt) (g.I.Interrupt.yes c.hold_round.new.interrupt) _ _ _ _ _ _ 0 i.interrupt e.interrupt;
    }

pub returns-then-branch-clause-replied : goal.returns-then-branch-clause-replied
returns-then-branch-clause-replied g c = ap is_some c.in_ok-hold_round.ensures.held.kept

pub unreachable-requires : goal.unreachable-requires
unreachable-requires g c =
    let i = c.loop.invariant in
    let out : c.loop.counter ≡ suc (map.len (g.O.Objects.graph c.args.objects.now)) = (let test = c.loop-test.false in let len = c.in_ok-most.ensures in let end = c.loop.auto.counter-end in omega arith) in
    let few_rounds = few c.args.listed.now.session.intake.bound (arguments_told (shown c.args.listed.now) c.args.arguments.now) (g.O.Objects.graph c.args.objects.now) (algorithm_in c.args.arguments.now.settings.now) c.args.arguments.now.view.now (rounds_state_of c.loop.state) i.state in
    let held = i.held in omega arith

pub returns-in_err-state-clause-interrupt : goal.returns-in_err-state-clause-interrupt
returns-in_err-state-clause-interrupt g c =
    let p = err_from_is_err_and c.from_residual-in_err-state.result c.from_residual-in_err-state.ensures.1 in
    rw (p.1, p.2) (interrupt_still (g.I.Interrupt.yes c.args.interrupt.now) (g.I.Interrupt.will_stop c.args.interrupt.now) (g.P.Peer.told c.args.peer.now) 0 refl)

pub returns-in_err-bytes-clause-interrupt : goal.returns-in_err-bytes-clause-interrupt
returns-in_err-bytes-clause-interrupt g c =
    let p = err_from_is_err_and c.from_residual-in_err-bytes.result c.from_residual-in_err-bytes.ensures.1 in
    rw (p.1, p.2) (interrupt_still (g.I.Interrupt.yes c.args.interrupt.now) (g.I.Interrupt.will_stop c.args.interrupt.now) (g.P.Peer.told c.args.peer.now) 0 refl)

pub returns-in_err-hold_round-clause-interrupt : goal.returns-in_err-hold_round-clause-interrupt
returns-in_err-hold_round-clause-interrupt g c =
    let p = err_from_is_err_and c.from_residual-in_err-hold_round.result c.from_residual-in_err-hold_round.ensures.1 in
    rw (p.1, p.2) (interrupt_then _ _ _ _ _ _ _ _ _ _ c.loop.invariant.interrupt c.in_err-hold_round.ensures.interrupt)

pub returns-then-branch-clause-interrupt : goal.returns-then-branch-clause-interrupt
returns-then-branch-clause-interrupt g c = interrupt_then _ _ _ _ _ _ _ _ _ _ c.loop.invariant.interrupt c.in_ok-hold_round.ensures.interrupt
