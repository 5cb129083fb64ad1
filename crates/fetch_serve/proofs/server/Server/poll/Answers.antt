use Rattle.std.proofs.Common.{◌≡◌, ◌≤◌, false, length, drop, rules, arith, length-drop}
use Rattle.std.specs.Prelude.{is_some}
use Rattle.fetch_serve.specs.Parts.{held_by}
use Rattle.fetch_serve.specs.Servings.{Serving}
use Rattle.fetch_serve.proofs.Serving.{sends}
use Rattle.fetch_serve.proofs.server.Server.poll.Goals as goal

pub returns-then-self-len-clause-turn : goal.returns-then-self-len-clause-turn
returns-then-self-len-clause-turn c =
    let i = c.self.inside in
    let goes : is_some i.refusal ≡ false = search rules in
    let some : 1 ≤ length (drop i.sent i.outgoing.items) = omega (arith, length-drop i.sent i.outgoing.items) in
    rw (← c.self.view_is) (sends (let s : Serving = record { served = held_by i.parts; begun = i.intake.begun; pending = i.intake.pending; outgoing = drop i.sent i.outgoing.items; refusal = i.refusal } in s) goes some)
