use Rattle.std.proofs.Common.{refl, Some}
use Rattle.fetch_serve.specs.Parts.{held_by}
use Rattle.fetch_serve.proofs.Serving.{aside_refused}
use Rattle.fetch_serve.proofs.server.Server.feed.Goals as goal

pub returns-in-Err : goal.returns-in-Err
returns-in-Err c =
    let i = c.self.inside in
    rw (← c.self.view_is, c.in-None.is) (
      c.in-Err.refusal,
      refl,
      c.to_error-in-Err.ensures,
      aside_refused (held_by i.parts) i.intake c.answer.new.intake i.outgoing.items c.answer.new.out.items c.args.piece.now i.sent (Some c.in-Err.refusal) c.in-Err.refusal c.self.invariant.within c.in-Err.ensures.err,
    )
