use Rattle.std.proofs.Common.{◌≡◌, sym, ap, ◌∙◌, subst, length, ◌<◌}
use Rattle.fetch_asked.specs.Intakes.{Incoming, passed}
use Rattle.fetch_serve.specs.Parts.{held_by}
use Rattle.fetch_serve.proofs.Answering as on
use Rattle.fetch_serve.proofs.server.answer.Goals as goal

pub requests-init : goal.requests-init
requests-init c = rw (c.in-Ok.ensures.ok, c.len-kept.ensures) (on.at_first (held_by c.args.parts) c.args.intake.now c.args.out.now.items c.args.piece.now c.requires.begun)

pub requests-preserved : goal.requests-preserved
requests-preserved c =
    let f = rw c.in-Ok-Some.field-0-is at c.in-Ok-Some.ensures.finds in
    rw (c.pass.ensures, c.in-Ok-Some.ensures.same)
    (on.next (held_by c.args.parts) c.args.intake.now c.args.out.now.items c.args.piece.now c.requests.intake c.requests.out.items c.requests.kept c.in-Ok-Some.found.0 c.in-Ok-Some.found.1 c.reply_to.new.out.items c.requests.invariant f.0 f.1
    c.in-Ok-reply_to.ensures.ok)

pub requests-smaller : goal.requests-smaller
requests-smaller c =
    let f = rw c.in-Ok-Some.field-0-is at c.in-Ok-Some.ensures.finds in
    let now : c.pass.new.self ≡ passed c.requests.intake c.in-Ok-Some.found.1 = c.pass.ensures ∙ ap (λ (i : Incoming). passed i c.in-Ok-Some.found.1) c.in-Ok-Some.ensures.same in
    subst (λ (i : Incoming). length i.pending < length c.requests.intake.pending) (sym now) (on.fewer c.requests.intake c.in-Ok-Some.found.0 c.in-Ok-Some.found.1 f.1)

pub returns-in-Err-clause-err : goal.returns-in-Err-clause-err
returns-in-Err-clause-err c = rw c.in-Err.ensures.err (on.none_taken (held_by c.args.parts) c.args.intake.now c.args.out.now.items c.args.piece.now c.requires.begun c.requires.hash)

pub returns-in-Ok-None-clause-ok : goal.returns-in-Ok-None-clause-ok
returns-in-Ok-None-clause-ok c =
    rw c.in-Ok-None.ensures.same
    (on.all_read (held_by c.args.parts) c.args.intake.now c.args.out.now.items c.args.piece.now c.requests.intake c.requests.out.items c.requests.kept c.requests.invariant c.requires.hash
    (rw c.in-Ok-None.field-0-is at c.in-Ok-None.ensures.finds))

pub returns-in-Err-read-clause-err : goal.returns-in-Err-read-clause-err
returns-in-Err-read-clause-err c =
    rw c.in-Err-read.ensures.same
    (on.refused (held_by c.args.parts) c.args.intake.now c.args.out.now.items c.args.piece.now c.requests.intake c.requests.out.items c.requests.kept c.in-Err-read.refusal c.requests.invariant c.requires.hash
    (sym c.is_memory.ensures ∙ c.if-is_memory.false) c.in-Err-read.ensures.stops)
