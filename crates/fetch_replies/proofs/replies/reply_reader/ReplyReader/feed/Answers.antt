use Rattle.std.proofs.Common.{◌∙◌, sym}
use Rattle.std.proofs.lemmas.Result.{err_from_is_err_and}
use Rattle.fetch_replies.proofs.RepliesFed.{fed_is, kept_is, told_none, open_none, lost_stays, not_lost}
use Rattle.fetch_replies.proofs.replies.reply_reader.ReplyReader.feed.Goals as goal

pub returns-then-is_lost-clause-lost : goal.returns-then-is_lost-clause-lost
returns-then-is_lost-clause-lost c = λ more. lost_stays c.args.self.now.found c.args.self.now.intake more (sym c.is_lost.ensures ∙ c.if-is_lost.true)

pub invariant_of-self : goal.invariant_of-self
invariant_of-self c = rw c.replace-before.ensures.after (open_none c.feed.new.self c.in_err-found.ensures.lost)

pub returns-in_err-found-clause-lost : goal.returns-in_err-found-clause-lost
returns-in_err-found-clause-lost c =
    let p = err_from_is_err_and c.from_residual.result c.from_residual.ensures.1 in
    rw (p.1, c.replace-before.ensures.after) (λ more. told_none c.feed.new.self more c.in_err-found.ensures.lost)

pub invariant_of-self-2 : goal.invariant_of-self-2
invariant_of-self-2 c =
    rw (c.first_found.ensures, c.replace-before.ensures.value) (kept_is c.self.inside.intake c.feed.new.self c.self.inside.found c.in_ok-found.found c.args.piece.now c.self.invariant c.in_ok-found.ensures.read)

pub returns-clause-fed : goal.returns-clause-fed
returns-clause-fed c = λ more.
    rw (← c.self.view_is, c.first_found.ensures, c.replace-before.ensures.value) (fed_is c.self.inside.intake c.feed.new.self c.self.inside.found c.in_ok-found.found c.args.piece.now more c.self.invariant c.in_ok-found.ensures.read)

pub returns-clause-again : goal.returns-clause-again
returns-clause-again c = λ none. absurd (not_lost _ (sym c.is_lost.ensures ∙ c.if-is_lost.false) none)
