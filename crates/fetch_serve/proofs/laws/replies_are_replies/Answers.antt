use Rattle.fetch_serve.proofs.Answered.{answered, refused, reply_fits}
use Rattle.fetch_serve.proofs.laws.replies_are_replies.Goals as goal

pub returns-clause-told : goal.returns-clause-told
returns-clause-told c = answered

pub returns-clause-error : goal.returns-clause-error
returns-clause-error c = refused

pub returns-clause-fit : goal.returns-clause-fit
returns-clause-fit c = reply_fits
