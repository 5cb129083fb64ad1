use Rattle.std.proofs.Common.{sym, subst}
use Rattle.std.specs.Prelude.{List}
use Rattle.fetch_negotiate.specs.declared.algorithm.Round.{Round}
use Rattle.fetch_conversation.specs.Conversation.{sent_in}
use Rattle.fetch_conversation.specs.ConverseStage.{converse_stage}
use Rattle.fetch_conversation.specs.Requested.{TellsRounds}
use Rattle.fetch_conversation.proofs.Told.{stage_sends}
use Rattle.fetch_conversation.proofs.laws.requests_tell_rounds.Goals as goal

pub returns-clause-sent : goal.returns-clause-sent
returns-clause-sent c = λ bound g t stream. let s = stage_sends bound g t stream in (s.rounds, s.tells)

pub returns-clause-received : goal.returns-clause-received
returns-clause-received c = λ bound g t stream r rest is.
    let s = stage_sends bound g t stream in
    subst (λ (l : List Round). TellsRounds g t (sent_in bound (converse_stage bound g t) stream) l) (sym (s.answered r rest is)) s.tells
