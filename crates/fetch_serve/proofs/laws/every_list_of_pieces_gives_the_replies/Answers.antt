use Rattle.fetch_serve.proofs.Acting.{pieces_give, refusal_gives}
use Rattle.fetch_serve.proofs.laws.every_list_of_pieces_gives_the_replies.Goals as goal

pub returns-clause-goes_on : goal.returns-clause-goes_on
returns-clause-goes_on c = pieces_give

pub returns-clause-refused : goal.returns-clause-refused
returns-clause-refused c = refusal_gives
