use Rattle.fetch_replies.proofs.GreetingLines.{greeting_tells}
use Rattle.fetch_wire.proofs.laws.greetings_are_read_back.Goals as goal

pub returns : goal.returns
returns c = greeting_tells
