use Rattle.fetch_race.proofs.GivenPasses.{first_opening, first_rest}
use Rattle.fetch_race.proofs.passes.opened.Goals as goal

pub returns-clause-opening : goal.returns-clause-opening
returns-clause-opening c = first_opening c.args.repo c.new.result c.new.ensures.shared

pub returns-clause-all : goal.returns-clause-all
returns-clause-all c = first_rest c.args.repo c.new.result c.new.ensures.shared c.new.ensures.numbers c.new.ensures.all c.new.ensures.front
