use Rattle.fetch_serve.proofs.Reached.{needed_test, reached_test}
use Rattle.fetch_serve.proofs.laws.what_is_needed_is_tested.Goals as goal

pub returns-clause-reached : goal.returns-clause-reached
returns-clause-reached c = reached_test

pub returns-clause-needed : goal.returns-clause-needed
returns-clause-needed c = needed_test
