use Rattle.fetch_cli.proofs.Ended.{answer_of, known_of, written_of}
use Rattle.race_cli.specs.RaceRun.{IsRaceAnswer}
use Rattle.race_cli.proofs.Answering.{known}
use Rattle.race_cli.proofs.running.run_race.Goals as goal

pub write_answer-requires : goal.write_answer-requires
write_answer-requires g c = known_of (IsRaceAnswer _ _) _ _ (known _ _) c.answer.result c.answer.ensures.answer

pub returns-clause-written : goal.returns-clause-written
returns-clause-written g c = written_of _ _ _ _ _ _ (answer_of (IsRaceAnswer _ _) _ _ c.answer.result c.answer.ensures.answer) c.write_answer.ensures.written
