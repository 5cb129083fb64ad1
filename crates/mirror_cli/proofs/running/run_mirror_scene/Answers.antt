use Rattle.fetch_cli.proofs.Ended.{answer_of, known_of, written_of}
use Rattle.mirror_cli.specs.MirrorRun.{IsMirrorAnswer}
use Rattle.mirror_cli.proofs.Answering.{known}
use Rattle.mirror_cli.proofs.running.run_mirror_scene.Goals as goal

pub write_answer-requires : goal.write_answer-requires
write_answer-requires g c = known_of (IsMirrorAnswer _ _) _ _ (known _ _) c.answer.result c.answer.ensures.answer

pub returns-clause-written : goal.returns-clause-written
returns-clause-written g c = written_of _ _ _ _ _ _ (answer_of (IsMirrorAnswer _ _) _ _ c.answer.result c.answer.ensures.answer) c.write_answer.ensures.written
