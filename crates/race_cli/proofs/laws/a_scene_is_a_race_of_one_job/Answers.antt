use Rattle.race_cli.proofs.OneJob.{one_job, one_job_alone}
use Rattle.race_cli.proofs.laws.a_scene_is_a_race_of_one_job.Goals as goal

pub returns-clause-race : goal.returns-clause-race
returns-clause-race c = one_job

pub returns-clause-scene : goal.returns-clause-scene
returns-clause-scene c = one_job_alone
