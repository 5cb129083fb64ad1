-- What the scene of a race sets up.
use Rattle.std.specs.Prelude.{[], ◌∷◌}
use Rattle.fetch_remote.specs.Remotes.{nameless}
use Rattle.fetch_remote.specs.RepositoryValues.{RepositoryValue}
use Rattle.fetch_cli.specs.Report.{fetch_options, setup_in, found_in}
use Rattle.race_cli.specs.declared.scene.RaceScene.{RaceScene}
use Rattle.race_cli.specs.declared.scene.jobs.RaceJob.{RaceJob}
use Rattle.race_cli.specs.declared.race_case.JobCase.{JobCase}

-- a job's remote with its one address, its options, and what its peer says
abbrev pub job_in : RaceJob → JobCase
job_in job = record {
  remote = nameless (job.remote.address ∷ []) job.remote.specs job.remote.tags;
  options = fetch_options job.remote.options job.remote.extra;
  pieces = job.pieces;
}

-- the repository into which the jobs fetch
abbrev pub opening_of : RaceScene → RepositoryValue
opening_of scene = record {
  state = found_in scene.local.head.hash scene.objects scene.local.border scene.local.refs;
  setup = setup_in scene.local.head scene.local.config;
}
