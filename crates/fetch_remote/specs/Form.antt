-- What a fetch is given.
use Rattle.fetch_remote.specs.declared.fetching.options.FetchOptions.{FetchOptions}
use Rattle.fetch_remote.specs.Remotes.{RemoteValue}
use Rattle.fetch_remote.specs.Repositories.{Setup}

-- the remote, how it is fetched from, and what is read of the repository
pub record Given : Type 0 where
  pub remote : RemoteValue
  pub options : FetchOptions
  pub setup : Setup
