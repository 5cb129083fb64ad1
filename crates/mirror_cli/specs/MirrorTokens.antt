-- How it is told why a repository isn't mirrored: the variant's name, and what it keeps, each after a space. A repository that
-- isn't served and a listing that was refused are told as what is wrapped.
use Rattle.std.specs.Prelude.{ℕ, List, codes, decimal}
use Rattle.fetch_base.specs.Digits.{hex_of}
use Rattle.fetch_conversation.specs.declared.prepare.Error.TheVariants as prepare
use Rattle.fetch_remote.specs.declared.fetching.fetch_error.FetchError.TheVariants as fetch
use Rattle.fetch_asked.specs.declared.error.ServeError.{ServeError}
use Rattle.fetch_asked.specs.declared.error.ServeError.TheVariants as serve
use Rattle.fetch_journal.specs.declared.error.SharedError.{SharedError}
use Rattle.fetch_mirror.specs.declared.error.MirrorError.{MirrorError}
use Rattle.fetch_mirror.specs.declared.error.MirrorError.TheVariants as errors
use Rattle.fetch_cli.specs.Tokens.{keeping, token}
use Rattle.race_cli.specs.SharedTokens.{shared_token}

-- why a repository isn't served
unfoldable pub serve_token : ServeError → List ℕ
serve_token serve.ShallowServer = codes "ShallowServer"
serve_token (serve.WrongId id) = keeping (codes "WrongId") (hex_of id)
serve_token (serve.NotClosed link) = keeping (keeping (codes "NotClosed") (hex_of link.from)) (hex_of link.to)
serve_token (serve.NotServable name) = keeping (codes "NotServable") name
serve_token (serve.Malformed place) = keeping (codes "Malformed") (decimal place)
serve_token (serve.RequestTooLong bound) = keeping (codes "RequestTooLong") (decimal bound)
serve_token serve.NoMemory = codes "NoMemory"

-- the number of a worker, and why it was refused
unfoldable pub worker_token : ℕ → SharedError → List ℕ
worker_token index e = keeping (keeping (codes "Worker") (decimal index)) (shared_token e)

-- why a repository isn't mirrored
unfoldable pub mirror_token : MirrorError → List ℕ
mirror_token (errors.Workers count) = keeping (codes "Workers") (decimal count)
mirror_token (errors.Server e) = serve_token e
mirror_token (errors.List e) = token (fetch.Prepare (prepare.RefMap e))
mirror_token (errors.Worker index e) = worker_token index e
mirror_token errors.NoMemory = codes "NoMemory"
