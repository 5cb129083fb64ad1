-- A mirror of a repository, whose peers are servers of it.
use Rattle.std.specs.Prelude.{◌≡◌, ◌≢◌, ℕ, true, List, [], replicate}
use Rattle.fetch_store.specs.Borders.{IdSet}
use Rattle.fetch_refs.specs.declared.log.Signature.{Signature}
use Rattle.fetch_remote.specs.RepositoryValues.{RepositoryValue}
use Rattle.fetch_serve.specs.Peers.{ServedPeer, faults_of, told_by}
use Rattle.fetch_serve.specs.Servable.{IsServable, IsTrouble}
use Rattle.fetch_serve.specs.Served.{Data}
use Rattle.fetch_asked.specs.declared.error.ServeError.TheVariants as serve
use Rattle.fetch_journal.specs.declared.entry.Entry.{Entry}
use Rattle.fetch_mirror.specs.declared.error.MirrorError.{MirrorError}
use Rattle.fetch_mirror.specs.declared.error.MirrorError.TheVariants as errors
use Rattle.fetch_mirror.specs.Born.{born_names}
use Rattle.fetch_mirror.specs.Mirroring.{Given, HasMirrored, IsFew, IsUnmirrored}

-- a server as a peer, to which nothing was sent
abbrev pub fresh : Data → ServedPeer
fresh d = record { served = d; heard = []; left = 0; receives = []; failed = 0 }

-- what is given where the lister and all peers are such servers, with what becomes of them
abbrev pub given_by : Data → Signature → ℕ → ℕ → ServedPeer → List ServedPeer → Given ServedPeer
given_by d committer workers bound lister peers = record {
  asking = record { answers = true; told = told_by; faults = faults_of; lister = fresh d; lister_now = lister; bound = bound };
  peers = replicate workers (fresh d);
  peers_now = peers;
  kind = d.hash;
  committer = committer;
  workers = workers;
}

-- A repository that can be served is mirrored from servers of it: the names that are fetched are those born there.
pub record IsCopied (d : Data) (committer : Signature) (workers bound : ℕ) (repo : RepositoryValue) (journal : List Entry) : Type 0 where
  pub servable : IsServable d
  pub few : IsFew workers
  pub lister : ServedPeer
  pub peers : List ServedPeer
  pub mirrored : HasMirrored (given_by d committer workers bound lister peers) repo journal
  pub born : mirrored.names ≡ born_names d

-- A refusal of the mirror, by what became of the servers.
pub record IsUncopiedBy (d : Data) (committer : Signature) (workers bound : ℕ) (e : MirrorError) : Type 0 where
  pub servable : IsServable d
  pub lister : ServedPeer
  pub peers : List ServedPeer
  pub refused : IsUnmirrored (given_by d committer workers bound lister peers) e

-- Why a repository isn't mirrored: the count of workers first, then why it isn't served, and then why its mirror was refused. Out
-- of memory says nothing of it.
abbrev pub IsUncopied : Data → IdSet → Signature → ℕ → ℕ → MirrorError → Type 0
IsUncopied d border committer workers bound (errors.Workers count) = (IsFew workers → ⊥) × (count ≡ workers)
IsUncopied d border committer workers bound (errors.Server e) = IsFew workers × IsTrouble d border e × (e ≢ serve.NoMemory)
IsUncopied d border committer workers bound (errors.List e) = IsUncopiedBy d committer workers bound (errors.List e)
IsUncopied d border committer workers bound (errors.Worker index e) = IsUncopiedBy d committer workers bound (errors.Worker index e)
IsUncopied d border committer workers bound errors.NoMemory = IsFew workers
