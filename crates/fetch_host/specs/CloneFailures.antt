-- What kind of failure the errors of a clone tell of.
use Rattle.fetch_lookup.specs.declared.name.Error.{Error as NameError}
use Rattle.fetch_lookup.specs.declared.name.Error.TheVariants as name
use Rattle.fetch_lookup.specs.declared.save.AsError.{AsError}
use Rattle.fetch_lookup.specs.declared.save.AsError.TheVariants as save_as
use Rattle.fetch_lookup.specs.declared.save.Error.{Error as SaveError}
use Rattle.fetch_lookup.specs.declared.save.Error.TheVariants as save
use Rattle.fetch_remote.specs.declared.connect.Error.{Error as ConnectError}
use Rattle.fetch_remote.specs.declared.connect.Error.TheVariants as connect
use Rattle.fetch_init.specs.declared.clone.Error.{Error as PreparedError}
use Rattle.fetch_init.specs.declared.clone.Error.TheVariants as prepared
use Rattle.fetch_init.specs.declared.clone.fetch.Error.{Error as CloneError}
use Rattle.fetch_init.specs.declared.clone.fetch.Error.TheVariants as errors
use Rattle.fetch_create.specs.declared.create.Error.{Error as CreateError}
use Rattle.fetch_create.specs.declared.create.Error.TheVariants as create
use Rattle.fetch_init.specs.declared.init.Error.{Error as InitError}
use Rattle.fetch_init.specs.declared.init.Error.TheVariants as init
use Rattle.fetch_host.specs.FetchFailures.{listing_kind, preparing_kind, receiving_kind}
use Rattle.fetch_host.specs.SharedFailures.{opening_kind}
use Rattle.fetch_host.specs.declared.failure.FailureKind.{FailureKind}
use Rattle.fetch_host.specs.declared.failure.FailureKind.TheVariants.{Peer, Local, Server, Caller, Memory}

-- of the way to a peer
abbrev pub connecting_kind : ConnectError → FailureKind
connecting_kind (connect.MissingUrl direction) = Caller
connecting_kind connect.Connect = Peer
connecting_kind connect.NoMemory = Memory

-- of a remote's name
abbrev pub naming_kind : NameError → FailureKind
naming_kind (name.Invalid cause text) = Caller
naming_kind name.NoMemory = Memory

-- of a remote that is saved
abbrev pub saving_kind : SaveError → FailureKind
saving_kind (save.NameMissing url) = Caller
saving_kind (save.Value place) = Caller
saving_kind save.NoMemory = Memory

-- the same under another name
abbrev pub saving_as_kind : AsError → FailureKind
saving_as_kind (save_as.Save e) = saving_kind e
saving_as_kind (save_as.Name e) = naming_kind e
saving_as_kind save_as.NoMemory = Memory

-- of files that are created: the place is the caller's
abbrev pub creating_kind : CreateError → FailureKind
creating_kind (create.IoOpen path) = Local
creating_kind (create.IoWrite path) = Local
creating_kind (create.CreateDirectory path) = Local
creating_kind (create.DirectoryNotEmpty path) = Caller
creating_kind (create.DirectoryExists path) = Caller
creating_kind create.NoMemory = Memory

-- of a new repository
abbrev pub initial_kind : InitError → FailureKind
initial_kind (init.Init e) = creating_kind e
initial_kind (init.Open e) = opening_kind e
initial_kind (init.InvalidBranchName text) = Caller
initial_kind init.NoMemory = Memory

-- of a clone that is prepared
abbrev pub prepared_kind : PreparedError → FailureKind
prepared_kind prepared.Url = Caller
prepared_kind (prepared.Init e) = initial_kind e
prepared_kind prepared.NoMemory = Memory

-- of a clone that is fetched into: names that the server has, and what it didn't give, are the server's
abbrev pub clone_kind : CloneError → FailureKind
clone_kind errors.Consumed = Caller
clone_kind (errors.ParseConfig text) = Caller
clone_kind (errors.RemoteName e) = naming_kind e
clone_kind (errors.Connect e) = connecting_kind e
clone_kind (errors.RemoteConnection text) = Caller
clone_kind (errors.RefMap e) = listing_kind e
clone_kind (errors.RefNameMissing wanted) = Caller
clone_kind (errors.RefNameAmbiguous wanted candidates) = Caller
clone_kind (errors.InvalidHeadRef text) = Server
clone_kind (errors.ReferenceName text) = Server
clone_kind (errors.RemoteConfiguration text) = Caller
clone_kind (errors.SaveConfig e) = saving_as_kind e
clone_kind (errors.LoadConfig e) = opening_kind e
clone_kind errors.SaveConfigIo = Local
clone_kind (errors.PrepareFetch e) = preparing_kind e
clone_kind (errors.RevisionMissing wanted) = Caller
clone_kind (errors.ReopenWithObjectHash e) = opening_kind e
clone_kind (errors.Fetch e) = receiving_kind e
clone_kind (errors.FindRevision id) = Server
clone_kind (errors.PeelRevision id) = Caller
clone_kind errors.NoMemory = Memory
