-- How a clone tells refusals of the calls that it makes; out of memory stays what it is.
use Rattle.std.specs.Prelude.{Bool, false}
use Rattle.fetch_lookup.specs.declared.name.Error.{Error as NameError}
use Rattle.fetch_lookup.specs.declared.name.Error.TheVariants as name
use Rattle.fetch_conversation.specs.Errors.{is_client, is_transport, is_transport_map}
use Rattle.fetch_conversation.specs.declared.fetch.Error.{Error as ReceiveError}
use Rattle.fetch_conversation.specs.declared.fetch.Error.TheVariants as fetch
use Rattle.fetch_conversation.specs.declared.prepare.Error.{Error as PrepareError}
use Rattle.fetch_conversation.specs.declared.prepare.Error.TheVariants as prepare
use Rattle.fetch_conversation.specs.declared.ref_map.Error.{Error as MapError}
use Rattle.fetch_conversation.specs.declared.ref_map.Error.TheVariants as ref_map
use Rattle.fetch_remote.specs.Connecting.{is_of_maker}
use Rattle.fetch_remote.specs.declared.connect.Error.{Error as ConnectError}
use Rattle.fetch_remote.specs.declared.connect.Error.TheVariants as connect
use Rattle.fetch_remote.specs.declared.repository.open_error.OpenError.{OpenError}
use Rattle.fetch_remote.specs.declared.repository.open_error.OpenError.TheVariants as opening
use Rattle.fetch_init.specs.declared.clone.Error.{Error as UnpreparedError}
use Rattle.fetch_init.specs.declared.clone.Error.TheVariants as unprepared
use Rattle.fetch_init.specs.declared.clone.fetch.Error.{Error}
use Rattle.fetch_init.specs.declared.clone.fetch.Error.TheVariants as errors
use Rattle.fetch_init.specs.declared.init.Error.{Error as InitError}
use Rattle.fetch_init.specs.declared.init.Error.TheVariants as initial

-- ---- of a clone that is prepared

-- a refusal of the new repository
abbrev pub init_refusal : InitError → UnpreparedError
init_refusal initial.NoMemory = unprepared.NoMemory
init_refusal e = unprepared.Init e

-- ---- of a clone that is fetched into

-- a refusal of the remote's name
abbrev pub naming : NameError → Error
naming name.NoMemory = errors.NoMemory
naming e = errors.RemoteName e

-- a refusal of the maker of peers
abbrev pub connecting : ConnectError → Error
connecting connect.NoMemory = errors.NoMemory
connecting e = errors.Connect e

-- a refusal of the first listing
abbrev pub listing : MapError → Error
listing ref_map.NoMemory = errors.NoMemory
listing e = errors.RefMap e

-- a refusal of the listing
abbrev pub preparing : PrepareError → Error
preparing prepare.NoMemory = errors.NoMemory
preparing e = errors.PrepareFetch e

-- a refusal of the configuration for another hash
abbrev pub reopening : OpenError → Error
reopening opening.NoMemory = errors.NoMemory
reopening e = errors.ReopenWithObjectHash e

-- a refusal from the fetch request on
abbrev pub receiving : ReceiveError → Error
receiving fetch.NoMemory = errors.NoMemory
receiving e = errors.Fetch e

-- whether the way to the server alone is the cause: the maker failed, or a peer
abbrev pub is_spurious : Error → Bool
is_spurious (errors.Connect e) = is_of_maker e
is_spurious (errors.RefMap e) = is_transport_map e
is_spurious (errors.PrepareFetch e) = is_transport e
is_spurious (errors.Fetch e) = is_client e
is_spurious e = false
