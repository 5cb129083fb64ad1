use Rattle.std.proofs.Common.{◌≡◌, refl}
use Rattle.fetch_conversation.specs.Errors.{is_interrupted, is_interrupted_map, is_transport, is_transport_map}
use Rattle.fetch_conversation.specs.declared.prepare.Error.{Error}
use Rattle.fetch_conversation.specs.declared.prepare.Error.TheVariants as prepare
use Rattle.fetch_conversation.proofs.Blame.{interrupt_as}
use Rattle.fetch_conversation.proofs.Heeded.{same_question}
use Rattle.fetch_remote.specs.Steps.{listing_error}
use Rattle.fetch_remote.proofs.Blamed.{peer_as}
use Rattle.fetch_remote.proofs.Steps.{is_not_missing}
use Rattle.fetch_remote.proofs.fetching.connection.inquired.Goals as goal

pub listing_error-requires : goal.listing_error-requires
listing_error-requires g c = is_not_missing _ _ _ _ _ c.in-Err.e c.in-Err.ensures.held.held

same_yes : (e : Error) → is_interrupted e ≡ is_interrupted_map (listing_error e)
same_yes prepare.MissingRefSpecs = refl
same_yes (prepare.RefMap e) = refl
same_yes prepare.NoMemory = refl

same_fault : (e : Error) → is_transport e ≡ is_transport_map (listing_error e)
same_fault prepare.MissingRefSpecs = refl
same_fault (prepare.RefMap e) = refl
same_fault prepare.NoMemory = refl

pub returns-in-Err-clause-peer : goal.returns-in-Err-clause-peer
returns-in-Err-clause-peer g c = rw c.listing_error.ensures (peer_as _ _ _ _ (same_fault c.in-Err.e) c.in-Err.ensures.peer)

pub returns-in-Err-clause-interrupt : goal.returns-in-Err-clause-interrupt
returns-in-Err-clause-interrupt g c =
    rw c.listing_error.ensures (interrupt_as _ _ _ _ _ _ _ _ (same_question (Unit {0}) (Unit {0}) is_interrupted is_interrupted_map c.in-Err.e (listing_error c.in-Err.e) (same_yes c.in-Err.e)) c.in-Err.ensures.interrupt)
