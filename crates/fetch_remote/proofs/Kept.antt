-- What a fetch keeps.
use Rattle.std.proofs.Common.{◌≡◌, [], Option, Some, None, Ok, refl}
use Rattle.fetch_store.specs.Closed.{IsClosed, Grows}
use Rattle.fetch_store.specs.Honest.{IsHonest}
use Rattle.fetch_store.specs.Missing.{missing}
use Rattle.fetch_store.specs.Stores.{ObjectMap, collision}
use Rattle.fetch_store.proofs.Growth.{grows_self, grows-add_all}
use Rattle.fetch_store.proofs.Honesty.{honest_at_once, wants_stored}
use Rattle.fetch_store.proofs.Whole.{connects_none}
use Rattle.fetch_negotiate.specs.Rounds.{haves_in}
use Rattle.fetch_map.specs.declared.mapping.RefMap.{RefMap}
use Rattle.fetch_conversation.specs.declared.conversing.Received.{Received}
use Rattle.fetch_remote.specs.Fetched.{objects_with, request_in}
use Rattle.fetch_remote.specs.Form.{Given}
use Rattle.fetch_remote.specs.Repositories.{State, held}
use Rattle.fetch_remote.specs.Applying.{connected, pack_of}
use Rattle.fetch_remote.specs.Stages.{wants_in}

pub grows_with : (objects : ObjectMap) (r : Option Received) → Grows objects (objects_with objects r)
grows_with objects None = grows_self objects
grows_with objects (Some r) = grows-add_all objects r.objects

pub honest_connects : (g : Given) (s : State) (m : RefMap) (r : Received) → IsClosed (held s) → collision s.objects r.objects ≡ None → IsHonest (request_in g s m (haves_in r.negotiate.rounds)) (pack_of r) → connected s (wants_in g s m) (pack_of r) ≡ Ok tt
honest_connects g s m r closed none honest =
    let q = request_in g s m (haves_in r.negotiate.rounds) in
    let is : missing (held s) (wants_in g s m) (pack_of r) ≡ [] =
    connects_none (held s) (wants_in g s m) (pack_of r) (wants_stored q (held s) (pack_of r) (grows_self s.objects) honest) (honest_at_once q (pack_of r) closed none honest) in
    rw is refl
