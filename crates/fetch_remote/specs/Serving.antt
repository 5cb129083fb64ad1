-- What a server writes by which a fetch comes to its end.
use Rattle.std.specs.Prelude.{◌≡◌, true, List, [], Some, None}
use Rattle.std.specs.Option.{option_map}
use Rattle.fetch_pack.specs.Reading.{Contents}
use Rattle.fetch_store.specs.Graph.{graph_of}
use Rattle.fetch_lines.specs.Greetings.{handshake_of}
use Rattle.fetch_lines.specs.declared.greetings.handshake.Capability.{Capability}
use Rattle.fetch_lines.specs.declared.listings.reference.Ref.{Ref}
use Rattle.fetch_conversation.specs.ConverseStage.{with_pack}
use Rattle.fetch_conversation.specs.Conversing.{IsClear}
use Rattle.fetch_conversation.specs.ListStage.{ListedValue, map_of}
use Rattle.fetch_conversation.specs.Writing.{Answer, IsAskable, IsListing, IsPacking, negotiated_in}
use Rattle.fetch_conversation.specs.declared.conversing.Received.{Received}
use Rattle.fetch_remote.specs.Form.{Given}
use Rattle.fetch_remote.specs.Repositories.{State}
use Rattle.fetch_remote.specs.Stages.{Told, bound_of, inquiry_in, terms_in, wants_in}

-- what a greeting with these capabilities and these references tell
abbrev pub listed_by : Given → List Capability → List Ref → ListedValue
listed_by g capabilities refs = let h = handshake_of capabilities in record { ref_map = map_of (inquiry_in g) h refs; handshake = h }

-- Nothing is refused before the references are listed nor at them, and a server lists these.
pub record IsListed (g : Given) (capabilities : List Capability) (refs : List Ref) : Type 0 where
  pub askable : IsAskable (inquiry_in g) (handshake_of capabilities)
  pub listing : IsListing (bound_of g) (inquiry_in g) capabilities refs

-- A server lists these references, nothing is refused after them, and none of what they name is wanted.
pub record IsAllStored (g : Given) (s : State) (capabilities : List Capability) (refs : List Ref) : Type 0 where
  pub listed : IsListed g capabilities refs
  pub clear : IsClear (terms_in g s (listed_by g capabilities refs))
  pub unwanted : wants_in g s (listed_by g capabilities refs).ref_map ≡ []

-- A server lists these references, and by these answers it sends a pack of these contents.
pub record IsServed (g : Given) (s : State) (capabilities : List Capability) (refs : List Ref) (a : Answer) (answers : List Answer)
    (contents : Contents) : Type 0 where
  pub listed : IsListed g capabilities refs
  pub packed : IsPacking (bound_of g) (terms_in g s (listed_by g capabilities refs)) (graph_of s.objects) a answers contents

-- what is told where only references are
abbrev pub told_listed : Given → List Capability → List Ref → Told
told_listed g capabilities refs = record { listed = listed_by g capabilities refs; received = None }

-- what is told where a pack comes
abbrev pub told_served : Given → State → List Capability → List Ref → Answer → List Answer → Contents → Told
told_served g s capabilities refs a answers contents =
    let l = listed_by g capabilities refs in
    record { listed = l; received = Some (with_pack (negotiated_in (terms_in g s l) (graph_of s.objects) a answers) contents) }

-- ---- a dry run

-- the same fetch, as a dry run
abbrev pub as_dry_run : Given → Given
as_dry_run g = record g { options = record g.options { dry_run = true } }

-- what was received, but for the pack
abbrev pub but_its_pack : Received → Received
but_its_pack r = record r { objects = []; pack = None }

-- what is told where the pack isn't read
abbrev pub told_dry : Told → Told
told_dry told = record told { received = option_map but_its_pack told.received }
