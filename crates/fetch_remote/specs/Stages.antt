-- The two stages of a fetch and its conversation.
use Rattle.std.specs.Prelude.{ℕ, List, Option, Ok}
use Rattle.fetch_store.specs.Graph.{graph_of}
use Rattle.fetch_base.specs.declared.id.ObjectId.{ObjectId}
use Rattle.fetch_specs.specs.declared.tags.Tags.{Tags}
use Rattle.fetch_negotiate.specs.Tips.{tips_of}
use Rattle.fetch_negotiate.specs.Wants.{wants_of}
use Rattle.fetch_negotiate.specs.declared.algorithm.Shallow.{Shallow}
use Rattle.fetch_map.specs.declared.mapping.RefMap.{RefMap}
use Rattle.fetch_conversation.specs.Conversation.{Conversation, ends, and_then, told_as}
use Rattle.fetch_conversation.specs.ConverseStage.{converse_stage}
use Rattle.fetch_conversation.specs.Exchange.{FetchArgumentsValue}
use Rattle.fetch_conversation.specs.ListStage.{LsRefsValue, ListedValue, list_stage}
use Rattle.fetch_conversation.specs.ReadSettings.{agent_of}
use Rattle.fetch_conversation.specs.declared.conversing.Received.{Received}
use Rattle.fetch_conversation.specs.declared.conversing.View.{View}
use Rattle.fetch_conversation.specs.declared.fetch.Error.{Error as ReceiveError}
use Rattle.fetch_conversation.specs.declared.prepare.Error.{Error as PrepareError}
use Rattle.fetch_conversation.specs.declared.ref_map.Options.{Options}
use Rattle.fetch_conversation.specs.declared.settings.Settings.{Settings}
use Rattle.fetch_remote.specs.Errors.{preparing, receiving}
use Rattle.fetch_remote.specs.Form.{Given}
use Rattle.fetch_remote.specs.Remotes.{RemoteValue, address_of}
use Rattle.fetch_remote.specs.Repositories.{State}
use Rattle.fetch_remote.specs.declared.fetching.fetch_error.FetchError.{FetchError}

-- ---- what is asked

-- what a remote is asked for its references
abbrev pub inquiry_of : RemoteValue → Settings → Options → LsRefsValue
inquiry_of r settings options = record {
  address = address_of r;
  agent = agent_of settings.config;
  specs = r.fetch_specs;
  tags = r.tags;
  options = options;
}

-- what the server is asked for its references
abbrev pub inquiry_in : Given → LsRefsValue
inquiry_in g = inquiry_of g.remote g.setup.settings g.options.map

-- how many bytes a reply may have
abbrev pub bound_of : Given → ℕ
bound_of g = g.options.map.max_reply_bytes

-- what is wanted of the listed references
abbrev pub wants_in : Given → State → RefMap → List ObjectId
wants_in g s m = wants_of m g.remote.tags g.options.shallow (graph_of s.objects)

-- what a repository shows
abbrev pub view_with : State → RefMap → Tags → Shallow → View
view_with s m tags shallow = record {
  wants = wants_of m tags shallow (graph_of s.objects);
  border = s.border;
  tips = tips_of s.refs.names (graph_of s.objects);
}

-- what the pack is asked for by
abbrev pub terms_in : Given → State → ListedValue → FetchArgumentsValue
terms_in g s l = record {
  listed = l;
  settings = g.setup.settings;
  view = view_with s l.ref_map g.remote.tags g.options.shallow;
  tags = g.remote.tags;
  shallow = g.options.shallow;
  dry_run = g.options.dry_run;
}

-- ---- the stages

-- the first stage of a fetch
abbrev pub listing_stage : Given → Conversation ListedValue PrepareError
listing_stage g = list_stage (bound_of g) (inquiry_in g)

-- the second stage of a fetch
abbrev pub pack_stage : Given → State → ListedValue → Conversation (Option Received) ReceiveError
pack_stage g s l = converse_stage (bound_of g) (graph_of s.objects) (terms_in g s l)

-- what was listed, and what was received
pub record Told : Type 0 where
  pub listed : ListedValue
  pub received : Option Received

-- the second stage, with what was listed before
unfoldable pub receiving_stage : Given → State → ListedValue → Conversation Told FetchError
receiving_stage g s l = and_then (told_as receiving (pack_stage g s l)) (λ r. ends (Ok (record { listed = l; received = r })))

-- the references are listed, and then the pack is asked for
unfoldable pub conversation : Given → State → Conversation Told FetchError
conversation g s = and_then (told_as preparing (listing_stage g)) (receiving_stage g s)
