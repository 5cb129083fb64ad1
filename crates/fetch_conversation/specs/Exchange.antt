-- One request for a pack, and its reply.
use Rattle.std.specs.Prelude.{ℕ, Bool, not, List, ◌++◌, Ok, Err}
use Rattle.fetch_base.specs.declared.id.ObjectId.{ObjectId}
use Rattle.fetch_specs.specs.declared.tags.Tags.{Tags}
use Rattle.fetch_wire.specs.SessionStates.{error_of}
use Rattle.fetch_replies.specs.declared.replies.reply.ReplyContext.{ReplyContext}
use Rattle.fetch_replies.specs.declared.replies.reply.ReplyKind.TheVariants as awaits
use Rattle.fetch_replies.specs.declared.replies.reply.ReplyError.{ReplyError}
use Rattle.fetch_replies.specs.declared.replies.reply.ParsedReply.{ParsedReply}
use Rattle.fetch_replies.specs.declared.replies.reply.ParsedReply.TheVariants as told
use Rattle.fetch_lines.specs.declared.error.WireError.TheVariants as wire
use Rattle.fetch_lines.specs.declared.requests.records.FetchReply.{FetchReply}
use Rattle.fetch_negotiate.specs.Lists.{firsts}
use Rattle.fetch_negotiate.specs.Requests.{Asked, fetch_request}
use Rattle.fetch_negotiate.specs.declared.algorithm.Shallow.{Shallow}
use Rattle.fetch_conversation.specs.Conversation.{Conversation, ends, asking}
use Rattle.fetch_conversation.specs.ListStage.{ListedValue}
use Rattle.fetch_conversation.specs.ReadSettings.{agent_of}
use Rattle.fetch_conversation.specs.declared.conversing.View.{View}
use Rattle.fetch_conversation.specs.declared.settings.Settings.{Settings}
use Rattle.fetch_conversation.specs.declared.fetch.Error.{Error}
use Rattle.fetch_conversation.specs.declared.fetch.Error.TheVariants as errors

-- What a pack is asked for by: what was listed, the repository's settings and what it shows, what is done with tags, how
-- the depth is to change, and whether nothing is to be changed.
pub record FetchArgumentsValue : Type 0 where
  pub listed : ListedValue
  pub settings : Settings
  pub view : View
  pub tags : Tags
  pub shallow : Shallow
  pub dry_run : Bool

-- what each request is made of, but for its haves
abbrev pub asked_by : FetchArgumentsValue → Asked
asked_by t = record {
  handshake = t.listed.handshake;
  agent = agent_of t.settings.config;
  tags = t.tags;
  shallow = t.shallow;
  border = t.view.border;
  wants = t.view.wants;
}

-- the haves of a request: the ids acknowledged so far, in the order in which each first was, and then the window
abbrev pub haves_told : List ObjectId → List ObjectId → List ObjectId
haves_told shared window = firsts shared ++ window

-- a line of the request is too long
abbrev pub too_long : ℕ → Error
too_long length = errors.Fetch (wire.LineTooLong length)

-- what is wrong with a reply
abbrev pub failed : ℕ → ReplyError → Error
failed bound fault = errors.Fetch (error_of bound fault)

-- a reply of another kind than the one that is awaited; none tells it
abbrev pub other_reply : Error
other_reply = errors.Fetch (wire.Malformed 0)

-- the reply to a fetch request
abbrev pub replied : ParsedReply → Conversation FetchReply Error
replied (told.Reply reply) = ends (Ok reply)
replied (told.Greeting h) = ends (Err other_reply)
replied (told.Advertisement h refs) = ends (Err other_reply)
replied (told.Listing refs) = ends (Err other_reply)

-- the reply that is awaited: in a dry run up to the pack
abbrev pub reply_to : FetchArgumentsValue → List ObjectId → Bool → ReplyContext
reply_to t haves done = record { kind = t.listed.handshake.object_hash; haves = haves; done = done; read_pack = not t.dry_run }

-- the request with these haves, and its reply
unfoldable pub exchange : ℕ → FetchArgumentsValue → List ObjectId → Bool → Conversation FetchReply Error
exchange bound t haves done = asking too_long (fetch_request (asked_by t) haves done) (awaits.Reply (reply_to t haves done)) (failed bound)
    (λ x. replied x)
