-- The conversation of a worker of a mirror with its server.
use Rattle.std.specs.Prelude.{◌≡◌, ◌≤◌, true, None, Ok, sum_by}
use Rattle.fetch_lines.specs.Lines.{line_len}
use Rattle.fetch_conversation.specs.ListStage.{ListedValue, mapped, no_specs, prefixes_asked}
use Rattle.fetch_remote.specs.Form.{Given}
use Rattle.fetch_remote.specs.Stages.{bound_of, inquiry_in}
use Rattle.fetch_asked.specs.declared.asked.Asked.TheVariants.{First, Listing}
use Rattle.fetch_serve.specs.Offered.{offered_of}
use Rattle.fetch_serve.specs.Replies.{reply_lines}
use Rattle.fetch_serve.specs.Served.{Data}
use Rattle.fetch_mirror.specs.Listings.{IsHeard, greeting_of}

-- The server reads the requests of the listing, neither of its replies passes the bound, and what it offers is mapped so.
pub record IsListed (d : Data) (g : Given) (l : ListedValue) : Type 0 where
  pub named : no_specs (inquiry_in g) ≡ None
  pub heard : IsHeard d (inquiry_in g)
  pub greeting : sum_by line_len (reply_lines d First) ≤ bound_of g
  pub listing : sum_by line_len (reply_lines d (Listing true (prefixes_asked (inquiry_in g)))) ≤ bound_of g
  pub maps : mapped (inquiry_in g) (greeting_of d.hash) (offered_of d true (prefixes_asked (inquiry_in g))) ≡ Ok l
