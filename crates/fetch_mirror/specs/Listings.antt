-- What a mirror asks its server for, and what the server tells of its references.
use Rattle.std.specs.Prelude.{◌≡◌, ℕ, ◌≤◌, ⊤, true, List, [], ◌∷◌, ◌++◌, None, codes, sum_by}
use Rattle.std.specs.Ordering.{is_lt}
use Rattle.fetch_base.specs.declared.id.Kind.{Kind}
use Rattle.fetch_refs.specs.Names.{name_cmp}
use Rattle.fetch_replies.specs.Awaited.{step_of, start_of}
use Rattle.fetch_lines.specs.Greetings.{handshake_of}
use Rattle.fetch_lines.specs.Lines.{line_len}
use Rattle.fetch_replies.specs.LinesTold.{Tells}
use Rattle.fetch_lines.specs.Requests.{first_line, listing_lines}
use Rattle.fetch_lines.specs.Written.{first_too_long}
use Rattle.fetch_lines.specs.declared.greetings.handshake.Handshake.{Handshake}
use Rattle.fetch_lines.specs.declared.lines.line.Line.{Line}
use Rattle.fetch_replies.specs.declared.replies.reply.ReplyKind.TheVariants as await
use Rattle.fetch_replies.specs.declared.replies.reply.ParsedReply.TheVariants as told
use Rattle.fetch_conversation.specs.ListStage.{LsRefsValue, prefixes_asked, unsendable}
use Rattle.fetch_asked.specs.declared.asked.Asked.TheVariants.{First, Listing}
use Rattle.fetch_serve.specs.Offered.{capabilities_of, offered_of}
use Rattle.fetch_serve.specs.Replies.{reply_lines}
use Rattle.fetch_asked.specs.Requests.{last_of}
use Rattle.fetch_serve.specs.Servable.{IsServable}
use Rattle.fetch_serve.specs.Served.{Data}
use Rattle.fetch_asked.specs.Texts.{request_bound}

-- what a server of this hash says first
abbrev pub greeting_of : Kind → Handshake
greeting_of hash = handshake_of (capabilities_of hash)

-- Each is greater than the one before it, behind these.
abbrev pub AreRising : List (List ℕ) → List (List ℕ) → Type 0
AreRising before [] = ⊤
AreRising before (prefix ∷ prefixes) = (is_lt (name_cmp (last_of before) prefix) ≡ true) × AreRising (before ++ prefix ∷ []) prefixes

-- An inquiry of a mirror: at its server's own place, without parameters, and with nothing that can't be sent.
pub record IsInquiry (q : LsRefsValue) : Type 0 where
  pub address : q.address ≡ codes "."
  pub plain : q.options.handshake_parameters ≡ []
  pub sendable : unsendable q ≡ None

-- The greeting and the listing of a server tell what it offers under these prefixes.
pub record AreTold (d : Data) (prefixes : List (List ℕ)) : Type 0 where
  pub greeting : Tells step_of (start_of await.Greeting) (reply_lines d First) (told.Greeting (greeting_of d.hash))
  pub listing : Tells step_of (start_of (await.Listing d.hash)) (reply_lines d (Listing true prefixes))
      (told.Listing (offered_of d true prefixes))

-- The requests of an inquiry: the first line, and the listing request.
abbrev pub asked_lines : Data → LsRefsValue → List Line
asked_lines d q = (first_line (codes ".") [] ∷ []) ++ (listing_lines (greeting_of d.hash) q.agent (prefixes_asked q) ++ [])

-- A server that can be served reads the requests of an inquiry: its prefixes ascend, each line of the listing request fits, and the
-- request isn't longer than a server reads.
pub record IsHeard (d : Data) (q : LsRefsValue) : Type 0 where
  pub servable : IsServable d
  pub told : AreTold d (prefixes_asked q)
  pub inquiry : IsInquiry q
  pub rising : AreRising [] (prefixes_asked q)
  pub fits : first_too_long (listing_lines (greeting_of d.hash) q.agent (prefixes_asked q)) ≡ None
  pub short : sum_by line_len (listing_lines (greeting_of d.hash) q.agent (prefixes_asked q)) ≤ request_bound
