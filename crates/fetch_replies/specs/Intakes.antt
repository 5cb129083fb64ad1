-- What a peer sent and wasn't read yet, and the reply that is awaited of it.
use Rattle.std.specs.Prelude.{◌≡◌, ℕ, Bool, true, List, [], ◌++◌, Option, Some, None, Result, Ok, Err}
use Rattle.std.specs.Option.{option_map}
use Rattle.fetch_replies.specs.declared.replies.reply.ReplyKind.{ReplyKind}
use Rattle.fetch_replies.specs.declared.replies.reply.ReplyError.{ReplyError}
use Rattle.fetch_replies.specs.declared.replies.reply.ReplyError.TheVariants.{Short, Broken, TooLong, Said}
use Rattle.fetch_replies.specs.declared.replies.reply.ParsedReply.{ParsedReply}
use Rattle.fetch_replies.specs.declared.replies.reply_buffer.FoundReply.{FoundReply}
use Rattle.fetch_replies.specs.declared.replies.reply_buffer.FoundReply.TheVariants as found
use Rattle.fetch_replies.specs.declared.replies.parser.ReplyParser.{ReplyParser}
use Rattle.fetch_replies.specs.Awaited.{start_of, replies_behind, told_from}
use Rattle.fetch_lines.specs.Feeding.{room_at}
use Rattle.fetch_replies.specs.Progressing.{is_short_at}

-- How many bytes a reply may have, what was fed and not yet read, and, where a reply is awaited, what it told so far and
-- how many bytes its lines that were read have.
pub record ReplyBuffer : Type 0 where
  pub bound : ℕ
  pub place : ℕ
  pub pending : List ℕ
  pub reading : Option ReplyParser

-- what the awaited reply tells where these bytes come next
abbrev pub told_with : ReplyBuffer → List ℕ → Option (Result (ParsedReply × List ℕ) ReplyError)
told_with i more = option_map (λ reading. told_from i.bound reading i.place (i.pending ++ more)) i.reading

-- the lines that are there were read
abbrev pub is_read : ℕ → ℕ → List ℕ → Option ReplyParser → Bool
is_read bound place bytes None = true
is_read bound place bytes (Some reading) = is_short_at place (told_from bound reading place bytes)

-- nothing is awaited, and these bytes weren't read yet
abbrev pub resting : List ℕ → ReplyBuffer → ReplyBuffer
resting bytes i = record { bound = i.bound; place = 0; pending = bytes; reading = None }

-- an intake that begins to await a reply
abbrev pub awaiting : ReplyKind → ReplyBuffer → ReplyBuffer
awaiting await i = record i { place = 0; reading = Some (start_of await) }

-- an intake with more bytes
abbrev pub taking : List ℕ → ReplyBuffer → ReplyBuffer
taking piece i = record i { pending = i.pending ++ piece }

-- how many replies come behind the awaited one without another request
abbrev pub behind_awaited : Option ReplyParser → ℕ
behind_awaited None = 0
behind_awaited (Some reading) = replies_behind reading

-- how many bytes may still come of the awaited reply, and one more
abbrev pub room_in : ReplyBuffer → ℕ
room_in i = room_at i.bound i.place i.pending

-- The same but for how much of the awaited reply was read: whatever comes next, both are told the same, and as much may
-- come.
pub record IsAlike (a b : ReplyBuffer) : Type 0 where
  pub bound : a.bound ≡ b.bound
  pub told : (more : List ℕ) → told_with a more ≡ told_with b more
  pub room : room_in a ≡ room_in b
  pub behind : behind_awaited a.reading ≡ behind_awaited b.reading
  pub resting : a.reading ≡ None → a ≡ b

-- What is found of the awaited reply, by what is told of it: nothing, while it is short.
abbrev pub Finds : ReplyBuffer → Option (Result (ParsedReply × List ℕ) ReplyError) → ReplyBuffer → FoundReply → Type 0
Finds before None now what = (now ≡ before) × (what ≡ found.Nothing)
Finds before (Some (Ok x)) now what = (now ≡ resting x.1 before) × (what ≡ found.Whole x.0)
Finds before (Some (Err (Short place))) now what = IsAlike now before × (what ≡ found.Nothing)
Finds before (Some (Err (Broken place))) now what = (now ≡ resting [] before) × (what ≡ found.Refused (Broken place))
Finds before (Some (Err TooLong)) now what = (now ≡ resting [] before) × (what ≡ found.Refused TooLong)
Finds before (Some (Err (Said text))) now what = (now ≡ resting [] before) × (what ≡ found.Refused (Said text))

-- the awaited reply is read on
abbrev pub ReadsOn : ReplyBuffer → ReplyBuffer → FoundReply → Type 0
ReadsOn before now what = Finds before (told_with before []) now what
