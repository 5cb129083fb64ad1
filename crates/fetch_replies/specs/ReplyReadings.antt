-- A reader of one reply, and what is told of all that it was fed.
use Rattle.std.specs.Prelude.{ℕ, Bool, true, false, not, ◌&&◌, is_some, List, [], ◌++◌, Option, Some, None, Result, Ok, Err}
use Rattle.fetch_replies.specs.declared.replies.reply.ReplyError.{ReplyError}
use Rattle.fetch_replies.specs.declared.replies.reply.ReplyError.TheVariants.{Short, Broken, TooLong, Said}
use Rattle.fetch_replies.specs.declared.replies.reply.ParsedReply.{ParsedReply}
use Rattle.fetch_replies.specs.declared.replies.reply_buffer.FoundReply.{FoundReply}
use Rattle.fetch_replies.specs.declared.replies.reply_buffer.FoundReply.TheVariants as found
use Rattle.fetch_replies.specs.Intakes.{ReplyBuffer, told_with}
use Rattle.fetch_replies.specs.Progressing.{is_lasting}

-- What came and wasn't read yet, and what was found of the reply. Nothing is known where memory ran out: then nothing was
-- found, and none is awaited.
pub record ReplyReading : Type 0 where
  pub intake : ReplyBuffer
  pub found : FoundReply

-- what is told where these bytes come next, by what was found
abbrev pub tells_by : FoundReply → ReplyBuffer → List ℕ → Option (Result (ParsedReply × List ℕ) ReplyError)
tells_by found.Nothing i more = told_with i more
tells_by (found.Whole t) i more = Some (Ok (t, i.pending ++ more))
tells_by (found.Refused fault) i more = Some (Err fault)

-- What all that was fed tells with these bytes after it.
abbrev pub tells : ReplyReading → List ℕ → Option (Result (ParsedReply × List ℕ) ReplyError)
tells r more = tells_by r.found r.intake more

-- whether nothing is known of the reply
abbrev pub is_lost : ReplyReading → Bool
is_lost r = not (is_some (tells r []))

-- the reply goes on, or none is awaited
abbrev pub is_open : Option (Result (ParsedReply × List ℕ) ReplyError) → Bool
is_open None = true
is_open (Some (Ok x)) = false
is_open (Some (Err fault)) = not (is_lasting fault)

-- none is awaited after one was found, and a fault lasts
abbrev pub is_kept : ReplyBuffer → FoundReply → Bool
is_kept i found.Nothing = is_open (told_with i [])
is_kept i (found.Whole t) = not (is_some i.reading)
is_kept i (found.Refused fault) = not (is_some i.reading) && is_lasting fault

-- what was found first
abbrev pub first_found : FoundReply → FoundReply → FoundReply
first_found found.Nothing now = now
first_found (found.Whole t) now = found.Whole t
first_found (found.Refused fault) now = found.Refused fault

-- ---- what is told so far

-- what a whole reply told
abbrev pub whole_in : Option (Result (ParsedReply × List ℕ) ReplyError) → Option ParsedReply
whole_in None = None
whole_in (Some (Ok x)) = Some x.0
whole_in (Some (Err fault)) = None

-- why the reply can't become whole
abbrev pub refusal_in : Option (Result (ParsedReply × List ℕ) ReplyError) → Option ReplyError
refusal_in None = None
refusal_in (Some (Ok x)) = None
refusal_in (Some (Err (Short place))) = None
refusal_in (Some (Err (Broken place))) = Some (Broken place)
refusal_in (Some (Err TooLong)) = Some TooLong
refusal_in (Some (Err (Said text))) = Some (Said text)
