-- How far a reply was read of what was fed.
use Rattle.std.specs.Prelude.{◌≡◌, ℕ, Bool, true, false, List, [], ◌++◌, Result, Ok, Err, ◌==◌}
use Rattle.fetch_replies.specs.declared.replies.reply.ReplyError.{ReplyError}
use Rattle.fetch_replies.specs.declared.replies.reply.ReplyError.TheVariants.{Short, Broken, TooLong, Said}
use Rattle.fetch_replies.specs.declared.replies.reply.ParsedReply.{ParsedReply}
use Rattle.fetch_replies.specs.declared.replies.progress.ReplyProgress.{ReplyProgress}
use Rattle.fetch_replies.specs.declared.replies.progress.ReplyProgress.TheVariants.{On, Whole, Refused}
use Rattle.fetch_replies.specs.declared.replies.parser.ReplyParser.{ReplyParser}
use Rattle.fetch_replies.specs.Awaited.{replies_behind, told_from}
use Rattle.fetch_lines.specs.Feeding.{Feeding, room_at}

-- what a reply tells where these bytes come next
abbrev pub told_of : Feeding → ReplyParser → List ℕ → Result (ParsedReply × List ℕ) ReplyError
told_of f reading more = told_from f.bound reading f.place (f.pending ++ more)

-- no more bytes make a reply of what there is
abbrev pub is_lasting : ReplyError → Bool
is_lasting (Short place) = false
is_lasting (Broken place) = true
is_lasting TooLong = true
is_lasting (Said text) = true

-- The lines that are there were read: nothing is whole yet, whatever comes next is told as before, and as much may come.
pub record IsShortBehind (before now : Feeding) (reading next : ReplyParser) : Type 0 where
  pub bound : now.bound ≡ before.bound
  pub room : room_at now.bound now.place now.pending ≡ room_at before.bound before.place before.pending
  pub behind : replies_behind next ≡ replies_behind reading
  pub told : (more : List ℕ) → told_of now next more ≡ told_of before reading more
  pub short : told_of now next [] ≡ Err (Short now.place)

-- The reply is whole, and the reader has what follows it.
pub record IsWholeBehind (before now : Feeding) (reading : ReplyParser) (t : ParsedReply) : Type 0 where
  pub bound : now.bound ≡ before.bound
  pub told : (more : List ℕ) → told_of before reading more ≡ Ok (t, now.pending ++ more)

-- The reply can't become whole, whatever comes next.
pub record IsRefusedBehind (before now : Feeding) (reading : ReplyParser) (fault : ReplyError) : Type 0 where
  pub bound : now.bound ≡ before.bound
  pub told : (more : List ℕ) → told_of before reading more ≡ Err fault
  pub lasting : is_lasting fault ≡ true

-- how far a reply was read, and what the reader has after it
abbrev pub Goes : Feeding → ReplyParser → Feeding → ReplyProgress → Type 0
Goes before reading now (On next) = IsShortBehind before now reading next
Goes before reading now (Whole t) = IsWholeBehind before now reading t
Goes before reading now (Refused fault progress) = IsRefusedBehind before now reading fault

-- whether a reply ends at this place within a line
abbrev pub is_short_at : ℕ → Result (ParsedReply × List ℕ) ReplyError → Bool
is_short_at place (Ok x) = false
is_short_at place (Err (Short p)) = p == place
is_short_at place (Err (Broken p)) = false
is_short_at place (Err TooLong) = false
is_short_at place (Err (Said text)) = false
