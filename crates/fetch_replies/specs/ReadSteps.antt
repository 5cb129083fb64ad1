-- What the code gives for a line, as a step.
use Rattle.std.specs.Prelude.{List, ℕ}
use Rattle.fetch_replies.specs.declared.replies.reply.ReplyContext.{ReplyContext}
use Rattle.fetch_replies.specs.declared.replies.reply.ParsedReply.{ParsedReply}
use Rattle.fetch_replies.specs.declared.replies.parser.Part.{Part}
use Rattle.fetch_replies.specs.declared.replies.parser.Part.TheVariants.{Beginning, Acknowledgments, Ready, Rest, ShallowInfo, Packfile}
use Rattle.fetch_replies.specs.declared.replies.parser.Part.TheVariants.{Bands}
use Rattle.fetch_replies.specs.declared.replies.parser.Parsed.{Parsed}
use Rattle.fetch_replies.specs.declared.replies.parser.Parsed.TheVariants.{On, Whole, Broken, Said, BrokenBehind, SaidBehind}
use Rattle.fetch_replies.specs.declared.replies.parser.ReplyParser.{ReplyParser}
use Rattle.fetch_replies.specs.declared.replies.saying.Saying.{Saying}
use Rattle.fetch_replies.specs.declared.replies.saying.Saying.TheVariants as saying
use Rattle.fetch_lines.specs.declared.requests.records.FetchReply.{FetchReply}
use Rattle.fetch_replies.specs.FetchReplies.{at_beginning, at_rest, at_packfile}
use Rattle.fetch_replies.specs.Stepping.{Step, goes, ends, breaks, says}

-- the step that a line made
abbrev pub step_in : Parsed → Step ReplyParser ParsedReply
step_in (On s) = goes s
step_in (Whole told) = ends told
step_in Broken = breaks
step_in (Said text) = says text
step_in (BrokenBehind progress) = breaks
step_in (SaidBehind text progress) = says text

-- by what a line says
abbrev pub by_saying : Step ReplyParser ParsedReply → Step ReplyParser ParsedReply → (List ℕ → Step ReplyParser ParsedReply) → Saying
    → Step ReplyParser ParsedReply
by_saying flush delim text (saying.Text line) = text line.now
by_saying flush delim text (saying.Error line) = says line.now
by_saying flush delim text saying.Flush = flush
by_saying flush delim text saying.Delim = delim
by_saying flush delim text saying.End = breaks

-- a text of a fetch reply, where no other line may stand
abbrev pub at_text : ReplyContext → Part → FetchReply → List ℕ → Step ReplyParser ParsedReply
at_text asked Beginning reply text = at_beginning asked reply text
at_text asked Rest reply text = at_rest asked reply text
at_text asked Packfile reply text = at_packfile asked reply text
at_text asked Acknowledgments reply text = breaks
at_text asked Ready reply text = breaks
at_text asked ShallowInfo reply text = breaks
at_text asked Bands reply text = breaks
