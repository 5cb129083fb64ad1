-- Requests, read while their bytes come in pieces.
use Rattle.std.specs.Prelude.{◌≡◌, ℕ, ◌≤◌, Bool, true, false, List, [], ◌++◌, length, take, drop, Option, Some, None, Result, Ok, Err, ⊤}
use Rattle.fetch_base.specs.declared.id.Kind.{Kind}
use Rattle.fetch_replies.specs.declared.replies.reply.ReplyError.{ReplyError}
use Rattle.fetch_replies.specs.declared.replies.reply.ReplyError.TheVariants.{Short, Broken, TooLong}
use Rattle.fetch_lines.specs.declared.lines.section.LineError.{LineError}
use Rattle.fetch_lines.specs.declared.lines.section.LineError.TheVariants as lines
use Rattle.fetch_replies.specs.Stepping.{read_by}
use Rattle.fetch_asked.specs.declared.asked.Asked.{Asked}
use Rattle.fetch_asked.specs.declared.error.ServeError.{ServeError}
use Rattle.fetch_asked.specs.declared.error.ServeError.TheVariants as errors
use Rattle.fetch_asked.specs.declared.intake.Progress.{Progress}
use Rattle.fetch_asked.specs.declared.intake.Progress.TheVariants.{On, Whole}
use Rattle.fetch_asked.specs.declared.intake.Refusal.{Refusal}
use Rattle.fetch_asked.specs.declared.intake.Refusal.TheVariants as refusals
use Rattle.fetch_asked.specs.declared.reading.Reading.{Reading}
use Rattle.fetch_asked.specs.Requests.{asked_step, start_of}
use Rattle.fetch_asked.specs.Texts.{IsBegun, request_at, request_bound}

-- a refusal, as a caller learns it
abbrev pub error_of : Refusal → ServeError
error_of (refusals.Malformed place) = errors.Malformed place
error_of refusals.TooLong = errors.RequestTooLong request_bound
error_of refusals.NoMemory = errors.NoMemory

-- out of memory
abbrev pub is_memory : Refusal → Bool
is_memory (refusals.Malformed place) = false
is_memory refusals.TooLong = false
is_memory refusals.NoMemory = true

-- why a line can't be read, whatever comes next
abbrev pub refusal_of : LineError → Option Refusal
refusal_of (lines.Short place) = None
refusal_of (lines.Broken place) = Some (refusals.Malformed place)
refusal_of lines.TooLong = Some refusals.TooLong

-- what the bytes of a request tell from a place on, after what was read before it, where these come behind them
abbrev pub told_of : Kind → List ℕ → ℕ → Reading → List ℕ → Result (Asked × List ℕ) ReplyError
told_of hash bytes place reading more = read_by (asked_step hash) request_bound reading place (drop place bytes ++ more)

-- The lines that are there were read up to a later place: nothing is whole yet, and whatever comes next is told as before.
pub record IsShortBehind (hash : Kind) (bytes : List ℕ) (place : ℕ) (reading : Reading) (later : ℕ) (next : Reading) : Type 0 where
  pub within : later ≤ length bytes
  pub bounded : later ≤ request_bound
  pub told : (more : List ℕ) → told_of hash bytes later next more ≡ told_of hash bytes place reading more
  pub short : told_of hash bytes later next [] ≡ Err (Short later)

-- The request is whole, and ends at a later place.
pub record IsWholeBehind (hash : Kind) (bytes : List ℕ) (place : ℕ) (reading : Reading) (later : ℕ) (asked : Asked) : Type 0 where
  pub within : later ≤ length bytes
  pub told : (more : List ℕ) → told_of hash bytes place reading more ≡ Ok (asked, drop later bytes ++ more)

-- how far a request was read, and up to which place
abbrev pub GoesTo : Kind → List ℕ → ℕ → Reading → Progress × ℕ → Type 0
GoesTo hash bytes place reading (On next, later) = IsShortBehind hash bytes place reading later next
GoesTo hash bytes place reading (Whole asked, later) = IsWholeBehind hash bytes place reading later asked

-- why a reading is refused, whatever comes next
abbrev pub StopsAt : Result (Asked × List ℕ) ReplyError → Refusal → Type 0
StopsAt found (refusals.Malformed place) = found ≡ Err (Broken place)
StopsAt found refusals.TooLong = found ≡ Err TooLong
StopsAt found refusals.NoMemory = ⊤

-- ---- what was fed and isn't answered yet

-- the hash of the server, whether the first line of the conversation was answered, and the bytes behind the last request
pub record Incoming : Type 0 where
  pub hash : Kind
  pub begun : Bool
  pub pending : List ℕ

-- a reading has read the bytes up to this place
pub record IsReadUpTo (hash : Kind) (begun : Bool) (bytes : List ℕ) (place : ℕ) (reading : Reading) : Type 0 where
  pub within : place ≤ length bytes
  pub bounded : place ≤ request_bound
  pub told : (more : List ℕ) → told_of hash bytes place reading more ≡ request_at hash begun (bytes ++ more)

-- the same, where there is a reading
abbrev pub IsRead : Kind → Bool → List ℕ → ℕ → Option Reading → Type 0
IsRead hash begun bytes place None = ⊤
IsRead hash begun bytes place (Some reading) = IsReadUpTo hash begun bytes place reading

-- where a request is read on: behind what was read of it, or at its start where nothing is known
abbrev pub resumed : Bool → ℕ → Option Reading → ℕ × Reading
resumed begun place None = (0, start_of begun)
resumed begun place (Some reading) = (place, reading)

-- the request that was found, and how many bytes it has, or that no request is whole
abbrev pub Finds : Incoming → Option (Asked × ℕ) → Type 0
Finds i None = IsBegun i.hash i.begun i.pending
Finds i (Some (asked, count)) = (count ≤ length i.pending) × (request_at i.hash i.begun i.pending ≡ Ok (asked, drop count i.pending))

-- with more bytes behind
abbrev pub fed : Incoming → List ℕ → Incoming
fed i piece = record i { pending = i.pending ++ piece }

-- behind a request of that many bytes
abbrev pub passed : Incoming → ℕ → Incoming
passed i count = record i { begun = true; pending = drop count i.pending }

-- with no more than that many bytes
abbrev pub cut_to : Incoming → ℕ → Incoming
cut_to i len = record i { pending = take len i.pending }
