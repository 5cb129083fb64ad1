-- The requests of a text, one after another.
use Rattle.std.specs.Prelude.{◌≡◌, ℕ, zero, suc, Bool, true, List, [], ◌∷◌, ◌++◌, length, Option, Some, None, Result, Ok, Err}
use Rattle.fetch_base.specs.declared.id.Kind.{Kind}
use Rattle.fetch_replies.specs.declared.replies.reply.ReplyError.{ReplyError}
use Rattle.fetch_replies.specs.declared.replies.reply.ReplyError.TheVariants.{Short, Broken, TooLong, Said}
use Rattle.fetch_replies.specs.Stepping.{read_by}
use Rattle.fetch_asked.specs.declared.asked.Asked.{Asked}
use Rattle.fetch_asked.specs.declared.error.ServeError.{ServeError}
use Rattle.fetch_asked.specs.declared.error.ServeError.TheVariants as errors
use Rattle.fetch_asked.specs.Requests.{asked_step, start_of}

-- how many bytes a request may have
abbrev pub request_bound : ℕ
request_bound = 268435456

-- what a text gives as one request, which begins with the text, and what follows it
abbrev pub request_at : Kind → Bool → List ℕ → Result (Asked × List ℕ) ReplyError
request_at hash begun text = read_by (asked_step hash) request_bound (start_of begun) 0 text

-- The whole requests of a text, whether the first line of the conversation was read by then, what stands behind them, and
-- why that can't become a request.
pub record AskedIn : Type 0 where
  pub whole : List Asked
  pub begun : Bool
  pub rest : List ℕ
  pub trouble : Option ServeError

-- nothing more is whole
abbrev pub ends_at : Bool → List ℕ → Option ServeError → AskedIn
ends_at begun text trouble = record { whole = []; begun = begun; rest = text; trouble = trouble }

-- with a request before the others
abbrev pub with_first : Asked → AskedIn → AskedIn
with_first asked others = record others { whole = asked ∷ others.whole }

-- with these requests before the others
abbrev pub joined : List Asked → AskedIn → AskedIn
joined whole others = record others { whole = whole ++ others.whole }

-- a request and those behind it, or nothing more
abbrev pub and_others : Bool → List ℕ → (List ℕ → AskedIn) → Result (Asked × List ℕ) ReplyError → AskedIn
and_others begun text others (Ok x) = with_first x.0 (others x.1)
and_others begun text others (Err (Short place)) = ends_at begun text None
and_others begun text others (Err (Broken place)) = ends_at begun text (Some (errors.Malformed place))
and_others begun text others (Err TooLong) = ends_at begun text (Some (errors.RequestTooLong request_bound))
and_others begun text others (Err (Said said)) = ends_at begun text None

-- at most that many requests
unfoldable pub asked_within : ℕ → Kind → Bool → List ℕ → AskedIn
asked_within zero hash begun text = ends_at begun text None
asked_within (suc n) hash begun text = and_others begun text (asked_within n hash true) (request_at hash begun text)

-- What a text asks of a server of this hash, behind the first line of the conversation or from there on. Each request is
-- read line by line, its places count from its own first byte, and the first one that can't be read ends all. Each has a
-- byte, so there are no more requests than bytes.
abbrev pub asked_in : Kind → Bool → List ℕ → AskedIn
asked_in hash begun text = asked_within (length text) hash begun text

-- The text is the beginning of a request, and no whole one.
abbrev pub IsBegun : Kind → Bool → List ℕ → Type 0
IsBegun hash begun text = (place : ℕ) × (request_at hash begun text ≡ Err (Short place))

-- What was found, with more bytes behind it: they are read on where nothing was in the way.
abbrev pub and_more : Kind → List ℕ → AskedIn → Option ServeError → AskedIn
and_more hash more found None = joined found.whole (asked_in hash found.begun (found.rest ++ more))
and_more hash more found (Some e) = record found { rest = found.rest ++ more }
