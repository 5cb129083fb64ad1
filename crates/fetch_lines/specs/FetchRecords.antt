-- What a reply to a fetch request has told.
use Rattle.std.specs.Prelude.{true, [], None}
use Rattle.fetch_lines.specs.declared.requests.records.FetchReply.{FetchReply}

-- a reply that has told nothing yet
abbrev pub no_reply : FetchReply
no_reply = record { acknowledged = []; shallow = []; unshallow = []; pack = None; progress = []; last = true }
