-- References that are listed have names of their own.
use Rattle.std.specs.Prelude.{List, map, ⊤}
use Rattle.std.specs.List.{IsDistinct}
use Rattle.std.specs.Str.{bytes_eq}
use Rattle.fetch_replies.specs.declared.replies.reply.ParsedReply.{ParsedReply}
use Rattle.fetch_replies.specs.declared.replies.reply.ParsedReply.TheVariants.{Greeting, Advertisement, Listing, Reply}
use Rattle.fetch_lines.specs.declared.listings.reference.Ref.{Ref}
use Rattle.fetch_lines.specs.References.{name_in}

-- no name stands twice
abbrev pub AreNamedOnce : List Ref → Type 0
AreNamedOnce refs = IsDistinct bytes_eq (map name_in refs)

-- no name stands twice in what is told
abbrev pub NamesOnce : ParsedReply → Type 0
NamesOnce (Greeting handshake) = ⊤
NamesOnce (Advertisement handshake refs) = AreNamedOnce refs
NamesOnce (Listing refs) = AreNamedOnce refs
NamesOnce (Reply reply) = ⊤
